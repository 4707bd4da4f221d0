use Rattle.std.proofs.Common.{◌≡◌, length, Ok, rules, refl, subst, arith}
use Rattle.ix_expr.specs.inside.FormOf.{form_of}
use Rattle.ix_engine.specs.inside.Engine.{EngineState, IsTreeAfter}
use Rattle.ix_engine.proofs.Trees.{tree_proper}
use Rattle.ix_engine.proofs.Histories.{of_history}
use Rattle.ix_engine.proofs.Permitting.{follows}
use Rattle.ix_engine.proofs.engine.Engine.prepare.Goals as goal

pub extend-requires-clause-proper : goal.extend-requires-clause-proper
extend-requires-clause-proper c = search (rules, tree_proper)

pub returns-in-Ok-clause-follows : goal.returns-in-Ok-clause-follows
returns-in-Ok-clause-follows c =
    let i = c.self.inside in
    let a = c.args.action.now in
    let count : c.len-actions.result ≡ length i.history.items = omega (arith, i.history.ok.0, c.len-actions.ensures) in
    let formed = c.expr-expr.ensures.well_formed in
    subst (λ (s : EngineState). IsTreeAfter s a c.in-Ok.tree) c.self.view_is
    (follows _ a c.in-Ok.tree (record { faultless = formed.faultless; numbers = formed.numbers })
    (of_history i.expression (form_of c.expr-expr.result.now) i.limit i.limit i.history.items c.len-actions.result a i.tree (Ok c.in-Ok.tree)
    c.expr-expr.ensures.value refl count c.self.invariant.0 c.in-Ok.ensures))
