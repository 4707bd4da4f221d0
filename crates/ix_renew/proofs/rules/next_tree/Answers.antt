use Rattle.std.proofs.Common.{[], ◌∷◌, ◌++◌, Result, sym, ap, ◌∙◌, subst}
use Rattle.std.specs.Prelude.{Err}
use Rattle.ix_values.specs.PlainAction.{Word}
use Rattle.ix_tree.specs.Plain.{Plain}
use Rattle.ix_can.specs.TreeOf.{tree_of}
use Rattle.ix_step.specs.inside.Builds.{Builds}
use Rattle.ix_step.specs.declared.fault.BuildFault.{BuildFault}
use Rattle.ix_renew.specs.inside.Walking.{rules_form}
use Rattle.ix_renew.proofs.Steps.{steppable_proper, dead_next, live_extended, live_steppable, over_next}
use Rattle.ix_renew.proofs.rules.next_tree.Goals as goal

pub step-requires-clause-proper : goal.step-requires-clause-proper
step-requires-clause-proper c = steppable_proper c.args.rules c.args.tree.now c.requires.reached

-- the moved tree is dead
pub returns-in-Ok : goal.returns-in-Ok
returns-in-Ok c =
    dead_next c.args.rules c.requires.ready c.args.tree.now c.args.action.now c.in-Ok.next c.in-Ok.ensures.by_word
    (sym c.is_dead.ensures ∙ c.if-is_dead.true)

-- it is live
pub returns-in-Ok-2 : goal.returns-in-Ok-2
returns-in-Ok-2 c =
    let live = sym c.is_dead.ensures ∙ c.if-is_dead.false in (
      live_steppable c.args.rules c.requires.ready c.args.tree.now c.args.action.now c.in-Ok.next c.in-Ok.ensures.by_word c.requires.reached,
      live_extended c.args.rules c.requires.ready c.args.tree.now c.args.action.now c.in-Ok.next c.in-Ok.ensures.by_word live,
    )

-- it is above the limit
pub returns-in-Err-Over : goal.returns-in-Err-Over
returns-in-Err-Over c =
    let r = c.args.rules in
    let w : Word → Word = λ word. word ++ c.args.action.now ∷ [] in
    let over = c.in-Err-Over.is ∙ ap (λ (f : BuildFault). Err f) c.in-Err-Over.field-0-is in
    over_next r c.requires.ready c.args.tree.now c.args.action.now c.in-Err-Over.field-0-0 (λ word is.
    subst (λ (s : Result Plain BuildFault). Builds r.limit (tree_of (rules_form r) r.env.now (w word)) s) over (c.step.ensures.by_word word is))
