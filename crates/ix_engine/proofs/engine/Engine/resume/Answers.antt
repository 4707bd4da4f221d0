use Rattle.std.proofs.Common.{◌≡◌, ◌+◌, ◌<◌, ◌≤◌, [], length, take, get_or, Ok, Err, rules, refl, sym, ◌∙◌, ap, subst, arith}
use Rattle.std.proofs.Math.Seq.{take-length}
use Rattle.std.proofs.lemmas.List.{length-take-le}
use Rattle.ix_expr.specs.inside.FormOf.{form_of}
use Rattle.ix_expr.specs.Form.{Form}
use Rattle.ix_values.specs.PlainAction.{Word}
use Rattle.ix_tree.specs.Size.{size_of}
use Rattle.ix_can.specs.TreeOf.{tree_of}
use Rattle.ix_engine.specs.inside.Engine.{EngineState}
use Rattle.ix_engine.specs.Histories.{none}
use Rattle.ix_engine.proofs.Trees.{tree_proper}
use Rattle.ix_engine.proofs.Histories.{few, bounded, of_history, one_more, allowed_more, stops}
use Rattle.ix_engine.proofs.engine.Engine.resume.Goals as goal

-- no action was taken yet
pub loop-index-init : goal.loop-index-init
loop-index-init c =
    let form = ap (λ (s : EngineState). s.form) c.self.view_is in
    let history = ap (λ (s : EngineState). s.history) c.self.view_is ∙ c.requires.new in (
      c.self.invariant.0 ∙ ap (λ (x : Form). tree_of x [] c.self.inside.history.items) form ∙ ap (tree_of c.args.self.form []) history,
      none,
    )

pub extend-requires-clause-proper : goal.extend-requires-clause-proper
extend-requires-clause-proper c = search (rules, tree_proper)

pub extend-requires-clause-size : goal.extend-requires-clause-size
extend-requires-clause-size c =
    let i = c.self.inside in
    let form = ap (λ (s : EngineState). s.form) c.self.view_is in
    let history = ap (λ (s : EngineState). s.history) c.self.view_is ∙ c.requires.new in
    let limit = ap (λ (s : EngineState). s.limit) c.self.view_is in
    let first = c.self.invariant.0 ∙ ap (λ (x : Form). tree_of x [] i.history.items) form ∙ ap (tree_of c.args.self.form []) history in
    let here = bounded c.args.self.form c.args.self.limit _ i.tree c.loop-index.tree first
    (subst (λ l. size_of i.tree ≤ l) limit c.self.invariant.2) c.loop-index.invariant.0 c.loop-index.invariant.1 in
    let most = subst (λ l. l ≤ 1000000) limit c.self.invariant.3 in
    omega (arith, here, most)

pub extend-requires-clause-actions : goal.extend-requires-clause-actions
extend-requires-clause-actions c =
    let within : c.loop-index.index < length c.args.actions.items = omega arith in
    let count = length-take-le c.loop-index.index c.args.actions.items (omega (arith, within)) in
    let most = few c.args.self.form c.args.self.limit _ c.loop-index.invariant.1 in
    omega (arith, count, most)

-- an action isn't taken
pub returns-in-Err-clause-refused : goal.returns-in-Err-clause-refused
returns-in-Err-clause-refused c =
    let x = c.args.self.form in
    let limit = c.args.self.limit in
    let actions = c.args.actions.items in
    let i = c.loop-index.index in
    let a = c.action-item.result in
    let within : i < length actions = omega arith in
    let is : a ≡ get_or actions i a = c.action-item.is ∙ ap (λ (w : Word). get_or w i a) c.deref-action-items.ensures.value in
    let form = c.expr.ensures.value ∙ ap (λ (s : EngineState). s.form) c.self.view_is in
    let count = sym (length-take-le i actions (omega (arith, within))) in
    stops x limit actions i a within is (i + 1) c.in-Err.why refl c.loop-index.invariant.1
    (of_history x (form_of c.expr.result.now) limit c.self.inside.limit (take i actions) i a c.loop-index.tree (Err c.in-Err.why)
    form (ap (λ (s : EngineState). s.limit) c.self.view_is) count c.loop-index.invariant.0 c.in-Err.ensures)

-- an action is taken
pub loop-index-preserved : goal.loop-index-preserved
loop-index-preserved c =
    let x = c.args.self.form in
    let limit = c.args.self.limit in
    let actions = c.args.actions.items in
    let i = c.loop-index.index in
    let a = c.action-item.result in
    let within : i < length actions = omega arith in
    let is : a ≡ get_or actions i a = c.action-item.is ∙ ap (λ (w : Word). get_or w i a) c.deref-action-items.ensures.value in
    let form = c.expr.ensures.value ∙ ap (λ (s : EngineState). s.form) c.self.view_is in
    let count = sym (length-take-le i actions (omega (arith, within))) in
    let facts = of_history x (form_of c.expr.result.now) limit c.self.inside.limit (take i actions) i a c.loop-index.tree (Ok c.in-Ok.next)
    form (ap (λ (s : EngineState). s.limit) c.self.view_is) count c.loop-index.invariant.0 c.in-Ok.ensures in (
      facts.0 ∙ ap (tree_of x []) (sym (one_more x limit actions i a within is)),
      allowed_more x limit actions i a within is c.loop-index.invariant.1 facts.1,
    )

-- all actions were taken
pub invariant_of-result : goal.invariant_of-result
invariant_of-result c =
    let k = c.self.inside in
    let actions = c.args.actions.items in
    let all : c.loop-index.index ≡ length actions = omega arith in
    let whole : take c.loop-index.index actions ≡ actions = ap (λ n. take n actions) all ∙ take-length actions in
    let form = ap (λ (s : EngineState). s.form) c.self.view_is in
    let history = ap (λ (s : EngineState). s.history) c.self.view_is ∙ c.requires.new in
    let limit = ap (λ (s : EngineState). s.limit) c.self.view_is in
    let first = c.self.invariant.0 ∙ ap (λ (x : Form). tree_of x [] k.history.items) form ∙ ap (tree_of c.args.self.form []) history in
    let size = bounded c.args.self.form c.args.self.limit _ k.tree c.loop-index.tree first
    (subst (λ l. size_of k.tree ≤ l) limit c.self.invariant.2) c.loop-index.invariant.0 c.loop-index.invariant.1 in (
      c.loop-index.invariant.0 ∙ ap (tree_of c.args.self.form []) whole ∙ ap (λ (x : Form). tree_of x [] actions) (sym form),
      subst (λ (w : Word). length w ≤ 1000000) whole (few c.args.self.form c.args.self.limit _ c.loop-index.invariant.1),
      subst (λ l. size_of c.loop-index.tree ≤ l) (sym limit) size,
      c.self.invariant.3,
      c.self.invariant.4,
    )
