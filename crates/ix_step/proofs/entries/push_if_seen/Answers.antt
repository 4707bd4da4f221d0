use Rattle.std.proofs.Common.{◌∷◌, [], ◌∙◌, ap, subst, sym}
use Rattle.std.specs.List.{list_any}
use Rattle.ix_values.specs.Order.{text_eq}
use Rattle.ix_expr.specs.inside.FormOf.{form_of}
use Rattle.ix_step.specs.inside.ValueTrees.{AddsSeen}
use Rattle.ix_step.proofs.SeenValues.{there_already, come_last}
use Rattle.ix_step.proofs.entries.push_if_seen.Goals as goal

pub returns : goal.returns
returns c =
    subst (AddsSeen (form_of c.args.body.expr.now) c.args.body.parameter.now c.args.action.now (c.args.value.now ∷ []) c.args.values.now.items)
    (sym c.in_ok-push.ensures.items) (come_last (form_of c.args.body.expr.now) c.args.body.parameter.now c.args.action.now c.args.value.now c.args.values.now.items)

pub returns-then-contains : goal.returns-then-contains
returns-then-contains c =
    there_already (form_of c.args.body.expr.now) c.args.body.parameter.now c.args.action.now c.args.value.now c.args.values.now.items
    (ap (list_any (λ u. text_eq u c.args.value.now)) (sym c.as_slice.ensures.value) ∙ sym c.contains.ensures.value ∙ c.if-contains.true)
