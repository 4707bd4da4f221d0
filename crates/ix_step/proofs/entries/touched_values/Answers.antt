use Rattle.std.proofs.Common.{subst}
use Rattle.ix_expr.specs.inside.FormOf.{form_of}
use Rattle.ix_step.specs.inside.ValueTrees.{AddsSeen}
use Rattle.ix_step.proofs.SeenValues.{taken_in}
use Rattle.ix_step.proofs.entries.touched_values.Goals as goal

pub returns : goal.returns
returns c =
    taken_in (form_of c.args.body.expr.now) c.args.body.parameter.now c.args.action.now c.args.entries.now c.push_seen.new.values.items
    (subst (λ old. AddsSeen (form_of c.args.body.expr.now) c.args.body.parameter.now c.args.action.now c.args.action.now.values old c.push_seen.new.values.items) c.in_ok-values.ensures c.in_ok-push_seen.ensures)
