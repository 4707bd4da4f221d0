-- Measures of the walk.
use Rattle.std.proofs.Common.{◌+◌, ◌*◌}
use Rattle.ix_expr.specs.inside.FormOf.{form_of}
use Rattle.ix_why.specs.Blames.{nodes}
use Rattle.ix_why.proofs.walk.+walk.Given as goal

abbrev pub decreases-walk : goal.decreases-walk
decreases-walk l = 4 * nodes (form_of l.expr.now)

abbrev pub decreases-walk_body : goal.decreases-walk_body
decreases-walk_body l = 4 * nodes (form_of l.body.expr.now) + 1

abbrev pub decreases-walk_both : goal.decreases-walk_both
decreases-walk_both l = 4 * (nodes (form_of l.sides.left.now) + nodes (form_of l.sides.right.now)) + 2

abbrev pub decreases-walk_owner : goal.decreases-walk_owner
decreases-walk_owner l = 4 * nodes (form_of l.body.expr.now) + 1

abbrev pub decreases-walk_side : goal.decreases-walk_side
decreases-walk_side l = 4 * nodes (form_of l.operand.expr.now) + 1
