use Rattle.std.proofs.Common.{◌+◌, ◌*◌}
use Rattle.ix_expr.specs.inside.FormOf.{form_of}
use Rattle.ix_step.proofs.Measure.{form_size}
use Rattle.ix_step.proofs.first.+first.Given as goal

abbrev pub decreases-first_tree : goal.decreases-first_tree
decreases-first_tree l = 3 * form_size (form_of l.expr.now) + 1

abbrev pub decreases-built_tree : goal.decreases-built_tree
decreases-built_tree l = 3 * form_size (form_of l.expr.now)

abbrev pub decreases-first_seq : goal.decreases-first_seq
decreases-first_seq l = 3 * form_size (form_of l.y.now) + 3 * form_size (form_of l.z.now) + 2
