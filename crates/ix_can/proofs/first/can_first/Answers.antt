-- What the test of the first action tells.
use Rattle.ix_expr.specs.inside.FormOf.{form_of}
use Rattle.ix_can.proofs.Lists.{same_test}
use Rattle.ix_can.proofs.MovesTell.{each_step}
use Rattle.ix_can.proofs.first.can_first.Goals as goal

pub returns-clause-tells : goal.returns-clause-tells
returns-clause-tells c = same_test c.begins.ensures (each_step (form_of c.args.expr.now) c.args.env.now c.args.action.now c.requires.fits).first
