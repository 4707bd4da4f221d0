use Rattle.ix_can.proofs.Naming.{fits_name}
use Rattle.ix_can.proofs.laws.fitting_expressions_name.Goals as goal

pub returns : goal.returns
returns c = fits_name
