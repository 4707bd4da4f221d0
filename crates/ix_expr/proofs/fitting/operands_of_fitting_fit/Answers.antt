use Rattle.ix_expr.proofs.Parts.{fits-operands}
use Rattle.ix_expr.proofs.fitting.operands_of_fitting_fit.Goals as goal

pub returns : goal.returns
returns c = fits-operands
