use Rattle.ix_expr.proofs.LawsOfNames.{fits-names}
use Rattle.ix_expr.proofs.laws.fitting_atoms_name_their_parameter.Goals as goal

pub returns : goal.returns
returns c = fits-names
