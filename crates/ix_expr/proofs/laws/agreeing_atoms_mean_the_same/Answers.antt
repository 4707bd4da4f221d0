use Rattle.ix_expr.proofs.AgreeingAtoms.{atoms-same}
use Rattle.ix_expr.proofs.laws.agreeing_atoms_mean_the_same.Goals as goal

pub returns : goal.returns
returns c = atoms-same
