use Rattle.ix_can.proofs.Naming.{fits_name}
use Rattle.ix_can.proofs.TreesTell.{tree_tells}
use Rattle.ix_can.proofs.laws.trees_tell.Goals as goal

pub returns : goal.returns
returns c = λ x e w fits. tree_tells x (fits_name x e fits) e w
