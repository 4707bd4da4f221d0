use Rattle.ix_expr.specs.FormFaults.{nodes_of}
use Rattle.ix_expr.proofs.Walks.{fault-not-free}
use Rattle.ix_parse.proofs.laws.faulty_expressions_are_not_well_formed.Goals as goal

pub returns : goal.returns
returns c = λ x code number fault whole. fault-not-free (nodes_of x) code number fault whole.faultless
