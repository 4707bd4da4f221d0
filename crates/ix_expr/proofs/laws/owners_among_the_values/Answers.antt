use Rattle.ix_expr.proofs.LawsOfMeaning.{owners-among}
use Rattle.ix_expr.proofs.laws.owners_among_the_values.Goals as goal

pub returns : goal.returns
returns c = owners-among
