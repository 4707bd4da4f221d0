use Rattle.ix_expr.proofs.Mentioned.{does-not-matter}
use Rattle.ix_expr.proofs.laws.unmentioned_names_do_not_matter.Goals as goal

pub returns : goal.returns
returns c = does-not-matter
