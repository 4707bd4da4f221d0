use Rattle.ix_parse.proofs.FewLevels.{canonical-opens_few}
use Rattle.ix_parse.proofs.laws.canonical_texts_open_few_levels.Goals as goal

pub returns : goal.returns
returns c = canonical-opens_few
