use Rattle.ix_words.proofs.Laws.{projections_grow}
use Rattle.ix_words.proofs.projections_grow.Goals as goal

pub returns : goal.returns
returns g c = projections_grow
