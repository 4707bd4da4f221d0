use Rattle.ix_words.proofs.Laws.{projections_by_test}
use Rattle.ix_words.proofs.projections_by_test.Goals as goal

pub returns : goal.returns
returns g c = projections_by_test
