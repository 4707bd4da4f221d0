use Rattle.ix_many.proofs.Pieces.{kind_fits}
use Rattle.ix_many.proofs.laws.pieces_fit.Goals as goal

pub returns : goal.returns
returns c = λ room event below piece. (below, kind_fits room event.conn event.kind piece)
