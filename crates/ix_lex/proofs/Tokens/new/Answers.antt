use Rattle.ix_lex.proofs.PiecesExist.{Pieces-pieces_of}
use Rattle.ix_lex.proofs.Tokens.new.Goals as goal

pub returns : goal.returns
returns c = Pieces-pieces_of 0 c.args.text.now
