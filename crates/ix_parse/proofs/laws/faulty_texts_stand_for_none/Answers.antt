use Rattle.ix_parse.proofs.OneMeaning.{faulty-none}
use Rattle.ix_parse.proofs.laws.faulty_texts_stand_for_none.Goals as goal

pub returns : goal.returns
returns c = faulty-none
