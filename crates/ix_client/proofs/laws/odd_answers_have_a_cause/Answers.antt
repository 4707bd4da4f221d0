use Rattle.ix_client.proofs.CauseLemmas.{odd_answers_have_a_cause}
use Rattle.ix_client.proofs.laws.odd_answers_have_a_cause.Goals as goal

pub returns : goal.returns
returns c = odd_answers_have_a_cause
