use Rattle.ix_client.proofs.Lasting.{sound_states_last}
use Rattle.ix_client.proofs.laws.sound_states_last.Goals as goal

pub returns : goal.returns
returns c = sound_states_last
