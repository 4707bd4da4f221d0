use Rattle.ix_can.proofs.Keys.{state_told}
use Rattle.ix_can.proofs.values.state_of.Goals as goal

pub returns : goal.returns
returns c = state_told (λ s. s.now) c.get.result c.args.entries.now c.args.value.now c.get.ensures
