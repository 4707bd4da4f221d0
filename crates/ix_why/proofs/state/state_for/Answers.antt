use Rattle.std.proofs.Common.{subst}
use Rattle.ix_why.specs.inside.Held.{AscendByValue}
use Rattle.ix_why.proofs.Owned.{keys_of_entries, node_entries}
use Rattle.ix_why.proofs.state.state_for.Goals as goal

pub state_at-requires : goal.state_at-requires
state_at-requires c = keys_of_entries c.in-Every.entries (subst AscendByValue (node_entries c.in-Every.entries c.in-Every.is c.node.ensures) c.requires)
