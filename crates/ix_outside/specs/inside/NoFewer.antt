-- Counts that don't fall.
use Rattle.std.specs.Prelude.{◌≤◌}
use Rattle.ix_outside.specs.Counts.{Counts}

-- no count fell
pub record NoFewerCalls (before now : Counts) : Type 0 where
  pub disk : before.disk ≤ now.disk
  pub wire : before.wire ≤ now.wire
  pub send : before.send ≤ now.send
