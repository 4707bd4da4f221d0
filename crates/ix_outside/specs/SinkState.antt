-- A sink as contracts see it.
use Rattle.std.specs.Prelude.{◌≡◌, ℕ, ◌≤◌, List, Option}
use Rattle.ix_outside.specs.Loans.{Loans}

-- the bytes that went out, where the object tells them; how many calls failed, up to 2 ^ 64 - 1;
-- and the other objects that it was lent
pub record SinkState : Type 0 where
  pub written : Option (List ℕ)
  pub faults : ℕ
  pub held : Loans

-- nothing changed but the bytes that went out and the count of faults, which didn't fall
pub record OnlyPuts (old new : SinkState) : Type 0 where
  pub faults : old.faults ≤ new.faults
  pub held : new.held ≡ old.held
