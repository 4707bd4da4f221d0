-- Files as contracts see them.
use Rattle.std.specs.Prelude.{◌≡◌, ℕ, ◌≤◌, Option}
use Rattle.ix_outside.specs.Files.{Listing}
use Rattle.ix_outside.specs.Loans.{Loans}

-- the files, where the object tells them; how many calls failed, up to 2 ^ 64 - 1; and the other
-- objects that it was lent
pub record FilesState : Type 0 where
  pub contents : Option Listing
  pub faults : ℕ
  pub held : Loans

-- nothing changed but the count of faults, which didn't fall
pub record OnlyFaults (old new : FilesState) : Type 0 where
  pub faults : old.faults ≤ new.faults
  pub contents : new.contents ≡ old.contents
  pub held : new.held ≡ old.held
