-- A Slide that is fed from a file.
use Rattle.std.proofs.Common.{◌≡◌, ℕ, ◌+◌, ◌<◌, ◌≤◌, length}
use Rattle.ix_journal.specs.Kept.{Kept}

-- so many bytes of a file of `all` bytes were read, and the Slide's gate is one of the file's
pub record IsWithin (all read : ℕ) (kept : Kept) : Type 0 where
  pub taken : kept.gate + length kept.bytes ≡ read
  pub within : read ≤ all
  pub gate : kept.gate < all
