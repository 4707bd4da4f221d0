-- Where a walk over codes comes to.
use Rattle.std.specs.Prelude.{◌≡◌, ◌+◌, ℕ, List, length, Option, Some, None}
use Rattle.ix_bound.specs.declared.walk.Walked.{Walked}
use Rattle.ix_bound.specs.declared.walk.Walked.TheVariants.{Passed, Refused}
use Rattle.ix_bound.specs.Refusals.{first_refused}

-- the walk over these codes, numbered from n, comes behind all of them or to the first refused one
abbrev pub WalksTo : List (Option ℕ) → ℕ → Walked → Type 0
WalksTo codes n (Passed next) = (first_refused n codes ≡ None) × (next ≡ n + length codes)
WalksTo codes n (Refused code node) = first_refused n codes ≡ Some (code, node)
