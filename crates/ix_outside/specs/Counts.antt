-- Counts of faults, each up to 2 ^ 64 - 1.
use Rattle.std.specs.Prelude.{◌≡◌, ℕ, ◌+◌, ◌-◌, ◌^◌, ◌≤◌, min, Result, Ok, Err}

-- one more; the greatest count is 2 ^ 64 - 1
abbrev pub one_more : ℕ → ℕ
one_more count = min (count + 1) (2 ^ 64 - 1)

-- a count rose, or stands at its greatest value
abbrev pub Rose : ℕ → ℕ → Type 0
Rose before now = one_more before ≤ now

-- a call that failed is counted, and no other is
abbrev pub CountsFault : {T E : Type 0} → Result T E → ℕ → ℕ → Type 0
CountsFault (Ok done) before now = now ≡ before
CountsFault (Err fault) before now = Rose before now

-- the counts of a site: failed calls of the disk, of the wire (`listen` and `next` alone), and of
-- `send`
pub record Counts : Type 0 where
  pub disk : ℕ
  pub wire : ℕ
  pub send : ℕ
