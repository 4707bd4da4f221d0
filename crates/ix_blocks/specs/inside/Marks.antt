-- Which blocks are marked as changed.
use Rattle.std.specs.Prelude.{◌≡◌, ◌⊎◌, ℕ, ◌<◌, ◌≤◌, true, List}
use Rattle.ix_blocks.specs.FileBlocks.{is_among}

-- each number of before is there now, and each other one that is there is of the range
pub record MarksOnly (before now : List ℕ) (from to : ℕ) : Type 0 where
  pub keeps : (number : ℕ) → is_among before number ≡ true → is_among now number ≡ true
  pub only : (number : ℕ) → is_among now number ≡ true
      → (is_among before number ≡ true) ⊎ ((from ≤ number) × (number < to))
