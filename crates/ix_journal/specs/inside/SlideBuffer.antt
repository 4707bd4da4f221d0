-- The buffer of a Slide.
use Rattle.std.specs.Prelude.{◌≡◌, ◌<◌, ◌≤◌, ℕ, Bool, true, List, length}

-- the kept bytes begin in the buffer, where the end was told a byte is kept, and no more actions
-- were counted than bytes are in front of the gate
pub record IsSlideBuffer (start : ℕ) (bytes : List ℕ) (ended : Bool)
    (gate actions : ℕ) : Type 0 where
  pub within : start ≤ length bytes
  pub some : ended ≡ true → start < length bytes
  pub counted : actions ≤ gate
