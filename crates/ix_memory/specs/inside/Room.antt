-- The memory that a site holds.
use Rattle.std.specs.Prelude.{ℕ, ◌+◌, ◌*◌, ◌<◌, ◌≤◌}

-- while so much room is left, there is memory for the bytes and the records of the sends, for the
-- events given and for the file; each call costs at least 16
pub record HasRoom (room bytes records events image : ℕ) : Type 0 where
  pub of_bytes : room ≤ bytes
  pub of_records : room < 16 * records + 16
  pub of_events : room < 16 * events + 16
  pub of_image : room ≤ image
