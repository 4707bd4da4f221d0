-- What a `Lines` shows of its buffer.
use Rattle.std.specs.Prelude.{◌≤◌, ℕ, Bool, true, false, List, length, take}
use Rattle.ix_lines.specs.Feeding.{UnfinishedLine, unfinished, skipping}
use Rattle.ix_lines.specs.Cutting.{HasNoEnd}

-- the open bytes, unless the line is skipped
abbrev pub shown : Bool → List ℕ → UnfinishedLine
shown true open_bytes = skipping
shown false open_bytes = unfinished open_bytes

-- the open bytes are in the buffer, and are an unfinished line
pub record IsBuffer (open_len : ℕ) (bytes : List ℕ) : Type 0 where
  pub within : open_len ≤ length bytes
  pub fits : open_len ≤ 512
  pub plain : HasNoEnd (take open_len bytes)
