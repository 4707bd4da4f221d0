-- What a run puts.
use Rattle.std.specs.Prelude.{ℕ, List, [], ◌++◌}
use Rattle.std.specs.Io.KnownBytes.{append_known}
use Rattle.ix_outside.specs.Sink.{AppendsPart}
use Rattle.ix_outside.specs.SinkState.{SinkState}

-- a text went out whole, and behind it some front of another
abbrev pub Puts : List ℕ → List ℕ → SinkState → SinkState → Type 0
Puts whole part old new = AppendsPart (append_known old.written whole) part new.written

-- How a run ends with a last line, behind what was put before: it is put, and the run has this
-- status; or its put fails, and the run has status 10.
pub data LastLine (status : ℕ) (before line : List ℕ) : ℕ → List ℕ → List ℕ → Type 0 where
  put : LastLine status before line status (before ++ line) []
  lost : LastLine status before line 10 before line
