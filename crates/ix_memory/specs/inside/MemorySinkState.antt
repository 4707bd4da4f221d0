-- A sink in memory.
use Rattle.std.specs.Prelude.{ℕ, ◌+◌, nat_lt, ◌||◌, List, length, Bool, Some}
use Rattle.ix_outside.specs.Loans.{free}
use Rattle.ix_outside.specs.SinkState.{SinkState}
use Rattle.ix_memory.specs.Calls.{CallList, is_told}

-- the bytes that went out, the most that they may be, which calls fail, and how many failed
pub record MemorySinkState : Type 0 where
  pub bytes : List ℕ
  pub room : ℕ
  pub calls : CallList
  pub faults : ℕ

-- the sink as every contract of its trait sees it; it was lent nothing
abbrev pub memory_sink_state : MemorySinkState → SinkState
memory_sink_state state = record { written = Some state.bytes; faults = state.faults; held = free }

-- a put of so many bytes fails: it is told to, or the room is passed
abbrev pub fails_to_put : MemorySinkState → ℕ → Bool
fails_to_put state count = is_told state.calls || nat_lt state.room (length state.bytes + count)
