-- How a run of the program ends: its status, its line, and what is put.
use Rattle.std.specs.Prelude.{◌≡◌, ℕ, List, [], ◌∷◌, ◌++◌, codes, decimal}
use Rattle.std.specs.Io.KnownBytes.{append_known}
use Rattle.ix_values.specs.Tickets.{ticket_text}
use Rattle.ix_outside.specs.Counts.{Rose}
use Rattle.ix_outside.specs.Sink.{AppendsPart}
use Rattle.ix_outside.specs.SinkState.{SinkState}
use Rattle.ix_client.specs.declared.ended.Ended.{Ended}
use Rattle.ix_client.specs.declared.ended.Ended.TheVariants as ended

abbrev pub status_of : Ended → ℕ
status_of ended.Usage = 0
status_of ended.BadWords = 2
status_of (ended.Done number) = 0
status_of (ended.Refused code) = 3
status_of ended.Never = 4
status_of ended.NoLink = 6
status_of ended.OddReply = 7
status_of ended.NoMemory = 9
status_of (ended.Unsure ticket) = 8
status_of (ended.LeftOut ticket) = 5

-- the line without the byte 10 that ends it
abbrev pub text_of_end : Ended → List ℕ
text_of_end ended.Usage = codes "ixc SOCKET ACTION MILLIS"
text_of_end ended.BadWords = codes "refused words"
text_of_end (ended.Done number) = codes "done " ++ decimal number
text_of_end (ended.Refused code) = codes "refused " ++ decimal code
text_of_end ended.Never = codes "never"
text_of_end ended.NoLink = codes "refused link"
text_of_end ended.OddReply = codes "refused reply"
text_of_end ended.NoMemory = codes "refused memory"
text_of_end (ended.Unsure ticket) = codes "unsure " ++ ticket_text ticket
text_of_end (ended.LeftOut ticket) = codes "left out " ++ ticket_text ticket

abbrev pub line_of : Ended → List ℕ
line_of how = text_of_end how ++ 10 ∷ []

-- the line is put, and the status is its own; or the put failed, with status 10
pub data PutsLine (how : Ended) (status : ℕ) (before after : SinkState) : Type 0 where
  whole : status ≡ status_of how → after.written ≡ append_known before.written (line_of how)
      → PutsLine how status before after
  part : status ≡ 10 → Rose before.faults after.faults
      → AppendsPart before.written (line_of how) after.written
      → PutsLine how status before after
