-- What a site keeps of its sends and of names.
use Rattle.std.specs.Prelude.{ℕ, List, [], ◌∷◌, ◌++◌, map}
use Rattle.ix_outside.specs.Contents.{SentBytes, Sends}
use Rattle.ix_memory.specs.declared.sent.Pair.{Pair}
use Rattle.ix_memory.specs.declared.sent.Span.{Span}
use Rattle.ix_memory.specs.inside.Spans.{text_at, IsSpanWithin, AreWithin}

-- the sends, the name of the file, and how many more bytes and how many more sends have their
-- memory already
pub record SentState : Type 0 where
  pub sends : Sends
  pub name : List ℕ
  pub spare_bytes : ℕ
  pub spare_records : ℕ

-- no sends
abbrev pub no_sends : Sends
no_sends = record { sent = []; gone = []; heard = [] }

-- the connection and the bytes of a pair
abbrev pub sent_of : List ℕ → Pair → SentBytes
sent_of bytes pair = record { conn = pair.conn; bytes = text_at bytes pair.span }

-- the sends, from the bytes of all of them
abbrev pub sends_of : List ℕ → List Pair → List ℕ → List Span → Sends
sends_of bytes pairs gone heard =
    record { sent = map (sent_of bytes) pairs; gone = gone; heard = map (text_at bytes) heard }

-- each pair and each name is within the bytes
pub record AreKept (count : ℕ) (pairs : List Pair) (heard : List Span) (name : Span) : Type 0 where
  pub of_pairs : AreWithin count (map (λ (pair : Pair). pair.span) pairs)
  pub of_heard : AreWithin count heard
  pub of_name : IsSpanWithin count name
