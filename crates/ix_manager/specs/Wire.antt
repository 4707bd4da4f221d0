-- What replies make of what is sent.
use Rattle.std.specs.Prelude.{◌≡◌, ℕ, Bool, true, false, List, [], ◌∷◌, ◌++◌, replicate, get_or}
use Rattle.std.specs.Prelude.{set}
use Rattle.std.specs.List.{flat_map}
use Rattle.ix_outside.specs.Contents.{GivenEvent, Sends, with_pair, with_gone, send_text}
use Rattle.ix_outside.specs.Sink.{IsFront}
use Rattle.ix_outside.specs.declared.event.EventKind.{EventKind}
use Rattle.ix_outside.specs.declared.event.EventKind.TheVariants.{Bytes, Closed, End}
use Rattle.ix_proto.specs.Replies.{reply_text}
use Rattle.ix_proto.specs.declared.reply.Reply.{Reply}

-- a reply's text with its byte 10
abbrev pub reply_line : Reply → List ℕ
reply_line reply = reply_text reply ++ 10 ∷ []

-- the replies of several items, in order
abbrev pub all_replies : List (List Reply) → List Reply
all_replies answers = flat_map (λ replies. replies) answers

-- Replies sent in order on a connection that is marked as gone or not. On a marked one nothing is
-- sent. Else each is sent whole, or only a front of it, and then the connection is marked.
pub data SendsInOrder {S : Type 0} (whole front : Reply → S → S → Type 0) : List Reply → Bool → S
    → Bool → S → Type 0 where
  done : {marked : Bool} {s : S} → SendsInOrder whole front [] marked s marked s
  silent : {reply : Reply} {replies : List Reply} {s after : S}
      → SendsInOrder whole front replies true s true after
      → SendsInOrder whole front (reply ∷ replies) true s true after
  sent : {reply : Reply} {replies : List Reply} {s between after : S} {marked : Bool}
      → whole reply s between → SendsInOrder whole front replies false between marked after
      → SendsInOrder whole front (reply ∷ replies) false s marked after
  lost : {reply : Reply} {replies : List Reply} {s between after : S}
      → front reply s between → SendsInOrder whole front replies true between true after
      → SendsInOrder whole front (reply ∷ replies) false s true after

-- the sends so far, and the replies that those of this run carry, in order
pub record SentReplies : Type 0 where
  pub sends : Sends
  pub replies : List Reply

-- the reply's line is the next pair, which carries the reply
abbrev pub PairsWhole : ℕ → Reply → SentReplies → SentReplies → Type 0
PairsWhole conn reply old new =
    new ≡ record {
      sends = with_pair conn (reply_line reply) old.sends;
      replies =
          old.replies ++ reply ∷ [];
    }

-- a front of the reply's line is the next pair, which carries the reply, and its place is one of
-- those that answered Gone
abbrev pub PairsFront : ℕ → Reply → SentReplies → SentReplies → Type 0
PairsFront conn reply old new = (front : List ℕ) × IsFront front (reply_line reply)
    × (new ≡ record { sends = with_gone conn front old.sends; replies = old.replies ++ reply ∷ [] })

-- no connection is marked
abbrev pub unmarked : List Bool
unmarked = replicate 64 false

-- the marks after an event whose replies left its connection marked or not: closing a connection
-- takes its mark
abbrev pub marks_after : EventKind → ℕ → Bool → List Bool → List Bool
marks_after (Bytes n) conn marked marks = set marks conn marked
marks_after Closed conn marked marks = set marks conn false
marks_after End conn marked marks = set marks conn marked

-- What the replies of a run make of the sends, from those that were there before: each reply one
-- pair, in order, but none on a marked connection; and which replies the pairs carry.
pub data Wire (before : Sends) : List GivenEvent → List (List (List Reply)) → List Bool
    → SentReplies → Type 0 where
  begin : Wire before [] [] unmarked (record { sends = before; replies = [] })
  takes : {events : List GivenEvent} {answers : List (List (List Reply))} {marks : List Bool}
      {s after : SentReplies}
      (given : GivenEvent) (last : List (List Reply)) (marked : Bool)
      → Wire before events answers marks s
      → SendsInOrder (PairsWhole given.event.conn) (PairsFront given.event.conn) (all_replies last)
      (get_or marks given.event.conn false) s marked after
      → Wire before (events ++ given ∷ []) (answers ++ last ∷ [])
      (marks_after given.event.kind given.event.conn marked marks) after

-- the text of an event's replies: for each the connection's number, a space and its line
abbrev pub replies_text : ℕ → List Reply → List ℕ
replies_text conn replies = flat_map (λ reply. send_text conn (reply_line reply)) replies

-- the text of a run's replies
abbrev pub run_text : List GivenEvent → List (List (List Reply)) → List ℕ
run_text (given ∷ events) (answers ∷ more) = replies_text given.event.conn (all_replies answers)
    ++ run_text events more
run_text _ _ = []
