-- The next piece is the next event.
use Rattle.std.proofs.Common.{◌≡◌, ℕ, zero, suc, ◌+◌, ◌-◌, ◌≤◌, ◌<◌, List, [], ◌∷◌, ◌++◌, length, take, drop, get_or, min, nat_lt, true, false, slice_set, rules, inl, inr, refl, sym, ap, ◌∙◌, subst, arith}
use Rattle.std.proofs.lemmas.List.{take-take, take_all, length-take, drop-take, drop-drop, map-append}
use Rattle.std.proofs.lemmas.Bool.{cases_lt}
use Rattle.ix_outside.specs.Contents.{GivenEvent, piece_of}
use Rattle.ix_outside.specs.Event.{FitsBuffer, KindFits}
use Rattle.ix_outside.specs.declared.event.EventKind.{EventKind}
use Rattle.ix_outside.specs.declared.event.EventKind.TheVariants.{Bytes, Closed, End}
use Rattle.ix_memory.specs.inside.EventsState.{event_of, events_from, IsKept, KindIsKept, AreEventsKept}
use Rattle.ix_memory.specs.inside.NextEvent.{front_kind, rest_of, next_event, then_coming}
use Rattle.ix_memory.specs.inside.NextPiece.{rest_piece, next_piece_told, then_pieces}
use Rattle.ix_memory.specs.declared.events.Piece.{Piece}

-- a take of a take is the smaller one
take_of_take : (room n : ℕ) (bytes : List ℕ) → take (min n room) bytes ≡ take room (take n bytes)
take_of_take room n bytes = elim (cases_lt room n) [
  | inl below ↦
      let least : min n room ≡ room = omega arith in
      ap (λ (k : ℕ). take k bytes) least ∙ sym (take-take room n bytes (omega arith))
  | inr above ↦
      let least : min n room ≡ n = omega arith in
      let few : length (take n bytes) ≤ room = omega (arith, length-take n bytes) in
      ap (λ (k : ℕ). take k bytes) least ∙ sym (take_all room (take n bytes) few)
]

piece_of-front : (room : ℕ) (kind : EventKind) (bytes : List ℕ) → piece_of (front_kind room kind) bytes ≡ take room (piece_of kind bytes)
piece_of-front room (Bytes n) bytes = take_of_take room n bytes
piece_of-front zero Closed bytes = refl
piece_of-front (suc room) Closed bytes = refl
piece_of-front zero End bytes = refl
piece_of-front (suc room) End bytes = refl

-- the next piece is the next event
pub event-next : (bytes : List ℕ) (room last : ℕ) (pieces : List Piece)
    → event_of bytes (next_piece_told room last pieces) ≡ next_event room last (events_from bytes pieces)
event-next bytes room last [] = refl
event-next bytes room last (piece ∷ later) =
    ap (λ (text : List ℕ). record { event = record piece.event { kind = front_kind room piece.event.kind }; bytes = text })
    (piece_of-front room piece.event.kind (drop piece.start bytes))

-- a piece that is given is the next event
pub given_event : (bytes : List ℕ) (room last : ℕ) (pieces : List Piece) (piece : Piece) (text : List ℕ)
    → piece ≡ next_piece_told room last pieces → text ≡ piece_of piece.event.kind (drop piece.start bytes)
    → record { event = piece.event; bytes = text } ≡ next_event room last (events_from bytes pieces)
given_event bytes room last pieces piece text is here =
    ap (λ (t : List ℕ). record { event = piece.event; bytes = t }) here ∙ ap (event_of bytes) is ∙ event-next bytes room last pieces

-- what is behind the bytes that the buffer took
rest_bytes : (room n start : ℕ) (bytes : List ℕ) → room < n
    → take (n - room) (drop (start + room) bytes) ≡ drop room (take n (drop start bytes))
rest_bytes room n start bytes below =
    let all : room + (n - room) ≡ n = omega arith in
    ap (take (n - room)) (sym (drop-drop room start bytes))
    ∙ sym (drop-take room (n - room) (drop start bytes))
    ∙ ap (λ k. drop room (take k (drop start bytes))) all

then-first : (bytes : List ℕ) (room : ℕ) (kind : EventKind) (piece : Piece) → piece.event.kind ≡ kind
    → events_from bytes (rest_piece room kind piece) ≡ rest_of room kind (event_of bytes piece)
then-first bytes room (Bytes n) piece is =
    elim (cases_lt room n) [
      | inl below ↦
          let test : nat_lt room n ≡ true = search (rules, below) in
          let text : take (n - room) (drop (piece.start + room) bytes) ≡ drop room (piece_of piece.event.kind (drop piece.start bytes)) =
          rest_bytes room n piece.start bytes below ∙ ap (λ (k : EventKind). drop room (piece_of k (drop piece.start bytes))) (sym is) in
          rw test (ap (λ (t : List ℕ). record { event = record piece.event { kind = Bytes (n - room) }; bytes = t } ∷ []) text)
      | inr above ↦
          let test : nat_lt room n ≡ false = search (rules, above) in
          rw test refl
    ]
then-first bytes room Closed piece is = refl
then-first bytes room End piece is = refl

-- the pieces to come are the events to come
pub events-then : (bytes : List ℕ) (room : ℕ) (pieces : List Piece)
    → events_from bytes (then_pieces room pieces) ≡ then_coming room (events_from bytes pieces)
events-then bytes room [] = refl
events-then bytes room (piece ∷ later) =
    map-append (event_of bytes) (rest_piece room piece.event.kind piece) later
    ∙ ap (λ (events : List GivenEvent). events ++ events_from bytes later) (then-first bytes room piece.event.kind piece refl)

pub AreEventsKept-more : (count more : ℕ) (pieces : List Piece) → count ≤ more → AreEventsKept count pieces → AreEventsKept more pieces
AreEventsKept-more count more [] le kept = tt
AreEventsKept-more count more (piece ∷ pieces) le kept =
    ((kept.0.0, kind-more count more piece.start piece.event.conn piece.event.kind le kept.0.1), AreEventsKept-more count more pieces le kept.1)
  where
    kind-more : (count more start conn : ℕ) (kind : EventKind) → count ≤ more → KindIsKept count start conn kind → KindIsKept more start conn kind
    kind-more count more start conn (Bytes n) le kept = (kept.0, omega (arith, kept.1))
    kind-more count more start conn Closed le kept = kept
    kind-more count more start conn End le kept = kept

pub AreEventsKept-set : (count : ℕ) (pieces : List Piece) (at : ℕ) (piece : Piece) → AreEventsKept count pieces → IsKept count piece
    → AreEventsKept count (slice_set pieces at piece)
AreEventsKept-set count [] at piece kept here = tt
AreEventsKept-set count (first ∷ pieces) zero piece kept here = (here, kept.1)
AreEventsKept-set count (first ∷ pieces) (suc at) piece kept here = (kept.0, AreEventsKept-set count pieces at piece kept.1 here)

pub AreEventsKept-drop : (count : ℕ) (at : ℕ) (pieces : List Piece) → AreEventsKept count pieces → AreEventsKept count (drop at pieces)
AreEventsKept-drop count zero pieces kept = kept
AreEventsKept-drop count (suc at) [] kept = tt
AreEventsKept-drop count (suc at) (piece ∷ pieces) kept = AreEventsKept-drop count at pieces kept.1

pub kept_at : (count : ℕ) (pieces : List Piece) (at : ℕ) (none : Piece) → at < length pieces → AreEventsKept count pieces
    → IsKept count (get_or pieces at none)
kept_at count [] at none below kept = absurd (omega arith)
kept_at count (piece ∷ pieces) zero none below kept = kept.0
kept_at count (piece ∷ pieces) (suc at) none below kept = kept_at count pieces at none (omega arith) kept.1

-- the bytes of a piece are within
pub kept_bytes : (count : ℕ) (piece : Piece) (n : ℕ) → piece.event.kind ≡ Bytes n → IsKept count piece → (0 < n) × (piece.start + n ≤ count)
kept_bytes count piece n is kept =
    let P : EventKind → Type 0 = λ kind. KindIsKept count piece.start piece.event.conn kind in
    subst P is kept.1

pub kept_rest : (count : ℕ) (piece : Piece) (n room : ℕ) → piece.event.kind ≡ Bytes n → room < n → IsKept count piece
    → IsKept count (record { event = record piece.event { kind = Bytes (n - room) }; start = piece.start + room })
kept_rest count piece n room is below kept =
    let within = kept_bytes count piece n is kept in
    (kept.0, (omega arith, omega (arith, within.1)))

kept_front : (count room start conn : ℕ) (kind : EventKind) → 0 < room → KindIsKept count start conn kind
    → KindIsKept count start conn (front_kind room kind)
kept_front count room start conn (Bytes n) some kept = (omega (arith, kept.0), omega (arith, kept.1))
kept_front count room start conn Closed some kept = kept
kept_front count room start conn End some kept = kept

pub next_kept : (count room last : ℕ) (pieces : List Piece) → 0 < room → AreEventsKept count pieces → IsKept count (next_piece_told room last pieces)
next_kept count room last [] some kept = (omega arith, refl)
next_kept count room last (piece ∷ pieces) some kept =
    (kept.0.0, kept_front count room piece.start piece.event.conn piece.event.kind some kept.0.1)

fits_front : (count room start conn : ℕ) (kind : EventKind) → 0 < room → KindIsKept count start conn kind
    → KindFits room conn (front_kind room kind)
fits_front count room start conn (Bytes n) some kept = (omega (arith, kept.0), omega arith)
fits_front count room start conn Closed some kept = kept
fits_front count room start conn End some kept = kept

pub next_fits : (count room last : ℕ) (pieces : List Piece) → 0 < room → AreEventsKept count pieces
    → FitsBuffer room (next_piece_told room last pieces).event
next_fits count room last [] some kept = (omega arith, refl)
next_fits count room last (piece ∷ pieces) some kept =
    (kept.0.0, fits_front count room piece.start piece.event.conn piece.event.kind some kept.0.1)
