-- The events that a site is made with are those to come.
use Rattle.std.proofs.Common.{◌≡◌, ℕ, ◌+◌, ◌≤◌, ◌<◌, List, [], ◌∷◌, ◌++◌, length, map, take, drop, get_or, refl, sym, ap, ◌∙◌, subst, arith, append_assoc, length-append, length-drop}
use Rattle.std.proofs.lemmas.List.{take-append-le, drop-append-le, drop_at, take_all, map-append, drop_more, drop_all}
use Rattle.ix_outside.specs.Contents.{GivenEvent, piece_of}
use Rattle.ix_outside.specs.declared.event.Event.{Event}
use Rattle.ix_outside.specs.declared.event.EventKind.{EventKind}
use Rattle.ix_outside.specs.declared.event.EventKind.TheVariants.{Bytes, Closed, End}
use Rattle.ix_memory.specs.inside.EventsState.{event_of, events_from, IsKept, KindIsKept, AreEventsKept}
use Rattle.ix_memory.specs.inside.CanCome.{StandsBeside, CanCome, CanAllCome, last_moment}
use Rattle.ix_memory.specs.declared.events.Piece.{Piece}
use Rattle.ix_memory.proofs.GivingNext.{AreEventsKept-more}

piece_of-more : (bytes more : List ℕ) (start conn : ℕ) (kind : EventKind) → KindIsKept (length bytes) start conn kind
    → piece_of kind (drop start (bytes ++ more)) ≡ piece_of kind (drop start bytes)
piece_of-more bytes more start conn (Bytes n) kept =
    let some : n ≤ length (drop start bytes) = omega (arith, kept.1, length-drop start bytes) in
    ap (take n) (drop-append-le start bytes more (omega (arith, kept.1))) ∙ take-append-le n (drop start bytes) more some
piece_of-more bytes more start conn Closed kept = refl
piece_of-more bytes more start conn End kept = refl

piece_of-last : (bytes text : List ℕ) (conn : ℕ) (kind : EventKind) → StandsBeside kind conn text
    → piece_of kind (drop (length bytes) (bytes ++ text)) ≡ text
piece_of-last bytes text conn (Bytes n) beside =
    ap (take n) (drop_at bytes text (length bytes) refl) ∙ take_all n text (omega (arith, beside.0))
piece_of-last bytes text conn Closed beside = sym beside
piece_of-last bytes text conn End beside = sym beside.0

-- events stay what they are when bytes come behind
pub events-more : (bytes more : List ℕ) (pieces : List Piece) → AreEventsKept (length bytes) pieces
    → events_from (bytes ++ more) pieces ≡ events_from bytes pieces
events-more bytes more [] kept = refl
events-more bytes more (piece ∷ pieces) kept =
    let first : event_of (bytes ++ more) piece ≡ event_of bytes piece =
    ap (λ (text : List ℕ). record { event = piece.event; bytes = text })
    (piece_of-more bytes more piece.start piece.event.conn piece.event.kind kept.0.1) in
    ap (λ (event : GivenEvent). event ∷ events_from (bytes ++ more) pieces) first
    ∙ ap (λ (events : List GivenEvent). event_of bytes piece ∷ events) (events-more bytes more pieces kept.1)

-- one more event, whose bytes were put behind the bytes
pub events-push : (bytes text : List ℕ) (pieces : List Piece) (event : Event) (start : ℕ) → start ≡ length bytes
    → AreEventsKept (length bytes) pieces → CanCome (record { event = event; bytes = text })
    → events_from (bytes ++ text) (pieces ++ record { event = event; start = start } ∷ [])
    ≡ events_from bytes pieces ++ record { event = event; bytes = text } ∷ []
events-push bytes text pieces event start here kept can =
    let last : event_of (bytes ++ text) (record { event = event; start = start }) ≡ record { event = event; bytes = text } =
    ap (λ (t : List ℕ). record { event = event; bytes = t })
    (ap (λ (s : ℕ). piece_of event.kind (drop s (bytes ++ text))) here ∙ piece_of-last bytes text event.conn event.kind can.1) in
    map-append (event_of (bytes ++ text)) pieces (record { event = event; start = start } ∷ [])
    ∙ ap (λ (events : List GivenEvent). events ++ event_of (bytes ++ text) (record { event = event; start = start }) ∷ []) (events-more bytes text pieces kept)
    ∙ ap (λ (e : GivenEvent). events_from bytes pieces ++ e ∷ []) last

kind_kept : (bytes text : List ℕ) (start conn : ℕ) (kind : EventKind) → start ≡ length bytes → StandsBeside kind conn text
    → KindIsKept (length (bytes ++ text)) start conn kind
kind_kept bytes text start conn (Bytes n) here beside = (beside.1, omega (arith, beside.0, length-append bytes text))
kind_kept bytes text start conn Closed here beside = tt
kind_kept bytes text start conn End here beside = beside.1

AreEventsKept-push : (count : ℕ) (pieces : List Piece) (piece : Piece) → AreEventsKept count pieces → IsKept count piece
    → AreEventsKept count (pieces ++ piece ∷ [])
AreEventsKept-push count [] piece kept last = (last, tt)
AreEventsKept-push count (first ∷ pieces) piece kept last = (kept.0, AreEventsKept-push count pieces piece kept.1 last)

pub kept-push : (bytes text : List ℕ) (pieces : List Piece) (event : Event) (start : ℕ) → start ≡ length bytes
    → AreEventsKept (length bytes) pieces → CanCome (record { event = event; bytes = text })
    → AreEventsKept (length (bytes ++ text)) (pieces ++ record { event = event; start = start } ∷ [])
kept-push bytes text pieces event start here kept can =
    let more : length bytes ≤ length (bytes ++ text) = omega (arith, length-append bytes text) in
    AreEventsKept-push (length (bytes ++ text)) pieces (record { event = event; start = start })
    (AreEventsKept-more (length bytes) (length (bytes ++ text)) pieces more kept)
    (can.0, kind_kept bytes text start event.conn event.kind here can.1)

-- the pieces so far and the rest of the events are all events
pub record Takes (bytes : List ℕ) (pieces : List Piece) (last : ℕ) (rest all : List GivenEvent) : Type 0 where
  pub spells : events_from bytes pieces ++ rest ≡ all
  pub kept : AreEventsKept (length bytes) pieces
  pub moment : last_moment last rest ≡ last_moment 0 all
  pub come : CanAllCome rest

pub Takes-first : {A : Type 0} → (seen : A → GivenEvent) (events : List A) → CanAllCome (map seen events)
    → Takes [] [] 0 (map seen (drop 0 events)) (map seen events)
Takes-first seen events come = record { spells = refl; kept = tt; moment = refl; come = come }

-- the first of the rest can come
pub Takes-item : {A : Type 0} → (seen : A → GivenEvent) (events : List A) (at : ℕ) (item : A)
    (bytes : List ℕ) (pieces : List Piece) (last : ℕ) (all : List GivenEvent)
    → at < length events → item ≡ get_or events at item
    → Takes bytes pieces last (map seen (drop at events)) all
    → Takes bytes pieces last (seen item ∷ map seen (drop (at + 1) events)) all
Takes-item seen events at item bytes pieces last all within is takes =
    let P : List _ → Type 0 = λ rest. Takes bytes pieces last (map seen rest) all in
    let Q : _ → Type 0 = λ first. Takes bytes pieces last (seen first ∷ map seen (drop (at + 1) events)) all in
    subst Q (sym is) (subst P (drop_more events at item within) takes)

-- past the first of the rest
pub Takes-next : {A : Type 0} → (seen : A → GivenEvent) (events : List A) (at : ℕ) (item : A)
    (bytes : List ℕ) (pieces : List Piece) (last : ℕ) (all : List GivenEvent) (bytes' : List ℕ) (pieces' : List Piece)
    → at < length events → item ≡ get_or events at item
    → Takes bytes pieces last (map seen (drop at events)) all
    → events_from bytes' pieces' ≡ events_from bytes pieces ++ seen item ∷ []
    → AreEventsKept (length bytes') pieces'
    → Takes bytes' pieces' (seen item).event.moment (map seen (drop (at + 1) events)) all
Takes-next seen events at item bytes pieces last all bytes' pieces' within is takes more kept =
    let here = Takes-item seen events at item bytes pieces last all within is takes in
    record {
      spells = ap (λ (xs : List GivenEvent). xs ++ map seen (drop (at + 1) events)) more
          ∙ append_assoc (events_from bytes pieces) (seen item ∷ []) (map seen (drop (at + 1) events)) ∙ here.spells;
      kept = kept;
      moment = here.moment;
      come = here.come.1;
    }

-- at the end of the events
pub Takes-all : {A : Type 0} → (seen : A → GivenEvent) (events : List A) (at : ℕ)
    (bytes : List ℕ) (pieces : List Piece) (last : ℕ) (all : List GivenEvent)
    → length events ≤ at → Takes bytes pieces last (map seen (drop at events)) all → Takes bytes pieces last [] all
Takes-all seen events at bytes pieces last all end takes =
    let P : List _ → Type 0 = λ rest. Takes bytes pieces last (map seen rest) all in
    subst P (drop_all at events end) takes
