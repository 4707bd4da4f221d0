-- Events given, and those left.
use Rattle.std.proofs.Common.{◌≡◌, ℕ, zero, suc, ◌+◌, Bool, true, false, leb, List, [], ◌∷◌, ◌++◌, length, Some, None, refl, sym, ◌∙◌, ap, arith, add-one}
use Rattle.std.proofs.lemmas.Bool.{leb-true, leb-false}
use Rattle.std.proofs.lemmas.List.{length-take-le}
use Rattle.ix_outside.specs.Contents.{GivenEvent}
use Rattle.ix_script.specs.Events.{HasEvents}
use Rattle.ix_lines.specs.TextLines.{lines_of}
use Rattle.ix_script.specs.Pieces.{fitting, left_after, pieces_of}
use Rattle.ix_script.specs.inside.NextPiece.{next_piece, left_behind, IsNextPiece}
use Rattle.ix_script.specs.inside.Progress.{events_of, given_by, left_by}
use Rattle.ix_script.proofs.LeftEvents.{fitting-whole, fitting-front, left_after-whole}
use Rattle.ix_script.proofs.LineParts.{events_computed}

-- one more buffer
pub left_by-end : (rooms : List ℕ) (room : ℕ) (events : List GivenEvent) → left_by (rooms ++ room ∷ []) events ≡ left_after room (left_by rooms events)
left_by-end [] room events = refl
left_by-end (first ∷ rooms) room events = left_by-end rooms room (left_after first events)

left_by-none : (rooms : List ℕ) → left_by rooms [] ≡ []
left_by-none [] = refl
left_by-none (room ∷ rooms) = left_by-none rooms

none_next : (room : ℕ) (events : List GivenEvent) (piece : GivenEvent) → events ≡ [] → next_piece room events ≡ Some piece → ⊥
none_next room events piece none next = let same : None ≡ Some piece = sym (ap (next_piece room) none) ∙ next in cc

some_same : {x y : GivenEvent} → Some x ≡ Some y → x ≡ y
some_same e = cc

pub given_by-end : (rooms : List ℕ) (room : ℕ) (events : List GivenEvent) (piece : GivenEvent) → next_piece room (left_by rooms events) ≡ Some piece
    → given_by (rooms ++ room ∷ []) events ≡ given_by rooms events ++ piece ∷ []
given_by-end [] room [] piece next = absurd (none_next room [] piece refl next)
given_by-end [] room (given ∷ later) piece next = ap (λ p. p ∷ []) (some_same next)
given_by-end (first ∷ rooms) room [] piece next = absurd (none_next room (left_by rooms []) piece (left_by-none rooms) next)
given_by-end (first ∷ rooms) room (given ∷ later) piece next =
    ap (λ ps. fitting first given ∷ ps) (given_by-end rooms room (left_after first (given ∷ later)) piece next)

-- a piece leaves what its buffer leaves
same_left : (room : ℕ) (given : GivenEvent) (later : List GivenEvent) → left_after (length (fitting room given).bytes) (given ∷ later) ≡ left_after room (given ∷ later)
same_left room given [] = refl
same_left room given (next ∷ later) = by (leb (length given.bytes) room) refl
  where
    by : (test : Bool) → leb (length given.bytes) room ≡ test → left_after (length (fitting room given).bytes) (given ∷ next ∷ later) ≡ left_after room (given ∷ next ∷ later)
    by true fits =
        let least = leb-true (length given.bytes) room fits in
        ap (λ (p : GivenEvent). left_after (length p.bytes) (given ∷ next ∷ later)) (fitting-whole room given least)
        ∙ left_after-whole (length given.bytes) given (next ∷ later) (omega arith) (omega arith)
        ∙ sym (left_after-whole room given (next ∷ later) (omega arith) least)
    by false long =
        let above = leb-false (length given.bytes) room long in
        ap (λ (p : GivenEvent). left_after (length p.bytes) (given ∷ next ∷ later)) (fitting-front room given above)
        ∙ ap (λ n. left_after n (given ∷ next ∷ later)) (length-take-le room given.bytes (omega arith))

-- what is left behind the pieces that buffers got is what they leave
pub left_behind-given : (rooms : List ℕ) (events : List GivenEvent) → left_behind (given_by rooms events) events ≡ left_by rooms events
left_behind-given [] events = refl
left_behind-given (room ∷ rooms) [] = sym (left_by-none rooms)
left_behind-given (room ∷ rooms) (given ∷ later) =
    ap (left_behind (given_by rooms (left_after room (given ∷ later)))) (same_left room given later) ∙ left_behind-given rooms (left_after room (given ∷ later))

-- the next piece, for any events of the script
pub is_next : (room : ℕ) (bytes rooms : List ℕ) (piece : GivenEvent) → next_piece room (left_by rooms (events_of bytes)) ≡ Some piece
    → IsNextPiece room bytes (given_by rooms (events_of bytes)) piece
is_next room bytes rooms piece next = λ events has.
    let same = events_computed 0 (lines_of bytes) events has in
    ap (λ es. next_piece room (left_behind (given_by rooms (events_of bytes)) es)) same ∙ ap (next_piece room) (left_behind-given rooms (events_of bytes)) ∙ next

-- so many buffers of one length
same_rooms : ℕ → ℕ → List ℕ
same_rooms zero room = []
same_rooms (suc count) room = room ∷ same_rooms count room

same_rooms-end : (count room : ℕ) → same_rooms count room ++ room ∷ [] ≡ room ∷ same_rooms count room
unfolding same_rooms
same_rooms-end zero room = refl
same_rooms-end (suc count) room = ap (λ rooms. room ∷ rooms) (same_rooms-end count room)

pieces-given : (count room : ℕ) (events : List GivenEvent) → pieces_of room count events ≡ given_by (same_rooms count room) events
unfolding same_rooms
pieces-given zero room events = refl
pieces-given (suc count) room [] = refl
pieces-given (suc count) room (given ∷ later) = ap (λ ps. fitting room given ∷ ps) (pieces-given count room (left_after room (given ∷ later)))

more_pieces : (count room : ℕ) (events : List GivenEvent) (piece : GivenEvent) → next_piece room (left_behind (pieces_of room count events) events) ≡ Some piece
    → pieces_of room count events ++ piece ∷ [] ≡ pieces_of room (suc count) events
unfolding same_rooms
more_pieces count room events piece next =
    let rooms = same_rooms count room in
    let given = pieces-given count room events in
    let left = ap (λ g. left_behind g events) given ∙ left_behind-given rooms events in
    ap (λ g. g ++ piece ∷ []) given
    ∙ sym (given_by-end rooms room events piece (sym (ap (next_piece room) left) ∙ next))
    ∙ ap (λ rs. given_by rs events) (same_rooms-end count room)
    ∙ sym (pieces-given (suc count) room events)

-- The first pieces of a script, and then the one that comes next, are the first pieces, one more. A caller of `next_event` with buffers of
-- one length keeps this from one event to the next.
pub pieces-next : (count room : ℕ) (bytes : List ℕ) (events given : List GivenEvent) (piece : GivenEvent) → HasEvents bytes events → given ≡ pieces_of room count events
    → IsNextPiece room bytes given piece → given ++ piece ∷ [] ≡ pieces_of room (count + 1) events
pieces-next count room bytes events given piece has so_far next =
    ap (λ g. g ++ piece ∷ []) so_far
    ∙ more_pieces count room events piece (sym (ap (λ g. next_piece room (left_behind g events)) so_far) ∙ next events has)
    ∙ ap (λ n. pieces_of room n events) (sym (add-one count))
