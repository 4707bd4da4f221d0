-- The first pieces of a script, one by one.
use Rattle.std.proofs.Common.{◌≡◌, ℕ, zero, suc, Bool, true, false, cond, leb, List, [], ◌∷◌, ◌++◌, length, take, Some, refl, sym, ◌∙◌, ap, arith}
use Rattle.std.proofs.lemmas.Bool.{le-leb, leb-false}
use Rattle.std.proofs.lemmas.List.{length-take-le, length_push}
use Rattle.ix_outside.specs.Contents.{GivenEvent}
use Rattle.ix_script.specs.Events.{bytes_event}
use Rattle.ix_script.specs.Pieces.{fitting, rest_behind, left_after, pieces_of}
use Rattle.ix_script.specs.inside.NextPiece.{next_piece, left_behind}

-- what is left behind an event by a test whether it fits
left_by_test : Bool → ℕ → GivenEvent → GivenEvent → List GivenEvent → List GivenEvent
left_by_test fits count given next later = cond fits (next ∷ later) (rest_behind count given ∷ next ∷ later)

-- the lengths of what fits a buffer
fitting_length : (room : ℕ) (given : GivenEvent) (test : Bool) → leb (length given.bytes) room ≡ test
    → length (fitting room given).bytes ≡ cond test (length given.bytes) room
fitting_length room given true is = ap (λ (t : Bool). length (GivenEvent.bytes (cond t given (bytes_event given.event.moment given.event.conn (take room given.bytes))))) is
fitting_length room given false is =
    ap (λ (t : Bool). length (GivenEvent.bytes (cond t given (bytes_event given.event.moment given.event.conn (take room given.bytes))))) is
    ∙ length-take-le room given.bytes (let long = leb-false (length given.bytes) room is in omega (arith, long))

-- what a piece leaves is what its buffer leaves
left_same : (room : ℕ) (given : GivenEvent) (later : List GivenEvent) → left_after (length (fitting room given).bytes) (given ∷ later) ≡ left_after room (given ∷ later)
left_same room given [] = refl
left_same room given (next ∷ later) = by (leb (length given.bytes) room) refl
  where
    by : (test : Bool) → leb (length given.bytes) room ≡ test → left_after (length (fitting room given).bytes) (given ∷ next ∷ later) ≡ left_after room (given ∷ next ∷ later)
    by true is =
        ap (λ n. left_after n (given ∷ next ∷ later)) (fitting_length room given true is)
        ∙ ap (λ t. cond t (next ∷ later) (rest_behind (length given.bytes) given ∷ next ∷ later)) (le-leb (length given.bytes) (length given.bytes) (omega arith))
        ∙ sym (ap (λ t. cond t (next ∷ later) (rest_behind room given ∷ next ∷ later)) is)
    by false is = ap (λ n. left_after n (given ∷ next ∷ later)) (fitting_length room given false is)

-- one piece more
pub pieces_push : (room count : ℕ) (events : List GivenEvent) (piece : GivenEvent) → next_piece room (left_behind (pieces_of room count events) events) ≡ Some piece
    → pieces_of room (suc count) events ≡ pieces_of room count events ++ piece ∷ []
pieces_push room zero [] piece next = cc
pieces_push room zero (given ∷ later) piece next = let same : fitting room given ≡ piece = cc in ap (λ p. p ∷ []) same
pieces_push room (suc count) [] piece next = cc
pieces_push room (suc count) (given ∷ later) piece next =
    ap (λ ps. fitting room given ∷ ps)
    (pieces_push room count (left_after room (given ∷ later)) piece
    (ap (λ events. next_piece room (left_behind (pieces_of room count (left_after room (given ∷ later))) events)) (sym (left_same room given later)) ∙ next))

-- the first pieces, and the next
pub first_push : (events given : List GivenEvent) (piece : GivenEvent) → given ≡ pieces_of 4096 (length given) events → next_piece 4096 (left_behind given events) ≡ Some piece
    → given ++ piece ∷ [] ≡ pieces_of 4096 (length (given ++ piece ∷ [])) events
first_push events given piece first next =
    let longer : suc (length given) ≡ length (given ++ piece ∷ []) = omega (arith, length_push given piece) in
    ap (λ ps. ps ++ piece ∷ []) first
    ∙ sym (pieces_push 4096 (length given) events piece (ap (λ ps. next_piece 4096 (left_behind ps events)) (sym first) ∙ next))
    ∙ ap (λ n. pieces_of 4096 n events) longer
