-- What is left of events.
use Rattle.std.proofs.Common.{◌≡◌, ℕ, ◌<◌, ◌≤◌, min, Bool, true, false, cond, leb, List, [], ◌∷◌, length, take, drop, Some, refl, sym, ◌∙◌, ap, arith, length-drop}
use Rattle.std.proofs.lemmas.Bool.{le-leb, lt-leb, leb-true, leb-false}
use Rattle.std.proofs.lemmas.List.{take_all, drop_all}
use Rattle.ix_outside.specs.Contents.{GivenEvent}
use Rattle.ix_script.specs.Events.{bytes_event}
use Rattle.ix_script.specs.Pieces.{fitting, rest_behind, left_after}
use Rattle.ix_script.specs.inside.NextPiece.{next_piece}
use Rattle.ix_script.specs.inside.Progress.{with_bytes, events_at}

-- an event that fits is given whole
pub fitting-whole : (room : ℕ) (given : GivenEvent) → length given.bytes ≤ room → fitting room given ≡ given
fitting-whole room given fits = ap (λ t. cond t given (bytes_event given.event.moment given.event.conn (take room given.bytes))) (le-leb (length given.bytes) room fits)

-- a longer one by its front
pub fitting-front : (room : ℕ) (given : GivenEvent) → room < length given.bytes → fitting room given ≡ bytes_event given.event.moment given.event.conn (take room given.bytes)
fitting-front room given long = ap (λ t. cond t given (bytes_event given.event.moment given.event.conn (take room given.bytes))) (lt-leb (length given.bytes) room long)

pub left_after-whole : (room : ℕ) (given : GivenEvent) (later : List GivenEvent) → 0 < length later → length given.bytes ≤ room → left_after room (given ∷ later) ≡ later
left_after-whole room given [] some fits = absurd (omega arith)
left_after-whole room given (next ∷ later) some fits = ap (λ t. cond t (next ∷ later) (rest_behind room given ∷ next ∷ later)) (le-leb (length given.bytes) room fits)

pub left_after-front : (room : ℕ) (given : GivenEvent) (later : List GivenEvent) → 0 < length later → room < length given.bytes → left_after room (given ∷ later) ≡ rest_behind room given ∷ later
left_after-front room given [] some long = absurd (omega arith)
left_after-front room given (next ∷ later) some long = ap (λ t. cond t (next ∷ later) (rest_behind room given ∷ next ∷ later)) (lt-leb (length given.bytes) room long)

-- some events are left, the end at least
pub events_some : (moment : ℕ) (lines : List (List ℕ)) → 0 < length (events_at moment lines)
events_some moment [] = omega arith
events_some moment (line ∷ lines) = omega arith

pub with_bytes-some : (moment conn : ℕ) (bytes : List ℕ) (later : List GivenEvent) → 0 < length bytes → with_bytes moment conn bytes later ≡ bytes_event moment conn bytes ∷ later
with_bytes-some moment conn [] later some = absurd (omega arith)
with_bytes-some moment conn (byte ∷ bytes) later some = refl

pub with_bytes-none : (moment conn : ℕ) (bytes : List ℕ) (later : List GivenEvent) → bytes ≡ [] → with_bytes moment conn bytes later ≡ later
with_bytes-none moment conn bytes later none = ap (λ bs. with_bytes moment conn bs later) none

pub with_bytes-more : (moment conn : ℕ) (bytes : List ℕ) (later : List GivenEvent) → 0 < length later → 0 < length (with_bytes moment conn bytes later)
with_bytes-more moment conn [] later some = some
with_bytes-more moment conn (byte ∷ bytes) later some = omega arith

-- a piece of the open bytes
pub next_open : (room count moment conn : ℕ) (bytes : List ℕ) (later : List GivenEvent) → 0 < length bytes → count ≡ min (length bytes) room
    → next_piece room (with_bytes moment conn bytes later) ≡ Some (bytes_event moment conn (take count bytes))
next_open room count moment conn bytes later some is =
    ap (next_piece room) (with_bytes-some moment conn bytes later some) ∙ ap Some (by (leb (length bytes) room) refl)
  where
    by : (test : Bool) → leb (length bytes) room ≡ test → fitting room (bytes_event moment conn bytes) ≡ bytes_event moment conn (take count bytes)
    by true fits =
        let least = leb-true (length bytes) room fits in
        fitting-whole room (bytes_event moment conn bytes) least ∙ ap (bytes_event moment conn) (sym (take_all count bytes (omega arith)))
    by false long =
        let above = leb-false (length bytes) room long in
        let same : room ≡ count = omega arith in
        fitting-front room (bytes_event moment conn bytes) above ∙ ap (λ n. bytes_event moment conn (take n bytes)) same

pub left_open : (room count moment conn : ℕ) (bytes : List ℕ) (later : List GivenEvent) → 0 < length later → 0 < length bytes → count ≡ min (length bytes) room
    → with_bytes moment conn (drop count bytes) later ≡ left_after room (with_bytes moment conn bytes later)
left_open room count moment conn bytes later more some is =
    by (leb (length bytes) room) refl ∙ sym (ap (left_after room) (with_bytes-some moment conn bytes later some))
  where
    by : (test : Bool) → leb (length bytes) room ≡ test → with_bytes moment conn (drop count bytes) later ≡ left_after room (bytes_event moment conn bytes ∷ later)
    by true fits =
        let least = leb-true (length bytes) room fits in
        with_bytes-none moment conn (drop count bytes) later (drop_all count bytes (omega arith)) ∙ sym (left_after-whole room (bytes_event moment conn bytes) later more least)
    by false long =
        let above = leb-false (length bytes) room long in
        let same : count ≡ room = omega arith in
        let left : 0 < length (drop count bytes) = omega (arith, length-drop count bytes) in
        with_bytes-some moment conn (drop count bytes) later left ∙ ap (λ n. bytes_event moment conn (drop n bytes) ∷ later) same
        ∙ sym (left_after-front room (bytes_event moment conn bytes) later more above)

-- an event without bytes
pub bare_next : (room : ℕ) (given : GivenEvent) (events later : List GivenEvent) → events ≡ given ∷ later → length given.bytes ≡ 0 → next_piece room events ≡ Some given
bare_next room given events later first none = ap (next_piece room) first ∙ ap Some (fitting-whole room given (omega arith))

pub bare_left : (room : ℕ) (given : GivenEvent) (events later : List GivenEvent) → events ≡ given ∷ later → length given.bytes ≡ 0 → 0 < length later → later ≡ left_after room events
bare_left room given events later first none some = sym (ap (left_after room) first ∙ left_after-whole room given later some (omega arith))
