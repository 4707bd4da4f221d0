-- Who comes next out of turn.
use Rattle.std.specs.Prelude.{◌≡◌, ℕ, Bool, true, false, cond, Option, None, Some}

-- the connection on which an action was granted just now, if there is one; and whether the last
-- event came in its turn
pub record HoldState : Type 0 where
  pub holder : Option ℕ
  pub in_turn : Bool

-- behind a grant on this connection
abbrev pub held_by : ℕ → HoldState → HoldState
held_by place hold = cond hold.in_turn (record { holder = Some place; in_turn = false }) hold

-- nobody is the holder behind an event; and where nobody was, the event came in its turn
abbrev pub ComesByHold : HoldState → HoldState → Type 0
ComesByHold old new = (new.holder ≡ None) × (old.holder ≡ None → new.in_turn ≡ true)

-- only behind an event that came in its turn somebody becomes the holder
abbrev pub GrantsInTurn : HoldState → HoldState → Type 0
GrantsInTurn old new = old.in_turn ≡ false → new ≡ old
