-- Whose turn it is: round by round, each place that wants one has it once in a round.
use Rattle.std.specs.Prelude.{◌≡◌, ◌≢◌, ℕ, ◌<◌, ◌≤◌, ◌+◌, List, [], ◌∷◌, length, Bool, true, false}
use Rattle.std.specs.Prelude.{get_or, Option, None, Some}

-- the first place at or behind this one where a turn is wanted; or there is none
abbrev pub IsNextTurn : List Bool → ℕ → Option ℕ → Type 0
IsNextTurn wants from (Some place) = (from ≤ place) × (get_or wants place false ≡ true)
    × ((between : ℕ) → from ≤ between → between < place → get_or wants between false ≡ false)
IsNextTurn wants from None = (place : ℕ) → from ≤ place → get_or wants place false ≡ false

-- behind the place that has its turn; or at the first, where a round is over
abbrev pub place_behind : Option ℕ → ℕ
place_behind (Some place) = place + 1
place_behind None = 0

-- the turns that others have, in order, while this one of 64 places wants its own; the next one is
-- sought from a place on; who else wants one may change at any time
pub data WaitsFor (mine : ℕ) : ℕ → List ℕ → Type 0 where
  no_more : {from : ℕ} → WaitsFor mine from []
  turn : (wants : List Bool) {from place : ℕ} {others : List ℕ} → length wants ≡ 64
      → get_or wants mine false ≡ true → IsNextTurn wants from (Some place) → place ≢ mine
      → WaitsFor mine (place_behind (Some place)) others → WaitsFor mine from (place ∷ others)
  round_over : (wants : List Bool) {from : ℕ} {others : List ℕ} → length wants ≡ 64
      → get_or wants mine false ≡ true → IsNextTurn wants from None
      → WaitsFor mine (place_behind None) others → WaitsFor mine from others

-- whoever wants a turn waits for at most 63 turns of others
abbrev pub NobodyIsPassedOver : Type 0
NobodyIsPassedOver =
    (mine from : ℕ) (others : List ℕ) → WaitsFor mine from others → length others ≤ 63
