-- Who wants a turn.
use Rattle.std.specs.Prelude.{ℕ, List, Bool}

-- who wants a turn, by their places; and from which place on the next one is sought
pub record TurnsState : Type 0 where
  pub wants : List Bool
  pub at : ℕ
