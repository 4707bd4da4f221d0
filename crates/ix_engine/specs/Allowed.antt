-- Which actions may come next.
use Rattle.std.specs.Prelude.{ℕ, ◌<◌, ◌≤◌, [], ◌∷◌, ◌++◌, length}
use Rattle.ix_engine.specs.Limits.{most_actions}
use Rattle.ix_values.specs.PlainAction.{PlainAction, Word}
use Rattle.ix_expr.specs.Form.{Form}
use Rattle.ix_expr.specs.Meaning.{IsPartial}
use Rattle.ix_can.specs.TreeOf.{tree_size}

-- an action is permitted after a history: the history extended by it is partial
abbrev pub IsPermitted : Form → Word → PlainAction → Type 0
IsPermitted x history a = IsPartial x [] (history ++ a ∷ [])

-- an action is allowed: it is permitted, there is room for it, and the Size of the tree of the
-- extended history is within the limit
pub record IsAllowed (x : Form) (limit : ℕ) (history : Word) (a : PlainAction) : Type 0 where
  pub permitted : IsPermitted x history a
  pub room : length history < most_actions
  pub within : tree_size x (history ++ a ∷ []) ≤ limit
