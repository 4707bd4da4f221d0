-- An engine as contracts see it, and what follows it.
use Rattle.std.specs.Prelude.{◌≡◌, ℕ, ◌<◌, ◌≤◌, false, [], ◌∷◌, ◌++◌, length}
use Rattle.ix_engine.specs.Limits.{most_actions}
use Rattle.ix_values.specs.PlainAction.{PlainAction, Word}
use Rattle.ix_expr.specs.Form.{Form}
use Rattle.ix_tree.specs.Plain.{Plain}
use Rattle.ix_tree.specs.Size.{size_of}
use Rattle.ix_can.specs.Nodes.{is_dead}
use Rattle.ix_can.specs.TreeOf.{tree_of}
use Rattle.ix_engine.specs.Allowed.{IsAllowed, IsPermitted}

-- the expression, the confirmed actions, the most that the Size of their tree may be, and how many
-- more actions have their memory already
pub record EngineState : Type 0 where
  pub form : Form
  pub history : Word
  pub limit : ℕ
  pub spare : ℕ

-- the history extended_by by the action
abbrev pub extended_by : EngineState → PlainAction → Word
extended_by s a = s.history ++ a ∷ []

-- the action is permitted after the engine's history
abbrev pub Permits : EngineState → PlainAction → Type 0
Permits s a = IsPermitted s.form s.history a

-- the action is allowed after the engine's history
abbrev pub Allows : EngineState → PlainAction → Type 0
Allows s a = IsAllowed s.form s.limit s.history a

-- a prepared action follows the engine: there is room for it, and the tree is that of the history
-- extended_by by it, live and within the limit
pub record IsTreeAfter (s : EngineState) (a : PlainAction) (t : Plain) : Type 0 where
  pub room : length s.history < most_actions
  pub tree : t ≡ tree_of s.form [] (extended_by s a)
  pub live : is_dead t ≡ false
  pub within : size_of t ≤ s.limit
