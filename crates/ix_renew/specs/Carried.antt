-- What word may stand in place of a history.
use Rattle.std.specs.Prelude.{◌≡◌, ℕ, ◌≤◌, [], length}
use Rattle.ix_engine.specs.Limits.{most_actions}
use Rattle.ix_values.specs.PlainAction.{Word}
use Rattle.ix_expr.specs.Form.{Form}
use Rattle.ix_can.specs.TreeOf.{tree_of}
use Rattle.ix_engine.specs.Histories.{AreAllowed}

-- the word may be carried in place of the history: each of its actions is allowed behind those in
-- front of it, its tree is the history's, and it has no more actions
pub record IsCarriedFor (x : Form) (limit : ℕ) (history word : Word) : Type 0 where
  pub allowed : AreAllowed x limit word
  pub tree : tree_of x [] word ≡ tree_of x [] history
  pub few : length word ≤ length history
