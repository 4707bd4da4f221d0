-- The law of renewal, as a statement.
use Rattle.std.specs.Prelude.{◌≡◌, ◌↔◌, ℕ, ◌<◌, [], ◌++◌, length}
use Rattle.ix_values.specs.PlainAction.{PlainAction, Word}
use Rattle.ix_expr.specs.Form.{Form}
use Rattle.ix_expr.specs.FormFaults.{IsWellFormed}
use Rattle.ix_expr.specs.Meaning.{IsComplete, IsPartial}
use Rattle.ix_can.specs.TreeOf.{tree_of}
use Rattle.ix_engine.specs.Allowed.{IsAllowed}
use Rattle.ix_renew.specs.Carried.{IsCarriedFor}
use Rattle.ix_engine.specs.Limits.{most_actions}

-- the two words are answered alike: both are partial or neither is, both are complete or neither
-- is, their trees are equal, and an action is allowed behind both or behind neither while the
-- first of them has room for it
pub record AreAlike (x : Form) (limit : ℕ) (one other : Word) : Type 0 where
  pub partial : IsPartial x [] one ↔ IsPartial x [] other
  pub complete : IsComplete x [] one ↔ IsComplete x [] other
  pub tree : tree_of x [] one ≡ tree_of x [] other
  pub allowed : (a : PlainAction) → length one < most_actions
      → IsAllowed x limit one a ↔ IsAllowed x limit other a

-- behind a history and behind a word that is carried for it every later word is answered alike
abbrev pub RenewalChangesNoAnswer : Type 0
RenewalChangesNoAnswer = (x : Form) (limit : ℕ) (history word later : Word) → IsWellFormed x
    → IsCarriedFor x limit history word → AreAlike x limit (history ++ later) (word ++ later)
