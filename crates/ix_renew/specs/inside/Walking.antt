-- The trees of words over the rules of a renewal.
use Rattle.std.specs.Prelude.{◌≡◌, ◌≤◌, [], ◌∷◌, ◌++◌, length}
use Rattle.std.specs.Prelude.{Option, Some, None}
use Rattle.ix_values.specs.PlainAction.{PlainAction, Word}
use Rattle.ix_expr.specs.Form.{Form}
use Rattle.ix_expr.specs.FormFaults.{IsWellFormed}
use Rattle.ix_expr.specs.inside.FormOf.{form_of}
use Rattle.ix_tree.specs.Plain.{Plain}
use Rattle.ix_tree.specs.Size.{size_of}
use Rattle.ix_can.specs.TreeOf.{tree_of, tree_size}
use Rattle.ix_step.specs.inside.Limits.{most_size}
use Rattle.ix_engine.specs.Allowed.{IsPermitted}
use Rattle.ix_renew.specs.declared.rules.Rules.{Rules}
use Rattle.ix_renew.specs.Carried.{IsCarriedFor}
use Rattle.ix_engine.specs.Limits.{most_actions}

-- the expression of the rules
abbrev pub rules_form : Rules → Form
rules_form r = form_of r.expr.now

-- the trees are those of the empty word and of the history, and steps may be made
pub record CanWalk (r : Rules) : Type 0 where
  pub formed : IsWellFormed (rules_form r)
  pub empty : r.env.now ≡ []
  pub most : r.limit ≤ most_size
  pub first : r.first.now ≡ tree_of (rules_form r) [] []
  pub small : size_of r.first.now ≤ r.limit
  pub last : r.last.now ≡ tree_of (rules_form r) [] r.history.now
  pub last_small : size_of r.last.now ≤ r.limit
  pub few : length r.history.now ≤ most_actions

-- the word may be carried in place of the history
abbrev pub IsCarried : Rules → Word → Type 0
IsCarried r word = IsCarriedFor (rules_form r) r.limit r.history.now word

-- a step may be made from the tree: it is that of some word, and within the limit
pub record IsSteppable (r : Rules) (t : Plain) : Type 0 where
  pub word : Word
  pub tree : t ≡ tree_of (rules_form r) [] word
  pub small : size_of t ≤ r.limit

-- the tree is that of the word extended by an action, and this is partial
pub record IsExtended (r : Rules) (word : Word) (a : PlainAction) (next : Plain) : Type 0 where
  pub tree : next ≡ tree_of (rules_form r) [] (word ++ a ∷ [])
  pub permitted : IsPermitted (rules_form r) word a

-- the word extended by the action is partial, and its tree is within the limit
pub record MayStand (r : Rules) (word : Word) (a : PlainAction) : Type 0 where
  pub permitted : IsPermitted (rules_form r) word a
  pub within : tree_size (rules_form r) (word ++ a ∷ []) ≤ r.limit

-- the tree behind the action, or none where the action may not follow any word of this tree
abbrev pub IsTreeBehind : Rules → Plain → PlainAction → Option Plain → Type 0
IsTreeBehind r t a None =
    (word : Word) → t ≡ tree_of (rules_form r) [] word → ¬ MayStand r word a
IsTreeBehind r t a (Some next) = IsSteppable r next
    × ((word : Word) → t ≡ tree_of (rules_form r) [] word → IsExtended r word a next)
