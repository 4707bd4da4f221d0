-- What a search by some rules keeps.
use Rattle.std.specs.Prelude.{◌≡◌, ℕ, ◌<◌, ◌≤◌, true, false, List, [], ◌++◌, Option, Some, None}
use Rattle.std.specs.Prelude.{Result, Ok, Err}
use Rattle.ix_words.specs.Each.{Each}
use Rattle.ix_values.specs.PlainAction.{PlainAction, Word}
use Rattle.ix_expr.specs.Form.{Form}
use Rattle.ix_expr.specs.FormFaults.{IsWellFormed}
use Rattle.ix_expr.specs.inside.FormOf.{form_of}
use Rattle.ix_tree.specs.Plain.{Plain, is_dead}
use Rattle.ix_tree.specs.Size.{size_of}
use Rattle.ix_can.specs.inside.Moved.{moved}
use Rattle.ix_step.specs.inside.Limits.{most_size}
use Rattle.ix_stuck.specs.declared.rules.Rules.{Rules}
use Rattle.ix_stuck.specs.declared.graph.State.{State}
use Rattle.ix_stuck.specs.declared.graph.Edge.{Edge}
use Rattle.ix_stuck.specs.declared.graph.Halt.{Halt}
use Rattle.ix_stuck.specs.declared.graph.Halt.TheVariants.{Large}
use Rattle.ix_stuck.specs.Answers.{HasLargeTree}
use Rattle.ix_stuck.specs.inside.Graphs.{At, IsTree, IsLed, IsEdge, IsGraph, Halts}

-- the expression of the rules
abbrev pub form : Rules → Form
form r = form_of r.expr.now

-- a search may begin
pub record CanSearch (r : Rules) : Type 0 where
  pub formed : IsWellFormed (form r)
  pub empty : r.env.now ≡ []
  pub least : 1 ≤ r.limits.nodes
  pub most : r.limits.nodes ≤ most_size
  pub tree : IsTree (form r) r.start.now
  pub live : is_dead r.start.now ≡ false
  pub small : size_of r.start.now ≤ r.limits.nodes

-- some moves lead to the tree
abbrev pub Led : Rules → Plain → Type 0
Led r t = IsLed (form r) r.moves.now r.limits.nodes r.start.now t

-- the search has come to the state at the place n and to the move m
abbrev pub HoldsUpTo : Rules → List State → List Edge → ℕ → ℕ → Type 0
HoldsUpTo r states edges n m =
    IsGraph (form r) r.moves.now r.limits.nodes r.start.now states edges n m

-- why the search ended
abbrev pub Stops : Rules → Halt → Type 0
Stops r halt = Halts (form r) r.moves.now r.limits.nodes r.start.now halt

-- the tree behind the action, or none where the action may not come, or it is above the limit
abbrev pub IsNextTree : Rules → Plain → PlainAction → Result (Option Plain) Halt → Type 0
IsNextTree r t a (Ok None) = is_dead (moved (form r) [] t a) ≡ true
IsNextTree r t a (Ok (Some next)) = (next ≡ moved (form r) [] t a) × (is_dead next ≡ false)
    × (size_of next ≤ r.limits.nodes)
IsNextTree r t a (Err Large) = r.limits.nodes < size_of (moved (form r) [] t a)
IsNextTree r t a (Err halt) = Unit {0}

-- the move of this number leads from the state at this place to the tree, which is live and within
-- the limit
pub record Joins (r : Rules) (states : List State) (i k : ℕ) (t : Plain) : Type 0 where
  pub source : State
  pub action : PlainAction
  pub at_source : At states i source
  pub by_action : At r.moves.now k action
  pub tree : t ≡ moved (form r) [] source.tree action
  pub live : is_dead t ≡ false
  pub small : size_of t ≤ r.limits.nodes

-- there are more states behind those that there were
pub record Grows (old new : List State) : Type 0 where
  pub more : List State
  pub is : new ≡ old ++ more

-- the state at this place has this tree
pub record HasTreeAt (states : List State) (i : ℕ) (t : Plain) : Type 0 where
  pub state : State
  pub at : At states i state
  pub tree : state.tree ≡ t

-- the edges are moves between the states
abbrev pub EdgesAre : Rules → List State → List Edge → Type 0
EdgesAre r states edges = Each (IsEdge (form r) r.moves.now states) edges

-- what the end of a search tells of the words over the moves
abbrev pub EndTells : Form → Word → ℕ → Halt → Type 0
EndTells x moves limit Large = HasLargeTree x moves limit
EndTells x moves limit halt = Unit {0}
