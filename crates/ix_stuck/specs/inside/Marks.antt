-- Marks of the states that can end, and the word to a state that can't.
use Rattle.std.specs.Prelude.{◌≡◌, ℕ, ◌≤◌, Bool, true, false, List, get_or}
use Rattle.ix_values.specs.PlainAction.{Word}
use Rattle.ix_expr.specs.Form.{Form}
use Rattle.ix_tree.specs.Plain.{Plain}
use Rattle.ix_can.specs.TreeOf.{is_final}
use Rattle.ix_stuck.specs.Finishing.{IsOfMoves}
use Rattle.ix_stuck.specs.declared.graph.State.{State}
use Rattle.ix_stuck.specs.declared.graph.Edge.{Edge}
use Rattle.ix_stuck.specs.inside.Graphs.{At, CanEnd, run_of}

-- whether there is a mark at the place, and it is true
abbrev pub mark_at : List Bool → ℕ → Bool
mark_at marks i = get_or marks i false

-- each state that is marked can end
abbrev pub AreMarked : Form → Word → List State → List Bool → Type 0
AreMarked x moves states marks =
    (i : ℕ) (s : State) → At states i s → mark_at marks i ≡ true → CanEnd x moves s.tree

-- each edge to a marked state comes from a marked one
abbrev pub EdgesSettled : List Edge → List Bool → Type 0
EdgesSettled edges marks = (i : ℕ) (edge : Edge) → At edges i edge
    → mark_at marks edge.to ≡ true → mark_at marks edge.from ≡ true

-- each state that is final is marked
abbrev pub FinalsMarked : Form → List State → List Bool → Type 0
FinalsMarked x states marks =
    (i : ℕ) (s : State) → At states i s → is_final x s.tree ≡ true → mark_at marks i ≡ true

-- to each state without a mark at least so many moves lead
abbrev pub NoneNearer : List State → List Bool → ℕ → Type 0
NoneNearer states marks depth =
    (i : ℕ) (s : State) → At states i s → mark_at marks i ≡ false → depth ≤ s.depth

-- the word is over the moves, and leads to the tree
pub record LeadsTo (x : Form) (moves : Word) (root : Plain) (word : Word) (t : Plain) : Type 0 where
  pub over : IsOfMoves moves word
  pub tree : t ≡ run_of x root word
