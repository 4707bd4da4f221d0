-- States, and the moves between them.
use Rattle.std.specs.Prelude.{◌≡◌, ◌⊎◌, ℕ, ◌+◌, ◌<◌, ◌≤◌, true, false, List, [], ◌∷◌, length}
use Rattle.std.specs.Prelude.{get_or}
use Rattle.ix_words.specs.Each.{Each, Member}
use Rattle.ix_values.specs.PlainAction.{PlainAction, Word}
use Rattle.ix_expr.specs.Form.{Form}
use Rattle.ix_tree.specs.Plain.{Plain, is_dead}
use Rattle.ix_tree.specs.Size.{size_of}
use Rattle.ix_can.specs.inside.Moved.{moved}
use Rattle.ix_can.specs.TreeOf.{tree_of, is_final}
use Rattle.ix_stuck.specs.Finishing.{IsOfMoves}
use Rattle.ix_stuck.specs.declared.graph.State.{State}
use Rattle.ix_stuck.specs.declared.graph.Edge.{Edge}
use Rattle.ix_stuck.specs.declared.graph.Halt.{Halt}
use Rattle.ix_stuck.specs.declared.graph.Halt.TheVariants.{Memory, Large, Many, Unconfirmed}

-- the tree that some actions lead to
abbrev pub run_of : Form → Plain → Word → Plain
run_of x t [] = t
run_of x t (a ∷ w) = run_of x (moved x [] t a) w

-- the item stands at the place i
pub record At {A : Type 0} (xs : List A) (i : ℕ) (a : A) : Type 0 where
  pub within : i < length xs
  pub is : a ≡ get_or xs i a

-- the tree is that of a word
abbrev pub IsTree : Form → Plain → Type 0
IsTree x t = (w : Word) × (t ≡ tree_of x [] w)

-- some moves lead from the root to the tree, which is live and within the limit
pub record IsLed (x : Form) (moves : Word) (limit : ℕ) (root t : Plain) : Type 0 where
  pub word : Word
  pub over : IsOfMoves moves word
  pub tree : t ≡ run_of x root word
  pub live : is_dead t ≡ false
  pub small : size_of t ≤ limit

-- the edge is a move from a state to another, which is at most one step farther
pub record IsEdge (x : Form) (moves : Word) (states : List State) (edge : Edge) : Type 0 where
  pub source : State
  pub action : PlainAction
  pub target : State
  pub at_source : At states edge.from source
  pub by_action : At moves edge.by action
  pub at_target : At states edge.to target
  pub tree : target.tree ≡ moved x [] source.tree action
  pub near : target.depth ≤ source.depth + 1

-- there is an edge from the state at this place by the move of this number
pub record HasEdge (edges : List Edge) (i k : ℕ) : Type 0 where
  pub edge : Edge
  pub among : Member edge edges
  pub source : edge.from ≡ i
  pub by : edge.by ≡ k

-- the place i and the move k stand before the place n and the move m
abbrev pub IsBefore : ℕ → ℕ → ℕ → ℕ → Type 0
IsBefore i k n m = (i < n) ⊎ ((i ≡ n) × (k < m))

-- the first state is the root
pub record HasRoot (root : Plain) (states : List State) : Type 0 where
  pub state : State
  pub at : At states 0 state
  pub tree : state.tree ≡ root
  pub depth : state.depth ≡ 0

-- all states are led to and all edges are moves, and each move from a state before the place n and
-- the move m is dead or has an edge
pub record IsGraph (x : Form) (moves : Word) (limit : ℕ) (root : Plain) (states : List State)
    (edges : List Edge) (n m : ℕ) : Type 0 where
  pub begun : HasRoot root states
  pub led : Each (λ s. IsLed x moves limit root s.tree) states
  pub moves_are : Each (IsEdge x moves states) edges
  pub closed : (i k : ℕ) (s : State) (a : PlainAction) → IsBefore i k n m → At states i s
      → At moves k a → (is_dead (moved x [] s.tree a) ≡ true) ⊎ HasEdge edges i k

-- all moves from all states are dead or have an edge
abbrev pub IsWhole : Form → Word → ℕ → Plain → List State → List Edge → Type 0
IsWhole x moves limit root states edges =
    IsGraph x moves limit root states edges (length states) 0

-- some moves lead from the root to a tree above the limit
pub record HasLarge (x : Form) (moves : Word) (limit : ℕ) (root : Plain) : Type 0 where
  pub word : Word
  pub over : IsOfMoves moves word
  pub large : limit < size_of (run_of x root word)

-- why the search from the root ended
abbrev pub Halts : Form → Word → ℕ → Plain → Halt → Type 0
Halts x moves limit root Memory = Unit {0}
Halts x moves limit root Large = HasLarge x moves limit root
Halts x moves limit root Many = Unit {0}
Halts x moves limit root Unconfirmed = Unit {0}

-- some moves lead from the tree to a final one
pub record CanEnd (x : Form) (moves : Word) (t : Plain) : Type 0 where
  pub word : Word
  pub over : IsOfMoves moves word
  pub final : is_final x (run_of x t word) ≡ true
