-- The actions of the moves of a graph.
use Rattle.std.specs.Prelude.{◌≡◌, ℕ, List}
use Rattle.ix_words.specs.Each.{Each, Member}
use Rattle.ix_values.specs.PlainAction.{PlainAction, Word}
use Rattle.ix_stuck.specs.declared.graph.Edge.{Edge}
use Rattle.ix_stuck.specs.inside.Graphs.{At}

-- there is an edge by the move of this number
pub record IsUsed (edges : List Edge) (k : ℕ) : Type 0 where
  pub edge : Edge
  pub among : Member edge edges
  pub by : edge.by ≡ k

-- the action is a move by which there is an edge
pub record HasEdgeBy (moves : Word) (edges : List Edge) (a : PlainAction) : Type 0 where
  pub number : ℕ
  pub at : At moves number a
  pub used : IsUsed edges number

-- the actions are those of all moves by which there is an edge
pub record AreComing (moves : Word) (edges : List Edge) (coming : Word) : Type 0 where
  pub only : Each (HasEdgeBy moves edges) coming
  pub all : (k : ℕ) (a : PlainAction) → At moves k a → IsUsed edges k → Member a coming
