-- Which atoms match no action that is still to come.
use Rattle.std.specs.Prelude.{◌≡◌, ℕ, List, [], ◌∷◌, ◌++◌, map}
use Rattle.std.specs.List.{flat_map}
use Rattle.ix_words.specs.Parts.{Projection}
use Rattle.ix_values.specs.PlainAction.{PlainAction, Word}
use Rattle.ix_expr.specs.Form.{PlainAtom, Form, atom}
use Rattle.ix_expr.specs.Environment.{Environment, Matches}
use Rattle.ix_expr.specs.Meaning.{IsPartial}
use Rattle.ix_lint.specs.Nodes.{forms, numbered}
use Rattle.ix_stuck.specs.Finishing.{IsOfMoves}

-- the node, if it is an atom
abbrev pub atom_at : ℕ → Form → List (ℕ × PlainAtom)
atom_at n (atom x) = (n, x) ∷ []
atom_at n x = []

-- the atoms in pre-order, each with the number of its node, counted from n
abbrev pub numbered_atoms : ℕ → Form → List (ℕ × PlainAtom)
numbered_atoms n x = flat_map (λ node. atom_at node.0 node.1) (numbered n (forms x))

-- the word can go on with some moves, of which the last is an action that the atom matches under
-- some environment
pub record ComesAgain (x : Form) (moves w : Word) (atom : PlainAtom) : Type 0 where
  pub between : Word
  pub action : PlainAction
  pub over : IsOfMoves moves (between ++ action ∷ [])
  pub partial : IsPartial x [] (w ++ (between ++ action ∷ []))
  pub environment : Environment
  pub matches : Matches atom environment action

-- these are the numbers of all atoms that match no action by which the word can go on, in pre-order
pub record AreGone (x : Form) (moves w : Word) (nodes : List ℕ) : Type 0 where
  pub gone : List (ℕ × PlainAtom)
  pub kept : Projection (λ place. ¬ ComesAgain x moves w place.1) (numbered_atoms 0 x) gone
  pub numbers : nodes ≡ map (λ (place : ℕ × PlainAtom). place.0) gone
