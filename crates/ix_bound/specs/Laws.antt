-- The laws of the bound, as statements.
use Rattle.std.specs.Prelude.{◌≡◌, ℕ, ◌≤◌, length, None}
use Rattle.ix_words.specs.Canon.{canon}
use Rattle.ix_values.specs.Order.{text_cmp}
use Rattle.ix_values.specs.PlainAction.{Word, values_of}
use Rattle.ix_expr.specs.Form.{Form}
use Rattle.ix_expr.specs.Environment.{Environment}
use Rattle.ix_expr.specs.FormFaults.{Fits, IsWellFormed}
use Rattle.ix_tree.specs.Size.{size_of}
use Rattle.ix_can.specs.TreeOf.{tree_of, tree_size}
use Rattle.ix_bound.specs.declared.answer.Bound.TheVariants.{Within}
use Rattle.ix_bound.specs.Number.{bound_of}
use Rattle.ix_bound.specs.Refusals.{codes_of, first_refused}
use Rattle.ix_bound.specs.Bounds.{IsBound}

-- the word has at most k different values
abbrev pub HasAtMost : Word → ℕ → Type 0
HasAtMost w k = length (canon text_cmp (values_of w)) ≤ k

-- where no node of the expression is refused, its tree of a word with at most k different values is
-- at most as large as its bound
abbrev pub SizesAreBounded : Type 0
SizesAreBounded = (x : Form) (e : Environment) (w : Word) (k : ℕ) → Fits x e
    → first_refused 0 (codes_of x) ≡ None → HasAtMost w k → size_of (tree_of x e w) ≤ bound_of x k

-- so a limit of at least the bound that was told isn't passed by a word with at most k different
-- values
abbrev pub BoundsSuffice : Type 0
BoundsSuffice = (x : Form) (w : Word) (k number limit : ℕ) → IsWellFormed x
    → IsBound x k (Within number) → HasAtMost w k → number ≤ limit → tree_size x w ≤ limit
