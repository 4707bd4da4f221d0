-- What the laws keep, as statements over the definitions alone.
use Rattle.std.specs.Prelude.{◌≡◌, ◌<◌, ◌↔◌, length}
use Rattle.ix_values.specs.PlainAction.{PlainAction, Word}
use Rattle.ix_expr.specs.Form.{Form}
use Rattle.ix_expr.specs.Environment.{Environment}
use Rattle.ix_expr.specs.FormFaults.{nodes_of}
use Rattle.ix_expr.specs.Meaning.{InAlphabet, IsComplete, IsPartial}
use Rattle.ix_simplify.specs.Rewriting.{Law, Becomes, HasNoLeftSide}

-- in every environment the expressions have the same complete words, the same partial words and the
-- same alphabet
pub record MeanTheSame (x y : Form) : Type 0 where
  pub complete : (e : Environment) (w : Word) → IsComplete x e w ↔ IsComplete y e w
  pub partial : (e : Environment) (w : Word) → IsPartial x e w ↔ IsPartial y e w
  pub alphabet : (e : Environment) (a : PlainAction) → InAlphabet x e a ↔ InAlphabet y e a

-- both sides of a law mean the same
abbrev pub SidesMeanTheSame : Type 0
SidesMeanTheSame = (x z : Form) → Law x z → MeanTheSame x z

-- each use of a law lowers the number of nodes
abbrev pub EachUseLowersTheNodes : Type 0
EachUseLowersTheNodes = (x z : Form) → Law x z → length (nodes_of z) < length (nodes_of x)

-- an expression and what it becomes mean the same
abbrev pub ResultsMeanTheSame : Type 0
ResultsMeanTheSame = (x s : Form) → Becomes x s → MeanTheSame x s

-- no left side of a law stands in what an expression becomes
abbrev pub ResultsHaveNoLeftSide : Type 0
ResultsHaveNoLeftSide = (x s : Form) → Becomes x s → HasNoLeftSide s

-- an expression becomes one expression
abbrev pub ResultsAreOne : Type 0
ResultsAreOne = (x s t : Form) → Becomes x s → Becomes x t → s ≡ t

-- what an expression becomes becomes itself
abbrev pub ResultsStay : Type 0
ResultsStay = (x s : Form) → Becomes x s → Becomes s s
