-- Which values of an action an expression sees.
use Rattle.std.specs.Prelude.{◌≡◌, ℕ, List, length}
use Rattle.std.specs.List.{zip}
use Rattle.ix_words.specs.Each.{Member}
use Rattle.ix_values.specs.PlainAction.{PlainAction}
use Rattle.ix_expr.specs.declared.arg.Arg.TheVariants.{Param}
use Rattle.ix_expr.specs.Form.{PlainAtom, Form}
use Rattle.ix_expr.specs.Atoms.{SomeAtom}

-- by its parameter p the atom sees the value v of the action: it has the action's name and as many
-- arguments as the action has values, and p stands in a place where the action's value is v
pub record AtomSees (x : PlainAtom) (p v : List ℕ) (a : PlainAction) : Type 0 where
  pub named : x.name ≡ a.name
  pub counted : length x.arguments ≡ length a.values
  pub placed : Member (Param p, v) (zip x.arguments a.values)

-- some atom of the expression sees by p the value v of the action; one below a quantifier that
-- binds p anew counts too
abbrev pub Sees : Form → List ℕ → List ℕ → PlainAction → Type 0
Sees x p v a = SomeAtom (λ s. AtomSees s p v a) x
