-- What the menu claims, as statements.
use Rattle.std.specs.Prelude.{◌≡◌, ◌⊎◌, ℕ, true, List, [], ◌∷◌, ◌++◌, Some}
use Rattle.ix_words.specs.Each.{Member}
use Rattle.ix_values.specs.PlainAction.{PlainAction, Word}
use Rattle.ix_expr.specs.declared.arg.Arg.TheVariants.{Param}
use Rattle.ix_expr.specs.Form.{PlainAtom, Form}
use Rattle.ix_expr.specs.Environment.{Environment, Matches, value_in}
use Rattle.ix_expr.specs.Meaning.{IsPartial}
use Rattle.ix_next.specs.Given.{PlainGiven}
use Rattle.ix_expr.specs.Atoms.{atoms_of}
use Rattle.ix_next.specs.Candidates.{PlainCandidate, values_for, candidates}
use Rattle.ix_next.specs.Menu.{known, StandsForAction, IsMenu}

-- the value is one that the parameter p gets, or a new one
abbrev pub IsTried : Form → Word → List PlainGiven → List ℕ → List ℕ → Type 0
IsTried x w given p v = Member v (values_for x given p) ⊎ ¬ Member v (known x w given)

-- an atom of the expression matches the action, and each of the atom's parameters has there a value
-- that is given for it, or fixed in the expression, or new
pub record HasTriedValues (x : Form) (w : Word) (given : List PlainGiven) (a : PlainAction)
    : Type 0 where
  pub atom : PlainAtom
  pub among : Member atom (atoms_of x)
  pub environment : Environment
  pub matches : Matches atom environment a
  pub tried : (p v : List ℕ) → Member (Param p) atom.arguments → value_in environment p ≡ Some v
      → IsTried x w given p v

-- a candidate of the list stands for the action
pub record IsTold (x : Form) (w : Word) (given : List PlainGiven) (menu : List PlainCandidate)
    (a : PlainAction) : Type 0 where
  pub candidate : PlainCandidate
  pub among : Member candidate menu
  pub stands : StandsForAction x w given candidate a

-- each action that may come next, and whose values are given for their parameters, or fixed, or
-- new, is what some candidate of the menu stands for
abbrev pub TheMenuIsComplete : Type 0
TheMenuIsComplete = (x : Form) (w : Word) (given : List PlainGiven) (menu : List PlainCandidate)
    (a : PlainAction) → IsMenu x w given menu → IsPartial x [] (w ++ a ∷ [])
    → HasTriedValues x w given a
    → IsTold x w given menu a

-- each candidate of the menu stands for some action that may come next, and for none that may not
pub record StandsForSome (x : Form) (w : Word) (given : List PlainGiven) (c : PlainCandidate)
    : Type 0 where
  pub action : PlainAction
  pub stands : StandsForAction x w given c action
  pub may_come : IsPartial x [] (w ++ action ∷ [])
  pub each_may_come : (a : PlainAction) → StandsForAction x w given c a
      → IsPartial x [] (w ++ a ∷ [])

abbrev pub TheMenuIsSound : Type 0
TheMenuIsSound = (x : Form) (w : Word) (given : List PlainGiven) (menu : List PlainCandidate)
    (c : PlainCandidate) → IsMenu x w given menu → Member c menu → StandsForSome x w given c

-- of the actions that a candidate stands for, all may come next or none
abbrev pub CandidatesStandOrFall : Type 0
CandidatesStandOrFall = (x : Form) (w : Word) (given : List PlainGiven) (c : PlainCandidate)
    (a b : PlainAction) → Member c (candidates true x given) → StandsForAction x w given c a
    → StandsForAction x w given c b → IsPartial x [] (w ++ a ∷ []) → IsPartial x [] (w ++ b ∷ [])
