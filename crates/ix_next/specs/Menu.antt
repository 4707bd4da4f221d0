-- What may come next: the candidates of which every action may come.
use Rattle.std.specs.Prelude.{◌≡◌, ℕ, true, false, List, [], ◌∷◌, ◌++◌, map}
use Rattle.ix_words.specs.Each.{Member}
use Rattle.ix_words.specs.Parts.{Projection}
use Rattle.ix_values.specs.PlainAction.{PlainAction, Word, values_of}
use Rattle.ix_expr.specs.Form.{Form}
use Rattle.ix_expr.specs.Meaning.{IsPartial}
use Rattle.ix_next.specs.Given.{PlainGiven}
use Rattle.ix_next.specs.declared.term.Term.TheVariants.{New}
use Rattle.ix_next.specs.Fixed.{fixed_in}
use Rattle.ix_next.specs.Candidates.{PlainCandidate, action_with, candidate_eq, candidates, once}

-- the values that aren't new: those of the history w, those fixed in x, and those given
abbrev pub known : Form → Word → List PlainGiven → List (List ℕ)
known x w given = values_of w ++ (fixed_in x ++ map (λ g. g.value) given)

-- the candidate stands for the action: for some values of its numbers, none of them known, and
-- different numbers having different values
pub record StandsForAction (x : Form) (w : Word) (given : List PlainGiven) (c : PlainCandidate)
    (a : PlainAction) : Type 0 where
  pub new : ℕ → List ℕ
  pub same : a ≡ action_with new c
  pub unknown : (i : ℕ) → Member (New i) c.terms → ¬ Member (new i) (known x w given)
  pub apart : (i j : ℕ) → Member (New i) c.terms → Member (New j) c.terms → new i ≡ new j → i ≡ j

-- each action that the candidate stands for may come next
abbrev pub MayCome : Form → Word → List PlainGiven → PlainCandidate → Type 0
MayCome x w given c = (a : PlainAction) → StandsForAction x w given c a
    → IsPartial x [] (w ++ a ∷ [])

-- the menu: of the candidates, each once, those that may come, in order
abbrev pub IsMenu : Form → Word → List PlainGiven → List PlainCandidate → Type 0
IsMenu x w given menu =
    Projection (MayCome x w given) (once candidate_eq (candidates true x given)) menu

-- the moves: the actions of the candidates without new values, each once, in order; no number
-- stands in them, so it doesn't matter which value is given here
abbrev pub moves : Form → List PlainGiven → List PlainAction
moves x given = map (action_with (λ n. 48 ∷ [])) (once candidate_eq (candidates false x given))
