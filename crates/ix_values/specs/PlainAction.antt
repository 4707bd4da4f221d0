-- Actions and words as contracts see them, and the text of an action.
use Rattle.std.specs.Prelude.{ℕ, List, [], ◌∷◌, ◌++◌}
use Rattle.std.specs.List.{flat_map}

-- a name, and the values in the order of their places
pub record PlainAction : Type 0 where
  pub name : List ℕ
  pub values : List (List ℕ)

-- a list of actions
abbrev pub Word : Type 0
Word = List PlainAction

-- all values of a word's actions
abbrev pub values_of : Word → List (List ℕ)
values_of = flat_map (λ action. action.values)

-- further values, each behind a comma, and the closing parenthesis
abbrev pub text_of_rest : List (List ℕ) → List ℕ
text_of_rest [] = 41 ∷ []
text_of_rest (value ∷ values) = 44 ∷ value ++ text_of_rest values

-- nothing where there are no values, else the values in parentheses
abbrev pub text_of_values : List (List ℕ) → List ℕ
text_of_values [] = []
text_of_values (value ∷ values) = 40 ∷ value ++ text_of_rest values

-- the name, then nothing or `(`, the values with commas between them, and `)`
abbrev pub text_of : PlainAction → List ℕ
text_of action = action.name ++ text_of_values action.values
