-- Given values: their texts, and the parameters that they go to.
use Rattle.std.specs.Prelude.{◌≡◌, ℕ, Bool, true, List, [], ◌∷◌, ◌++◌, Option, Some, None}
use Rattle.std.specs.List.{flat_map}
use Rattle.ix_words.specs.Canon.{when}
use Rattle.ix_values.specs.Order.{text_eq}
use Rattle.ix_values.specs.Texts.{IsName, IsValue}

-- a given value, and the parameter that it goes to, or every one
pub record PlainGiven : Type 0 where
  pub parameter : Option (List ℕ)
  pub value : List ℕ

-- a parameter's name and `=` in front of the value, or the value alone
abbrev pub text_for : Option (List ℕ) → List ℕ → List ℕ
text_for None v = v
text_for (Some p) v = p ++ 61 ∷ v

-- the text of a given value
abbrev pub given_text : PlainGiven → List ℕ
given_text g = text_for g.parameter g.value

-- nothing, or a name
abbrev pub MayBeName : Option (List ℕ) → Type 0
MayBeName None = Unit {0}
MayBeName (Some p) = IsName p

-- the text is that of this given value
pub record IsGivenText (text : List ℕ) (g : PlainGiven) : Type 0 where
  pub parameter : MayBeName g.parameter
  pub value : IsValue g.value
  pub same : text ≡ given_text g

-- every parameter, or this one
abbrev pub goes_to : List ℕ → Option (List ℕ) → Bool
goes_to p None = true
goes_to p (Some q) = text_eq q p

-- the values that are given for the parameter p, in the order in which they are given
abbrev pub given_for : List ℕ → List PlainGiven → List (List ℕ)
given_for p given = flat_map (λ g. when (goes_to p g.parameter) (g.value ∷ [])) given
