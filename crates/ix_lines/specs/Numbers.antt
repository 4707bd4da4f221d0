-- Decimal numbers in texts.
use Rattle.std.specs.Prelude.{◌≡◌, ℕ, ◌<◌, List, ◌∷◌, ◌++◌, decimal}

-- the text is a number below this bound in decimal digits without leading zeros
pub record IsNumber (bound : ℕ) (text : List ℕ) (number : ℕ) : Type 0 where
  pub same : text ≡ decimal number
  pub fits : number < bound

-- the text is such a number, a space, and the rest
pub record BeginsWithNumber (bound : ℕ) (text : List ℕ) (number : ℕ) (rest : List ℕ) : Type 0 where
  pub fits : number < bound
  pub split : text ≡ decimal number ++ 32 ∷ rest

-- the text begins with some number below this bound and a space
abbrev pub Begins : ℕ → List ℕ → Type 0
Begins bound text = (number : ℕ) × (rest : List ℕ) × BeginsWithNumber bound text number rest
