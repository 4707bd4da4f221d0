-- The first line of a text that isn't in a grammar.
use Rattle.std.specs.Prelude.{◌≡◌, ℕ, ◌+◌, List, ◌∷◌, ◌++◌}
use Rattle.std.specs.List.{AllByRecursion}
use Rattle.ix_lines.specs.TextLines.{lines_of, bytes_of}

-- The lines before one hold, and that one fails with this code. The place of its fault is counted
-- in the text's bytes.
pub record IsFirstLineFault (Holds : List ℕ → Type 0) (Fails : List ℕ → ℕ → ℕ → Type 0)
    (bytes : List ℕ) (code at : ℕ) : Type 0 where
  pub before : List (List ℕ)
  pub bad : List ℕ
  pub behind : List (List ℕ)
  pub within : ℕ
  pub split : lines_of bytes ≡ before ++ bad ∷ behind
  pub good : AllByRecursion Holds before
  pub fault : Fails bad code within
  pub place : at ≡ bytes_of before + within
