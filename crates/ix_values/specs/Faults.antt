-- Why a text isn't an action's: the place and the code.
use Rattle.std.specs.Prelude.{◌≡◌, ℕ, ◌≤◌, ◌⊎◌, Some, List, [], ◌∷◌, ◌++◌, length, take, slice_get}
use Rattle.std.specs.Prelude.{IsTrue, IsSomeAnd}
use Rattle.ix_lines.specs.Bytes.{is_word_byte}
use Rattle.ix_values.specs.PlainAction.{PlainAction, text_of}
use Rattle.ix_values.specs.Texts.{IsName, IsValue, IsAction}

-- the text is some action's
pub record IsActionText (text : List ℕ) : Type 0 where
  pub action : PlainAction
  pub valid : IsAction action
  pub same : text ≡ text_of action

-- the text is a prefix of some action's text
pub record BeginsAction (text : List ℕ) : Type 0 where
  pub action : PlainAction
  pub rest : List ℕ
  pub valid : IsAction action
  pub same : text ++ rest ≡ text_of action

-- the greatest number of bytes of the text that are a prefix of some action's text
pub record IsFaultPlace (text : List ℕ) (at : ℕ) : Type 0 where
  pub within : at ≤ length text
  pub goes_on : BeginsAction (take at text)
  pub greatest : (k : ℕ) → k ≤ length text → BeginsAction (take k text) → k ≤ at

-- the text ends in a name or a value of 32 bytes
pub record EndsInLongest (text : List ℕ) : Type 0 where
  pub front : List ℕ
  pub last : List ℕ
  pub same : text ≡ front ++ last
  pub kind : IsName last ⊎ IsValue last
  pub longest : length last ≡ 32

-- the text ends in a fourth value: behind it only `)` is missing
pub record EndsInFourthValue (text : List ℕ) : Type 0 where
  pub action : PlainAction
  pub valid : IsAction action
  pub four : length action.values ≡ 4
  pub same : text ++ 41 ∷ [] ≡ text_of action

-- too long: a name or value of 32 bytes, and a word byte behind it
abbrev pub IsTooLong : List ℕ → ℕ → Type 0
IsTooLong text at = EndsInLongest (take at text)
    × IsSomeAnd (slice_get text at) (λ byte. IsTrue (is_word_byte byte))

-- too many arguments: a fourth value, and `,` behind it
abbrev pub IsTooMany : List ℕ → ℕ → Type 0
IsTooMany text at = EndsInFourthValue (take at text) × (slice_get text at ≡ Some 44)

-- a row of the table: where it applies it gives its code, and else the rows below it do
abbrev pub Row : Type 0 → ℕ → (ℕ → Type 0) → ℕ → Type 0
Row Applies code below given = (Applies × (given ≡ code)) ⊎ ((¬ Applies) × below given)

-- 4 too long, 3 too many arguments, 1 name, 5 trailing, 2 argument: the first that applies
abbrev pub IsFaultCode : List ℕ → ℕ → ℕ → Type 0
IsFaultCode text at =
    Row (IsTooLong text at) 4 (
    Row (IsTooMany text at) 3 (
    Row (at ≡ 0) 1 (
    Row (IsActionText (take at text)) 5 (
    λ given. given ≡ 2))))

-- the text isn't an action's, and this is the fault that is told of it
pub record IsFault (text : List ℕ) (code at : ℕ) : Type 0 where
  pub no_action : ¬ IsActionText text
  pub place : IsFaultPlace text at
  pub row : IsFaultCode text at code
