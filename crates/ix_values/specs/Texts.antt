-- Which texts are names and values, and which pairs of these are actions.
use Rattle.std.specs.Prelude.{ℕ, ◌<◌, ◌≤◌, Bool, false, IsTrue, List, [], ◌∷◌, length, All}
use Rattle.std.specs.List.{list_all}
use Rattle.ix_lines.specs.Bytes.{is_letter, is_word_byte}
use Rattle.ix_values.specs.PlainAction.{PlainAction}

-- the first byte is there, and is a letter
abbrev pub begins_with_letter : List ℕ → Bool
begins_with_letter [] = false
begins_with_letter (byte ∷ bytes) = is_letter byte

-- 1 to 32 word bytes, the first of them a letter
pub record IsName (text : List ℕ) : Type 0 where
  pub begins : IsTrue (begins_with_letter text)
  pub word : IsTrue (list_all is_word_byte text)
  pub short : length text ≤ 32

-- 1 to 32 word bytes
pub record IsValue (text : List ℕ) : Type 0 where
  pub begins : 0 < length text
  pub word : IsTrue (list_all is_word_byte text)
  pub short : length text ≤ 32

-- a name, and at most four values
pub record IsAction (action : PlainAction) : Type 0 where
  pub name : IsName action.name
  pub values : All IsValue action.values
  pub few : length action.values ≤ 4
