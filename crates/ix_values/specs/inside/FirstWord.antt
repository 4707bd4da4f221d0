-- The words of the reader's own functions.
use Rattle.std.specs.Prelude.{ℕ, Option, Some, None, ◌==◌, List, [], ◌∷◌, ◌++◌, take, if◌then◌else◌}
use Rattle.std.specs.List.{prefix_len, flat_map}
use Rattle.ix_lines.specs.Bytes.{is_word_byte}

-- how many word bytes the text begins with, at most 32 of them
abbrev pub word_length : List ℕ → ℕ
word_length text = prefix_len is_word_byte (take 32 text)

-- these bytes themselves
abbrev pub first_word : List ℕ → List ℕ
first_word text = take (word_length text) text

-- the name, `(`, and each of the values with a comma behind it
abbrev pub opened : List ℕ → List (List ℕ) → List ℕ
opened name values = name ++ 40 ∷ flat_map (λ value. value ++ 44 ∷ []) values

-- the code of what stands behind a name, where that is neither the end nor `(`
abbrev pub code_after_name : ℕ → ℕ
code_after_name byte = if is_word_byte byte then 4 else 5

-- the code of what stands behind a value, where that is neither `)` nor a comma that may stand
-- there
abbrev pub code_after_value : Option ℕ → ℕ
code_after_value None = 2
code_after_value (Some byte) = if byte == 44 then 3 else (if is_word_byte byte then 4 else 2)
