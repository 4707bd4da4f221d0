-- The words of a line behind its first one.
use Rattle.std.specs.Prelude.{ℕ, Option, Some, None, List, [], ◌∷◌, ◌==◌, false, ◌≡◌}
use Rattle.std.specs.List.{list_any}
use Rattle.ix_lines.specs.Words.{words_of}

-- the words behind a word, of which there are none where no space ends it
abbrev pub words_behind : Option (List ℕ) → List (List ℕ)
words_behind None = []
words_behind (Some text) = words_of text

-- what stands behind a word: nothing, or a space and a text
abbrev pub behind_word : Option (List ℕ) → List ℕ
behind_word None = []
behind_word (Some text) = 32 ∷ text

-- no byte is a space
abbrev pub HasNoSpace : List ℕ → Type 0
HasNoSpace text = list_any (λ byte. byte == 32) text ≡ false
