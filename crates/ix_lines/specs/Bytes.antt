-- The bytes that words are made of, all of them ASCII.
use Rattle.std.specs.Prelude.{ℕ, Bool, ◌||◌, ◌==◌}
use Rattle.std.specs.Char.{is_ascii_alphabetic, is_ascii_alphanumeric}

-- `A` to `Z` and `a` to `z`
abbrev pub is_letter : ℕ → Bool
is_letter byte = is_ascii_alphabetic byte

-- a letter, a digit or `_`
abbrev pub is_word_byte : ℕ → Bool
is_word_byte byte = is_ascii_alphanumeric byte || (byte == 95)
