-- The first token of a text, as the code finds it.
use Rattle.std.specs.Prelude.{ℕ, List, length, take, drop, ◌≤◌}
use Rattle.ix_lex.specs.declared.TokenKind.{TokenKind}
use Rattle.ix_lex.specs.Lexing.{BeginsWith}

-- a text begins with a token of this kind and length
abbrev pub FirstToken : TokenKind → ℕ → List ℕ → Type 0
FirstToken kind n bytes = (n ≤ length bytes) × BeginsWith kind (take n bytes) (drop n bytes)
