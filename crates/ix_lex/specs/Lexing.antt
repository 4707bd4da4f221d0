-- What a text is cut into: tokens by longest runs, up to its end or to the first byte that begins
-- no token.
use Rattle.std.specs.Prelude.{◌≡◌, ℕ, suc, ◌+◌, true, false, List, [], ◌∷◌, ◌++◌, length, Some}
use Rattle.std.specs.Prelude.{None}
use Rattle.std.specs.List.{list_all}
use Rattle.ix_lex.specs.declared.TokenKind.{TokenKind}
use Rattle.ix_lex.specs.declared.TokenKind.TheVariants.{Word, Param}
use Rattle.ix_lex.specs.WordBytes.{is_blank, sign_of, begins}
use Rattle.ix_lines.specs.Bytes.{is_letter, is_word_byte}

-- a token: its kind, its bytes, and where it starts and ends in the text
pub record PlainToken : Type 0 where
  pub kind : TokenKind
  pub bytes : List ℕ
  pub start : ℕ
  pub end : ℕ

-- what a text is cut into: tokens, and a fault at the place of a bad byte
pub data Piece : Type 0 where
  token : PlainToken → Piece
  bad_byte : ℕ → Piece

-- a text `bytes ++ rest` begins with a token of this kind, whose bytes are `bytes`
pub data BeginsWith : TokenKind → List ℕ → List ℕ → Type 0 where
  -- a longest run of word bytes
  word : (b : ℕ) (bs rest : List ℕ) → list_all is_word_byte (b ∷ bs) ≡ true
      → begins is_word_byte rest ≡ false → BeginsWith Word (b ∷ bs) rest
  -- `$`, and a longest run of word bytes whose first is a letter
  param : (b : ℕ) (bs rest : List ℕ) → is_letter b ≡ true → list_all is_word_byte (b ∷ bs) ≡ true
      → begins is_word_byte rest ≡ false → BeginsWith Param (36 ∷ b ∷ bs) rest
  -- a sign of one byte
  sign : (kind : TokenKind) (b : ℕ) (rest : List ℕ) → sign_of b ≡ Some kind
      → BeginsWith kind (b ∷ []) rest

-- a byte, with what follows it, is neither a blank nor the begin of a token
pub record BeginsNothing (b : ℕ) (rest : List ℕ) : Type 0 where
  pub not_blank : is_blank b ≡ false
  pub no_word : is_word_byte b ≡ false
  pub no_param : b ≡ 36 → begins is_letter rest ≡ false
  pub no_sign : sign_of b ≡ None

-- the pieces of a text that starts at this place
pub data Pieces : ℕ → List ℕ → List Piece → Type 0 where
  -- the end of the text
  done : (at : ℕ) → Pieces at [] []
  -- a blank means nothing
  blank : (at b : ℕ) (rest : List ℕ) (pieces : List Piece) → is_blank b ≡ true
      → Pieces (suc at) rest pieces → Pieces at (b ∷ rest) pieces
  -- a token, and the pieces of what follows it
  next : (at : ℕ) (kind : TokenKind) (bytes rest : List ℕ) (pieces : List Piece)
      → BeginsWith kind bytes rest → Pieces (at + length bytes) rest pieces
      → Pieces at (bytes ++ rest)
      (token (record { kind = kind; bytes = bytes; start = at; end = at + length bytes }) ∷ pieces)
  -- a byte that begins no token: nothing comes after it
  bad : (at b : ℕ) (rest : List ℕ) → BeginsNothing b rest → Pieces at (b ∷ rest) (bad_byte at ∷ [])
