-- A token, blanks or a bad byte at the front of a text tell its computed pieces.
use Rattle.std.proofs.Common.{◌≡◌, ℕ, suc, ◌+◌, Bool, true, false, eqb, List, [], ◌∷◌, ◌++◌, length, Some, refl, ap, ◌∙◌, arith, ◌&&◌, eqb-true}
use Rattle.std.specs.List.{list_all}
use Rattle.ix_lex.specs.declared.TokenKind.{TokenKind}
use Rattle.ix_lex.specs.declared.TokenKind.TheVariants.{Word, Param}
use Rattle.ix_lex.specs.WordBytes.{is_blank, sign_of, begins}
use Rattle.ix_lines.specs.Bytes.{is_letter, is_word_byte}
use Rattle.ix_lex.specs.Lexing.{Piece, token, bad_byte, BeginsWith, BeginsNothing}
use Rattle.ix_lex.specs.inside.Items.{grown, single_fault, with_byte, item_pieces}
use Rattle.ix_lex.proofs.ByteClasses.{blank-no_word, blank-no_dollar, sign-no_other}

pub both_true : (a b : Bool) → a && b ≡ true → (a ≡ true) × (b ≡ true)
both_true true b e = (refl, e)
both_true false b e = absurd cc

-- what a byte in front does, by its class
module _ (at b : ℕ) (rest : List ℕ) (pieces : List Piece) where
  pub with_byte-grow : is_word_byte b ≡ true → begins is_word_byte rest ≡ true → with_byte at b rest pieces ≡ grown Word at b pieces
  with_byte-grow word more = rw (word, more) refl

  pub with_byte-word : is_word_byte b ≡ true → begins is_word_byte rest ≡ false → with_byte at b rest pieces ≡ single_fault (Some Word) at b pieces
  with_byte-word word ends = rw (word, ends) refl

  pub with_byte-blank : is_blank b ≡ true → with_byte at b rest pieces ≡ pieces
  with_byte-blank blank =
      let word = blank-no_word b blank in
      let dollar = blank-no_dollar b blank in
      rw (word, dollar, blank) refl

  pub with_byte-sign : (kind : TokenKind) → sign_of b ≡ Some kind → with_byte at b rest pieces ≡ single_fault (Some kind) at b pieces
  with_byte-sign kind is_sign =
      let other = sign-no_other b kind is_sign in
      rw (other.no_word, other.no_dollar, other.not_blank, is_sign) refl

  pub with_byte-bad : BeginsNothing b rest → with_byte at b rest pieces ≡ bad_byte at ∷ []
  with_byte-bad bad = bad-by (eqb b 36) refl
    where
      bad-by : (v : Bool) → eqb b 36 ≡ v → with_byte at b rest pieces ≡ bad_byte at ∷ []
      bad-by true same = let no_letter = bad.no_param (eqb-true b 36 same) in rw (bad.no_word, same, no_letter) refl
      bad-by false differs = rw (bad.no_word, differs, bad.not_blank, bad.no_sign) refl

pub with_byte-param : (at : ℕ) (rest : List ℕ) (pieces : List Piece) → begins is_letter rest ≡ true → with_byte at 36 rest pieces ≡ grown Param at 36 pieces
with_byte-param at rest pieces letter = rw letter refl

-- a token that ends at n, and the pieces from there on
abbrev pub token_then : TokenKind → List ℕ → ℕ → List ℕ → ℕ → List Piece
token_then kind bytes at rest n = token (record { kind = kind; bytes = bytes; start = at; end = n }) ∷ item_pieces n rest

-- a word at the front is the first piece
pub pieces_of-word : (at b : ℕ) (bs rest : List ℕ) → list_all is_word_byte (b ∷ bs) ≡ true → begins is_word_byte rest ≡ false → item_pieces at (b ∷ bs ++ rest) ≡ token_then Word (b ∷ bs) at rest (at + suc (length bs))
unfolding item_pieces
pieces_of-word at b [] rest all ends =
    let first = (both_true (is_word_byte b) true all).0 in
    let end : suc at ≡ at + 1 = omega arith in
    with_byte-word at b rest _ first ends ∙ ap (token_then Word (b ∷ []) at rest) end
pieces_of-word at b (c ∷ bs) rest all ends =
    let firsts = both_true (is_word_byte b) (list_all is_word_byte (c ∷ bs)) all in
    let second = (both_true (is_word_byte c) (list_all is_word_byte bs) firsts.1).0 in
    let more = pieces_of-word (suc at) c bs rest firsts.1 ends in
    let end : suc at + suc (length bs) ≡ at + suc (suc (length bs)) = omega arith in
    with_byte-grow at b (c ∷ bs ++ rest) _ firsts.0 second ∙ ap (grown Word at b) more ∙ ap (token_then Word (b ∷ c ∷ bs) at rest) end

-- a parameter at the front is the first piece
pub pieces_of-param : (at b : ℕ) (bs rest : List ℕ) → is_letter b ≡ true → list_all is_word_byte (b ∷ bs) ≡ true → begins is_word_byte rest ≡ false → item_pieces at (36 ∷ b ∷ bs ++ rest) ≡ token_then Param (36 ∷ b ∷ bs) at rest (at + suc (suc (length bs)))
unfolding item_pieces
pieces_of-param at b bs rest letter all ends =
    let more = pieces_of-word (suc at) b bs rest all ends in
    let end : suc at + suc (length bs) ≡ at + suc (suc (length bs)) = omega arith in
    with_byte-param at (b ∷ bs ++ rest) _ letter ∙ ap (grown Param at 36) more ∙ ap (token_then Param (36 ∷ b ∷ bs) at rest) end

-- a sign at the front is the first piece
pub pieces_of-sign : (at b : ℕ) (kind : TokenKind) (rest : List ℕ) → sign_of b ≡ Some kind → item_pieces at (b ∷ rest) ≡ token_then kind (b ∷ []) at rest (at + 1)
unfolding item_pieces
pieces_of-sign at b kind rest is_sign =
    let end : suc at ≡ at + 1 = omega arith in
    with_byte-sign at b rest _ kind is_sign ∙ ap (token_then kind (b ∷ []) at rest) end

-- the token that a text begins with is its first piece
pub pieces_of-token : (at : ℕ) (kind : TokenKind) (bytes rest : List ℕ) → BeginsWith kind bytes rest → item_pieces at (bytes ++ rest) ≡ token_then kind bytes at rest (at + length bytes)
pieces_of-token at _ _ _ (BeginsWith.word b bs rest all ends) = pieces_of-word at b bs rest all ends
pieces_of-token at _ _ _ (BeginsWith.param b bs rest letter all ends) = pieces_of-param at b bs rest letter all ends
pieces_of-token at _ _ _ (BeginsWith.sign kind b rest is_sign) = pieces_of-sign at b kind rest is_sign

-- a bad byte is the last piece
pub pieces_of-bad : (at b : ℕ) (rest : List ℕ) → BeginsNothing b rest → item_pieces at (b ∷ rest) ≡ bad_byte at ∷ []
unfolding item_pieces
pieces_of-bad at b rest bad = with_byte-bad at b rest _ bad

-- blanks at the front mean nothing
pub pieces_of-blanks : (at : ℕ) (bs rest : List ℕ) → list_all is_blank bs ≡ true → item_pieces at (bs ++ rest) ≡ item_pieces (at + length bs) rest
unfolding item_pieces
pieces_of-blanks at [] rest all = let end : at ≡ at + 0 = omega arith in ap (λ n. item_pieces n rest) end
pieces_of-blanks at (b ∷ bs) rest all =
    let both = both_true (is_blank b) (list_all is_blank bs) all in
    let end : suc at + length bs ≡ at + suc (length bs) = omega arith in
    with_byte-blank at b (bs ++ rest) _ both.0 ∙ pieces_of-blanks (suc at) bs rest both.1 ∙ ap (λ n. item_pieces n rest) end

-- nothing is left at the end
pub pieces_of-end : (at : ℕ) → item_pieces at [] ≡ []
unfolding item_pieces
pieces_of-end at = refl
