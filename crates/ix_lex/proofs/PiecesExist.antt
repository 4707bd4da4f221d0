-- The computed pieces of a text are pieces of it, and a text has no others.
use Rattle.std.proofs.Common.{◌≡◌, ℕ, suc, ◌+◌, Bool, true, false, eqb, List, [], ◌∷◌, ◌++◌, length, Option, Some, None, refl, sym, ap, ◌∙◌, subst, arith, eqb-true}
use Rattle.ix_lex.specs.declared.TokenKind.{TokenKind}
use Rattle.ix_lex.specs.declared.TokenKind.TheVariants.{Word, Param}
use Rattle.ix_lex.specs.WordBytes.{is_blank, sign_of, begins}
use Rattle.ix_lines.specs.Bytes.{is_letter, is_word_byte}
use Rattle.ix_lex.specs.Lexing.{Piece, token, Pieces, BeginsWith, BeginsNothing}
use Rattle.ix_lex.specs.inside.Items.{grown, single_fault, with_byte, item_pieces}
use Rattle.ix_lex.proofs.ByteClasses.{blank-no_word, letter-word, sign-no_other}
use Rattle.ix_lex.proofs.PiecesOf.{with_byte-grow, with_byte-word, with_byte-blank, with_byte-sign, with_byte-bad, with_byte-param, pieces_of-token, pieces_of-bad}

-- a token at this place, which ends at n, whose end is where what follows starts
next-at : (at n : ℕ) (kind : TokenKind) (bytes rest : List ℕ) (pieces : List Piece) → n ≡ at + length bytes → BeginsWith kind bytes rest → Pieces n rest pieces → Pieces at (bytes ++ rest) (token (record { kind = kind; bytes = bytes; start = at; end = n }) ∷ pieces)
next-at at n kind bytes rest pieces e first more =
    subst (λ m. Pieces at (bytes ++ rest) (token (record { kind = kind; bytes = bytes; start = at; end = m }) ∷ pieces)) (sym e) (Pieces.next at kind bytes rest pieces first (subst (λ m. Pieces m rest pieces) e more))

-- a word byte in front of a word
grown-word-by : (at from b : ℕ) (kind : TokenKind) (bytes rest : List ℕ) (pieces : List Piece) → from ≡ suc at → is_word_byte b ≡ true → begins is_word_byte (bytes ++ rest) ≡ true → BeginsWith kind bytes rest → Pieces (from + length bytes) rest pieces → Pieces at (b ∷ bytes ++ rest) (token (record { kind = Word; bytes = b ∷ bytes; start = at; end = from + length bytes }) ∷ pieces)
grown-word-by at from b _ _ _ pieces e is_word more (BeginsWith.word c bs rest all ends) after = next-at at (from + suc (length bs)) Word (b ∷ c ∷ bs) rest pieces (omega arith) (BeginsWith.word b (c ∷ bs) rest (rw is_word all) ends) after
grown-word-by at from b _ _ _ pieces e is_word more (BeginsWith.param c bs rest letter all ends) after = absurd cc
grown-word-by at from b _ _ _ pieces e is_word more (BeginsWith.sign kind c rest is_sign) after = let other = (sign-no_other c kind is_sign).no_word in absurd cc

grown-word : (at from b : ℕ) (rest : List ℕ) (pieces : List Piece) → from ≡ suc at → is_word_byte b ≡ true → begins is_word_byte rest ≡ true → Pieces from rest pieces → Pieces at (b ∷ rest) (grown Word at b pieces)
grown-word at _ b _ _ e is_word more (Pieces.done from) = absurd cc
grown-word at _ b _ _ e is_word more (Pieces.blank from c rest pieces blank after) = let no_word = blank-no_word c blank in absurd cc
grown-word at _ b _ _ e is_word more (Pieces.next from kind bytes rest pieces first after) = grown-word-by at from b kind bytes rest pieces e is_word more first after
grown-word at _ b _ _ e is_word more (Pieces.bad from c rest bad) = let no_word = bad.no_word in absurd cc

-- `$` in front of a word whose first byte is a letter
grown-param-by : (at from : ℕ) (kind : TokenKind) (bytes rest : List ℕ) (pieces : List Piece) → from ≡ suc at → begins is_letter (bytes ++ rest) ≡ true → BeginsWith kind bytes rest → Pieces (from + length bytes) rest pieces → Pieces at (36 ∷ bytes ++ rest) (token (record { kind = Param; bytes = 36 ∷ bytes; start = at; end = from + length bytes }) ∷ pieces)
grown-param-by at from _ _ _ pieces e letter (BeginsWith.word c bs rest all ends) after = next-at at (from + suc (length bs)) Param (36 ∷ c ∷ bs) rest pieces (omega arith) (BeginsWith.param c bs rest letter all ends) after
grown-param-by at from _ _ _ pieces e letter (BeginsWith.param c bs rest _ all ends) after = absurd cc
grown-param-by at from _ _ _ pieces e letter (BeginsWith.sign kind c rest is_sign) after = let other = (sign-no_other c kind is_sign).no_word in let word = letter-word c letter in absurd cc

grown-param : (at from : ℕ) (rest : List ℕ) (pieces : List Piece) → from ≡ suc at → begins is_letter rest ≡ true → Pieces from rest pieces → Pieces at (36 ∷ rest) (grown Param at 36 pieces)
grown-param at _ _ _ e letter (Pieces.done from) = absurd cc
grown-param at _ _ _ e letter (Pieces.blank from c rest pieces blank after) = let no_word = blank-no_word c blank in let word = letter-word c letter in absurd cc
grown-param at _ _ _ e letter (Pieces.next from kind bytes rest pieces first after) = grown-param-by at from kind bytes rest pieces e letter first after
grown-param at _ _ _ e letter (Pieces.bad from c rest bad) = let no_word = bad.no_word in let word = letter-word c letter in absurd cc

-- a byte in front of a text whose pieces are known
module _ (at b : ℕ) (rest : List ℕ) (pieces : List Piece) (known : Pieces (suc at) rest pieces) where
  -- by what `with_byte` computes to
  as-one : (kind : TokenKind) → BeginsWith kind (b ∷ []) rest → Pieces at (b ∷ rest) (single_fault (Some kind) at b pieces)
  as-one kind first = next-at at (suc at) kind (b ∷ []) rest pieces (omega arith) first known

  in-word : (m : Bool) → begins is_word_byte rest ≡ m → is_word_byte b ≡ true → Pieces at (b ∷ rest) (with_byte at b rest pieces)
  in-word true more word = subst (Pieces at (b ∷ rest)) (sym (with_byte-grow at b rest pieces word more)) (grown-word at (suc at) b rest pieces refl word more known)
  in-word false ends word = subst (Pieces at (b ∷ rest)) (sym (with_byte-word at b rest pieces word ends)) (as-one Word (BeginsWith.word b [] rest (rw word refl) ends))

  at-bad : BeginsNothing b rest → Pieces at (b ∷ rest) (with_byte at b rest pieces)
  at-bad bad = subst (Pieces at (b ∷ rest)) (sym (with_byte-bad at b rest pieces bad)) (Pieces.bad at b rest bad)

  at-dollar : (m : Bool) → begins is_letter rest ≡ m → b ≡ 36 → Pieces at (b ∷ rest) (with_byte at b rest pieces)
  at-dollar true letter e =
      let family : ℕ → Type 0 = λ n. Pieces at (n ∷ rest) (with_byte at n rest pieces) in
      subst family (sym e) (subst (Pieces at (36 ∷ rest)) (sym (with_byte-param at rest pieces letter)) (grown-param at (suc at) rest pieces refl letter known))
  at-dollar false none e =
      at-bad (record { not_blank = ap is_blank e; no_word = ap is_word_byte e; no_param = λ _. none; no_sign = ap sign_of e })

  at-other : (sign : Option TokenKind) → sign_of b ≡ sign → is_word_byte b ≡ false → eqb b 36 ≡ false → is_blank b ≡ false → Pieces at (b ∷ rest) (with_byte at b rest pieces)
  at-other (Some kind) is_sign word dollar blank = subst (Pieces at (b ∷ rest)) (sym (with_byte-sign at b rest pieces kind is_sign)) (as-one kind (BeginsWith.sign kind b rest is_sign))
  at-other None no_sign word dollar blank =
      at-bad (record { not_blank = blank; no_word = word; no_param = λ e. absurd (let h : eqb b 36 ≡ true = ap (λ n. eqb n 36) e in cc); no_sign = no_sign })

  by-blank : (v : Bool) → is_blank b ≡ v → is_word_byte b ≡ false → eqb b 36 ≡ false → Pieces at (b ∷ rest) (with_byte at b rest pieces)
  by-blank true blank word dollar = subst (Pieces at (b ∷ rest)) (sym (with_byte-blank at b rest pieces blank)) (Pieces.blank at b rest pieces blank known)
  by-blank false blank word dollar = at-other (sign_of b) refl word dollar blank

  by-dollar : (v : Bool) → eqb b 36 ≡ v → is_word_byte b ≡ false → Pieces at (b ∷ rest) (with_byte at b rest pieces)
  by-dollar true same word = at-dollar (begins is_letter rest) refl (eqb-true b 36 same)
  by-dollar false differs word = by-blank (is_blank b) refl word differs

  by-word : (v : Bool) → is_word_byte b ≡ v → Pieces at (b ∷ rest) (with_byte at b rest pieces)
  by-word true word = in-word (begins is_word_byte rest) refl word
  by-word false word = by-dollar (eqb b 36) refl word

  pub Pieces-with_byte : Pieces at (b ∷ rest) (with_byte at b rest pieces)
  Pieces-with_byte = by-word (is_word_byte b) refl

-- the computed pieces are pieces of the text
pub Pieces-pieces_of : (at : ℕ) (bytes : List ℕ) → Pieces at bytes (item_pieces at bytes)
unfolding item_pieces
Pieces-pieces_of at [] = Pieces.done at
Pieces-pieces_of at (b ∷ rest) = Pieces-with_byte at b rest (item_pieces (suc at) rest) (Pieces-pieces_of (suc at) rest)

-- the pieces of a text are the computed ones, so a text has no others
pub Pieces-are : (at : ℕ) (bytes : List ℕ) (pieces : List Piece) → Pieces at bytes pieces → pieces ≡ item_pieces at bytes
unfolding item_pieces
Pieces-are _ _ _ (Pieces.done at) = refl
Pieces-are _ _ _ (Pieces.blank at b rest pieces blank after) = Pieces-are (suc at) rest pieces after ∙ sym (with_byte-blank at b rest (item_pieces (suc at) rest) blank)
Pieces-are _ _ _ (Pieces.next at kind bytes rest pieces first after) =
    ap (λ more. token (record { kind = kind; bytes = bytes; start = at; end = at + length bytes }) ∷ more) (Pieces-are (at + length bytes) rest pieces after) ∙ sym (pieces_of-token at kind bytes rest first)
Pieces-are _ _ _ (Pieces.bad at b rest bad) = sym (pieces_of-bad at b rest bad)
