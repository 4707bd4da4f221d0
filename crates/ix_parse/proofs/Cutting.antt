-- Texts that are cut into known tokens, put one behind the other.
use Rattle.std.proofs.Common.{◌≡◌, ℕ, suc, ◌+◌, ◌<◌, true, false, List, [], ◌∷◌, ◌++◌, length, map, Some, refl, sym, ap, subst, arith, append_assoc, length-append}
use Rattle.std.specs.List.{list_all}
use Rattle.ix_lex.specs.declared.TokenKind.{TokenKind}
use Rattle.ix_lex.specs.declared.TokenKind.TheVariants as kinds
use Rattle.ix_lex.specs.WordBytes.{sign_of, begins}
use Rattle.ix_lines.specs.Bytes.{is_letter, is_word_byte}
use Rattle.ix_lex.specs.Lexing.{PlainToken, Piece, token, BeginsWith, Pieces}

-- the token of these bytes at a place
abbrev pub token_at : TokenKind → List ℕ → ℕ → PlainToken
token_at kind bytes at = record { kind = kind; bytes = bytes; start = at; end = at + length bytes }

-- the text at this place is cut into the tokens, whatever follows
abbrev pub CutsAny : ℕ → List ℕ → List PlainToken → Type 0
CutsAny at text tokens = (rest : List ℕ) (pieces : List Piece) → Pieces (at + length text) rest pieces → Pieces at (text ++ rest) (map token tokens ++ pieces)

-- the text at this place is cut into the tokens where no word byte follows
abbrev pub CutsEnded : ℕ → List ℕ → List PlainToken → Type 0
CutsEnded at text tokens = (rest : List ℕ) (pieces : List Piece) → begins is_word_byte rest ≡ false → Pieces (at + length text) rest pieces → Pieces at (text ++ rest) (map token tokens ++ pieces)

pub any-ended : (at : ℕ) (text : List ℕ) (tokens : List PlainToken) → CutsAny at text tokens → CutsEnded at text tokens
any-ended at text tokens cuts rest pieces ends more = cuts rest pieces more

map-append : (xs ys : List PlainToken) (ps : List Piece) → map token (xs ++ ys) ++ ps ≡ map token xs ++ (map token ys ++ ps)
map-append [] ys ps = refl
map-append (x ∷ xs) ys ps = ap (λ l. token x ∷ l) (map-append xs ys ps)

joined-cut : (at : ℕ) (t u rest : List ℕ) (xs ys : List PlainToken) (pieces : List Piece) → Pieces at (t ++ (u ++ rest)) (map token xs ++ (map token ys ++ pieces)) → Pieces at ((t ++ u) ++ rest) (map token (xs ++ ys) ++ pieces)
joined-cut at t u rest xs ys pieces cut =
    subst (λ l. Pieces at l (map token (xs ++ ys) ++ pieces)) (sym (append_assoc t u rest)) (subst (Pieces at (t ++ (u ++ rest))) (sym (map-append xs ys pieces)) cut)

later : (at : ℕ) (t u rest : List ℕ) (pieces : List Piece) → Pieces (at + length (t ++ u)) rest pieces → Pieces (at + length t + length u) rest pieces
later at t u rest pieces more = let len : length (t ++ u) ≡ length t + length u = length-append t u in let same : at + length (t ++ u) ≡ at + length t + length u = omega arith in subst (λ n. Pieces n rest pieces) same more

-- texts one behind the other, the first of which ends by itself
pub any-then : (at : ℕ) (t u : List ℕ) (xs ys : List PlainToken) → CutsAny at t xs → CutsEnded (at + length t) u ys → CutsEnded at (t ++ u) (xs ++ ys)
any-then at t u xs ys first second rest pieces ends more =
    joined-cut at t u rest xs ys pieces (first (u ++ rest) (map token ys ++ pieces) (second rest pieces ends (later at t u rest pieces more)))

pub any-any : (at : ℕ) (t u : List ℕ) (xs ys : List PlainToken) → CutsAny at t xs → CutsAny (at + length t) u ys → CutsAny at (t ++ u) (xs ++ ys)
any-any at t u xs ys first second rest pieces more =
    joined-cut at t u rest xs ys pieces (first (u ++ rest) (map token ys ++ pieces) (second rest pieces (later at t u rest pieces more)))

-- texts one behind the other, the second of which begins with no word byte
pub ended-any : (at b : ℕ) (t u : List ℕ) (xs ys : List PlainToken) → is_word_byte b ≡ false → CutsEnded at t xs → CutsAny (at + length t) (b ∷ u) ys → CutsAny at (t ++ b ∷ u) (xs ++ ys)
ended-any at b t u xs ys no_word first second rest pieces more =
    joined-cut at t (b ∷ u) rest xs ys pieces (first (b ∷ u ++ rest) (map token ys ++ pieces) no_word (second rest pieces (later at t (b ∷ u) rest pieces more)))

pub ended-ended : (at b : ℕ) (t u : List ℕ) (xs ys : List PlainToken) → is_word_byte b ≡ false → CutsEnded at t xs → CutsEnded (at + length t) (b ∷ u) ys → CutsEnded at (t ++ b ∷ u) (xs ++ ys)
ended-ended at b t u xs ys no_word first second rest pieces ends more =
    joined-cut at t (b ∷ u) rest xs ys pieces (first (b ∷ u ++ rest) (map token ys ++ pieces) no_word (second rest pieces ends (later at t (b ∷ u) rest pieces more)))

-- nothing
pub cuts-nothing : (at : ℕ) → CutsAny at [] []
cuts-nothing at rest pieces more = let same : at + 0 ≡ at = omega arith in subst (λ n. Pieces n rest pieces) same more

-- a blank
pub cuts-blank : (at : ℕ) → CutsAny at (32 ∷ []) []
cuts-blank at rest pieces more = let same : at + 1 ≡ suc at = omega arith in Pieces.blank at 32 rest pieces refl (subst (λ n. Pieces n rest pieces) same more)

-- a sign
pub cuts-sign : (at b : ℕ) (kind : TokenKind) → sign_of b ≡ Some kind → CutsAny at (b ∷ []) (token_at kind (b ∷ []) at ∷ [])
cuts-sign at b kind is rest pieces more = Pieces.next at kind (b ∷ []) rest pieces (BeginsWith.sign kind b rest is) more

-- a word
pub cuts-word : (at : ℕ) (w : List ℕ) → 0 < length w → list_all is_word_byte w ≡ true → CutsEnded at w (token_at kinds.Word w at ∷ [])
cuts-word at [] some all rest pieces ends more = absurd (omega arith)
cuts-word at (b ∷ bs) some all rest pieces ends more = Pieces.next at kinds.Word (b ∷ bs) rest pieces (BeginsWith.word b bs rest all ends) more

-- a parameter
pub cuts-param : (at : ℕ) (p : List ℕ) → begins is_letter p ≡ true → list_all is_word_byte p ≡ true → CutsEnded at (36 ∷ p) (token_at kinds.Param (36 ∷ p) at ∷ [])
cuts-param at [] letter all rest pieces ends more = absurd cc
cuts-param at (b ∷ bs) letter all rest pieces ends more = Pieces.next at kinds.Param (36 ∷ b ∷ bs) rest pieces (BeginsWith.param b bs rest letter all ends) more
