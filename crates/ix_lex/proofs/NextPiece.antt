-- The next piece of a text whose front was read, over the text and the place that was reached.
use Rattle.std.proofs.Common.{◌≡◌, ℕ, ◌+◌, ◌-◌, false, List, [], ◌∷◌, length, take, drop, Some, refl, sym, subst, ◌∙◌, arith, ap, length-drop}
use Rattle.std.specs.List.{prefix_len, take_while}
use Rattle.std.specs.Iterator.{MakesProgress, item_count}
use Rattle.std.proofs.Math.Seq.{take-length}
use Rattle.std.proofs.lemmas.List.{drop-drop, take-append-drop, length-take-le}
use Rattle.std.proofs.lemmas.List.Folds.{length-prefix_len}
use Rattle.ix_lex.specs.declared.TokenKind.{TokenKind}
use Rattle.ix_lex.specs.WordBytes.{is_blank, begins}
use Rattle.ix_lex.specs.Lexing.{Piece, token, bad_byte, BeginsNothing}
use Rattle.ix_lex.specs.inside.FirstToken.{FirstToken}
use Rattle.ix_lex.specs.inside.Items.{item_pieces}
use Rattle.ix_lex.proofs.LongestRuns.{run_passes, run_ends, length-take_while}
use Rattle.ix_lex.proofs.PiecesOf.{pieces_of-blanks, pieces_of-token, pieces_of-bad, pieces_of-end}

-- what lies from a place on, as a slice to the text's end
abbrev pub from : ℕ → List ℕ → List ℕ
from i text = take (length text - i) (drop i text)

pub from-drop : (i : ℕ) (text : List ℕ) → from i text ≡ drop i text
from-drop i text = ap (λ n. take n (drop i text)) (sym (length-drop i text)) ∙ take-length (drop i text)

no_blank_first : (bytes : List ℕ) (first : ℕ) (after : List ℕ) → begins is_blank bytes ≡ false → bytes ≡ first ∷ after → is_blank first ≡ false
no_blank_first bytes first after none e = ap (begins is_blank) (sym e) ∙ none

-- the token that a text begins with, cut by its length
token-cut : (at : ℕ) (kind : TokenKind) (m : ℕ) (bytes : List ℕ) → FirstToken kind m bytes → item_pieces at bytes ≡ token (record { kind = kind; bytes = take m bytes; start = at; end = at + m }) ∷ item_pieces (at + m) (drop m bytes)
token-cut at kind m bytes found =
    let len : length (take m bytes) ≡ m = length-take-le m bytes found.0 in
    ap (item_pieces at) (sym (take-append-drop m bytes)) ∙ pieces_of-token at kind (take m bytes) (drop m bytes) found.1
    ∙ ap (λ n. token (record { kind = kind; bytes = take m bytes; start = at; end = at + n }) ∷ item_pieces (at + n) (drop m bytes)) len

module _ (text : List ℕ) (place n : ℕ) (run : n ≡ length (take_while is_blank (from place text))) where
  blanks : n ≡ prefix_len is_blank (drop place text)
  blanks = length-take_while is_blank (from place text) n run ∙ ap (prefix_len is_blank) (from-drop place text)

  rest : drop n (drop place text) ≡ drop (place + n) text
  rest = drop-drop n place text

  -- the blanks before the next piece mean nothing
  pub blanks_skipped : item_pieces place (drop place text) ≡ item_pieces (place + n) (drop (place + n) text)
  blanks_skipped =
      let bytes = drop place text in
      let k = prefix_len is_blank bytes in
      let len : length (take k bytes) ≡ n = length-prefix_len is_blank bytes ∙ sym blanks in
      ap (item_pieces place) (sym (take-append-drop k bytes))
      ∙ pieces_of-blanks place (take k bytes) (drop k bytes) (run_passes is_blank bytes)
      ∙ ap (λ m. item_pieces (place + m) (drop k bytes)) len
      ∙ ap (λ m. item_pieces (place + n) (drop m bytes)) (sym blanks)
      ∙ ap (item_pieces (place + n)) rest

  -- and no blank follows them
  pub no_blank_next : (first : ℕ) (after : List ℕ) → from (place + n) text ≡ first ∷ after → is_blank first ≡ false
  no_blank_next first after e =
      no_blank_first (drop n (drop place text)) first after
      (subst (λ m. begins is_blank (drop m (drop place text)) ≡ false) (sym blanks) (run_ends is_blank (drop place text)))
      (rest ∙ sym (from-drop (place + n) text) ∙ e)

  -- nothing is left
  pub next-end : length (from (place + n) text) ≡ 0 → (item_pieces place (drop place text) ≡ []) × (item_pieces (place + n) (drop (place + n) text) ≡ [])
  next-end none =
      let ended : item_pieces (place + n) (drop (place + n) text) ≡ [] = ap (item_pieces (place + n)) (empty (drop (place + n) text) (ap length (sym (from-drop (place + n) text)) ∙ none)) ∙ pieces_of-end (place + n) in
      (blanks_skipped ∙ ended, ended)
    where
      empty : (xs : List ℕ) → length xs ≡ 0 → xs ≡ []
      empty [] e = refl
      empty (x ∷ xs) e = absurd cc

  -- a token comes
  pub next-token : (first : ℕ) (after bytes : List ℕ) (kind : TokenKind) (m : ℕ) → from (place + n) text ≡ first ∷ after → FirstToken kind m (first ∷ after) → bytes ≡ take m (drop (place + n) text) → item_pieces place (drop place text) ≡ token (record { kind = kind; bytes = bytes; start = place + n; end = place + n + m }) ∷ item_pieces (place + n + m) (drop (place + n + m) text)
  next-token first after bytes kind m e found cut =
      let start = place + n in
      let whole : first ∷ after ≡ drop start text = sym e ∙ from-drop start text in
      blanks_skipped
      ∙ token-cut start kind m (drop start text) (subst (FirstToken kind m) whole found)
      ∙ ap (λ b. token (record { kind = kind; bytes = b; start = start; end = start + m }) ∷ item_pieces (start + m) (drop m (drop start text))) (sym cut)
      ∙ ap (λ b. token (record { kind = kind; bytes = bytes; start = start; end = start + m }) ∷ item_pieces (start + m) b) (drop-drop m start text)

  -- a bad byte comes, and nothing after it
  pub next-bad : (first : ℕ) (after : List ℕ) → from (place + n) text ≡ first ∷ after → BeginsNothing first after → item_pieces place (drop place text) ≡ bad_byte (place + n) ∷ item_pieces (length text) (drop (length text) text)
  next-bad first after e bad =
      let start = place + n in
      blanks_skipped ∙ ap (item_pieces start) (sym (sym e ∙ from-drop start text)) ∙ pieces_of-bad start first after bad
      ∙ ap (λ more. bad_byte start ∷ more) (sym (ap (item_pieces (length text)) (drop_whole text) ∙ pieces_of-end (length text)))
    where
      drop_whole : (xs : List ℕ) → drop (length xs) xs ≡ []
      drop_whole [] = refl
      drop_whole (x ∷ xs) = drop_whole xs

-- an item lowers the number of what is left
pub item_lowers : {S A : Type 0} (left : S → List Piece) (s t : S) (item : A) (piece : Piece) → left s ≡ piece ∷ left t → MakesProgress (λ _. Unit {0}) (item_count left) s (Some item) t
item_lowers left s t item piece e = record { on = λ finite. (tt, tt, omega (arith, ap length e)); keeps = tt; rests = λ finite. tt }
