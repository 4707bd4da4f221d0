-- Bytes that begin with a text behind its length.
use Rattle.std.proofs.Common.{◌≡◌, ℕ, ◌+◌, ◌-◌, ◌*◌, ◌/◌, ◌%◌, ◌<◌, ◌≤◌, List, [], ◌∷◌, ◌++◌, length, take}
use Rattle.std.proofs.Common.{drop, get_or, refl, sym, ◌∙◌, ap, arith}
use Rattle.std.proofs.lemmas.List.{drop_at, length-drop, length-take, take-append-drop, take_all, take_at}
use Rattle.byteorder.specs.Endian.{big_number}
use Rattle.byteorder.specs.Numbers.{big_number-reads_back}
use Rattle.ix_journal.specs.Format.{with_length}
use Rattle.ix_journal.specs.inside.Fronts.{BeginsWithText}

-- two bytes and a rest that is longer than their number begin with the text of that length
begins_with_text : (high low : ℕ) (rest : List ℕ) (n : ℕ) → high < 256 → low < 256
    → n ≡ high * 256 + low → n < length rest
    → BeginsWithText (high ∷ low ∷ rest) (take n rest)
begins_with_text high low rest n fits_high fits_low number fits =
    let len : length (take n rest) ≡ n = simp length-take (omega arith) in
    let h : high ≡ length (take n rest) / 256 % 256 = omega arith in
    let l : low ≡ length (take n rest) % 256 = omega arith in
    record {
      behind = drop n rest;
      spells = λ i. h i ∷ l i ∷ sym (take-append-drop n rest) i;
      gate = simp length-drop (omega arith);
      short = omega arith;
    }

-- the same of bytes of which two are known to be there
pub begins_with_text-of : (bytes : List ℕ) (n : ℕ) → ((i : ℕ) → get_or bytes i 0 < 256)
    → 2 ≤ length bytes → n ≡ big_number 2 bytes → n < length bytes - 2
    → BeginsWithText bytes (take n (take (length bytes - 2) (drop 2 bytes)))
begins_with_text-of [] n fits two number within = absurd (omega arith)
begins_with_text-of (x ∷ []) n fits two number within = absurd (omega arith)
begins_with_text-of (high ∷ low ∷ rest) n fits two number within =
    let all : take (length (high ∷ low ∷ rest) - 2) rest ≡ rest = take_all _ rest (omega arith) in
    let same : BeginsWithText (high ∷ low ∷ rest) (take n rest) =
    begins_with_text high low rest n (fits 0) (fits 1) (omega arith) (omega arith) in
    rw all same

-- texts behind their lengths are told apart
pub with_length-apart : (x y r s : List ℕ) → length x < 65536 → length y < 65536
    → with_length x ++ r ≡ with_length y ++ s → (x ≡ y) × (r ≡ s)
with_length-apart x y r s short_x short_y e =
    let same : length x ≡ length y = sym (big_number-reads_back 2 (length x) (x ++ r) short_x)
    ∙ ap (big_number 2) e ∙ big_number-reads_back 2 (length y) (y ++ s) short_y in
    let behind : x ++ r ≡ y ++ s = ap (drop 2) e in (
      sym (take_at x r (length x) refl) ∙ ap (take (length x)) behind ∙ take_at y s (length x) (sym same),
      sym (drop_at x r (length x) refl) ∙ ap (drop (length x)) behind ∙ drop_at y s (length x) (sym same),
    )
