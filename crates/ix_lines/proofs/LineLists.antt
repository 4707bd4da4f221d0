-- Lines, by the place of the first byte 10.
use Rattle.std.proofs.Common.{◌≡◌, ℕ, ◌+◌, ◌<◌, Bool, true, false, List, [], ◌∷◌, length, take, drop, Some, None, refl, ap, ◌∙◌, arith}
use Rattle.std.specs.List.{slice_split}
use Rattle.std.proofs.lemmas.List.Splits.{length-slice_split, slice_split_first, slice_split_none}
use Rattle.std.proofs.lemmas.List.Sums.{position_or_len_is}
use Rattle.std.proofs.lemmas.List.{get_or_default}
use Rattle.memchr.specs.Find.{IsFirstByte, is_byte}
use Rattle.ix_lines.specs.TextLines.{is_line_end, without_empty_end, lines_of}

fails : (b : Bool) → (b ≡ true → ⊥) → b ≡ false
fails true h = absurd (h refl)
fails false h = refl

one_part : (text : List ℕ) → IsFirstByte (is_byte 10) text None → slice_split is_line_end text ≡ text ∷ []
one_part text none = slice_split_none is_line_end text (λ k d h. fails _ (λ pass. none k (omega arith) h (ap is_line_end (get_or_default text k 0 d h) ∙ pass)))

two_parts : (text : List ℕ) (at : ℕ) → IsFirstByte (is_byte 10) text (Some at) → slice_split is_line_end text ≡ take at text ∷ slice_split is_line_end (drop (at + 1) text)
two_parts text at first =
    let place = position_or_len_is is_line_end text at 0 (omega (arith, first.0.high)) (λ k h. fails _ (first.0.before k (omega arith) h)) (λ _. first.1) in
    rw place at (slice_split_first is_line_end text 0 (rw place (first.0.high)))

no_empty_end : (part : List ℕ) → 0 < length part → without_empty_end (part ∷ []) ≡ part ∷ []
no_empty_end [] some = absurd (omega arith)
no_empty_end (byte ∷ bytes) some = refl

-- the one line of bytes without an end of line
pub lines_of-one : (bytes : List ℕ) → 0 < length bytes → IsFirstByte (is_byte 10) bytes None → lines_of bytes ≡ bytes ∷ []
lines_of-one bytes some none = ap without_empty_end (one_part bytes none) ∙ no_empty_end bytes some

behind_first : (part : List ℕ) (parts : List (List ℕ)) → 0 < length parts → without_empty_end (part ∷ parts) ≡ part ∷ without_empty_end parts
behind_first part [] some = absurd (omega arith)
behind_first [] (next ∷ parts) some = refl
behind_first (byte ∷ bytes) (next ∷ parts) some = refl

-- the first line, and those behind it
pub lines_of-more : (bytes : List ℕ) (at : ℕ) → IsFirstByte (is_byte 10) bytes (Some at) → lines_of bytes ≡ take at bytes ∷ lines_of (drop (at + 1) bytes)
lines_of-more bytes at first =
    ap without_empty_end (two_parts bytes at first)
    ∙ behind_first (take at bytes) (slice_split is_line_end (drop (at + 1) bytes)) (let long = length-slice_split is_line_end (drop (at + 1) bytes) in omega arith)

-- there are no lines where there are no bytes
pub lines_of-none : (bytes : List ℕ) → length bytes ≡ 0 → lines_of bytes ≡ []
lines_of-none [] none = refl
lines_of-none (byte ∷ bytes) none = absurd (omega arith)
