-- The numbers that may stand behind `times`, and the words that they are.
use Rattle.std.proofs.Common.{◌≡◌, ◌≢◌, ℕ, zero, suc, ◌+◌, ◌%◌, ◌<◌, ◌≤◌, Bool, true, false, cond, List, [], ◌∷◌, length, Option, Some, None, decimal, refl, sym, ap, ◌∙◌, arith}
use Rattle.std.specs.List.{list_all}
use Rattle.std.proofs.lemmas.Fmt.{decimal_injective, decimal_by_steps, decimal_nonempty, length-decimal-le}
use Rattle.std.proofs.lemmas.List.Folds.{list_all-append}
use Rattle.std.proofs.lemmas.Bool.Decides.{nat_tests}
use Rattle.ix_values.specs.Order.{text_eq}
use Rattle.ix_values.specs.lemmas.Order.{text_eq-decides}
use Rattle.ix_lines.specs.Bytes.{is_word_byte}
use Rattle.ix_expr.specs.FormFaults.{IsTimesNumber}
use Rattle.ix_parse.specs.Symbols.{IsNumberWord}
use Rattle.ix_parse.specs.inside.StackMachine.{number_below, number_of}

-- a number that is found has the word's decimal
abbrev FoundBelow : ℕ → List ℕ → ℕ → Type 0
FoundBelow k w n = (w ≡ decimal n) × (2 ≤ n) × (n ≤ k + 1)

found-by : (k : ℕ) (w : List ℕ) (n : ℕ) (v : Bool) → text_eq w (decimal (k + 2)) ≡ v → (number_below k w ≡ Some n → FoundBelow k w n) → cond v (Some (k + 2)) (number_below k w) ≡ Some n → FoundBelow (suc k) w n
found-by k w n true same others e =
    let is : k + 2 ≡ n = cc in
    ((text_eq-decides w (decimal (k + 2))).0 same ∙ ap decimal is, omega arith, omega arith)
found-by k w n false differs others e = let more = others e in (more.0, more.1, omega (arith, more.2))

below-when : (k : ℕ) (w : List ℕ) (n : ℕ) → number_below k w ≡ Some n → FoundBelow k w n
below-when zero w n e = absurd cc
below-when (suc k) w n e = found-by k w n (text_eq w (decimal (k + 2))) refl (below-when k w n) e

-- a number that isn't too great is found
given-by : (k : ℕ) (w : List ℕ) (n : ℕ) (v : Bool) → text_eq w (decimal (k + 2)) ≡ v → k ≤ 62 → w ≡ decimal n → n ≤ 64 → (n ≢ k + 2 → number_below k w ≡ Some n) → cond v (Some (k + 2)) (number_below k w) ≡ Some n
given-by k w n true found few same low others =
    let equal : decimal (k + 2) ≡ decimal n = sym ((text_eq-decides w (decimal (k + 2))).0 found) ∙ same in
    ap Some (decimal_injective (k + 2) n (omega arith) (omega arith) equal)
given-by k w n false differs few same low others =
    others (λ e. (let found = (text_eq-decides w (decimal (k + 2))).1 (same ∙ ap decimal e) in cc))

below-is : (k : ℕ) (w : List ℕ) (n : ℕ) → k ≤ 63 → w ≡ decimal n → 2 ≤ n → n ≤ k + 1 → number_below k w ≡ Some n
below-is zero w n few same some low = absurd (omega arith)
below-is (suc k) w n few same some low =
    given-by k w n (text_eq w (decimal (k + 2))) refl (omega arith) same (omega arith)
    (λ other. below-is k w n (omega arith) same some (omega (arith, other)))

-- the word's number is what it stands for
pub number-when : (w : List ℕ) (n : ℕ) → number_of w ≡ Some n → IsNumberWord w n
unfolding number_of
number-when w n e =
    let found = below-when 63 w n e in
    record { same = found.0; number = (found.1, omega (arith, found.2)) }

pub number-is : (w : List ℕ) (n : ℕ) → IsNumberWord w n → number_of w ≡ Some n
unfolding number_of
number-is w n is = below-is 63 w n (omega arith) is.same is.number.0 (omega (arith, is.number.1))

-- a word that stands for no number has none
pub number-none : (w : List ℕ) → ((n : ℕ) → ¬ IsNumberWord w n) → number_of w ≡ None
number-none w none = by-option (number_of w) refl
  where
    by-option : (o : Option ℕ) → number_of w ≡ o → o ≡ None
    by-option None e = refl
    by-option (Some n) e = absurd (none n (number-when w n e))

-- a number below 2 may not stand behind `times`
pub number-low : (w : List ℕ) (n : ℕ) → w ≡ decimal n → n < 2 → number_of w ≡ None
number-low w n same low =
    number-none w (λ m is. (let one : n ≡ m = decimal_injective n m (omega arith) (omega (arith, is.number.1)) (sym same ∙ is.same) in omega (arith, is.number.0)))

digit : (n : ℕ) → n < 10 → is_word_byte (48 + n) ≡ true
digit n low = grind (arith, nat_tests)

-- the decimal of a number is a word of at most two bytes
pub decimal-word : (n : ℕ) → IsTimesNumber n → list_all is_word_byte (decimal n) ≡ true
decimal-word n number =
    decimal_by_steps (λ n ds. list_all is_word_byte ds ≡ true)
    (λ n low. rw (digit n low) refl)
    (λ n ds many rest. let last : n % 10 < 10 = omega arith in
    list_all-append is_word_byte ds ((48 + n % 10) ∷ []) ∙ rw (rest, digit (n % 10) last) refl)
    n (omega (arith, number.1))

pub decimal-some : (n : ℕ) → IsTimesNumber n → 0 < length (decimal n)
decimal-some n number = decimal_nonempty n (omega (arith, number.1))

pub decimal-short : (n : ℕ) → IsTimesNumber n → length (decimal n) ≤ 2
decimal-short n number = length-decimal-le 2 n (omega arith) (omega (arith, number.1)) (omega (arith, number.1))
