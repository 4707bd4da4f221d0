-- The texts of numbers behind a letter.
use Rattle.std.proofs.Common.{◌≡◌, ◌∙◌, ◌<◌, ◌+◌, ◌^◌, ◌%◌, ℕ, true}
use Rattle.std.proofs.Common.{[], ◌∷◌}
use Rattle.std.proofs.Common.{refl, arith, decimal}
use Rattle.std.specs.List.{list_all}
use Rattle.std.proofs.lemmas.Bool.Decides.{nat_tests}
use Rattle.std.proofs.lemmas.Fmt.{decimal_by_steps, length-decimal-le}
use Rattle.std.proofs.lemmas.List.Folds.{list_all-append}
use Rattle.ix_lines.specs.Bytes.{is_word_byte}
use Rattle.ix_values.specs.Texts.{IsValue}

digit : (n : ℕ) → n < 10 → is_word_byte (48 + n) ≡ true
digit n lt = grind (arith, nat_tests)

-- a number in decimal has word bytes alone
digits : (n : ℕ) → n < 2 ^ 64 → list_all is_word_byte (decimal n) ≡ true
digits = decimal_by_steps (λ n ds. list_all is_word_byte ds ≡ true)
    (λ n lt. rw (digit n lt) refl)
    (λ n ds many rest.
    let last : n % 10 < 10 = omega arith in
    list_all-append is_word_byte ds ((48 + n % 10) ∷ []) ∙ rw (rest, digit (n % 10) last) refl)

-- behind a letter it is a value
pub is_value : (letter number : ℕ) → is_word_byte letter ≡ true → number < 2 ^ 64
    → IsValue (letter ∷ decimal number)
is_value letter number word small =
    let short = length-decimal-le 20 number (omega arith) (omega arith) (omega arith) in
    record {
      begins = omega arith;
      word = rw (word, digits number (omega arith)) refl;
      short = omega arith;
    }
