use Rattle.std.proofs.Common.{◌≡◌, ◌∙◌, ◌-◌, ◌∷◌, ℕ, List, Option, Some, ap, arith, decimal}
use Rattle.std.proofs.Common.{drop, length, sym, take}
use Rattle.std.specs.Option.{MatchOption}
use Rattle.std.proofs.lemmas.Fmt.{decimal_injective}
use Rattle.std.proofs.lemmas.List.{take_all}
use Rattle.ix_lines.specs.Numbers.{IsNumber}
use Rattle.ix_generate.proofs.asks.number_behind.Goals as goal

-- a number that was read of a text is the one whose text it is
read : (bound : ℕ) (text : List ℕ) (r : Option ℕ) (n : ℕ) → r ≡ Some n
    → MatchOption r ((m : ℕ) → IsNumber bound text m → ⊥) (IsNumber bound text)
    → IsNumber bound text n
read bound text r n is found = rw is at found

-- what stands behind the first byte
behind : (letter : ℕ) (digits text : List ℕ) → text ≡ letter ∷ digits
    → take (length text - 1) (drop 1 text) ≡ digits
behind letter digits text is =
    ap (λ t. take (length t - 1) (drop 1 t)) is
    ∙ take_all (length (letter ∷ digits) - 1) digits (omega arith)

pub returns : goal.returns
returns c = λ letter number small is.
    let got = read _ _ c.read_number.result c.unwrap.result c.unwrap.ensures
    c.read_number.ensures in
    decimal_injective c.unwrap.result number (omega (arith, got.fits)) (omega arith)
    (sym got.same ∙ behind letter (decimal number) c.args.text.now is)
