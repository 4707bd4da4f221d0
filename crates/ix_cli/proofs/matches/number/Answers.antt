use Rattle.std.proofs.Common.{◌≡◌, ◌∙◌, ◌^◌, ◌<◌, ℕ, List, sym, ap, Some, None, Option, refl}
use Rattle.std.proofs.Common.{unwrap_or, Ok, Err, Result}
use Rattle.std.specs.Str.Parse.{ExplainsUnsignedError, HasUnsignedDigitsIfOk, IsNumeral}
use Rattle.std.specs.Str.Parse.{ParsesUnsigned, digits_value, without_leading_plus}
use Rattle.std.specs.declared.num.ParseIntError.{ParseIntError}
use Rattle.clap.specs.Matches.{ReadsOne, found_of}
use Rattle.clap.proofs.WalkLemmas.{one_text-rows}
use Rattle.ix_cli.proofs.matches.number.Goals as goal

-- a text that is a number of `u64` is read as it
read : (E : Type 0) (G : List ℕ → Result ℕ E → Type 0) (t : List ℕ) (r : Option ℕ) → ReadsOne G t r
    → ((x : Result ℕ E) → G t x → ParsesUnsigned 64 10 t x)
    → IsNumeral 10 (without_leading_plus t) → digits_value 10 (without_leading_plus t) < 2 ^ 64
    → r ≡ Some (digits_value 10 (without_leading_plus t))
read E G t (Some n) gives only numeral fits = ap Some (only (Ok n) gives).1
read E G t None gives only numeral fits = absurd (only (Err gives.0) gives.1 (numeral, fits))

-- what `u64::from_str` gives
abbrev Reads : List ℕ → Result ℕ ParseIntError → Type 0
Reads t r = ParsesUnsigned 64 10 t r × ExplainsUnsignedError 10 t r × HasUnsignedDigitsIfOk t r

pub unwrap-requires : goal.unwrap-requires
unwrap-requires c =
    let said = one_text-rows (found_of c.args.matches.now) c.args.name.now ∙ c.requires.1 in
    let got = read _ Reads c.requires.0 c.get_one.result (c.get_one.ensures.value c.requires.0 said)
    (λ x h. h.0) c.requires.2 c.requires.3 in
    rw got refl

pub returns : goal.returns
returns c = λ text one.
    let said = one_text-rows (found_of c.args.matches.now) c.args.name.now ∙ c.requires.1 in
    let got = read _ Reads c.requires.0 c.get_one.result (c.get_one.ensures.value c.requires.0 said)
    (λ x h. h.0) c.requires.2 c.requires.3 in
    let same : Some c.unwrap.result ≡ Some (digits_value 10 (without_leading_plus c.requires.0)) =
    sym c.unwrap.ensures ∙ got in
    let text_same : Some c.requires.0 ≡ Some text = sym c.requires.1 ∙ one in
    ap (λ o. unwrap_or o 0) same
    ∙ ap (λ o. digits_value 10 (without_leading_plus (unwrap_or o text))) text_same
