-- No byte is of two classes.
use Rattle.std.proofs.Common.{◌≡◌, ℕ, Bool, true, false, cond, eqb, Option, Some, refl, sym, subst, arith, eqb-true}
use Rattle.std.proofs.lemmas.Bool.Decides.{nat_tests}
use Rattle.ix_lex.specs.declared.TokenKind.{TokenKind}
use Rattle.ix_lex.specs.declared.TokenKind.TheVariants.{Open, Close, Comma, Question, Star, Hash, Plus, Bar, Amp, At, Minus}
use Rattle.ix_lex.specs.WordBytes.{is_blank, sign_of}
use Rattle.ix_lines.specs.Bytes.{is_letter, is_word_byte}

pub blank-no_word : (b : ℕ) → is_blank b ≡ true → is_word_byte b ≡ false
blank-no_word b e = grind (arith, nat_tests)

pub blank-no_dollar : (b : ℕ) → is_blank b ≡ true → eqb b 36 ≡ false
blank-no_dollar b e = grind (arith, nat_tests)

pub letter-word : (b : ℕ) → is_letter b ≡ true → is_word_byte b ≡ true
letter-word b e = grind (arith, nat_tests)

-- a sign is no word byte, no `$` and no blank
pub record IsNoOther (b : ℕ) : Type 0 where
  pub no_word : is_word_byte b ≡ false
  pub no_dollar : eqb b 36 ≡ false
  pub not_blank : is_blank b ≡ false

peel : (b n : ℕ) (sign kind : TokenKind) (rest : Option TokenKind) → IsNoOther n → (rest ≡ Some kind → IsNoOther b) → cond (eqb b n) (Some sign) rest ≡ Some kind → IsNoOther b
peel b n sign kind rest here others e = peel-by (eqb b n) refl e
  where
    peel-by : (v : Bool) → eqb b n ≡ v → cond v (Some sign) rest ≡ Some kind → IsNoOther b
    peel-by true same e = subst IsNoOther (sym (eqb-true b n same)) here
    peel-by false differs e = others e

known : (b : ℕ) → is_word_byte b ≡ false → eqb b 36 ≡ false → is_blank b ≡ false → IsNoOther b
known b w d n = record { no_word = w; no_dollar = d; not_blank = n }

pub sign-no_other : (b : ℕ) (kind : TokenKind) → sign_of b ≡ Some kind → IsNoOther b
sign-no_other b kind =
    peel b 40 Open kind _ (known 40 refl refl refl)
    (peel b 41 Close kind _ (known 41 refl refl refl)
    (peel b 44 Comma kind _ (known 44 refl refl refl)
    (peel b 63 Question kind _ (known 63 refl refl refl)
    (peel b 42 Star kind _ (known 42 refl refl refl)
    (peel b 35 Hash kind _ (known 35 refl refl refl)
    (peel b 43 Plus kind _ (known 43 refl refl refl)
    (peel b 124 Bar kind _ (known 124 refl refl refl)
    (peel b 38 Amp kind _ (known 38 refl refl refl)
    (peel b 64 At kind _ (known 64 refl refl refl)
    (peel b 45 Minus kind _ (known 45 refl refl refl) (λ e. absurd cc)))))))))))
