-- The text of a given value has `=` exactly where it names a parameter, and there once.
use Rattle.std.proofs.Common.{◌≡◌, ◌≢◌, ℕ, Bool, true, false, ◌&&◌, List, [], ◌∷◌, ◌++◌, Option, Some, None, refl, ap, subst, sym}
use Rattle.std.specs.Prelude.{All}
use Rattle.std.specs.List.{list_all}
use Rattle.std.proofs.lemmas.List.Elements.{All-head, All-tail}
use Rattle.ix_lines.specs.Bytes.{is_word_byte}
use Rattle.ix_values.specs.Texts.{IsName, IsValue}
use Rattle.ix_next.specs.Given.{PlainGiven}
use Rattle.ix_next.specs.Given.{IsGivenText, MayBeName, text_for}

abbrev IsOther : ℕ → Type 0
IsOther byte = byte ≢ 61

no_equals : (p v : List ℕ) → ¬ All IsOther (p ++ 61 ∷ v)
no_equals [] v all = All-head IsOther 61 v all refl
no_equals (b ∷ p) v all = no_equals p v (All-tail IsOther b (p ++ 61 ∷ v) all)

first_true : (a b : Bool) → (a && b) ≡ true → (a ≡ true) × (b ≡ true)
first_true true b h = (refl, h)
first_true false b h = cc

word_has_none : (b : ℕ) (v u : List ℕ) → list_all is_word_byte v ≡ true → v ≢ 61 ∷ u
word_has_none b [] u h e = cc
word_has_none b (x ∷ v) u h e =
    let parts = first_true (is_word_byte x) (list_all is_word_byte v) h in
    let same : x ≡ 61 = cc in
    let wrong : is_word_byte 61 ≡ true = subst (λ y. is_word_byte y ≡ true) same parts.0 in
    cc

-- where the first text has no `=` and the second is of word bytes, both end at their first `=`
cut_once : (n v p u : List ℕ) → All IsOther n → list_all is_word_byte p ≡ true → n ++ 61 ∷ v ≡ p ++ 61 ∷ u → (n ≡ p) × (v ≡ u)
cut_once [] v [] u all word e = (refl, cc)
cut_once [] v (b ∷ p) u all word e = absurd (word_has_none b (b ∷ p) p word (let same : b ≡ 61 = cc in ap (λ x. x ∷ p) same))
cut_once (b ∷ n) v [] u all word e = absurd (All-head IsOther b n all cc)
cut_once (b ∷ n) v (c ∷ p) u all word e =
    let parts = first_true (is_word_byte c) (list_all is_word_byte p) word in
    let rest : n ++ 61 ∷ v ≡ p ++ 61 ∷ u = cc in
    let same : b ≡ c = cc in
    let cut = cut_once n v p u (All-tail IsOther b n all) parts.1 rest in
    (cc, cut.1)

-- a text of word bytes isn't one of word bytes with `=` in it
word_goes_on : (v p u : List ℕ) → list_all is_word_byte v ≡ true → v ≢ p ++ 61 ∷ u
word_goes_on v [] u h e = word_has_none 0 v u h e
word_goes_on [] (b ∷ p) u h e = cc
word_goes_on (x ∷ v) (b ∷ p) u h e =
    let parts = first_true (is_word_byte x) (list_all is_word_byte v) h in
    word_goes_on v p u parts.1 cc

-- without `=` it is the text of a value
pub no_given : (text : List ℕ) → All IsOther text → ¬ IsValue text → (g : PlainGiven) → ¬ IsGivenText text g
no_given text all none g is = chosen g.parameter is.same
  where
    chosen : (p : Option (List ℕ)) → text ≡ text_for p g.value → ⊥
    chosen None e = none (subst IsValue (sym e) is.value)
    chosen (Some p) e = no_equals p g.value (subst (All IsOther) e all)

-- with one it is those of a name and a value
pub parts_of_given : (n v : List ℕ) → All IsOther n → (g : PlainGiven) → IsGivenText (n ++ 61 ∷ v) g → IsName n × IsValue v
parts_of_given n v all g is = chosen g.parameter is.parameter is.same
  where
    chosen : (p : Option (List ℕ)) → MayBeName p → n ++ 61 ∷ v ≡ text_for p g.value → IsName n × IsValue v
    chosen None m e = absurd (word_goes_on g.value n v is.value.word (sym e))
    chosen (Some p) m e =
        let cut = cut_once n v p g.value all m.word e in
        (subst IsName (sym cut.0) m, subst IsValue (sym cut.1) is.value)
