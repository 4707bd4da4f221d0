-- A text is cut at its first space in one way, and a number has no space.
use Rattle.std.proofs.Common.{◌≡◌, ℕ, ◌+◌, ◌<◌, ◌≤◌, ◌^◌, ◌%◌, ◌||◌, Bool, true, false, List, [], ◌∷◌, ◌++◌, Option, Some, None, refl, sym, ◌∙◌, ap, arith, decimal}
use Rattle.std.specs.List.{list_any}
use Rattle.std.proofs.lemmas.Bool.Decides.{nat_tests}
use Rattle.std.proofs.lemmas.Fmt.{decimal_injective, decimal_by_steps}
use Rattle.std.proofs.lemmas.List.Folds.{list_any-append}
use Rattle.ix_lines.proofs.WordLemmas.{is_byte, is_space}
use Rattle.ix_lines.specs.Numbers.{IsNumber, BeginsWithNumber, Begins}
use Rattle.ix_lines.specs.inside.WordsBehind.{behind_word, HasNoSpace}

pub or_false : (p q : Bool) → (p || q) ≡ false → (p ≡ false) × (q ≡ false)
or_false true q e = cc
or_false false q e = (refl, e)

space_fails : is_space 32 ≡ false → ⊥
space_fails e = cc

behind_same : (x y : Option (List ℕ)) → behind_word x ≡ behind_word y → x ≡ y
behind_same None None e = refl
behind_same None (Some y) e = cc
behind_same (Some x) None e = cc
behind_same (Some x) (Some y) e = cc

no_space_here : (x : Option (List ℕ)) (c : ℕ) (t : List ℕ) → is_space c ≡ false → behind_word x ≡ c ∷ t → ⊥
no_space_here None c t h e = cc
no_space_here (Some x) c t h e = let same : 32 ≡ c = cc in space_fails (ap is_space same ∙ h)

-- a text is cut at its first space in one way
pub cut_same : (a b : List ℕ) (x y : Option (List ℕ)) → HasNoSpace a → HasNoSpace b
    → a ++ behind_word x ≡ b ++ behind_word y → (a ≡ b) × (x ≡ y)
cut_same [] [] x y h g e = (refl, behind_same x y e)
cut_same [] (d ∷ b) x y h g e = absurd (no_space_here x d (b ++ behind_word y) (or_false (is_space d) (list_any is_space b) g).0 e)
cut_same (c ∷ a) [] x y h g e =
    absurd (no_space_here y c (a ++ behind_word x) (or_false (is_space c) (list_any is_space a) h).0 (sym e))
cut_same (c ∷ a) (d ∷ b) x y h g e =
    let first : c ≡ d = cc in
    let later : a ++ behind_word x ≡ b ++ behind_word y = cc in
    let plain = or_false (is_space c) (list_any is_space a) h in
    let rest = cut_same a b x y plain.1 (or_false (is_space d) (list_any is_space b) g).1 later in
    ((λ i. first i ∷ rest.0 i), rest.1)

one_digit : (wanted n : ℕ) → wanted < 48 → is_byte wanted (48 + n) ≡ false
one_digit wanted n l = grind (arith, nat_tests)

or_both : (p q : Bool) → p ≡ false → q ≡ false → (p || q) ≡ false
or_both p q e f = rw (e, f) refl

-- a number has no byte below its digits
pub decimal-avoids : (wanted : ℕ) → wanted < 48 → (n : ℕ) → n < 2 ^ 64 → list_any (is_byte wanted) (decimal n) ≡ false
decimal-avoids wanted small =
    decimal_by_steps (λ n ds. list_any (is_byte wanted) ds ≡ false)
    (λ n l. or_both (is_byte wanted (48 + n)) false (one_digit wanted n small) refl)
    (λ n ds l h.
    list_any-append (is_byte wanted) ds ((48 + n % 10) ∷ [])
    ∙ or_both (list_any (is_byte wanted) ds) _ h (or_both (is_byte wanted (48 + n % 10)) false (one_digit wanted (n % 10) small) refl))

-- a number has no space
pub decimal-plain : (n : ℕ) → n < 2 ^ 64 → HasNoSpace (decimal n)
decimal-plain = decimal-avoids 32 (omega arith)

pub some_same : {x y : List ℕ} → Some x ≡ Some y → x ≡ y
some_same e = cc

-- a text is at most one number's
pub same_number : (text : List ℕ) (m n : ℕ) → IsNumber (2 ^ 64) text m → IsNumber (2 ^ 64) text n
    → m ≡ n
same_number text m n g h = decimal_injective m n g.fits h.fits (sym g.same ∙ h.same)

-- a number, a space and a text are read in one way
pub number_same : (m n : ℕ) (x y : List ℕ) → m < 2 ^ 64 → n < 2 ^ 64
    → decimal m ++ 32 ∷ x ≡ decimal n ++ 32 ∷ y → (m ≡ n) × (x ≡ y)
number_same m n x y g h e =
    let cut = cut_same (decimal m) (decimal n) (Some x) (Some y) (decimal-plain m g) (decimal-plain n h) e in
    (decimal_injective m n g h cut.0, some_same cut.1)

-- a number and the rest are read in one way
pub begins_same : (text : List ℕ) (m n : ℕ) (x y : List ℕ)
    → BeginsWithNumber (2 ^ 64) text m x → BeginsWithNumber (2 ^ 64) text n y → (m ≡ n) × (x ≡ y)
begins_same text m n x y g h = number_same m n x y g.fits h.fits (sym g.split ∙ h.split)

-- a text whose first word isn't a number's begins with no number
pub no_front_number : (bound : ℕ) (text word : List ℕ) (rest : Option (List ℕ))
    → bound ≤ 2 ^ 64 → text ≡ word ++ behind_word rest → HasNoSpace word → ((n : ℕ) → ¬ IsNumber bound word n) → ¬ Begins bound text
no_front_number bound text word rest small cut plain none (n, tail, begins) =
    let number = decimal-plain n (omega (arith, begins.fits)) in
    let same = cut_same word (decimal n) rest (Some tail) plain number (sym cut ∙ begins.split) in
    none n (record { same = same.0; fits = begins.fits })
