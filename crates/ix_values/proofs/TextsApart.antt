-- Two actions with one text are the same action.
use Rattle.std.proofs.Common.{◌≡◌, ℕ, true, false, List, [], ◌∷◌, ◌++◌, refl, sym, ◌∙◌, ap, arith, true≢false}
use Rattle.std.specs.Prelude.{All}
use Rattle.std.specs.List.{list_all}
use Rattle.std.proofs.lemmas.List.Elements.{All-head, All-tail}
use Rattle.ix_lines.specs.Bytes.{is_word_byte}
use Rattle.ix_values.specs.Laws.{TextsTellActionsApart}
use Rattle.ix_values.specs.inside.ActionOf.{action_of}
use Rattle.ix_values.specs.PlainAction.{text_of_rest, text_of_values}
use Rattle.ix_values.specs.Texts.{IsValue}
use Rattle.ix_values.proofs.Machine.{and-left, and-right}

-- the text goes on with no word byte
abbrev Ends : List ℕ → Type 0
Ends [] = Unit {0}
Ends (x ∷ xs) = is_word_byte x ≡ false

rest_ends : (values : List (List ℕ)) → Ends (text_of_rest values)
rest_ends [] = refl
rest_ends (x ∷ xs) = refl

values_end : (values : List (List ℕ)) → Ends (text_of_values values)
values_end [] = tt
values_end (x ∷ xs) = refl

cons_head : (x y : ℕ) (xs ys : List ℕ) → x ∷ xs ≡ y ∷ ys → x ≡ y
cons_head x y xs ys e = cc

cons_tail : (x y : ℕ) (xs ys : List ℕ) → x ∷ xs ≡ y ∷ ys → xs ≡ ys
cons_tail x y xs ys e = cc

-- words that end are told apart
pub words_apart : (xs ys r s : List ℕ) → list_all is_word_byte xs ≡ true → list_all is_word_byte ys ≡ true → Ends r → Ends s → xs ++ r ≡ ys ++ s → (xs ≡ ys) × (r ≡ s)
words_apart [] [] r s p q u v e = (refl, e)
words_apart [] (y ∷ ys) [] s p q u v e = absurd (nil_cons y (ys ++ s) e)
  where
    nil_cons : (z : ℕ) (zs : List ℕ) → [] ≡ z ∷ zs → ⊥
    nil_cons z zs h = cc
words_apart [] (y ∷ ys) (z ∷ zs) s p q u v e =
    absurd (true≢false (sym (and-left (is_word_byte y) (list_all is_word_byte ys) q) ∙ ap is_word_byte (sym (cons_head z y zs (ys ++ s) e)) ∙ u))
words_apart (x ∷ xs) [] r [] p q u v e = absurd (nil_cons x (xs ++ r) (sym e))
  where
    nil_cons : (z : ℕ) (zs : List ℕ) → [] ≡ z ∷ zs → ⊥
    nil_cons z zs h = cc
words_apart (x ∷ xs) [] r (z ∷ zs) p q u v e =
    absurd (true≢false (sym (and-left (is_word_byte x) (list_all is_word_byte xs) p) ∙ ap is_word_byte (cons_head x z (xs ++ r) zs e) ∙ v))
words_apart (x ∷ xs) (y ∷ ys) r s p q u v e =
    let rest = words_apart xs ys r s (and-right (is_word_byte x) (list_all is_word_byte xs) p) (and-right (is_word_byte y) (list_all is_word_byte ys) q) u v (cons_tail x y (xs ++ r) (ys ++ s) e) in
    let first : x ≡ y = cons_head x y (xs ++ r) (ys ++ s) e in
    (λ i. first i ∷ rest.0 i, rest.1)

closes_is_not_comma : (xs ys : List ℕ) → 41 ∷ xs ≡ 44 ∷ ys → ⊥
closes_is_not_comma xs ys e = absurd (let same : 41 ≡ 44 = cons_head 41 44 xs ys e in omega arith)

rest_apart : (vs ws : List (List ℕ)) → All IsValue vs → All IsValue ws → text_of_rest vs ≡ text_of_rest ws → vs ≡ ws
rest_apart [] [] a b e = refl
rest_apart [] (w ∷ ws) a b e = absurd (closes_is_not_comma [] (w ++ text_of_rest ws) e)
rest_apart (v ∷ vs) [] a b e = absurd (closes_is_not_comma [] (v ++ text_of_rest vs) (sym e))
rest_apart (v ∷ vs) (w ∷ ws) a b e =
    let first : IsValue v = All-head IsValue v vs a in
    let other : IsValue w = All-head IsValue w ws b in
    let parts = words_apart v w (text_of_rest vs) (text_of_rest ws) first.word other.word (rest_ends vs) (rest_ends ws) (cons_tail 44 44 (v ++ text_of_rest vs) (w ++ text_of_rest ws) e) in
    let rest = rest_apart vs ws (All-tail IsValue v vs a) (All-tail IsValue w ws b) parts.1 in
    λ i. parts.0 i ∷ rest i

values_apart : (vs ws : List (List ℕ)) → All IsValue vs → All IsValue ws → text_of_values vs ≡ text_of_values ws → vs ≡ ws
values_apart [] [] a b e = refl
values_apart [] (w ∷ ws) a b e = absurd (nil_cons (w ++ text_of_rest ws) e)
  where
    nil_cons : (zs : List ℕ) → [] ≡ 40 ∷ zs → ⊥
    nil_cons zs h = cc
values_apart (v ∷ vs) [] a b e = absurd (nil_cons (v ++ text_of_rest vs) (sym e))
  where
    nil_cons : (zs : List ℕ) → [] ≡ 40 ∷ zs → ⊥
    nil_cons zs h = cc
values_apart (v ∷ vs) (w ∷ ws) a b e =
    rest_apart (v ∷ vs) (w ∷ ws) a b (ap (λ t. 44 ∷ t) (cons_tail 40 40 (v ++ text_of_rest vs) (w ++ text_of_rest ws) e))

pub texts_apart : TextsTellActionsApart
texts_apart x y a b e =
    let parts = words_apart x.name y.name (text_of_values x.values) (text_of_values y.values) a.name.word b.name.word (values_end x.values) (values_end y.values) e in
    let values = values_apart x.values y.values a.values b.values parts.1 in
    λ i. action_of (parts.0 i) (values i)
