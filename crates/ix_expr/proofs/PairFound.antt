-- A test of pairs finds the parameter beside the value.
use Rattle.std.proofs.Common.{◌≡◌, ◌↔◌, ◌⊎◌, ◌&&◌, ◌||◌, ℕ, Bool, true, false, List, [], ◌∷◌}
use Rattle.std.proofs.Common.{inl, inr, refl, sym, subst, ap, ◌∙◌}
use Rattle.std.specs.Cmp.Derive.{both_true}
use Rattle.std.specs.List.{list_any, zip}
use Rattle.ix_words.specs.Each.{Member, here, there}
use Rattle.ix_words.proofs.Canon.{Member-cases}
use Rattle.ix_values.specs.Order.{text_eq}
use Rattle.ix_values.specs.lemmas.Order.{text_eq-decides}
use Rattle.ix_expr.specs.declared.arg.Arg.{Arg}
use Rattle.ix_expr.specs.declared.arg.Arg.TheVariants.{Fixed, Param}
use Rattle.ix_expr.specs.FormFaults.{is_parameter}
use Rattle.ix_expr.specs.inside.Pairs.{is_pair}

abbrev Pair : Type 0
Pair = Arg × List ℕ

both : (b c : Bool) → (b && c) ≡ true → (b ≡ true) × (c ≡ true)
both true c h = (refl, h)
both false c h = absurd (cc)

either : (b c : Bool) → (b || c) ≡ true → (b ≡ true) ⊎ (c ≡ true)
either true c h = inl refl
either false c h = inr h

or_right : (b : Bool) → (b || true) ≡ true
or_right true = refl
or_right false = refl

parameter_is : (p : List ℕ) (argument : Arg) → is_parameter p argument ≡ true → Param p ≡ argument
parameter_is p (Fixed u) h = absurd (cc)
parameter_is p (Param q) h = ap (λ r. Param r) ((text_eq-decides p q).0 h)

pair_is : (p v : List ℕ) (argument : Arg) (u : List ℕ) → is_pair p v (argument, u) ≡ true
    → Param p ≡ argument × v ≡ u
pair_is p v argument u h =
    let k = both (is_parameter p argument) (text_eq u v) h in
    (parameter_is p argument k.0, sym ((text_eq-decides u v).0 k.1))

is_found : (p v : List ℕ) → is_pair p v (Param p, v) ≡ true
is_found p v = both_true ((text_eq-decides p p).1 refl) ((text_eq-decides v v).1 refl)

pub pair_member : (p v : List ℕ) (pairs : List Pair)
    → list_any (is_pair p v) pairs ≡ true → Member (Param p, v) pairs
pair_member p v [] h = absurd (cc)
pair_member p v (k ∷ pairs) h = elim (either (is_pair p v k) (list_any (is_pair p v) pairs) h) [
  | inl is ↦
      let same = pair_is p v k.0 k.1 is in
      subst (λ w. Member (Param p, w) (k ∷ pairs)) (sym same.1)
      (subst (λ x. Member (x, k.1) (k ∷ pairs)) (sym same.0) here)
  | inr rest ↦ there (pair_member p v pairs rest)
]

pub member_pair : (p v : List ℕ) (pairs : List Pair)
    → Member (Param p, v) pairs → list_any (is_pair p v) pairs ≡ true
member_pair p v [] m = elim m [ ]
member_pair p v (k ∷ pairs) m = elim (Member-cases m) [
  | inl e ↦
      let is : is_pair p v k ≡ true = subst (λ x. is_pair p v x ≡ true) e (is_found p v) in
      ap (λ b. b || list_any (is_pair p v) pairs) is
  | inr rest ↦
      ap (λ b. is_pair p v k || b) (member_pair p v pairs rest) ∙ or_right (is_pair p v k)
]

-- what the test answers of lists that are xs and ys
pub pair_found : (p v : List ℕ) (xs xs' : List Arg) (ys ys' : List (List ℕ)) (b : Bool)
    → xs ≡ xs' → ys ≡ ys' → b ≡ list_any (is_pair p v) (zip xs ys)
    → (b ≡ true) ↔ Member (Param p, v) (zip xs' ys')
pair_found p v xs xs' ys ys' b is js e =
    subst (λ zs. (b ≡ true) ↔ Member (Param p, v) (zip zs ys')) is
    (subst (λ zs. (b ≡ true) ↔ Member (Param p, v) (zip xs zs)) js
    (λ h. pair_member p v (zip xs ys) (sym e ∙ h), λ m. e ∙ member_pair p v (zip xs ys) m))
