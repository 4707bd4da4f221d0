-- The tests of matching, of the alphabet and of the empty word are the relations.
use Rattle.std.proofs.Common.{◌≡◌, ◌↔◌, ◌⊎◌, inl, inr, ℕ, zero, suc, ◌==◌, eqb-true, eq-eqb, arith, Bool, true, not, List, [], ◌∷◌, ◌++◌, Option, Some, None, refl, sym, ap, subst, true≢false}
use Rattle.std.specs.List.{list_any}
use Rattle.std.specs.Prelude.{IsTrue}
use Rattle.ix_words.specs.Each.{no_item, Member, here, there}
use Rattle.ix_words.specs.Words.{Joined, Split, Shared, Owned, Projected}
use Rattle.ix_words.specs.Parts.{ended}
use Rattle.ix_words.proofs.Canon.{map-Member}
use Rattle.ix_words.proofs.Parts.{part-nil, Projection-once}
use Rattle.ix_words.proofs.Words.{Joined-empty, Repeated-empty, Split-empty, Shared-empty, Numbered-empty, Owned-empty, Projected-empty}
use Rattle.ix_values.specs.Order.{text_eq}
use Rattle.ix_values.specs.lemmas.Order.{text_eq-decides}
use Rattle.ix_values.specs.PlainAction.{PlainAction, Word}
use Rattle.ix_expr.specs.declared.arg.Arg.{Arg}
use Rattle.ix_expr.specs.declared.arg.Arg.TheVariants.{Fixed, Param}
use Rattle.ix_expr.specs.Form.{PlainAtom, Form, atom, opt, seq, star, par, par_star, or, and, couple, any, every, sync, all, times}
use Rattle.ix_expr.specs.Environment.{Environment, value_in, bind, HasValue, HaveValues, Matches}
use Rattle.ix_expr.specs.Meaning.{InAlphabet, IsComplete}
use Rattle.ix_expr.proofs.Agreement.{alphabet-leads, outside-leads, unused-leads, member-or-not}
use Rattle.ix_expr.specs.Tests.{is_value, has_value, have_values, is_match, values_and_outside, in_alphabet, accepts_empty}
use Rattle.ix_words.proofs.Deciding.{itself, iff_trans, iff_sym, one_test, when_either, when_both, any_from, any_says}

is_value_says : (x : Option (List ℕ)) (v : List ℕ) → (is_value x v ≡ true) ↔ (x ≡ Some v)
is_value_says None v = (λ e. absurd (true≢false (sym e)), λ e. absurd (cc))
is_value_says (Some u) v = (λ e. ap Some ((text_eq-decides u v).0 e), λ e. (text_eq-decides u v).1 (cc))

has_value_says : (e : Environment) (x : Arg) (v : List ℕ) → (has_value e x v ≡ true) ↔ HasValue e x v
has_value_says e (Fixed u) v = text_eq-decides u v
has_value_says e (Param p) v = is_value_says (value_in e p) v

have_values_say : (e : Environment) (xs : List Arg) (vs : List (List ℕ)) → (have_values e xs vs ≡ true) ↔ HaveValues e xs vs
have_values_say e [] [] = (λ h. tt, λ h. refl)
have_values_say e [] (v ∷ vs) = (λ h. absurd (true≢false (sym h)), λ h. absurd h)
have_values_say e (x ∷ xs) [] = (λ h. absurd (true≢false (sym h)), λ h. absurd h)
have_values_say e (x ∷ xs) (v ∷ vs) = when_both (has_value e x v) (have_values e xs vs) (has_value_says e x v) (have_values_say e xs vs)

-- the test of matching is matching
pub match_says : (x : PlainAtom) (e : Environment) (a : PlainAction) → (is_match x e a ≡ true) ↔ Matches x e a
match_says x e a = when_both (text_eq x.name a.name) (have_values e x.arguments a.values) (text_eq-decides x.name a.name) (have_values_say e x.arguments a.values)

-- some value makes it so exactly where one of the action's or outside does
quantified : (p : List ℕ) (y : Form) (e : Environment) (a : PlainAction) → ((v : Option (List ℕ)) → (in_alphabet y (bind p v e) a ≡ true) ↔ InAlphabet y (bind p v e) a) →
    (list_any (λ v. in_alphabet y (bind p v e) a) (values_and_outside a) ≡ true) ↔ ((v : List ℕ) × InAlphabet y (bind p (Some v) e) a)
quantified p y e a says = (
  λ h. let k = (any_says (λ v. in_alphabet y (bind p v e) a) (values_and_outside a)).0 h in
      some k.which ((says k.which).0 k.passes),
  λ h. from h.0 h.1 (member-or-not h.0 a.values),
)
  where
    some : (v : Option (List ℕ)) → InAlphabet y (bind p v e) a → (u : List ℕ) × InAlphabet y (bind p (Some u) e) a
    some None i = ([], alphabet-leads y a (outside-leads p [] e a.values) i)
    some (Some v) i = (v, i)

    from : (v : List ℕ) → InAlphabet y (bind p (Some v) e) a → Member v a.values ⊎ (¬ Member v a.values) → list_any (λ u. in_alphabet y (bind p u e) a) (values_and_outside a) ≡ true
    from v i (inl m) = any_from (λ u. in_alphabet y (bind p u e) a) (values_and_outside a) (there (map-Member Some m)) ((says (Some v)).1 i)
    from v i (inr n) = any_from (λ u. in_alphabet y (bind p u e) a) (values_and_outside a) here ((says None).1 (alphabet-leads y a (unused-leads p v e a.values n) i))

-- the test of the alphabet is the alphabet
pub alphabet_says : (x : Form) (e : Environment) (a : PlainAction) → (in_alphabet x e a ≡ true) ↔ InAlphabet x e a
alphabet_says (atom x) e a = match_says x e a
alphabet_says (opt y) e a = alphabet_says y e a
alphabet_says (seq y z) e a = when_either (in_alphabet y e a) (in_alphabet z e a) (alphabet_says y e a) (alphabet_says z e a)
alphabet_says (star y) e a = alphabet_says y e a
alphabet_says (par y z) e a = when_either (in_alphabet y e a) (in_alphabet z e a) (alphabet_says y e a) (alphabet_says z e a)
alphabet_says (par_star y) e a = alphabet_says y e a
alphabet_says (or y z) e a = when_either (in_alphabet y e a) (in_alphabet z e a) (alphabet_says y e a) (alphabet_says z e a)
alphabet_says (and y z) e a = when_either (in_alphabet y e a) (in_alphabet z e a) (alphabet_says y e a) (alphabet_says z e a)
alphabet_says (couple y z) e a = when_either (in_alphabet y e a) (in_alphabet z e a) (alphabet_says y e a) (alphabet_says z e a)
alphabet_says (any p y) e a = quantified p y e a (λ v. alphabet_says y (bind p v e) a)
alphabet_says (every p y) e a = quantified p y e a (λ v. alphabet_says y (bind p v e) a)
alphabet_says (sync p y) e a = quantified p y e a (λ v. alphabet_says y (bind p v e) a)
alphabet_says (all p y) e a = quantified p y e a (λ v. alphabet_says y (bind p v e) a)
alphabet_says (times n y) e a = alphabet_says y e a

-- The empty word

nothing_joined : (u v : Word) → [] ≡ u ++ v → (u ≡ []) × (v ≡ [])
nothing_joined [] v e = (refl, sym e)
nothing_joined (a ∷ u) v e = absurd (cc)

Joined-parts : {C D : Word → Type 0} → Joined C D [] → C [] × D []
Joined-parts {C} {D} h =
    let k = nothing_joined h.front h.back h.whole in
    (subst C k.0 h.front_has, subst D k.1 h.back_has)

Split-parts : {C D : Word → Type 0} → Split C D [] → C [] × D []
Split-parts {C} {D} h =
    (subst C (part-nil (λ mark. mark) h.marks) h.left_has, subst D (part-nil not h.marks) h.right_has)

Projected-part : {In : PlainAction → Type 0} {C : Word → Type 0} → Projected In C [] → C []
Projected-part {C = C} h = subst C (Projection-once h.projection ended) h.rest_has

Owned-part : {C : List ℕ → Word → Type 0} → Owned text_eq C [] → (v : List ℕ) → C v []
Owned-part {C} h v = subst (C v) (part-nil (text_eq v) h.owners) (h.each_has v)

-- the empty word is shared among n runs where there is none, or where it is a run
empty-shared : (n : ℕ) (C : Word → Type 0) → (((n == 0) ≡ true) ⊎ C []) ↔ Shared n C []
empty-shared n C = (λ h. elim h [ inl z ↦ none_wanted n z | inr c ↦ Shared-empty c ], some_wanted n)
  where
    none_wanted : (m : ℕ) → (m == 0) ≡ true → Shared m C []
    none_wanted zero z = record { owners = []; as_long = refl; below = no_item; each_has = λ k low. absurd (omega arith) }
    none_wanted (suc m) z = let e : suc m ≡ 0 = eqb-true (suc m) 0 z in absurd (omega arith)

    some_wanted : (m : ℕ) → Shared m C [] → ((m == 0) ≡ true) ⊎ C []
    some_wanted zero h = inl (eq-eqb 0 0 refl)
    some_wanted (suc m) h = inr (subst C (part-nil (λ other. 0 == other) h.owners) (h.each_has 0 (omega arith)))

-- the test of the empty word says whether it is complete
pub empty_complete : (x : Form) (e : Environment) → (accepts_empty x ≡ true) ↔ IsComplete x e []
empty_complete (atom x) e = (λ h. absurd (true≢false (sym h)), λ h. let n : [] ≡ h.0 ∷ [] = h.1 in absurd (cc))
empty_complete (opt y) e = (λ h. inl refl, λ h. refl)
empty_complete (seq y z) e =
    iff_trans (when_both (accepts_empty y) (accepts_empty z) (empty_complete y e) (empty_complete z e)) (λ h. Joined-empty h.0 h.1, Joined-parts)
empty_complete (star y) e = (λ h. Repeated-empty, λ h. refl)
empty_complete (par y z) e =
    iff_trans (when_both (accepts_empty y) (accepts_empty z) (empty_complete y e) (empty_complete z e)) (λ h. Split-empty h.0 h.1, Split-parts)
empty_complete (par_star y) e = (λ h. Numbered-empty, λ h. refl)
empty_complete (or y z) e = when_either (accepts_empty y) (accepts_empty z) (empty_complete y e) (empty_complete z e)
empty_complete (and y z) e = when_both (accepts_empty y) (accepts_empty z) (empty_complete y e) (empty_complete z e)
empty_complete (couple y z) e =
    iff_trans (when_both (accepts_empty y) (accepts_empty z) (empty_complete y e) (empty_complete z e))
    (λ h. (no_item, Projected-empty h.0, Projected-empty h.1), λ h. (Projected-part h.1, Projected-part h.2))
empty_complete (any p y) e = (λ h. ([], (empty_complete y (bind p (Some []) e)).0 h), λ h. (empty_complete y (bind p (Some h.0) e)).1 h.1)
empty_complete (every p y) e = (λ h v. (empty_complete y (bind p (Some v) e)).0 h, λ h. (empty_complete y (bind p (Some []) e)).1 (h []))
empty_complete (sync p y) e = (
  λ h. (no_item, λ v. Projected-empty ((empty_complete y (bind p (Some v) e)).0 h)),
  λ h. (empty_complete y (bind p (Some []) e)).1 (Projected-part (h.1 [])),
)
empty_complete (all p y) e = (
  λ h. Owned-empty (λ v. (empty_complete y (bind p (Some v) e)).0 h),
  λ h. (empty_complete y (bind p (Some []) e)).1 (Owned-part h []),
)
empty_complete (times n y) e = iff_trans (when_either (n == 0) (accepts_empty y) itself (empty_complete y e)) (empty-shared n (IsComplete y e))

-- an answer that is the test's says it too
pub tells_complete : (x : Form) (b : Bool) → b ≡ accepts_empty x → (e : Environment) → (IsTrue b → IsComplete x e []) × (IsComplete x e [] → IsTrue b)
tells_complete x b same e = subst (λ (t : Bool). IsTrue t ↔ IsComplete x e []) (sym same) (empty_complete x e)

-- an answer that says the relation is the test's
pub tells_match : (x : PlainAtom) (e : Environment) (a : PlainAction) (b : Bool) → (IsTrue b → Matches x e a) × (Matches x e a → IsTrue b) → b ≡ is_match x e a
tells_match x e a b says = one_test b (is_match x e a) (iff_trans says (iff_sym (match_says x e a)))

pub tells_inside : (x : Form) (e : Environment) (a : PlainAction) (b : Bool) → (IsTrue b → InAlphabet x e a) × (InAlphabet x e a → IsTrue b) → b ≡ in_alphabet x e a
tells_inside x e a b says = one_test b (in_alphabet x e a) (iff_trans says (iff_sym (alphabet_says x e a)))
