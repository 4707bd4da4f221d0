-- Whether an atom can match an action, by its arguments and values alone.
use Rattle.std.proofs.Common.{◌≡◌, ◌↔◌, ℕ, Bool, true, false, not, ◌&&◌, ◌||◌, List, [], ◌∷◌, Option, Some, refl, sym, ap, ◌∙◌, true≢false, if◌then◌else◌}
use Rattle.ix_values.specs.Order.{text_eq}
use Rattle.ix_values.specs.lemmas.Order.{text_eq-decides}
use Rattle.ix_values.specs.PlainAction.{PlainAction}
use Rattle.ix_expr.specs.declared.arg.Arg.{Arg}
use Rattle.ix_expr.specs.declared.arg.Arg.TheVariants.{Fixed, Param}
use Rattle.ix_expr.specs.Form.{PlainAtom}
use Rattle.ix_expr.specs.Environment.{Environment, bind, value_in, HasValue, HaveValues, Matches}
use Rattle.ix_words.proofs.Deciding.{itself, when_both}
use Rattle.ix_stuck.specs.inside.Matching.{agrees, all_agree, can_have, can_match}

both : (a b : Bool) → a && b ≡ true → (a ≡ true) × (b ≡ true)
both a b = (when_both a b itself itself).0

and : (a b : Bool) → a ≡ true → b ≡ true → a && b ≡ true
and a b p q = (when_both a b itself itself).1 (p, q)

-- From the test to an environment

picks : (b c : Bool) (v w : List ℕ) (r : Option (List ℕ)) → (c ≡ true → v ≡ w) → not b || c ≡ true → r ≡ Some w → (if b then Some v else r) ≡ Some w
picks true c v w r f a h = ap Some (f a)
picks false c v w r f a h = h

one_bound : (p v : List ℕ) (x : Arg) (w : List ℕ) (e : Environment) → agrees p v x w ≡ true → HasValue e x w → HasValue (bind p (Some v) e) x w
one_bound p v (Fixed u) w e a h = h
one_bound p v (Param q) w e a h = picks (text_eq p q) (text_eq v w) v w (value_in e q) (text_eq-decides v w).0 a h

all_bound : (p v : List ℕ) (xs : List Arg) (ws : List (List ℕ)) (e : Environment) → all_agree p v xs ws ≡ true → HaveValues e xs ws → HaveValues (bind p (Some v) e) xs ws
all_bound p v [] [] e a h = tt
all_bound p v [] (w ∷ ws) e a h = absurd h
all_bound p v (x ∷ xs) [] e a h = absurd h
all_bound p v (x ∷ xs) (w ∷ ws) e a h =
    let k = both (agrees p v x w) (all_agree p v xs ws) a in
    (one_bound p v x w e k.0 h.0, all_bound p v xs ws e k.1 h.1)

bound_here : (p v : List ℕ) (e : Environment) → value_in (bind p (Some v) e) p ≡ Some v
bound_here p v e = ap (λ b. if b then Some v else value_in e p) ((text_eq-decides p p).1 refl)

some_environment : (xs : List Arg) (vs : List (List ℕ)) → can_have xs vs ≡ true → (e : Environment) × HaveValues e xs vs
some_environment [] [] a = ([], tt)
some_environment [] (v ∷ vs) a = absurd (true≢false (sym a))
some_environment (x ∷ xs) [] a = absurd (true≢false (sym a))
some_environment (Fixed u ∷ xs) (v ∷ vs) a =
    let k = both (text_eq u v) (can_have xs vs) a in
    let r = some_environment xs vs k.1 in
    (r.0, ((text_eq-decides u v).0 k.0, r.1))
some_environment (Param p ∷ xs) (v ∷ vs) a =
    let k = both (all_agree p v xs vs) (can_have xs vs) a in
    let r = some_environment xs vs k.1 in
    (bind p (Some v) r.0, (bound_here p v r.0, all_bound p v xs vs r.0 k.0 r.1))

-- And back

agrees_here : (b c : Bool) → (b ≡ true → c ≡ true) → not b || c ≡ true
agrees_here true c f = f refl
agrees_here false c f = refl

one_agrees : (p v : List ℕ) (x : Arg) (w : List ℕ) (e : Environment) → value_in e p ≡ Some v → HasValue e x w → agrees p v x w ≡ true
one_agrees p v (Fixed u) w e is h = refl
one_agrees p v (Param q) w e is h = agrees_here (text_eq p q) (text_eq v w) (λ b.
    let same = (text_eq-decides p q).0 b in
    let some : Some v ≡ Some w = sym is ∙ ap (value_in e) same ∙ h in
    (text_eq-decides v w).1 (cc))

all_agrees : (p v : List ℕ) (xs : List Arg) (ws : List (List ℕ)) (e : Environment) → value_in e p ≡ Some v → HaveValues e xs ws → all_agree p v xs ws ≡ true
all_agrees p v [] ws e is h = refl
all_agrees p v (x ∷ xs) [] e is h = refl
all_agrees p v (x ∷ xs) (w ∷ ws) e is h = and (agrees p v x w) (all_agree p v xs ws) (one_agrees p v x w e is h.0) (all_agrees p v xs ws e is h.1)

can_have_them : (e : Environment) (xs : List Arg) (vs : List (List ℕ)) → HaveValues e xs vs → can_have xs vs ≡ true
can_have_them e [] [] h = refl
can_have_them e [] (v ∷ vs) h = absurd h
can_have_them e (x ∷ xs) [] h = absurd h
can_have_them e (Fixed u ∷ xs) (v ∷ vs) h = and (text_eq u v) (can_have xs vs) ((text_eq-decides u v).1 h.0) (can_have_them e xs vs h.1)
can_have_them e (Param p ∷ xs) (v ∷ vs) h = and (all_agree p v xs vs) (can_have xs vs) (all_agrees p v xs vs e h.0 h.1) (can_have_them e xs vs h.1)

-- the test is true exactly where the atom matches under some environment
pub can_match_says : (s : PlainAtom) (a : PlainAction) → (can_match s a ≡ true) ↔ ((e : Environment) × Matches s e a)
can_match_says s a = (
  λ h. let k = both (text_eq s.name a.name) (can_have s.arguments a.values) h in
      let r = some_environment s.arguments a.values k.1 in
      (r.0, ((text_eq-decides s.name a.name).0 k.0, r.1)),
  λ h. and (text_eq s.name a.name) (can_have s.arguments a.values) ((text_eq-decides s.name a.name).1 h.1.0) (can_have_them h.0 s.arguments a.values h.1.1),
)
