-- Values of an action that no atom of an expression sees.
use Rattle.std.proofs.Common.{◌≡◌, ◌↔◌, ℕ, suc, length, Bool, true, false, cond, Option, Some, None}
use Rattle.std.proofs.Common.{List, [], ◌∷◌, inl, inr, refl, ap, sym, subst}
use Rattle.std.specs.List.{zip}
use Rattle.ix_words.specs.Each.{Member, here, there}
use Rattle.ix_values.specs.Order.{text_eq}
use Rattle.ix_values.specs.lemmas.Order.{text_eq-decides}
use Rattle.ix_values.specs.PlainAction.{PlainAction}
use Rattle.ix_expr.specs.declared.arg.Arg.{Arg}
use Rattle.ix_expr.specs.declared.arg.Arg.TheVariants.{Fixed, Param}
use Rattle.ix_expr.specs.Form.{PlainAtom, Form, atom, opt, seq, star, par, par_star, or, and, couple}
use Rattle.ix_expr.specs.Form.{any, every, sync, all, times}
use Rattle.ix_expr.specs.Environment.{Environment, value_in, bind, HaveValues, Matches}
use Rattle.ix_expr.specs.Sees.{AtomSees, Sees}
use Rattle.ix_expr.specs.Laws.{AtomsAgreeAt}

-- the environments agree on which parameter has which value, but for p and v
record AgreeButFor (p v : List ℕ) (e f : Environment) : Type 0 where
  agree : (q u : List ℕ) → ¬ ((q ≡ p) × (u ≡ v)) → (value_in e q ≡ Some u) ↔ (value_in f q ≡ Some u)

back : {p v : List ℕ} {e f : Environment} → AgreeButFor p v e f → AgreeButFor p v f e
back g = record { agree = λ q u n. let k = g.agree q u n in (k.1, k.0) }

same_given : (b : Bool) (w x y : Option (List ℕ)) (u : List ℕ) → (x ≡ Some u) ↔ (y ≡ Some u)
    → (cond b w x ≡ Some u) ↔ (cond b w y ≡ Some u)
same_given true w x y u k = (λ h. h, λ h. h)
same_given false w x y u k = k

bound : {p v : List ℕ} {e f : Environment} (q : List ℕ) (w : Option (List ℕ)) → AgreeButFor p v e f
    → AgreeButFor p v (bind q w e) (bind q w f)
bound {p} {v} {e} {f} q w g =
    record { agree = λ r u n. same_given (text_eq q r) w (value_in e r) (value_in f r) u (g.agree r u n) }

outside : (b : Bool) (p q v u : List ℕ) (x : Option (List ℕ)) → text_eq p q ≡ b → ¬ ((q ≡ p) × (u ≡ v))
    → (cond b (Some v) x ≡ Some u) ↔ (cond b None x ≡ Some u)
outside true p q v u x t n = (
  λ h. absurd (n (sym ((text_eq-decides p q).0 t), cc)),
  λ h. cc,
)
outside false p q v u x t n = (λ h. h, λ h. h)

given_or_outside : (p v : List ℕ) (e : Environment) → AgreeButFor p v (bind p (Some v) e) (bind p None e)
given_or_outside p v e =
    record { agree = λ q u n. outside (text_eq p q) p q v u (value_in e q) refl n }

as_many : (e : Environment) (arguments : List Arg) (values : List (List ℕ)) → HaveValues e arguments values
    → length arguments ≡ length values
as_many e [] [] h = refl
as_many e [] (v ∷ values) h = absurd h
as_many e (argument ∷ arguments) [] h = absurd h
as_many e (argument ∷ arguments) (v ∷ values) h = ap (λ n. suc n) (as_many e arguments values h.1)

-- p doesn't stand where the value is v
abbrev Apart : List ℕ → List ℕ → List Arg → List (List ℕ) → Type 0
Apart p v arguments values = ¬ Member (Param p, v) (zip arguments values)

not_here : (p v q u : List ℕ) (arguments : List Arg) (values : List (List ℕ))
    → Apart p v (Param q ∷ arguments) (u ∷ values) → ¬ ((q ≡ p) × (u ≡ v))
not_here p v q u arguments values n k =
    let P : List ℕ → List ℕ → Type 0 = λ r w. Member (Param r, w) (zip (Param q ∷ arguments) (u ∷ values)) in
    n (subst (λ r. P r v) k.0 (subst (λ w. P q w) k.1 here))

values_alike : {e f : Environment} (p v : List ℕ) (arguments : List Arg) (values : List (List ℕ))
    → AgreeButFor p v e f → Apart p v arguments values → HaveValues e arguments values → HaveValues f arguments values
values_alike p v [] [] g n h = h
values_alike p v [] (u ∷ values) g n h = h
values_alike p v (argument ∷ arguments) [] g n h = h
values_alike p v (Fixed w ∷ arguments) (u ∷ values) g n h =
    (h.0, values_alike p v arguments values g (λ m. n (there m)) h.1)
values_alike p v (Param q ∷ arguments) (u ∷ values) g n h = (
  (g.agree q u (not_here p v q u arguments values n)).0 h.0,
  values_alike p v arguments values g (λ m. n (there m)) h.1,
)

matches_alike : {e f : Environment} (x : PlainAtom) (p v : List ℕ) (a : PlainAction)
    → AgreeButFor p v e f → ¬ AtomSees x p v a → Matches x e a → Matches x f a
matches_alike {e} x p v a g n h =
    let many : length x.arguments ≡ length a.values = as_many e x.arguments a.values h.1 in
    let apart : Apart p v x.arguments a.values = λ m. n (record { named = h.0; counted = many; placed = m }) in
    (h.0, values_alike p v x.arguments a.values g apart h.1)

-- where no atom sees v by p, the atoms match alike under environments that agree but for p and v
unseen-atoms : (x : Form) {e f : Environment} (p v : List ℕ) (a : PlainAction)
    → AgreeButFor p v e f → ¬ Sees x p v a → AtomsAgreeAt x e f a
unseen-atoms (atom x) p v a g n = (matches_alike x p v a g n, matches_alike x p v a (back g) n)
unseen-atoms (opt y) p v a g n = unseen-atoms y p v a g n
unseen-atoms (seq y z) p v a g n =
    (unseen-atoms y p v a g (λ s. n (inl s)), unseen-atoms z p v a g (λ s. n (inr s)))
unseen-atoms (star y) p v a g n = unseen-atoms y p v a g n
unseen-atoms (par y z) p v a g n =
    (unseen-atoms y p v a g (λ s. n (inl s)), unseen-atoms z p v a g (λ s. n (inr s)))
unseen-atoms (par_star y) p v a g n = unseen-atoms y p v a g n
unseen-atoms (or y z) p v a g n =
    (unseen-atoms y p v a g (λ s. n (inl s)), unseen-atoms z p v a g (λ s. n (inr s)))
unseen-atoms (and y z) p v a g n =
    (unseen-atoms y p v a g (λ s. n (inl s)), unseen-atoms z p v a g (λ s. n (inr s)))
unseen-atoms (couple y z) p v a g n =
    (unseen-atoms y p v a g (λ s. n (inl s)), unseen-atoms z p v a g (λ s. n (inr s)))
unseen-atoms (any q y) p v a g n = λ w. unseen-atoms y p v a (bound q w g) n
unseen-atoms (every q y) p v a g n = λ w. unseen-atoms y p v a (bound q w g) n
unseen-atoms (sync q y) p v a g n = λ w. unseen-atoms y p v a (bound q w g) n
unseen-atoms (all q y) p v a g n = λ w. unseen-atoms y p v a (bound q w g) n
unseen-atoms (times m y) p v a g n = unseen-atoms y p v a g n

-- a value that no atom sees counts as outside
pub unseen-outside : (x : Form) (e : Environment) (p v : List ℕ) (a : PlainAction)
    → ¬ Sees x p v a → AtomsAgreeAt x (bind p (Some v) e) (bind p None e) a
unseen-outside x e p v a n = unseen-atoms x p v a (given_or_outside p v e) n
