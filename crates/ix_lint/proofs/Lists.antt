-- Tests of lists, and which atoms name a parameter.
use Rattle.std.proofs.Common.{◌≡◌, ◌≢◌, ◌⊎◌, inl, inr, ℕ, Bool, true, false, not, ◌&&◌, ◌||◌, List, [], ◌∷◌, ◌++◌, refl, sym, ap, ◌∙◌, true≢false}
use Rattle.std.specs.List.{list_any, list_all}
use Rattle.ix_words.specs.Each.{Member, there}
use Rattle.ix_words.proofs.Canon.{Member-same}
use Rattle.ix_values.specs.Order.{text_eq}
use Rattle.ix_values.specs.lemmas.Order.{text_eq-decides}
use Rattle.ix_expr.specs.declared.arg.Arg.{Arg}
use Rattle.ix_expr.specs.declared.arg.Arg.TheVariants.{Fixed, Param}
use Rattle.ix_expr.specs.Form.{Form, atom, opt, seq, star, par, par_star, or, and, couple, any, every, sync, all, times}
use Rattle.ix_expr.specs.FormFaults.{is_parameter}
use Rattle.ix_expr.specs.Laws.{EachAtomNames}
use Rattle.ix_lint.specs.Nodes.{forms}
use Rattle.ix_lint.specs.Names.{keeps_naming, each_names}

pub both : (a b : Bool) → a && b ≡ true → (a ≡ true) × (b ≡ true)
both true true e = (refl, refl)
both true false e = absurd (true≢false (sym e))
both false b e = absurd (true≢false (sym e))

pub either : (a b : Bool) → a || b ≡ true → (a ≡ true) ⊎ (b ≡ true)
either true b e = inl refl
either false b e = inr e

pub neither : (a b : Bool) → a || b ≡ false → (a ≡ false) × (b ≡ false)
neither true b e = absurd (true≢false e)
neither false b e = (refl, e)

pub not_true : (a : Bool) → not a ≡ true → a ≡ false
not_true true e = absurd (true≢false (sym e))
not_true false e = refl

pub not_false : (a : Bool) → a ≡ false → not a ≡ true
not_false true e = absurd (true≢false e)
not_false false e = refl

pub all_parts : {A : Type 0} (test : A → Bool) (xs ys : List A) → list_all test (xs ++ ys) ≡ true → (list_all test xs ≡ true) × (list_all test ys ≡ true)
all_parts test [] ys e = (refl, e)
all_parts test (x ∷ xs) ys e =
    let h = both (test x) (list_all test (xs ++ ys)) e in
    let k = all_parts test xs ys h.1 in
    ((λ i. h.0 i && k.0 i), k.1)

pub any_left : {A : Type 0} (test : A → Bool) (xs ys : List A) → list_any test xs ≡ true → list_any test (xs ++ ys) ≡ true
any_left test [] ys e = absurd (true≢false (sym e))
any_left test (x ∷ xs) ys e = elim (either (test x) (list_any test xs) e) [
  | inl h ↦ ap (λ b. b || list_any test (xs ++ ys)) h
  | inr h ↦ ap (λ b. test x || b) (any_left test xs ys h) ∙ or_true (test x)
]
  where
    or_true : (b : Bool) → b || true ≡ true
    or_true true = refl
    or_true false = refl

pub any_right : {A : Type 0} (test : A → Bool) (xs ys : List A) → list_any test ys ≡ true → list_any test (xs ++ ys) ≡ true
any_right test [] ys e = e
any_right test (x ∷ xs) ys e = ap (λ b. test x || b) (any_right test xs ys e) ∙ or_true (test x)
  where
    or_true : (b : Bool) → b || true ≡ true
    or_true true = refl
    or_true false = refl

-- Names

one_parameter : (p q : List ℕ) (arguments : List Arg) (b rest : Bool) → (b ≡ true → p ≡ q) → (rest ≡ true → Member (Param p) arguments) → b || rest ≡ true → Member (Param p) (Param q ∷ arguments)
one_parameter p q arguments true rest same later e = Member-same arguments (ap Param (same refl))
one_parameter p q arguments false rest same later e = there (later e)

some_parameter : (p : List ℕ) (arguments : List Arg) → list_any (is_parameter p) arguments ≡ true → Member (Param p) arguments
some_parameter p [] e = absurd (true≢false (sym e))
some_parameter p (Fixed v ∷ arguments) e = there (some_parameter p arguments e)
some_parameter p (Param q ∷ arguments) e =
    one_parameter p q arguments (text_eq p q) (list_any (is_parameter p) arguments) (text_eq-decides p q).0 (some_parameter p arguments) e

other : (p q : List ℕ) → not (text_eq q p) ≡ true → q ≢ p
other p q e same = true≢false (sym ((text_eq-decides q p).1 same) ∙ not_true (text_eq q p) e)

-- where each atom is tested to name the parameter, each does
pub each-atom : (p : List ℕ) (y : Form) → each_names p y ≡ true → EachAtomNames p y
each-atom p (atom x) h = some_parameter p x.arguments (both (list_any (is_parameter p) x.arguments) true h).0
each-atom p (opt y) h = each-atom p y h
each-atom p (seq y z) h = let k = all_parts (keeps_naming p) (forms y) (forms z) h in (each-atom p y k.0, each-atom p z k.1)
each-atom p (star y) h = each-atom p y h
each-atom p (par y z) h = let k = all_parts (keeps_naming p) (forms y) (forms z) h in (each-atom p y k.0, each-atom p z k.1)
each-atom p (par_star y) h = each-atom p y h
each-atom p (or y z) h = let k = all_parts (keeps_naming p) (forms y) (forms z) h in (each-atom p y k.0, each-atom p z k.1)
each-atom p (and y z) h = let k = all_parts (keeps_naming p) (forms y) (forms z) h in (each-atom p y k.0, each-atom p z k.1)
each-atom p (couple y z) h = let k = all_parts (keeps_naming p) (forms y) (forms z) h in (each-atom p y k.0, each-atom p z k.1)
each-atom p (any q y) h = let k = both (not (text_eq q p)) (each_names p y) h in (other p q k.0, each-atom p y k.1)
each-atom p (every q y) h = let k = both (not (text_eq q p)) (each_names p y) h in (other p q k.0, each-atom p y k.1)
each-atom p (sync q y) h = let k = both (not (text_eq q p)) (each_names p y) h in (other p q k.0, each-atom p y k.1)
each-atom p (all q y) h = let k = both (not (text_eq q p)) (each_names p y) h in (other p q k.0, each-atom p y k.1)
each-atom p (times n y) h = each-atom p y h
