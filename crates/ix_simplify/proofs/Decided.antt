-- The test of two expressions tells whether they are one.
use Rattle.std.proofs.Common.{◌≡◌, ℕ, Bool, true, false, ◌&&◌, ◌==◌, List, [], ◌∷◌, length, refl, sym, ap, ◌∙◌, true≢false, eqb-true, eq-eqb, arith}
use Rattle.std.specs.List.{list_all, zip}
use Rattle.ix_values.specs.Order.{text_eq}
use Rattle.ix_values.specs.lemmas.Order.{text_eq-decides}
use Rattle.ix_expr.specs.declared.arg.Arg.{Arg}
use Rattle.ix_expr.specs.declared.arg.Arg.TheVariants.{Fixed, Param}
use Rattle.ix_expr.specs.Form.{PlainAtom, Form, atom, opt, seq, star, par, par_star, or, and, couple, any, every, sync, all, times}
use Rattle.ix_simplify.specs.inside.Alike.{same_argument, is_twice, same_arguments, same_atom, same_form}

first_true : (a b : Bool) → a && b ≡ true → a ≡ true
first_true true b e = refl
first_true false b e = e

second_true : (a b : Bool) → a && b ≡ true → b ≡ true
second_true true b e = e
second_true false b e = absurd (true≢false (sym e))

both_true : (a b : Bool) → a ≡ true → b ≡ true → a && b ≡ true
both_true a b e f = ap (λ t. t && b) e ∙ f

own-text : (u : List ℕ) → text_eq u u ≡ true
own-text u = (text_eq-decides u u).1 refl

argument-told : (x y : Arg) → same_argument x y ≡ true → x ≡ y
argument-told (Fixed u) (Fixed v) e = ap Fixed ((text_eq-decides u v).0 e)
argument-told (Param p) (Param q) e = ap Param ((text_eq-decides p q).0 e)
argument-told (Fixed u) (Param q) e = absurd (true≢false (sym e))
argument-told (Param p) (Fixed v) e = absurd (true≢false (sym e))

argument-itself : (x : Arg) → same_argument x x ≡ true
argument-itself (Fixed u) = own-text u
argument-itself (Param p) = own-text p

pairs-told : (xs ys : List Arg) → length xs ≡ length ys → list_all is_twice (zip xs ys) ≡ true → xs ≡ ys
pairs-told [] [] l e = refl
pairs-told [] (y ∷ ys) l e = absurd (omega arith)
pairs-told (x ∷ xs) [] l e = absurd (omega arith)
pairs-told (x ∷ xs) (y ∷ ys) l e =
    let rest : length xs ≡ length ys = omega arith in
    λ i. argument-told x y (first_true (same_argument x y) (list_all is_twice (zip xs ys)) e) i
    ∷ pairs-told xs ys rest (second_true (same_argument x y) (list_all is_twice (zip xs ys)) e) i

pairs-themselves : (xs : List Arg) → list_all is_twice (zip xs xs) ≡ true
pairs-themselves [] = refl
pairs-themselves (x ∷ xs) = both_true (same_argument x x) (list_all is_twice (zip xs xs)) (argument-itself x) (pairs-themselves xs)

arguments-told : (xs ys : List Arg) → same_arguments xs ys ≡ true → xs ≡ ys
arguments-told xs ys e =
    let test = list_all is_twice (zip xs ys) in
    pairs-told xs ys (eqb-true (length xs) (length ys) (first_true (length xs == length ys) test e)) (second_true (length xs == length ys) test e)

arguments-themselves : (xs : List Arg) → same_arguments xs xs ≡ true
arguments-themselves xs =
    both_true (length xs == length xs) (list_all is_twice (zip xs xs)) (eq-eqb (length xs) (length xs) refl) (pairs-themselves xs)

atom-told : (x y : PlainAtom) → same_atom x y ≡ true → x ≡ y
atom-told x y e =
    let test = same_arguments x.arguments y.arguments in
    let named : x.name ≡ y.name = (text_eq-decides x.name y.name).0 (first_true (text_eq x.name y.name) test e) in
    let has : x.arguments ≡ y.arguments = arguments-told x.arguments y.arguments (second_true (text_eq x.name y.name) test e) in
    λ i. record { name = named i; arguments = has i }

-- an expression is the same as itself
pub same-itself : (x : Form) → same_form x x ≡ true
same-itself (atom x) = both_true (text_eq x.name x.name) (same_arguments x.arguments x.arguments) (own-text x.name) (arguments-themselves x.arguments)
same-itself (opt y) = same-itself y
same-itself (seq y z) = both_true (same_form y y) (same_form z z) (same-itself y) (same-itself z)
same-itself (star y) = same-itself y
same-itself (par y z) = both_true (same_form y y) (same_form z z) (same-itself y) (same-itself z)
same-itself (par_star y) = same-itself y
same-itself (or y z) = both_true (same_form y y) (same_form z z) (same-itself y) (same-itself z)
same-itself (and y z) = both_true (same_form y y) (same_form z z) (same-itself y) (same-itself z)
same-itself (couple y z) = both_true (same_form y y) (same_form z z) (same-itself y) (same-itself z)
same-itself (any p y) = both_true (text_eq p p) (same_form y y) (own-text p) (same-itself y)
same-itself (every p y) = both_true (text_eq p p) (same_form y y) (own-text p) (same-itself y)
same-itself (sync p y) = both_true (text_eq p p) (same_form y y) (own-text p) (same-itself y)
same-itself (all p y) = both_true (text_eq p p) (same_form y y) (own-text p) (same-itself y)
same-itself (times n y) = both_true (n == n) (same_form y y) (eq-eqb n n refl) (same-itself y)

-- expressions that pass the test are one
pub same-told : (x y : Form) → same_form x y ≡ true → x ≡ y
same-told (atom x) (atom y) e = ap atom (atom-told x y e)
same-told (opt y) (opt z) e = ap opt (same-told y z e)
same-told (seq y u) (seq z v) e =
    λ i. seq (same-told y z (first_true (same_form y z) (same_form u v) e) i) (same-told u v (second_true (same_form y z) (same_form u v) e) i)
same-told (star y) (star z) e = ap star (same-told y z e)
same-told (par y u) (par z v) e =
    λ i. par (same-told y z (first_true (same_form y z) (same_form u v) e) i) (same-told u v (second_true (same_form y z) (same_form u v) e) i)
same-told (par_star y) (par_star z) e = ap par_star (same-told y z e)
same-told (or y u) (or z v) e =
    λ i. or (same-told y z (first_true (same_form y z) (same_form u v) e) i) (same-told u v (second_true (same_form y z) (same_form u v) e) i)
same-told (and y u) (and z v) e =
    λ i. and (same-told y z (first_true (same_form y z) (same_form u v) e) i) (same-told u v (second_true (same_form y z) (same_form u v) e) i)
same-told (couple y u) (couple z v) e =
    λ i. couple (same-told y z (first_true (same_form y z) (same_form u v) e) i) (same-told u v (second_true (same_form y z) (same_form u v) e) i)
same-told (any p y) (any q z) e =
    λ i. any ((text_eq-decides p q).0 (first_true (text_eq p q) (same_form y z) e) i) (same-told y z (second_true (text_eq p q) (same_form y z) e) i)
same-told (every p y) (every q z) e =
    λ i. every ((text_eq-decides p q).0 (first_true (text_eq p q) (same_form y z) e) i)
    (same-told y z (second_true (text_eq p q) (same_form y z) e) i)
same-told (sync p y) (sync q z) e =
    λ i. sync ((text_eq-decides p q).0 (first_true (text_eq p q) (same_form y z) e) i) (same-told y z (second_true (text_eq p q) (same_form y z) e) i)
same-told (all p y) (all q z) e =
    λ i. all ((text_eq-decides p q).0 (first_true (text_eq p q) (same_form y z) e) i) (same-told y z (second_true (text_eq p q) (same_form y z) e) i)
same-told (times m y) (times n z) e =
    λ i. times (eqb-true m n (first_true (m == n) (same_form y z) e) i) (same-told y z (second_true (m == n) (same_form y z) e) i)
same-told _ _ e = absurd (true≢false (sym e))
