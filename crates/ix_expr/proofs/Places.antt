-- Arguments and values, place by place.
use Rattle.std.proofs.Common.{◌≡◌, ℕ, suc, ◌+◌, ◌<◌, List, [], ◌∷◌, ◌++◌, length, get_or, take, zero, refl, sym, ◌∙◌, ap, subst, arith}
use Rattle.std.proofs.lemmas.List.{take_more}
use Rattle.ix_expr.specs.declared.arg.Arg.{Arg}
use Rattle.ix_expr.specs.Environment.{Environment, HasValue, HaveValues}

-- arguments that have their values are as many
pub have-as-many : (e : Environment) (arguments : List Arg) (values : List (List ℕ)) → HaveValues e arguments values → length arguments ≡ length values
have-as-many e [] [] h = refl
have-as-many e [] (v ∷ values) h = absurd h
have-as-many e (argument ∷ arguments) [] h = absurd h
have-as-many e (argument ∷ arguments) (v ∷ values) h = ap suc (have-as-many e arguments values h.1)

-- the argument in each place has the value in that place
pub have-at : (e : Environment) (arguments : List Arg) (values : List (List ℕ)) (i : ℕ) (a : Arg) (v : List ℕ) → HaveValues e arguments values → i < length arguments → HasValue e (get_or arguments i a) (get_or values i v)
have-at e [] [] i a v h below = absurd (omega arith)
have-at e [] (w ∷ values) i a v h below = absurd h
have-at e (argument ∷ arguments) [] i a v h below = absurd h
have-at e (argument ∷ arguments) (w ∷ values) zero a v h below = h.0
have-at e (argument ∷ arguments) (w ∷ values) (suc i) a v h below = have-at e arguments values i a v h.1 (omega arith)

-- one argument more, with its value
pub have-push : (e : Environment) (arguments : List Arg) (values : List (List ℕ)) (a : Arg) (v : List ℕ) → HaveValues e arguments values → HasValue e a v → HaveValues e (arguments ++ a ∷ []) (values ++ v ∷ [])
have-push e [] [] a v h has = (has, tt)
have-push e [] (w ∷ values) a v h has = absurd h
have-push e (argument ∷ arguments) [] a v h has = absurd h
have-push e (argument ∷ arguments) (w ∷ values) a v h has = (h.0, have-push e arguments values a v h.1 has)

-- the argument a in the place i has the value v in that place
pub have-here : (e : Environment) (arguments : List Arg) (values : List (List ℕ)) (i : ℕ) (a : Arg) (v : List ℕ) → HaveValues e arguments values → i < length arguments → a ≡ get_or arguments i a → v ≡ get_or values i v → HasValue e a v
have-here e arguments values i a v h below argument value =
    subst (λ b. HasValue e b v) (sym argument) (subst (λ w. HasValue e (get_or arguments i a) w) (sym value) (have-at e arguments values i a v h below))

-- the arguments below i + 1 have their values
pub have-more : (e : Environment) (arguments : List Arg) (values : List (List ℕ)) (i : ℕ) (a : Arg) (v : List ℕ) → HaveValues e (take i arguments) (take i values) → HasValue e a v → i < length arguments → i < length values → a ≡ get_or arguments i a → v ≡ get_or values i v → HaveValues e (take (i + 1) arguments) (take (i + 1) values)
have-more e arguments values i a v h has below within argument value =
    let arguments_are : take (i + 1) arguments ≡ take i arguments ++ a ∷ [] = take_more arguments i a below ∙ ap (λ b. take i arguments ++ b ∷ []) (sym argument) in
    let values_are : take (i + 1) values ≡ take i values ++ v ∷ [] = take_more values i v within ∙ ap (λ w. take i values ++ w ∷ []) (sym value) in
    subst (λ xs. HaveValues e xs (take (i + 1) values)) (sym arguments_are) (subst (λ ys. HaveValues e (take i arguments ++ a ∷ []) ys) (sym values_are) (have-push e (take i arguments) (take i values) a v h has))
