-- What a loop over a list finds.
use Rattle.std.proofs.Common.{◌≡◌, ℕ, zero, suc, ◌+◌, ◌<◌, ◌≤◌, Bool, true, false, cond, List, [], ◌∷◌, Some, None, length, take, get_or, refl, sym, ap, ◌∙◌, add-one, arith}
use Rattle.std.specs.List.{find}

passed : {A : Type 0} (test : A → Bool) (x : A) (xs : List A) (i : ℕ) → (b : Bool) → test x ≡ b → cond b (Some x) (find test (take i xs)) ≡ None → (test x ≡ false) × (find test (take i xs) ≡ None)
passed test x xs i true f e = absurd (cc)
passed test x xs i false f e = (f, e)

here_from : {A : Type 0} (test : A → Bool) (xs : List A) (i : ℕ) (x : A) → find test (take i xs) ≡ None → i < length xs → x ≡ get_or xs i x → test x ≡ true → find test xs ≡ Some x
here_from test [] i x e l g h = absurd (omega arith)
here_from test (y ∷ xs) zero x e l g h = ap (λ z. cond (test z) (Some z) (find test xs)) (sym g) ∙ ap (λ b. cond b (Some x) (find test xs)) h
here_from test (y ∷ xs) (suc i) x e l g h =
    let k = passed test y xs i (test y) refl e in
    ap (λ b. cond b (Some y) (find test xs)) k.0 ∙ here_from test xs i x k.1 (omega arith) g h

past_from : {A : Type 0} (test : A → Bool) (xs : List A) (i : ℕ) (x : A) → find test (take i xs) ≡ None → i < length xs → x ≡ get_or xs i x → test x ≡ false → find test (take (suc i) xs) ≡ None
past_from test [] i x e l g h = absurd (omega arith)
past_from test (y ∷ xs) zero x e l g h = ap (λ z. cond (test z) (Some z) None) (sym g) ∙ ap (λ b. cond b (Some x) None) h
past_from test (y ∷ xs) (suc i) x e l g h =
    let k = passed test y xs i (test y) refl e in
    ap (λ b. cond b (Some y) (find test (take (suc i) xs))) k.0 ∙ past_from test xs i x k.1 (omega arith) g h

-- the item in this place is the first that passes
pub found_here : {A : Type 0} (test : A → Bool) (xs : List A) (i : ℕ) (x : A) → find test (take i xs) ≡ None → i < length xs → x ≡ get_or xs i x → test x ≡ true → find test xs ≡ Some x
found_here test xs i x e l g h = here_from test xs i x e l g h

-- nor does the item in this place pass
pub not_yet : {A : Type 0} (test : A → Bool) (xs : List A) (i : ℕ) (x : A) → find test (take i xs) ≡ None → i < length xs → x ≡ get_or xs i x → test x ≡ false → find test (take (i + 1) xs) ≡ None
not_yet test xs i x e l g h = ap (λ n. find test (take n xs)) (add-one i) ∙ past_from test xs i x e l g h

take_all : {A : Type 0} (xs : List A) (n : ℕ) → length xs ≤ n → take n xs ≡ xs
take_all [] zero l = refl
take_all [] (suc n) l = refl
take_all (x ∷ xs) zero l = absurd (omega arith)
take_all (x ∷ xs) (suc n) l = ap (λ w. x ∷ w) (take_all xs n (omega arith))

-- none passes
pub none_found : {A : Type 0} (test : A → Bool) (xs : List A) (n : ℕ) → find test (take n xs) ≡ None → length xs ≤ n → find test xs ≡ None
none_found test xs n e l = sym (ap (find test) (take_all xs n l)) ∙ e
