-- A well-formed expression has at most 512 nodes, and where the forms of two operands stand.
use Rattle.std.proofs.Common.{true, false, true≢false, ◌≡◌, ◌≤◌, ◌<◌, ℕ, zero, suc, ◌+◌, ◌-◌, ◌↔◌, Option, None, Some, IsSome, option_map, List, [], ◌∷◌, ◌++◌, length, length-append, slice_get, refl, sym, ap, ◌∙◌, arith}
use Rattle.std.proofs.lemmas.Option.{slice_get_within}
use Rattle.ix_expr.specs.Form.{Form, atom, opt, seq, star, par, par_star, or, and, couple, any, every, sync, all, times}
use Rattle.ix_expr.specs.FormFaults.{Binder, nodes_below, nodes_of, IsWellFormed}
use Rattle.ix_expr.proofs.Parts.{well-formed-few}
use Rattle.ix_why.specs.Blames.{nodes}
use Rattle.ix_lint.specs.Nodes.{forms}

both_long : {A B : Type 0} (xs ys : List A) (us vs : List B) → length xs ≡ length us → length ys ≡ length vs → suc (length (xs ++ ys)) ≡ suc (length (us ++ vs))
both_long xs ys us vs h j = omega (arith, h, j, length-append xs ys, length-append us vs)

nodes_count : (d : ℕ) (around : List Binder) (x : Form) → nodes x ≡ length (nodes_below d around x)
nodes_count d around (atom x) = refl
nodes_count d around (opt y) = ap suc (nodes_count (suc d) around y)
nodes_count d around (seq y z) = both_long _ _ _ _ (nodes_count (suc d) around y) (nodes_count (suc d) around z)
nodes_count d around (star y) = ap suc (nodes_count (suc d) around y)
nodes_count d around (par y z) = both_long _ _ _ _ (nodes_count (suc d) around y) (nodes_count (suc d) around z)
nodes_count d around (par_star y) = ap suc (nodes_count (suc d) around y)
nodes_count d around (or y z) = both_long _ _ _ _ (nodes_count (suc d) around y) (nodes_count (suc d) around z)
nodes_count d around (and y z) = both_long _ _ _ _ (nodes_count (suc d) around y) (nodes_count (suc d) around z)
nodes_count d around (couple y z) = both_long _ _ _ _ (nodes_count (suc d) around y) (nodes_count (suc d) around z)
nodes_count d around (any p y) = ap suc (nodes_count (suc d) (record { is_all = false; parameter = p } ∷ around) y)
nodes_count d around (every p y) = ap suc (nodes_count (suc d) (record { is_all = false; parameter = p } ∷ around) y)
nodes_count d around (sync p y) = ap suc (nodes_count (suc d) (record { is_all = false; parameter = p } ∷ around) y)
nodes_count d around (all p y) = ap suc (nodes_count (suc d) (record { is_all = true; parameter = p } ∷ around) y)
nodes_count d around (times n y) = ap suc (nodes_count (suc d) around y)

pub as_many : (x : Form) → nodes x ≡ length (nodes_of x)
as_many x = nodes_count 1 [] x

pub few_nodes : (x : Form) → IsWellFormed x → nodes x ≤ 512
few_nodes x h = omega (arith, as_many x, well-formed-few x h)

pub found_left : {A : Type 0} (xs ys : List A) (k : ℕ) → k < length xs → slice_get (xs ++ ys) k ≡ slice_get xs k
found_left [] ys k h = absurd (omega arith)
found_left (x ∷ xs) ys zero h = refl
found_left (x ∷ xs) ys (suc k) h = found_left xs ys k (omega arith)

pub found_right : {A : Type 0} (xs ys : List A) (k : ℕ) → slice_get (xs ++ ys) (length xs + k) ≡ slice_get ys k
found_right [] ys k =
    let e : 0 + k ≡ k = omega arith in
    ap (slice_get ys) e
found_right (x ∷ xs) ys k =
    let e : suc (length xs) + k ≡ suc (length xs + k) = omega arith in
    ap (slice_get (x ∷ (xs ++ ys))) e ∙ found_right xs ys k

pub both_nodes : (y z : Form) → suc (length (forms y ++ forms z)) ≡ suc (nodes y + nodes z)
both_nodes y z = ap suc (length-append (forms y) (forms z))

pub first_form : (x : Form) → Some x ≡ slice_get (forms x) 0
first_form (atom x) = refl
first_form (opt y) = refl
first_form (seq y z) = refl
first_form (star y) = refl
first_form (par y z) = refl
first_form (par_star y) = refl
first_form (or y z) = refl
first_form (and y z) = refl
first_form (couple y z) = refl
first_form (any p y) = refl
first_form (every p y) = refl
first_form (sync p y) = refl
first_form (all p y) = refl
first_form (times n y) = refl

-- behind the node itself, a form of the left operand and one of the right
pub left_at : {A : Type 0} (x : A) (xs ys : List A) (k : ℕ) → 0 < k → k < 1 + length xs → slice_get xs (k - 1) ≡ slice_get (x ∷ (xs ++ ys)) k
left_at x xs ys zero h j = absurd (omega arith)
left_at x xs ys (suc k) h j =
    let e : suc k - 1 ≡ k = omega arith in
    ap (slice_get xs) e ∙ sym (found_left xs ys k (omega arith))

pub right_at : {A : Type 0} (x : A) (xs ys : List A) (k : ℕ) → 1 + length xs ≤ k → slice_get ys (k - (1 + length xs)) ≡ slice_get (x ∷ (xs ++ ys)) k
right_at x xs ys zero h = absurd (omega arith)
right_at x xs ys (suc k) h =
    let e : length xs + (suc k - (1 + length xs)) ≡ k = omega (arith, h) in
    sym (found_right xs ys (suc k - (1 + length xs))) ∙ ap (slice_get (xs ++ ys)) e

-- there is something at a place exactly where the place is below the length
pub there_is : {A B : Type 0} (f : A → B) (r : Option A) (xs : List B) (k n : ℕ) → option_map f r ≡ slice_get xs k → length xs ≡ n → IsSome r ↔ (k < n)
there_is f None xs k n h e = (λ s. absurd (true≢false (sym s)), λ b. absurd (none_past xs k (omega (arith, b, e)) h))
  where
    none_past : {B : Type 0} (xs : List B) (k : ℕ) → k < length xs → ¬ (None ≡ slice_get xs k)
    none_past [] k b h = omega arith
    none_past (x ∷ xs) zero b h = cc
    none_past (x ∷ xs) (suc k) b h = none_past xs k (omega arith) h
there_is f (Some x) xs k n h e = (λ s. omega (arith, slice_get_within xs k (f x) (sym h), e), λ b. refl)
