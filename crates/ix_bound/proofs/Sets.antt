-- How many items a set has, and how large a set of trees is.
use Rattle.std.proofs.Common.{◌≡◌, ◌≤◌, ◌⊎◌, inl, inr, ◌+◌, ◌*◌, ℕ, List, [], ◌∷◌, ◌++◌, flat_map, length, sym, subst, arith}
use Rattle.std.specs.declared.cmp.Ordering.{Ordering}
use Rattle.std.specs.Cmp.{nat_cmp_total}
use Rattle.std.specs.Cmp.Lexicographic.{lists_total}
use Rattle.ix_words.specs.Each.{Member, here}
use Rattle.ix_words.specs.Canon.{IsStrictOrder, canon, put_once}
use Rattle.ix_words.proofs.Each.{Member-left, Member-either}
use Rattle.ix_words.proofs.Canon.{by_order-has, canon-same, canon-flat_map, Member-cases, Member-same}
use Rattle.ix_values.specs.Order.{text_cmp}
use Rattle.ix_values.specs.lemmas.Order.{text_cmp-same}
use Rattle.ix_tree.specs.lemmas.TreeOrder.{tree_order}
use Rattle.ix_tree.specs.Plain.{Plain, listed}
use Rattle.ix_tree.specs.Order.{tree_cmp}
use Rattle.ix_tree.specs.Size.{size_of}
use Rattle.ix_can.specs.Nodes.{set_of}

-- texts have a strict order
pub text_order : IsStrictOrder text_cmp
text_order = record { total = lists_total nat_cmp_total; tells_apart = text_cmp-same }

-- How many items

put_more : {A : Type 0} (compare : A → A → Ordering) (a : A) (w : List A) → length w ≤ length (put_once compare a w)
put_more compare a [] = omega arith
put_more compare a (b ∷ w) =
    let more = put_more compare a w in
    by_order-has (λ u. length (b ∷ w) ≤ length u) (compare a b) (a ∷ b ∷ w) (b ∷ w) (b ∷ put_once compare a w) (λ r. omega arith) (λ r. omega arith) (λ r. omega (arith, more))

canon_more : {A : Type 0} (compare : A → A → Ordering) (v u : List A) → length (canon compare u) ≤ length (canon compare (v ++ u))
canon_more compare [] u = omega arith
canon_more compare (a ∷ v) u =
    let more = canon_more compare v u in
    let once = put_more compare a (canon compare (v ++ u)) in
    omega (arith, more, once)

-- a list whose members are members of another has no more different items
pub no_more : {A : Type 0} {compare : A → A → Ordering} → IsStrictOrder compare → (u v : List A) → ((a : A) → Member a u → Member a v) → length (canon compare u) ≤ length (canon compare v)
no_more {A} {compare} order u v among =
    subst (λ w. length (canon compare u) ≤ length w)
    (canon-same order (v ++ u) v (record { to = λ a m. elim (Member-either v u m) [ inl k ↦ k | inr k ↦ among a k ]; from = λ a m. Member-left m u }))
    (canon_more compare v u)

-- How large a set is

-- the Size of a list of trees
abbrev pub sizes : List Plain → ℕ
sizes xs = size_of (listed xs)

put_sizes : (x : Plain) (xs : List Plain) → sizes (put_once tree_cmp x xs) ≤ size_of x + sizes xs
put_sizes x [] = omega arith
put_sizes x (y ∷ xs) =
    let rest = put_sizes x xs in
    by_order-has (λ u. sizes u ≤ size_of x + sizes (y ∷ xs)) (tree_cmp x y) (x ∷ y ∷ xs) (y ∷ xs) (y ∷ put_once tree_cmp x xs) (λ r. omega arith) (λ r. omega arith) (λ r. omega (arith, rest))

-- a set is at most as large as its list
pub set_sizes : (xs : List Plain) → size_of (set_of xs) ≤ sizes xs
set_sizes [] = omega arith
set_sizes (x ∷ xs) =
    let rest = set_sizes xs in
    let once = put_sizes x (canon tree_cmp xs) in
    omega (arith, rest, once)

sizes_append : (xs ys : List Plain) → sizes (xs ++ ys) ≡ sizes xs + sizes ys
sizes_append [] ys = omega arith
sizes_append (x ∷ xs) ys = omega (arith, sizes_append xs ys)

module _ (f : List ℕ → List Plain) (b : ℕ) (small : (v : List ℕ) → sizes (f v) ≤ b) where
  each_sizes : (vs : List (List ℕ)) → sizes (flat_map f vs) ≤ length vs * b
  each_sizes [] = omega arith
  each_sizes (v ∷ vs) =
      let rest = each_sizes vs in
      let one = small v in
      let joined = sizes_append (f v) (flat_map f vs) in
      let more : length (v ∷ vs) * b ≡ b + length vs * b = grind arith in
      omega (arith, rest, one, joined, more)

-- a set of trees that are all one is at most as large as that one
pub one_tree : (xs : List Plain) (b : ℕ) → ((x y : Plain) → Member x xs → Member y xs → x ≡ y) → ((x : Plain) → Member x xs → size_of x ≤ b) → size_of (set_of xs) ≤ b
one_tree [] b one small = omega arith
one_tree (x ∷ xs) b one small =
    let same : canon tree_cmp (x ∷ xs) ≡ x ∷ [] = canon-same tree_order (x ∷ xs) (x ∷ []) (record { to = λ y m. Member-same [] (one y x m here); from = λ y m. alone y (Member-cases m) }) in
    let at_most = small x here in
    subst (λ ys. size_of (listed ys) ≤ b) (sym same) (omega (arith, at_most))
  where
    alone : (y : Plain) → (y ≡ x) ⊎ Member y [] → Member y (x ∷ xs)
    alone y (inl e) = Member-same xs e
    alone y (inr m) = elim m [ ]

-- a set with at most one tree for each value is at most as large as the number of different values, times what one may have
pub value_sizes : (f : List ℕ → List Plain) (b k : ℕ) (vs : List (List ℕ)) → ((v : List ℕ) → sizes (f v) ≤ b) → length (canon text_cmp vs) ≤ k → size_of (set_of (flat_map f vs)) ≤ k * b
value_sizes f b k vs small few =
    let us : List (List ℕ) = canon text_cmp vs in
    let set = subst (λ ys. size_of (listed ys) ≤ sizes (flat_map f us)) (canon-flat_map text_order tree_order f vs) (set_sizes (flat_map f us)) in
    let each = each_sizes f b small us in
    let times : length us * b ≤ k * b = grind (arith, few) in
    omega (arith, set, each, times)
