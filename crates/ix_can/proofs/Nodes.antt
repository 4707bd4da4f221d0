-- What nodes tell: when they are dead, what their lists hold, and what a test of their entries says.
use Rattle.std.proofs.Common.{◌≡◌, ◌↔◌, ◌⊎◌, inl, inr, ℕ, suc, ◌≤◌, Bool, true, false, not, cond, ◌&&◌, ◌||◌, List, [], ◌∷◌, Option, Some, None, filter, length, refl, sym, ap, ◌∙◌, subst, true≢false, arith, length-append, if◌then◌else◌}
use Rattle.std.specs.List.{list_any, list_all}
use Rattle.std.specs.Cmp.{Equal-is, tied_itself}
use Rattle.std.specs.Ordering.{is_gt}
use Rattle.ix_words.specs.Each.{Each, Member, here}
use Rattle.ix_words.specs.Parts.{joined, Projection, ended, kept, left_out}
use Rattle.ix_words.specs.Words.{Projected}
use Rattle.ix_words.specs.Canon.{canon, when}
use Rattle.ix_words.proofs.Each.{Each-member, Each-members}
use Rattle.ix_words.proofs.Parts.{Projection-once}
use Rattle.ix_words.proofs.Canon.{Member-cases, Member-when, when-Member, Member-flat_map, flat_map-Member, canon-members}
use Rattle.ix_expr.specs.Form.{Form, atom}
use Rattle.ix_expr.proofs.Agreement.{member-or-not}
use Rattle.ix_tree.specs.Plain.{Plain, dead, entry}
use Rattle.ix_tree.specs.Order.{tree_cmp, first_part}
use Rattle.ix_tree.specs.lemmas.TreeOrder.{tree_order, tree_cmp-same}
use Rattle.ix_can.specs.Ways.{is_empty}
use Rattle.ix_can.specs.Nodes.{is_dead, is_live, is_spent, settled, same_tree, listed, items_of, set_of, put_in, sorted, live, dead_if, done_if, has_dead_entry}
use Rattle.ix_can.specs.TreeOf.{is_final, entries_of}
use Rattle.ix_can.proofs.Spent.{dead_is, done_live, done_if_final, or_turn}
use Rattle.ix_words.proofs.Deciding.{itself, iff_trans, iff_sym, when_either, when_both, any_from}
use Rattle.ix_can.proofs.Lists.{same_test, unless_either, unless_both, when_not, SomeWay, any_same, all_same, none_says, when_passes, one_passes, made_says, passes_all, filled, all_to, all_from}

-- Dead and final

-- a dead tree is never final
pub never_dead : (x : Form) → is_final x dead ≡ false
never_dead (atom x) = refl
never_dead _ = refl

pub live_says : (t : Plain) → (is_live t ≡ true) ↔ (is_dead t ≡ false)
live_says t = when_not (is_dead t) itself

final_live : (x : Form) (t : Plain) (b : Bool) → is_dead t ≡ b → is_final x t ≡ true → b ≡ false
final_live x t true e f = absurd (true≢false (sym f ∙ ap (is_final x) (dead_is t e) ∙ never_dead x))
final_live x t false e f = refl

-- what a tree tells of a word of which C says whether it is complete, and P whether it is partial
pub record Told (C P : Type 0) (x : Form) (t : Plain) : Type 0 where
  pub partial : (is_dead t ≡ false) ↔ P
  pub complete : (is_final x t ≡ true) ↔ C

-- a node that is dead where one test holds, done where the other does, and else is asked whether it is final, tells; where
-- the other test holds it is final
pub either_tells : (x : Form) {C P : Type 0} (b d : Bool) (t : Plain) → is_dead t ≡ false → (b ≡ false) ↔ P → (P → (is_final x t ≡ true) ↔ C) → (C → P) → (P → d ≡ true → is_final x t ≡ true) → Told C P x (dead_if b (done_if d t))
either_tells x true d t l p c g s = record {
  partial = (λ e. absurd (true≢false e), λ h. absurd (true≢false (p.1 h)));
  complete = (λ e. absurd (true≢false (sym e ∙ never_dead x)), λ h. absurd (true≢false (p.1 (g h))));
}
either_tells x false d t l p c g s = record {
  partial = (λ e. p.0 refl, λ h. done_live d t l);
  complete = same_test (done_if_final x d t (s (p.0 refl))) (c (p.0 refl));
}

-- so with a node that is done where it is spent
pub node_tells : (x : Form) {C P : Type 0} (b : Bool) (t : Plain) → is_dead t ≡ false → (b ≡ false) ↔ P → (P → (is_final x t ≡ true) ↔ C) → (C → P) → (P → is_spent t ≡ true → is_final x t ≡ true) → Told C P x (dead_if b (settled t))
node_tells x b t l p c g s = either_tells x b (is_spent t) t l p c g s

-- what is listed of the tree where it is live
pub live_listed : {C P : Type 0} {x : Form} (t : Plain) → Told C P x t → (list_any passes_all (live t) ≡ true) ↔ P
live_listed t k = iff_trans (when_passes passes_all (is_live t) (t ∷ [])) (λ h. k.partial.0 ((live_says t).0 h.0), λ p. ((live_says t).1 (k.partial.1 p), refl))

pub live_lives : {C P : Type 0} {x : Form} (t : Plain) → Told C P x t → (list_any is_live (live t) ≡ true) ↔ P
live_lives t k = iff_trans (when_passes is_live (is_live t) (t ∷ [])) (
  λ h. k.partial.0 ((live_says t).0 h.0),
  λ p. let l = (live_says t).1 (k.partial.1 p) in (l, (one_passes is_live t).1 l),
)

pub live_final : {C P : Type 0} (x : Form) (t : Plain) → Told C P x t → (list_any (is_final x) (live t) ≡ true) ↔ C
live_final x t k = iff_trans (when_passes (is_final x) (is_live t) (t ∷ [])) (
  λ h. k.complete.0 ((one_passes (is_final x) t).0 h.1),
  λ c. let f = k.complete.1 c in ((live_says t).1 (final_live x t (is_dead t) refl f), (one_passes (is_final x) t).1 f),
)

-- where a tree that is final is asked to be live too
pub final_says : {C P : Type 0} (x : Form) (t : Plain) → Told C P x t → ((is_live t ≡ true) × (is_final x t ≡ true)) ↔ C
final_says x t k = (
  λ h. k.complete.0 h.1,
  λ c. let f = k.complete.1 c in ((live_says t).1 (final_live x t (is_dead t) refl f), f),
)

pub tree_live : {C P : Type 0} {x : Form} (t : Plain) → Told C P x t → (is_live t ≡ true) ↔ P
tree_live t k = iff_trans (live_says t) k.partial

-- Sets and bags

pub items_listed : (xs : List Plain) → items_of (listed xs) ≡ xs
items_listed [] = refl
items_listed (x ∷ xs) = ap (λ ys. x ∷ ys) (items_listed xs)

pub any_set : (test : Plain → Bool) (xs : List Plain) → list_any test (items_of (set_of xs)) ≡ list_any test xs
any_set test xs = ap (list_any test) (items_listed (canon tree_cmp xs)) ∙ any_same test (canon tree_cmp xs) xs (canon-members tree_order xs)

pub all_set : (test : Plain → Bool) (xs : List Plain) → list_all test (items_of (set_of xs)) ≡ list_all test xs
all_set test xs = ap (list_all test) (items_listed (canon tree_cmp xs)) ∙ all_same test (canon tree_cmp xs) xs (canon-members tree_order xs)

and_turn : (a b c : Bool) → a && (b && c) ≡ b && (a && c)
and_turn true true c = refl
and_turn true false c = refl
and_turn false true c = refl
and_turn false false c = refl

put_all : (test : Plain → Bool) (x : Plain) (xs : List Plain) → list_all test (put_in x xs) ≡ test x && list_all test xs
put_all test x [] = refl
put_all test x (y ∷ ys) = chosen (is_gt (tree_cmp x y)) (put_all test x ys)
  where
    chosen : (b : Bool) → list_all test (put_in x ys) ≡ test x && list_all test ys → list_all test (if b then y ∷ put_in x ys else x ∷ y ∷ ys) ≡ test x && (test y && list_all test ys)
    chosen true e = ap (λ b. test y && b) e ∙ and_turn (test y) (test x) (list_all test ys)
    chosen false e = refl

pub all_sorted : (test : Plain → Bool) (xs : List Plain) → list_all test (items_of (listed (sorted xs))) ≡ list_all test xs
all_sorted test xs = ap (list_all test) (items_listed (sorted xs)) ∙ same xs
  where
    same : (ys : List Plain) → list_all test (sorted ys) ≡ list_all test ys
    same [] = refl
    same (y ∷ ys) = put_all test y (sorted ys) ∙ ap (λ b. test y && b) (same ys)

put_any : (test : Plain → Bool) (x : Plain) (xs : List Plain) → list_any test (put_in x xs) ≡ test x || list_any test xs
put_any test x [] = refl
put_any test x (y ∷ ys) = chosen (is_gt (tree_cmp x y)) (put_any test x ys)
  where
    chosen : (b : Bool) → list_any test (put_in x ys) ≡ test x || list_any test ys → list_any test (if b then y ∷ put_in x ys else x ∷ y ∷ ys) ≡ test x || (test y || list_any test ys)
    chosen true e = ap (λ b. test y || b) e ∙ or_turn (test y) (test x) (list_any test ys)
    chosen false e = refl

pub any_sorted : (test : Plain → Bool) (xs : List Plain) → list_any test (items_of (listed (sorted xs))) ≡ list_any test xs
any_sorted test xs = ap (list_any test) (items_listed (sorted xs)) ∙ same xs
  where
    same : (ys : List Plain) → list_any test (sorted ys) ≡ list_any test ys
    same [] = refl
    same (y ∷ ys) = put_any test y (sorted ys) ∙ ap (λ b. test y || b) (same ys)

-- Entries

pub same_is : (x y : Plain) → same_tree x y ≡ true → x ≡ y
same_is x y e = tree_cmp-same x y ((Equal-is (tree_cmp x y)).0 e)

pub same_from : (x y : Plain) → x ≡ y → same_tree x y ≡ true
same_from x y e = subst (λ z. same_tree x z ≡ true) e ((Equal-is (tree_cmp x x)).1 (tied_itself tree_order.total x))

module _ (common : Plain) (tree : List ℕ → Plain) where
  -- the value's entry, where its tree differs
  abbrev entry_at : List ℕ → List Plain
  entry_at v = when (not (same_tree (tree v) common)) (entry v (tree v) ∷ [])

  pub differs_or_not : (v : List ℕ) → (tree v ≡ common) ⊎ (same_tree (tree v) common ≡ false)
  differs_or_not v = either (same_tree (tree v) common) refl
    where
      either : (b : Bool) → same_tree (tree v) common ≡ b → (tree v ≡ common) ⊎ (same_tree (tree v) common ≡ false)
      either true e = inl (same_is (tree v) common e)
      either false e = inr e

  entry_passes : (test : Plain → Bool) (v : List ℕ) → (list_any (λ x. test (first_part x)) (entry_at v) ≡ true) ↔ ((same_tree (tree v) common ≡ false) × (test (tree v) ≡ true))
  entry_passes test v = iff_trans (when_passes (λ x. test (first_part x)) (not (same_tree (tree v) common)) (entry v (tree v) ∷ [])) (
    λ h. ((when_not (same_tree (tree v) common) itself).0 h.0, (one_passes (λ x. test (first_part x)) (entry v (tree v))).0 h.1),
    λ h. ((when_not (same_tree (tree v) common) itself).1 h.0, (one_passes (λ x. test (first_part x)) (entry v (tree v))).1 h.1),
  )

  some_entry : (test : Plain → Bool) (values : List (List ℕ)) → (list_any (λ x. test (first_part x)) (entries_of common tree values) ≡ true) ↔ SomeWay (λ v. (same_tree (tree v) common ≡ false) × (test (tree v) ≡ true)) values
  some_entry test values = made_says (λ x. test (first_part x)) entry_at values (λ v m. entry_passes test v)

  -- the common tree or an entry's passes exactly where the common tree passes, or some value's
  pub entries_any : (test : Plain → Bool) (values : List (List ℕ)) → (test common || list_any (λ x. test (first_part x)) (entries_of common tree values) ≡ true) ↔ ((test common ≡ true) ⊎ SomeWay (λ v. test (tree v) ≡ true) values)
  entries_any test values = iff_trans
      (when_either (test common) (list_any (λ x. test (first_part x)) (entries_of common tree values)) itself (some_entry test values)) (
        λ h. elim h [ inl c ↦ inl c | inr k ↦ inr (record { way = k.way; among = k.among; has = k.has.1 }) ],
        λ h. elim h [ inl c ↦ inl c | inr k ↦ found k (differs_or_not k.way) ],
      )
    where
      found : (k : SomeWay (λ v. test (tree v) ≡ true) values) → (tree k.way ≡ common) ⊎ (same_tree (tree k.way) common ≡ false) → (test common ≡ true) ⊎ SomeWay (λ v. (same_tree (tree v) common ≡ false) × (test (tree v) ≡ true)) values
      found k (inl e) = inl (ap test (sym e) ∙ k.has)
      found k (inr d) = inr (record { way = k.way; among = k.among; has = (d, k.has) })

  -- each entry is of a value whose tree differs from the common tree
  pub entry_is : (values : List (List ℕ)) {x : Plain} → Member x (entries_of common tree values) → SomeWay (λ v. (same_tree (tree v) common ≡ false) × (x ≡ entry v (tree v))) values
  entry_is values {x} m =
      let k = Member-flat_map entry_at values m in
      let j = Member-when (not (same_tree (tree k.0) common)) (entry k.0 (tree k.0) ∷ []) k.2 in
      record {
        way = k.0;
        among = k.1;
        has = ((when_not (same_tree (tree k.0) common) itself).0 j.0, elim (Member-cases j.1) [ inl e ↦ e | inr n ↦ elim n [ ] ]);
      }

  pub entry_among : (values : List (List ℕ)) {v : List ℕ} → Member v values → same_tree (tree v) common ≡ false → Member (entry v (tree v)) (entries_of common tree values)
  entry_among values {v} m d = flat_map-Member entry_at m (when-Member ((when_not (same_tree (tree v) common) itself).1 d) here)

  all_entries_to : (test : Plain → Bool) (values : List (List ℕ)) → test common ≡ true → list_all (λ x. test (first_part x)) (entries_of common tree values) ≡ true → Each (λ v. test (tree v) ≡ true) values
  all_entries_to test values c h = Each-members values (λ v m. one v m (differs_or_not v))
    where
      one : (v : List ℕ) → Member v values → (tree v ≡ common) ⊎ (same_tree (tree v) common ≡ false) → test (tree v) ≡ true
      one v m (inl e) = ap test e ∙ c
      one v m (inr d) = Each-member (all_to (λ x. test (first_part x)) (entries_of common tree values) h) (entry_among values m d)

  all_entries_from : (test : Plain → Bool) (values : List (List ℕ)) → Each (λ v. test (tree v) ≡ true) values → list_all (λ x. test (first_part x)) (entries_of common tree values) ≡ true
  all_entries_from test values h =
      all_from (λ x. test (first_part x))
      (Each-members (entries_of common tree values) (λ x m.
      let k = entry_is values m in ap (λ y. test (first_part y)) k.has.1 ∙ Each-member h k.among))

  -- the common tree and all entries' pass exactly where the common tree passes, and each value's
  pub entries_all : (test : Plain → Bool) (values : List (List ℕ)) → (test common && list_all (λ x. test (first_part x)) (entries_of common tree values) ≡ true) ↔ ((test common ≡ true) × Each (λ v. test (tree v) ≡ true) values)
  entries_all test values = iff_trans
      (when_both (test common) (list_all (λ x. test (first_part x)) (entries_of common tree values)) itself itself)
      (λ h. (h.0, all_entries_to test values h.0 h.1), λ h. (h.0, all_entries_from test values h.1))

  -- no tree of them is dead
  pub entries_live : (values : List (List ℕ)) → (is_dead common || has_dead_entry (entries_of common tree values) ≡ false) ↔ ((is_live common ≡ true) × Each (λ v. is_live (tree v) ≡ true) values)
  entries_live values = iff_trans
      (unless_either (is_dead common) (has_dead_entry (entries_of common tree values)) (iff_sym (live_says common)) (none_says (λ x. is_dead (first_part x)) (entries_of common tree values)))
      (iff_trans
      (iff_sym (when_both (is_live common) (list_all (λ x. is_live (first_part x)) (entries_of common tree values)) itself itself))
      (entries_all is_live values))

  -- not all of them are dead
  pub entries_some : (values : List (List ℕ)) → (is_dead common && is_empty (entries_of common tree values) ≡ false) ↔ ((is_live common ≡ true) ⊎ SomeWay (λ v. is_live (tree v) ≡ true) values)
  entries_some values = iff_trans
      (unless_both (is_dead common) (is_empty (entries_of common tree values)) (iff_sym (live_says common)) (filled (entries_of common tree values))) (
        λ h. forth (is_dead common) refl h,
        λ h. elim h [ inl c ↦ inl c | inr k ↦ back k (differs_or_not k.way) ],
      )
    where
      one_live : (k : SomeWay (λ v. (same_tree (tree v) common ≡ false) × (true ≡ true)) values) → is_dead common ≡ true → (b : Bool) → is_dead (tree k.way) ≡ b → SomeWay (λ v. is_live (tree v) ≡ true) values
      one_live k d true e =
          let same : tree k.way ≡ common = dead_is (tree k.way) e ∙ sym (dead_is common d) in
          absurd (true≢false (sym (same_from (tree k.way) common same) ∙ k.has.0))
      one_live k d false e = record { way = k.way; among = k.among; has = (live_says (tree k.way)).1 e }

      forth : (b : Bool) → is_dead common ≡ b → (is_live common ≡ true) ⊎ (list_any passes_all (entries_of common tree values) ≡ true) → (is_live common ≡ true) ⊎ SomeWay (λ v. is_live (tree v) ≡ true) values
      forth false d h = inl ((live_says common).1 d)
      forth true d (inl c) = inl c
      forth true d (inr e) = let k = (some_entry passes_all values).0 e in inr (one_live k d (is_dead (tree k.way)) refl)

      back : (k : SomeWay (λ v. is_live (tree v) ≡ true) values) → (tree k.way ≡ common) ⊎ (same_tree (tree k.way) common ≡ false) → (is_live common ≡ true) ⊎ (list_any passes_all (entries_of common tree values) ≡ true)
      back k (inl e) = inl (ap is_live (sym e) ∙ k.has)
      back k (inr d) = inr (any_from passes_all (entries_of common tree values) (entry_among values k.among d) refl)

-- Values that a word doesn't have

member_long : {u : List ℕ} (vs : List (List ℕ)) → Member u vs → length u ≤ length (joined vs)
member_long [] m = elim m [ ]
member_long {u} (v ∷ vs) m =
    elim (Member-cases m) [
      | inl e ↦ let h : length u ≡ length v = ap length e in omega (arith, length-append v (joined vs))
      | inr n ↦ let h : length u ≤ length (joined vs) = member_long vs n in omega (arith, length-append v (joined vs))
    ]

-- a list longer than all of them together
pub fresh : List (List ℕ) → List ℕ
fresh vs = 0 ∷ joined vs

pub fresh-new : (vs : List (List ℕ)) → ¬ Member (fresh vs) vs
unfolding fresh
fresh-new vs m =
    let h : suc (length (joined vs)) ≤ length (joined vs) = member_long vs m in
    absurd (omega arith)

module _ (Q : Option (List ℕ) → Type 0) (values : List (List ℕ)) (outside : (v : List ℕ) → ¬ Member v values → Q None ↔ Q (Some v)) where
  -- outside and the values stand for every value
  pub some_value : ((Q None) ⊎ SomeWay (λ v. Q (Some v)) values) ↔ ((v : List ℕ) × Q (Some v))
  some_value = (
    λ h. elim h [ inl q ↦ (fresh values, (outside (fresh values) (fresh-new values)).0 q) | inr k ↦ (k.way, k.has) ],
    λ h. from h.0 h.1 (member-or-not h.0 values),
  )
    where
      from : (v : List ℕ) → Q (Some v) → Member v values ⊎ (¬ Member v values) → (Q None) ⊎ SomeWay (λ u. Q (Some u)) values
      from v q (inl m) = inr (record { way = v; among = m; has = q })
      from v q (inr n) = inl ((outside v n).1 q)

  pub every_value : ((Q None) × Each (λ v. Q (Some v)) values) ↔ ((v : List ℕ) → Q (Some v))
  every_value = (
    λ h v. from h.0 h.1 v (member-or-not v values),
    λ h. ((outside (fresh values) (fresh-new values)).1 (h (fresh values)), Each-members values (λ v m. h v)),
  )
    where
      from : Q None → Each (λ u. Q (Some u)) values → (v : List ℕ) → Member v values ⊎ (¬ Member v values) → Q (Some v)
      from q h v (inl m) = Each-member h m
      from q h v (inr n) = (outside v n).0 q

-- Projections

-- the projection by a test of what is in
pub projected_says : {A : Type 0} {In : A → Type 0} (Q : List A → Type 0) (test : A → Bool) → ((a : A) → (test a ≡ true) ↔ In a) → (w : List A) → Q (filter test w) ↔ Projected In Q w
projected_says {A} {In} Q test says w = (
  λ q. record { rest = filter test w; projection = projection w; rest_has = q },
  λ h. subst Q (Projection-once h.projection (projection w)) h.rest_has,
)
  where
    one : (a : A) (u : List A) (b : Bool) → test a ≡ b → Projection In u (filter test u) → Projection In (a ∷ u) (cond b (a ∷ filter test u) (filter test u))
    one a u true e p = kept ((says a).0 e) p
    one a u false e p = left_out (λ i. true≢false (sym ((says a).1 i) ∙ e)) p

    projection : (u : List A) → Projection In u (filter test u)
    projection [] = ended
    projection (a ∷ u) = one a u (test a) refl (projection u)
