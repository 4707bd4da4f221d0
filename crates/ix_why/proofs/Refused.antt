-- Where the action may not come, some part is told.
use Rattle.std.proofs.Common.{◌≡◌, ◌≢◌, ◌↔◌, ◌⊎◌, inl, inr, ℕ, ◌+◌, Bool, true, false, not, cond, ◌&&◌, ◌||◌, List, [], ◌∷◌, ◌++◌, Option, Some, None, map, flat_map, filter, refl, sym, ap, ◌∙◌, subst, true≢false, if◌then◌else◌}
use Rattle.std.specs.List.{list_all, list_any}
use Rattle.ix_words.specs.Canon.{when}
use Rattle.ix_words.specs.Each.{Each, no_item, item, Member, here as first_member, there}
use Rattle.ix_words.proofs.Each.{Each-head, Each-weaker, Each-members}
use Rattle.ix_words.proofs.Canon.{Member-cases, Member-when, Member-flat_map}
use Rattle.ix_words.specs.Parts.{part}
use Rattle.ix_values.specs.Order.{text_eq}
use Rattle.ix_values.specs.PlainAction.{PlainAction, Word, values_of}
use Rattle.ix_expr.specs.Environment.{Environment, bind}
use Rattle.ix_expr.specs.Form.{Form, opt, and, couple, every, sync, all}
use Rattle.ix_expr.specs.FormFaults.{Fits, IsWellFormed}
use Rattle.ix_expr.specs.Meaning.{IsPartial}
use Rattle.ix_expr.proofs.Parts.{fits-operands}
use Rattle.ix_tree.specs.Plain.{Plain, dead, done, entry, map as map_of, opt as opt_of, and as and_of, couple as couple_of, every as every_of, sync as sync_of, all as all_of}
use Rattle.ix_tree.specs.Order.{key, first_part}
use Rattle.ix_can.specs.Laws.{IsProper, ProperEntries}
use Rattle.ix_can.specs.Nodes.{is_dead, is_live, is_spent, has_dead_entry, items_of, set_of, same_tree, dead_if, done_if}
use Rattle.ix_expr.specs.Tests.{in_alphabet, values_and_outside}
use Rattle.ix_can.specs.TreeOf.{tree_of, entries_of, live_map}
use Rattle.ix_can.specs.Ways.{is_empty, ownings}
use Rattle.ix_can.specs.inside.CanAsk.{may_own}
use Rattle.ix_can.specs.May.{may, may_first, moves_within, tree_at}
use Rattle.ix_can.proofs.Entries.{set_items}
use Rattle.ix_can.proofs.Keys.{tree_at_has, tree_at_own}
use Rattle.ix_can.proofs.MovesTell.{each_step}
use Rattle.ix_can.proofs.Proper.{proper}
use Rattle.ix_can.proofs.Spent.{may_done, may_dead, dead_is}
use Rattle.ix_why.specs.declared.part.Part.{Part}
use Rattle.ix_why.specs.Blames.{nodes, here, refuses, only, owner, one_value, first_that, made_of, made_of_both, blames, refusals}
use Rattle.ix_why.specs.Trees.{left, entries, tree_for, tried}
use Rattle.ix_why.proofs.Asked.{body_proper}
use Rattle.ix_why.proofs.Initial.{first_next}

-- Lists that aren't empty

one_told : {A : Type 0} {x : A} {xs : List A} → x ∷ xs ≢ []
one_told h = cc

told_when : {A : Type 0} (b : Bool) (xs : List A) → b ≡ true → xs ≢ [] → when b xs ≢ []
told_when true xs h k = k
told_when false xs h k = absurd (true≢false (sym h))

told_left : {A : Type 0} (xs ys : List A) → xs ≢ [] → xs ++ ys ≢ []
told_left [] ys h = absurd (h refl)
told_left (x ∷ xs) ys h = one_told

told_right : {A : Type 0} (xs ys : List A) → ys ≢ [] → xs ++ ys ≢ []
told_right [] ys h = h
told_right (x ∷ xs) ys h = one_told

told_if : {A : Type 0} (b : Bool) (xs ys : List A) → (b ≡ true → xs ≢ []) → ys ≢ [] → (if b then xs else ys) ≢ []
told_if true xs ys h k = h refl
told_if false xs ys h k = k

-- Tests

either : (a b : Bool) → a || b ≡ true → (a ≡ true) ⊎ (b ≡ true)
either true b e = inl refl
either false b e = inr e

not_both : (a b : Bool) → a && b ≡ false → (a ≡ false) ⊎ (b ≡ false)
not_both true b e = inr e
not_both false b e = inl refl

negated : (a : Bool) → a ≡ false → not a ≡ true
negated a e = ap not e

-- the first item that passes a test
record Found {A : Type 0} (test : A → Bool) (xs : List A) : Type 0 where
  value : A
  first : first_that test xs ≡ Some value
  passes : test value ≡ true

found : {A : Type 0} (test : A → Bool) (xs : List A) → list_any test xs ≡ true → Found test xs
found test [] h = absurd (true≢false (sym h))
found test (x ∷ xs) h = chosen (test x) (found test xs) refl h
  where
    chosen : (b : Bool) → (list_any test xs ≡ true → Found test xs) → test x ≡ b → b || list_any test xs ≡ true → Found test (x ∷ xs)
    chosen true later e h = record { value = x; first = ap (λ (b : Bool). if b then Some x else first_that test xs) e; passes = e }
    chosen false later e h =
        let k = later h in
        record { value = k.value; first = ap (λ (b : Bool). if b then Some x else first_that test xs) e ∙ k.first; passes = k.passes }

-- what is made of the first item that passes
told_first : {A B : Type 0} (test : A → Bool) (make : A → List B) (xs : List A) → list_any test xs ≡ true → ((x : A) → test x ≡ true → make x ≢ []) → made_of (first_that test xs) make ≢ []
told_first test make xs h tells =
    let k = found test xs h in
    subst (λ o. made_of o make ≢ []) (sym k.first) (tells k.value k.passes)

-- one test fails for all where the other passes for none
none_all : {A : Type 0} (fails passes : A → Bool) → ((x : A) → fails x ≡ not (passes x)) → (xs : List A) → list_all passes xs ≡ false → list_any fails xs ≡ true
none_all fails passes same [] h = absurd (true≢false h)
none_all fails passes same (x ∷ xs) h = chosen (passes x) (none_all fails passes same xs) refl h
  where
    chosen : (b : Bool) → (list_all passes xs ≡ false → list_any fails xs ≡ true) → passes x ≡ b → b && list_all passes xs ≡ false → fails x || list_any fails xs ≡ true
    chosen true later e h = ap (λ b. b || list_any fails xs) (same x ∙ ap not e) ∙ later h
    chosen false later e h = ap (λ b. b || list_any fails xs) (same x ∙ ap not e)

module _ (test : Option (List ℕ) → Bool) where
  all_entries : (es : List Plain) → list_all test (map (λ x. Some (key x)) es ++ None ∷ []) ≡ test None && list_all (λ x. test (Some (key x))) es
  all_entries [] = last (test None)
    where
      last : (b : Bool) → b && true ≡ b && true
      last b = refl
  all_entries (x ∷ es) = ap (λ b. test (Some (key x)) && b) (all_entries es) ∙ turn (test (Some (key x))) (test None) (list_all (λ x. test (Some (key x))) es)
    where
      turn : (a b c : Bool) → a && (b && c) ≡ b && (a && c)
      turn true true c = refl
      turn true false c = refl
      turn false true c = refl
      turn false false c = refl

  all_tried : (es : List Plain) (vs : List (List ℕ)) → list_all test (map Some vs ++ (map (λ x. Some (key x)) es ++ None ∷ [])) ≡ test None && (list_all (λ x. test (Some (key x))) es && list_all (λ v. test (Some v)) vs)
  all_tried es [] = all_entries es ∙ ap (λ b. test None && b) (end (list_all (λ x. test (Some (key x))) es))
    where
      end : (b : Bool) → b ≡ b && true
      end true = refl
      end false = refl
  all_tried es (v ∷ vs) = ap (λ b. test (Some v) && b) (all_tried es vs) ∙ turn (test (Some v)) (test None) (list_all (λ x. test (Some (key x))) es) (list_all (λ v. test (Some v)) vs)
    where
      turn : (a b c d : Bool) → a && (b && (c && d)) ≡ b && (c && (a && d))
      turn true b c d = refl
      turn false true true d = refl
      turn false true false d = refl
      turn false false c d = refl

  any_tried : (vs : List (List ℕ)) → list_any test (map Some vs ++ ([] ++ None ∷ [])) ≡ test None || list_any test (map Some vs)
  any_tried [] = refl
  any_tried (v ∷ vs) = ap (λ b. test (Some v) || b) (any_tried vs) ∙ turn (test (Some v)) (test None) (list_any test (map Some vs))
    where
      turn : (a b c : Bool) → a || (b || c) ≡ b || (a || c)
      turn true true c = refl
      turn true false c = refl
      turn false true c = refl
      turn false false c = refl

any_alike : {A : Type 0} (f g : A → Bool) → ((x : A) → f x ≡ g x) → (xs : List A) → list_any f xs ≡ list_any g xs
any_alike f g same [] = refl
any_alike f g same (x ∷ xs) = (λ i. same x i || any_alike f g same xs i)

all_alike : {A : Type 0} (f g : A → Bool) {xs : List A} → Each (λ x. f x ≡ g x) xs → list_all f xs ≡ list_all g xs
all_alike f g no_item = refl
all_alike f g (item h k) = (λ i. h i && all_alike f g k i)

-- A tree that is done, or dead

done_for : (v : Option (List ℕ)) → tree_for v done ≡ done
done_for None = refl
done_for (Some v) = refl

refuses_done : (y : Form) (e : Environment) (a : PlainAction) → refuses y e done a ≡ in_alphabet y e a
refuses_done y e a = ap (λ b. in_alphabet y e a && not b) (may_done y e a) ∙ and_true (in_alphabet y e a)
  where
    and_true : (b : Bool) → b && true ≡ b
    and_true true = refl
    and_true false = refl

told_done : (x : Form) (e : Environment) (a : PlainAction) (n : ℕ) → blames n x e done a ≢ []
told_done (opt y) e a n = told_done y e a (n + 1)
told_done (and y z) e a n = told_left _ _ (told_when (not (may y e done a)) _ (negated _ (may_done y e a)) (told_done y e a (n + 1)))
told_done (couple y z) e a n = told_if (in_alphabet y e a || in_alphabet z e a) _ _ (sides (told_done y e a (n + 1)) (told_done z e a (n + 1 + nodes y))) one_told
  where
    sides : blames (n + 1) y e done a ≢ [] → blames (n + 1 + nodes y) z e done a ≢ [] → in_alphabet y e a || in_alphabet z e a ≡ true → when (refuses y e done a) (blames (n + 1) y e done a) ++ when (refuses z e done a) (blames (n + 1 + nodes y) z e done a) ≢ []
    sides l r h = elim (either (in_alphabet y e a) (in_alphabet z e a) h) [
      | inl k ↦ told_left _ _ (told_when (refuses y e done a) _ (refuses_done y e a ∙ k) l)
      | inr k ↦ told_right (when (refuses y e done a) (blames (n + 1) y e done a)) _ (told_when (refuses z e done a) _ (refuses_done z e a ∙ k) r)
    ]
told_done (every p y) e a n =
    told_first (λ v. not (may y (bind p v e) (tree_for v done) a)) (λ v. blames (n + 1) y (bind p v e) (tree_for v done) a) (tried a done)
    (any_tried (λ v. not (may y (bind p v e) (tree_for v done) a)) a.values ∙ ap (λ b. b || list_any (λ v. not (may y (bind p v e) (tree_for v done) a)) (map Some a.values)) (negated _ (may_done y (bind p None e) a)))
    (λ v h. subst (λ t. blames (n + 1) y (bind p v e) t a ≢ []) (sym (done_for v)) (told_done y (bind p v e) a (n + 1)))
told_done (sync p y) e a n = told_if (in_alphabet (sync p y) e a) _ _ (values (λ v. told_done y (bind p v e) a (n + 1))) one_told
  where
    test : Option (List ℕ) → Bool
    test v = refuses y (bind p v e) (tree_for v done) a

    same : (v : Option (List ℕ)) → test v ≡ in_alphabet y (bind p v e) a
    same v = ap (λ t. refuses y (bind p v e) t a) (done_for v) ∙ refuses_done y (bind p v e) a

    values : ((v : Option (List ℕ)) → blames (n + 1) y (bind p v e) done a ≢ []) → in_alphabet (sync p y) e a ≡ true → made_of (first_that test (tried a done)) (λ v. blames (n + 1) y (bind p v e) (tree_for v done) a) ≢ []
    values tells h =
        told_first test (λ v. blames (n + 1) y (bind p v e) (tree_for v done) a) (tried a done)
        (any_tried test a.values ∙ any_alike test (λ v. in_alphabet y (bind p v e) a) same (values_and_outside a) ∙ h)
        (λ v h. subst (λ t. blames (n + 1) y (bind p v e) t a ≢ []) (sym (done_for v)) (tells v))
told_done _ e a n = one_told

-- a tree that is dead tells what one tells that is done
dead_done : (x : Form) (e : Environment) (a : PlainAction) (n : ℕ) → blames n x e dead a ≡ blames n x e done a
dead_done (every p y) e a n = (λ i. made_of (first_that (λ v. not (may y (bind p v e) (same v i) a)) (tried a done)) (λ v. blames (n + 1) y (bind p v e) (same v i) a))
  where
    same : (v : Option (List ℕ)) → tree_for v dead ≡ tree_for v done
    same None = refl
    same (Some v) = refl
dead_done (sync p y) e a n =
    (λ i. if in_alphabet (sync p y) e a then made_of (first_that (λ v. refuses y (bind p v e) (same v i) a) (tried a done)) (λ v. blames (n + 1) y (bind p v e) (same v i) a) else here n e)
  where
    same : (v : Option (List ℕ)) → tree_for v dead ≡ tree_for v done
    same None = refl
    same (Some v) = refl
dead_done _ e a n = refl

-- Trees of words

-- where the action may not come, some part is told
Tells : Form → Plain → Type 0
Tells x t = (e : Environment) (a : PlainAction) (n : ℕ) → Fits x e → IsProper x t → may x e t a ≡ false → blames n x e t a ≢ []

tells_done : (x : Form) → Tells x done
unfolding Tells
tells_done x e a n f k h = told_done x e a n

tells_dead : (x : Form) → Tells x dead
unfolding Tells
tells_dead x e a n f k h = subst (λ ps. ps ≢ []) (sym (dead_done x e a n)) (told_done x e a n)

-- a node tells that is dead where one test holds, and done where the other does
tells_node : (x : Form) (b d : Bool) (t : Plain) → Tells x t → Tells x (dead_if b (done_if d t))
tells_node x true d t h = tells_dead x
tells_node x false true t h = tells_done x
tells_node x false false t h = h

tells_opt : (y : Form) (b : Bool) (t : Plain) → Tells y t → Tells (opt y) (opt_of b t)
unfolding Tells
tells_opt y b t k e a n f g h = k e a (n + 1) (fits-operands (opt y) e f) g h

tells_and : (y z : Form) (t u : Plain) → Tells y t → Tells z u → Tells (and y z) (and_of t u)
unfolding Tells
tells_and y z t u k l e a n f g h =
    let fs = fits-operands (and y z) e f in
    elim (not_both (may y e t a) (may z e u a) h) [
      | inl i ↦ told_left _ _ (told_when (not (may y e t a)) _ (negated _ i) (k e a (n + 1) fs.0 g.0 i))
      | inr i ↦ told_right (when (not (may y e t a)) (blames (n + 1) y e t a)) _ (told_when (not (may z e u a)) _ (negated _ i) (l e a (n + 1 + nodes y) fs.1 g.1 i))
    ]

-- one side refuses
one_refuses : (i j m k : Bool) → i || j ≡ true → (i || j) && ((not i || m) && (not j || k)) ≡ false → ((i && not m ≡ true) × (m ≡ false)) ⊎ ((j && not k ≡ true) × (k ≡ false))
one_refuses true j false k e h = inl (refl, refl)
one_refuses true true true false e h = inr (refl, refl)
one_refuses true true true true e h = absurd (true≢false h)
one_refuses true false true k e h = absurd (true≢false h)
one_refuses false true m false e h = inr (refl, refl)
one_refuses false true m true e h = absurd (true≢false h)
one_refuses false false m k e h = absurd (true≢false (sym e))

tells_couple : (y z : Form) (t u : Plain) → Tells y t → Tells z u → Tells (couple y z) (couple_of t u)
unfolding Tells
tells_couple y z t u k l e a n f g h = told_if (in_alphabet y e a || in_alphabet z e a) _ _ sides one_told
  where
    sides : in_alphabet y e a || in_alphabet z e a ≡ true → when (refuses y e t a) (blames (n + 1) y e t a) ++ when (refuses z e u a) (blames (n + 1 + nodes y) z e u a) ≢ []
    sides i =
        let fs = fits-operands (couple y z) e f in
        elim (one_refuses (in_alphabet y e a) (in_alphabet z e a) (may y e t a) (may z e u a) i h) [
          | inl r ↦ told_left _ _ (told_when (refuses y e t a) _ r.0 (k e a (n + 1) fs.0 g.0 r.1))
          | inr r ↦ told_right (when (refuses y e t a) (blames (n + 1) y e t a)) _ (told_when (refuses z e u a) _ r.0 (l e a (n + 1 + nodes y) fs.1 g.1 r.1))
        ]

-- the tree of a value tells where the common one and those of the entries do
tells_body : (y : Form) (c : Plain) (es : List Plain) (v : Option (List ℕ)) → Tells y c → Each (λ x. Tells y (first_part x)) es → (t : Plain) → left t ≡ c → entries t ≡ es → Tells y (tree_for v t)
tells_body y c es None k l t e f = subst (Tells y) (sym e) k
tells_body y c es (Some v) k l t e f = subst (Tells y) (λ i. tree_at v (sym e i) (sym f i)) (tree_at_has (Tells y) c v es k l)

not_true : (m : Bool) → not m ≡ true → m ≡ false
not_true true h = absurd (true≢false (sym h))
not_true false h = refl

tells_every : (p : List ℕ) (y : Form) (c es : Plain) → Tells y c → Each (λ x. Tells y (first_part x)) (items_of es) → Tells (every p y) (every_of c es)
unfolding Tells
tells_every p y c es k l e a n f g h =
    told_first (λ v. not (test v)) (λ v. blames (n + 1) y (bind p v e) (tree_for v t) a) (tried a t)
    (none_all (λ v. not (test v)) test (λ v. refl) (tried a t) (all_tried test (items_of es) a.values ∙ ap (λ b. test None && (b && list_all (λ v. test (Some v)) a.values)) entries_same ∙ h))
    (λ v r. tells_body y c (items_of es) v k l t refl refl (bind p v e) a (n + 1) ((fits-operands (every p y) e f).body v) (body_proper y t v g.0 g.1) (not_true (test v) r))
  where
    t : Plain
    t = every_of c es

    test : Option (List ℕ) → Bool
    test v = may y (bind p v e) (tree_for v t) a

    entries_same : list_all (λ x. test (Some (key x))) (items_of es) ≡ list_all (λ x. may y (bind p (Some (key x)) e) (first_part x) a) (items_of es)
    entries_same =
        all_alike (λ x. test (Some (key x))) (λ x. may y (bind p (Some (key x)) e) (first_part x) a)
        (Each-weaker (λ x same. ap (λ s. may y (bind p (Some (key x)) e) s a) same) (tree_at_own c (items_of es) g.1.ascending))

tells_sync : (p : List ℕ) (y : Form) (c es : Plain) → Tells y c → Each (λ x. Tells y (first_part x)) (items_of es) → Tells (sync p y) (sync_of c es)
unfolding Tells
tells_sync p y c es k l e a n f g h = told_if (in_alphabet (sync p y) e a) _ _ values one_told
  where
    t : Plain
    t = sync_of c es

    inside : Option (List ℕ) → Bool
    inside v = in_alphabet y (bind p v e) a

    next : Option (List ℕ) → Bool
    next v = may y (bind p v e) (tree_for v t) a

    passes : Option (List ℕ) → Bool
    passes v = moves_within (inside v) (next v)

    entries_same : list_all (λ x. passes (Some (key x))) (items_of es) ≡ list_all (λ x. moves_within (inside (Some (key x))) (may y (bind p (Some (key x)) e) (first_part x) a)) (items_of es)
    entries_same =
        all_alike (λ x. passes (Some (key x))) (λ x. moves_within (inside (Some (key x))) (may y (bind p (Some (key x)) e) (first_part x) a))
        (Each-weaker (λ x same. ap (λ s. moves_within (inside (Some (key x))) (may y (bind p (Some (key x)) e) s a)) same) (tree_at_own c (items_of es) g.1.ascending))

    turned : (i m : Bool) → i && not m ≡ not (not i || m)
    turned true m = refl
    turned false m = refl

    refused : (i m : Bool) → i && not m ≡ true → m ≡ false
    refused true m r = not_true m r
    refused false m r = absurd (true≢false (sym r))

    rest : (i r : Bool) → i ≡ true → i && r ≡ false → r ≡ false
    rest true r e h = h
    rest false r e h = absurd (true≢false (sym e))

    values : in_alphabet (sync p y) e a ≡ true → made_of (first_that (λ v. refuses y (bind p v e) (tree_for v t) a) (tried a t)) (λ v. blames (n + 1) y (bind p v e) (tree_for v t) a) ≢ []
    values i =
        told_first (λ v. refuses y (bind p v e) (tree_for v t) a) (λ v. blames (n + 1) y (bind p v e) (tree_for v t) a) (tried a t)
        (none_all (λ v. refuses y (bind p v e) (tree_for v t) a) passes (λ v. turned (inside v) (next v)) (tried a t)
        (all_tried passes (items_of es) a.values ∙ ap (λ b. passes None && (b && list_all (λ v. passes (Some v)) a.values)) entries_same ∙ rest (in_alphabet (sync p y) e a) _ i h))
        (λ v r. tells_body y c (items_of es) v k l t refl refl (bind p v e) a (n + 1) ((fits-operands (sync p y) e f).body v) (body_proper y t v g.0 g.1) (refused (inside v) (next v) r))

-- Owners

-- the only value among those that pass is one of them
value_among : (test : List ℕ → Bool) (v : List ℕ) (vs : List (List ℕ)) → one_value (filter test vs) ≡ Some v → Member v vs
value_among test v [] h = absurd (cc)
value_among test v (u ∷ vs) h = chosen (test u) (value_among test v vs) h
  where
    is_first : (b : Bool) → (if b then Some u else None) ≡ Some v → v ≡ u
    is_first true e = cc
    is_first false e = absurd (cc)

    chosen : (b : Bool) → (one_value (filter test vs) ≡ Some v → Member v vs) → one_value (cond b (u ∷ filter test vs) (filter test vs)) ≡ Some v → Member v (u ∷ vs)
    chosen true later e = subst (λ w. Member w (u ∷ vs)) (sym (is_first (list_all (text_eq u) (filter test vs)) e)) first_member
    chosen false later e = there (later e)

none_passes : (test : List ℕ → Bool) (v : List ℕ) (vs : List (List ℕ)) → list_any test vs ≡ false → Member v vs → test v ≡ false
none_passes test v [] h m = elim m [ ]
none_passes test v (u ∷ vs) h first_member = left_false (test u) (list_any test vs) h
  where
    left_false : (a b : Bool) → a || b ≡ false → a ≡ false
    left_false true b e = e
    left_false false b e = refl
none_passes test v (u ∷ vs) h (there m) = none_passes test v vs (right_false (test u) (list_any test vs) h) m
  where
    right_false : (a b : Bool) → a || b ≡ false → b ≡ false
    right_false true b e = absurd (true≢false e)
    right_false false b e = e

-- a value that doesn't go on or begin can't from its tree
owns_not : (p : List ℕ) (y : Form) (e : Environment) (a : PlainAction) (v : List ℕ) (es : List Plain) → Fits y (bind p (Some v) e) → may_own y p e a es v ≡ false → may y (bind p (Some v) e) (tree_at v (tree_of y [] []) es) a ≡ false
owns_not p y e a v [] f h = sym (first_next y (bind p (Some v) e) a f) ∙ h
owns_not p y e a v (x ∷ es) f h = chosen (text_eq (key x) v) (owns_not p y e a v es f) h
  where
    answer : Plain → Bool
    answer t = if is_dead t then may_first y (bind p (Some v) e) a else may y (bind p (Some v) e) t a

    own : (d : Bool) → is_dead (first_part x) ≡ d → answer (first_part x) ≡ false → may y (bind p (Some v) e) (first_part x) a ≡ false
    own true d h = ap (λ t. may y (bind p (Some v) e) t a) (dead_is (first_part x) d) ∙ may_dead y (bind p (Some v) e) a
    own false d h = sym (ap (λ (b : Bool). if b then may_first y (bind p (Some v) e) a else may y (bind p (Some v) e) (first_part x) a) d) ∙ h

    chosen : (b : Bool) → (may_own y p e a es v ≡ false → may y (bind p (Some v) e) (tree_at v (tree_of y [] []) es) a ≡ false)
        → answer (if b then first_part x else tree_at v dead es) ≡ false
        → may y (bind p (Some v) e) (if b then first_part x else tree_at v (tree_of y [] []) es) a ≡ false
    chosen true later h = own (is_dead (first_part x)) refl h
    chosen false later h = later h

tells_all : (p : List ℕ) (y : Form) (ms : Plain) → Tells y (tree_of y [] []) → Each (λ m. Each (λ x. Tells y (first_part x)) (items_of (first_part m))) (items_of ms) → Tells (all p y) (all_of ms)
unfolding Tells
tells_all p y ms k l e a n f g h = in_maps (items_of ms) l g.each h (owner p y e a) refl
  where
    make : Plain → List ℕ → List Part
    make m v = blames (n + 1) y (bind p (Some v) e) (tree_at v (tree_of y [] []) (items_of (first_part m))) a

    or_false : (b : Bool) → b || false ≡ false → b ≡ false
    or_false true r = r
    or_false false r = refl

    in_maps : (xs : List Plain) → Each (λ m. Each (λ x. Tells y (first_part x)) (items_of (first_part m))) xs
        → Each (λ m. ProperEntries (IsProper y) (tree_of y [] []) (items_of (first_part m))) xs
        → list_any (λ m. list_any (may_own y p e a (items_of (first_part m))) a.values) xs ≡ false
        → (o : Option (List ℕ)) → owner p y e a ≡ o → made_of_both (only xs) o make (here n e) ≢ []
    in_maps [] l g h o q = one_told
    in_maps (m ∷ m' ∷ xs) l g h o q = one_told
    in_maps (m ∷ []) l g h None q = one_told
    in_maps (m ∷ []) l g h (Some v) q =
        let es : List Plain = items_of (first_part m) in
        let fits = (fits-operands (all p y) e f).body (Some v) in
        tree_at_has (Tells y) (tree_of y [] []) v es k (Each-head l) (bind p (Some v) e) a (n + 1) fits
        (tree_at_has (IsProper y) (tree_of y [] []) v es (proper y [] []) (Each-head g).each)
        (owns_not p y e a v es fits
        (none_passes (may_own y p e a es) v a.values (or_false (list_any (may_own y p e a es) a.values) h) (value_among (λ v. in_alphabet y (bind p (Some v) e) a) v a.values q)))

-- Trees of words

one_listed : {A : Type 0} (b : Bool) (x : A) {c : A} → Member c (when b (x ∷ [])) → c ≡ x
one_listed b x m = elim (Member-cases (Member-when b (x ∷ []) m).1) [ inl e ↦ e | inr n ↦ elim n [ ] ]

-- what the tree of each value has, each entry's has
entries_have : (G : Plain → Type 0) (common : Plain) (tree : List ℕ → Plain) (vs : List (List ℕ)) → ((v : List ℕ) → G (tree v)) → Each (λ x. G (first_part x)) (items_of (set_of (entries_of common tree vs)))
entries_have G common tree vs has = Each-members _ one
  where
    one : (x : Plain) → Member x (items_of (set_of (entries_of common tree vs))) → G (first_part x)
    one x m =
        let k = Member-flat_map (λ v. when (not (same_tree (tree v) common)) (entry v (tree v) ∷ [])) vs ((set_items (entries_of common tree vs)).to x m) in
        subst (λ z. G (first_part z)) (sym (one_listed (not (same_tree (tree k.0) common)) (entry k.0 (tree k.0)) k.2)) (has k.0)

tells_tree : (x : Form) (e : Environment) (w : Word) → Tells x (tree_of x e w)
unfolding Tells
tells_tree (opt y) e w =
    let t : Plain = tree_of y e w in
    let node : Plain = opt_of (is_empty w) t in
    tells_node (opt y) (is_dead t) (is_spent node) node (tells_opt y (is_empty w) t (tells_tree y e w))
tells_tree (and y z) e w =
    let t : Plain = tree_of y e w in
    let u : Plain = tree_of z e w in
    tells_node (and y z) (is_dead t || is_dead u) (is_spent (and_of t u)) (and_of t u) (tells_and y z t u (tells_tree y e w) (tells_tree z e w))
tells_tree (couple y z) e w =
    let t : Plain = tree_of y e (filter (in_alphabet y e) w) in
    let u : Plain = tree_of z e (filter (in_alphabet z e) w) in
    let inside : Bool = list_all (λ a. in_alphabet y e a || in_alphabet z e a) w in
    tells_node (couple y z) (not inside || (is_dead t || is_dead u)) (is_spent (couple_of t u)) (couple_of t u) (tells_couple y z t u (tells_tree y e (filter (in_alphabet y e) w)) (tells_tree z e (filter (in_alphabet z e) w)))
tells_tree (every p y) e w =
    let common : Plain = tree_of y (bind p None e) w in
    let tree : List ℕ → Plain = λ v. tree_of y (bind p (Some v) e) w in
    let es : List Plain = entries_of common tree (values_of w) in
    let node : Plain = every_of common (set_of es) in
    tells_node (every p y) (is_dead common || has_dead_entry es) (is_spent node) node
    (tells_every p y common (set_of es) (tells_tree y (bind p None e) w) (entries_have (Tells y) common tree (values_of w) (λ v. tells_tree y (bind p (Some v) e) w)))
tells_tree (sync p y) e w =
    let own : Option (List ℕ) → Word = λ v. filter (in_alphabet y (bind p v e)) w in
    let common : Plain = tree_of y (bind p None e) (own None) in
    let tree : List ℕ → Plain = λ v. tree_of y (bind p (Some v) e) (own (Some v)) in
    let es : List Plain = entries_of common tree (values_of w) in
    let node : Plain = sync_of common (set_of es) in
    let inside : Bool = list_all (λ a. list_any (λ v. in_alphabet y (bind p v e) a) (values_and_outside a)) w in
    tells_node (sync p y) (not inside || (is_dead common || has_dead_entry es)) (is_spent node) node
    (tells_sync p y common (set_of es) (tells_tree y (bind p None e) (own None)) (entries_have (Tells y) common tree (values_of w) (λ v. tells_tree y (bind p (Some v) e) (own (Some v)))))
tells_tree (all p y) e w =
    tells_node (all p y) (is_empty maps) false (all_of (set_of maps)) (tells_all p y (set_of maps) (tells_tree y [] []) (maps_have (λ owners v. tells_tree y (bind p (Some v) e) (part (text_eq v) owners w))))
  where
    tree : List (List ℕ) → List ℕ → Plain
    tree owners v = tree_of y (bind p (Some v) e) (part (text_eq v) owners w)

    maps : List Plain
    maps = flat_map (λ owners. live_map (tree_of y e []) (tree owners) owners) (ownings w)

    Has : Plain → Type 0
    Has m = Each (λ x. Tells y (first_part x)) (items_of (first_part m))

    one : ((owners : List (List ℕ)) (v : List ℕ) → Tells y (tree owners v)) → (m : Plain) → Member m (items_of (set_of maps)) → Has m
    one tells m among =
        let k = Member-flat_map (λ owners. live_map (tree_of y e []) (tree owners) owners) (ownings w) ((set_items maps).to m among) in
        subst Has (sym (one_listed (list_all (λ v. is_live (tree k.0 v)) k.0) (map_of (set_of (entries_of (tree_of y e []) (tree k.0) k.0))) k.2)) (entries_have (Tells y) (tree_of y e []) (tree k.0) k.0 (tells k.0))

    maps_have : ((owners : List (List ℕ)) (v : List ℕ) → Tells y (tree owners v)) → Each Has (items_of (set_of maps))
    maps_have tells = Each-members _ (one tells)
tells_tree _ e w = λ f a n fits g h. one_told

-- by the tree of a word, some part is told exactly where the word with the action isn't partial
pub some-part : (x : Form) (w : Word) (a : PlainAction) → IsWellFormed x → (refusals x (tree_of x [] w) a ≢ []) ↔ ¬ IsPartial x [] (w ++ a ∷ [])
unfolding Tells
some-part x w a formed = (
  λ told partial. told (ap (λ b. when (not b) (blames 0 x [] (tree_of x [] w) a)) (next.1 partial)),
  λ not_partial. chosen (may x [] (tree_of x [] w) a) refl not_partial,
)
  where
    fits : Fits x []
    fits = record { faultless = formed.faultless; numbers = formed.numbers }

    next : (may x [] (tree_of x [] w) a ≡ true) ↔ IsPartial x [] (w ++ a ∷ [])
    next = (each_step x [] a fits).next w

    chosen : (b : Bool) → may x [] (tree_of x [] w) a ≡ b → ¬ IsPartial x [] (w ++ a ∷ []) → when (not b) (blames 0 x [] (tree_of x [] w) a) ≢ []
    chosen true e not_partial = absurd (not_partial (next.0 e))
    chosen false e not_partial = tells_tree x [] w [] a 0 fits (proper x [] w) e
