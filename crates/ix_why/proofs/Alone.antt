-- Each part that is told refuses the action by itself.
use Rattle.std.proofs.Common.{◌≡◌, ◌⊎◌, inl, inr, ℕ, ◌+◌, Bool, true, false, not, ◌&&◌, ◌||◌, List, [], ◌∷◌, ◌++◌, length, length-append, Option, Some, None, flat_map, filter, refl, sym, ap, ◌∙◌, subst, true≢false, if◌then◌else◌, arith}
use Rattle.std.specs.List.{list_all, list_any}
use Rattle.ix_words.specs.Canon.{when}
use Rattle.ix_words.specs.Each.{Each, no_item, item, Member, here as first_member}
use Rattle.ix_words.specs.Parts.{part, Projection}
use Rattle.ix_words.specs.Words.{Owned, Projected}
use Rattle.ix_words.proofs.Each.{Each-append, Each-left, Each-right, Each-members, Each-weaker}
use Rattle.ix_words.proofs.Canon.{Member-cases, Member-when, Member-flat_map}
use Rattle.ix_values.specs.Order.{text_eq}
use Rattle.ix_values.specs.PlainAction.{PlainAction, Word, values_of}
use Rattle.ix_expr.specs.Environment.{Environment, bind}
use Rattle.ix_expr.specs.Form.{Form, opt, and, couple, every, sync, all}
use Rattle.ix_expr.specs.FormFaults.{Fits, IsWellFormed}
use Rattle.ix_expr.specs.Laws.{AgreeOn}
use Rattle.ix_expr.specs.Meaning.{InAlphabet, IsPartial}
use Rattle.ix_expr.proofs.Agreement.{member-or-not}
use Rattle.ix_expr.proofs.LawsOfMeaning.{agree-same}
use Rattle.ix_expr.proofs.Parts.{fits-operands}
use Rattle.ix_tree.specs.Plain.{Plain, done, map as map_of, opt as opt_of, and as and_of, couple as couple_of, every as every_of, sync as sync_of, all as all_of, items_of}
use Rattle.ix_tree.specs.Order.{first_part}
use Rattle.ix_can.specs.May.{may, tree_at}
use Rattle.ix_can.specs.Nodes.{is_dead, is_done, is_live, settled, dead_if, done_if, set_of, has_dead_entry}
use Rattle.ix_expr.specs.Tests.{in_alphabet, values_and_outside}
use Rattle.ix_can.specs.TreeOf.{tree_of, entries_of}
use Rattle.ix_can.specs.Ways.{is_empty, ownings}
use Rattle.ix_can.proofs.Agreeing.{empty_tree}
use Rattle.ix_can.proofs.Entries.{set_items, tree_at_value}
use Rattle.ix_can.proofs.Maps.{same_or_other, own_part, other_part, ownings_long}
use Rattle.ix_can.proofs.MayAll.{outside_owners}
use Rattle.ix_can.proofs.MayQuantifiers.{given_outside, own_outside}
use Rattle.ix_can.proofs.MovesTell.{each_step}
use Rattle.ix_can.proofs.Nodes.{fresh, fresh-new, projected_says}
use Rattle.ix_can.proofs.QuantifiersTell.{own, own_says, own_tree, own_entries, partial_outside, own_partial_outside, owned_tree, owned_map, owned_live}
use Rattle.ix_can.proofs.Spent.{done_is, empty_is}
use Rattle.ix_expr.proofs.Testing.{alphabet_says}
use Rattle.ix_why.specs.declared.part.Part.{Part}
use Rattle.ix_why.specs.Blames.{nodes, here, refuses, only, owner, first_that, made_of, made_of_both, blames, refusals}
use Rattle.ix_why.specs.Laws.{Consults, itself, operand, left_of_and, right_of_and, left_of_couple, right_of_couple, body_of_every, body_of_sync, body_of_all, RefusesByItself}
use Rattle.ix_why.specs.Trees.{left, right, owner_maps, tree_for, tried}
use Rattle.ix_why.proofs.Parts.{form-at, asked-each, fills-agree, asked-with}

-- Lists of which each item has something

module _ {A : Type 0} {G : A → Type 0} where
  when_each : (b : Bool) (xs : List A) → (b ≡ true → Each G xs) → Each G (when b xs)
  when_each true xs h = h refl
  when_each false xs h = no_item

  if_each : (b : Bool) (xs ys : List A) → (b ≡ true → Each G xs) → Each G ys → Each G (if b then xs else ys)
  if_each true xs ys h k = h refl
  if_each false xs ys h k = k

  made_each : {B : Type 0} (o : Option B) (make : B → List A) → ((x : B) → o ≡ Some x → Each G (make x)) → Each G (made_of o make)
  made_each None make h = no_item
  made_each (Some x) make h = h x refl

  both_each : {B C : Type 0} (o : Option B) (r : Option C) (make : B → C → List A) (other : List A) → ((x : B) (y : C) → o ≡ Some x → Each G (make x y)) → Each G other → Each G (made_of_both o r make other)
  both_each (Some x) (Some y) make other h k = h x y refl
  both_each (Some x) None make other h k = k
  both_each None (Some y) make other h k = k
  both_each None None make other h k = k

first_passes : {A : Type 0} (test : A → Bool) (xs : List A) (x : A) → first_that test xs ≡ Some x → test x ≡ true
first_passes test [] x h = absurd (cc)
first_passes {A} test (y ∷ xs) x h = chosen (test y) refl (first_passes test xs x) h
  where
    chosen : (b : Bool) → test y ≡ b → (first_that test xs ≡ Some x → test x ≡ true) → (if b then Some y else first_that test xs) ≡ Some x → test x ≡ true
    chosen true e later h = let k : y ≡ x = cc in sym (ap test k) ∙ e
    chosen false e later h = later h

only_among : {A : Type 0} (xs : List A) (x : A) → only xs ≡ Some x → Member x xs
only_among [] x h = absurd (cc)
only_among (y ∷ []) x h = let k : y ≡ x = cc in subst (λ z. Member z (y ∷ [])) k first_member
only_among (y ∷ z ∷ xs) x h = absurd (cc)

right_true : (a b : Bool) → a && b ≡ true → b ≡ true
right_true true b e = e
right_true false b e = absurd (true≢false (sym e))

not_true : (m : Bool) → not m ≡ true → m ≡ false
not_true true h = absurd (true≢false (sym h))
not_true false h = refl

-- Operands of a node that isn't dead

live_node : (b : Bool) (t : Plain) → is_dead (dead_if b t) ≡ false → dead_if b t ≡ t
live_node true t h = absurd (true≢false h)
live_node false t h = refl

left_opt : (b : Bool) (t : Plain) → left (settled (opt_of b t)) ≡ t
left_opt b t = chosen (is_done t) refl
  where
    chosen : (d : Bool) → is_done t ≡ d → left (done_if d (opt_of b t)) ≡ t
    chosen true e = sym (done_is t e)
    chosen false e = refl

both_true : (a b : Bool) → a && b ≡ true → (a ≡ true) × (b ≡ true)
both_true true b e = (refl, e)
both_true false b e = absurd (true≢false (sym e))

sides_and : (t u : Plain) → (left (settled (and_of t u)) ≡ t) × (right (settled (and_of t u)) ≡ u)
sides_and t u = chosen (is_done t && is_done u) refl
  where
    chosen : (d : Bool) → is_done t && is_done u ≡ d → (left (done_if d (and_of t u)) ≡ t) × (right (done_if d (and_of t u)) ≡ u)
    chosen true e = let k = both_true (is_done t) (is_done u) e in (sym (done_is t k.0), sym (done_is u k.1))
    chosen false e = (refl, refl)

sides_couple : (t u : Plain) → (left (settled (couple_of t u)) ≡ t) × (right (settled (couple_of t u)) ≡ u)
sides_couple t u = chosen (is_done t && is_done u) refl
  where
    chosen : (d : Bool) → is_done t && is_done u ≡ d → (left (done_if d (couple_of t u)) ≡ t) × (right (done_if d (couple_of t u)) ≡ u)
    chosen true e = let k = both_true (is_done t) (is_done u) e in (sym (done_is t k.0), sym (done_is u k.1))
    chosen false e = (refl, refl)

-- where all is done there is no entry, and each value has the common tree
spent_body : (c es : Plain) (v : Option (List ℕ)) → is_done c && is_empty (items_of es) ≡ true → tree_for v done ≡ tree_for v (every_of c es)
spent_body c es None e = sym (done_is c (both_true (is_done c) (is_empty (items_of es)) e).0)
spent_body c es (Some v) e =
    let k = both_true (is_done c) (is_empty (items_of es)) e in
    sym (done_is c k.0) ∙ ap (tree_at v c) (sym (empty_is (items_of es) k.1))

body_every : (c es : Plain) (v : Option (List ℕ)) → tree_for v (settled (every_of c es)) ≡ tree_for v (every_of c es)
body_every c es v = chosen (is_done c && is_empty (items_of es)) refl
  where
    chosen : (d : Bool) → is_done c && is_empty (items_of es) ≡ d → tree_for v (done_if d (every_of c es)) ≡ tree_for v (every_of c es)
    chosen true e = spent_body c es v e
    chosen false e = refl

body_sync : (c es : Plain) (v : Option (List ℕ)) → tree_for v (settled (sync_of c es)) ≡ tree_for v (every_of c es)
body_sync c es v = chosen (is_done c && is_empty (items_of es)) refl
  where
    same_body : (v : Option (List ℕ)) → tree_for v (sync_of c es) ≡ tree_for v (every_of c es)
    same_body None = refl
    same_body (Some v) = refl

    chosen : (d : Bool) → is_done c && is_empty (items_of es) ≡ d → tree_for v (done_if d (sync_of c es)) ≡ tree_for v (every_of c es)
    chosen true e = spent_body c es v e
    chosen false e = same_body v

-- where values outside have the common tree, each value has its own
body_tree : (tree : Option (List ℕ) → Plain) (values : List (List ℕ)) → ((v : List ℕ) → ¬ Member v values → tree (Some v) ≡ tree None) → (v : Option (List ℕ)) → tree_for v (every_of (tree None) (set_of (entries_of (tree None) (λ u. tree (Some u)) values))) ≡ tree v
body_tree tree values outside None = refl
body_tree tree values outside (Some v) = tree_at_value (tree None) (λ u. tree (Some u)) values v (one (member-or-not v values))
  where
    one : Member v values ⊎ (¬ Member v values) → (tree (Some v) ≡ tree None) ⊎ Member v values
    one (inl m) = inr m
    one (inr n) = inl (outside v n)

-- the projection of a word by the test of the alphabet
own_projection : (y : Form) (e : Environment) (w : Word) → Projection (InAlphabet y e) w (filter (in_alphabet y e) w)
own_projection y e w =
    let k : Projected (InAlphabet y e) (λ u. u ≡ filter (in_alphabet y e) w) w = (projected_says (λ u. u ≡ filter (in_alphabet y e) w) (in_alphabet y e) (alphabet_says y e) w).0 refl in
    subst (Projection (InAlphabet y e) w) k.rest_has k.projection

-- the word is partial under outside too where it is under every value
partial_for : (p : List ℕ) (y : Form) (e : Environment) (w : Word) → ((v : List ℕ) → IsPartial y (bind p (Some v) e) w) → (v : Option (List ℕ)) → IsPartial y (bind p v e) w
partial_for p y e w h None = (partial_outside p y e w (fresh (values_of w)) (fresh-new (values_of w))).1 (h (fresh (values_of w)))
partial_for p y e w h (Some v) = h v

own_partial_for : (p : List ℕ) (y : Form) (e : Environment) (w : Word) → ((v : List ℕ) → Projected (InAlphabet y (bind p (Some v) e)) (IsPartial y (bind p (Some v) e)) w) → (v : Option (List ℕ)) → IsPartial y (bind p v e) (own p y e v w)
own_partial_for p y e w h None = (own_says p y e IsPartial w None).1 ((own_partial_outside p y e w (fresh (values_of w)) (fresh-new (values_of w))).1 (h (fresh (values_of w))))
own_partial_for p y e w h (Some v) = (own_says p y e IsPartial w (Some v)).1 (h v)

module _ (whole : Form) (history : Word) (a : PlainAction) where
  -- what is told of a subexpression that is asked about a word and refuses the action
  abbrev Told : Part → Type 0
  Told = RefusesByItself whole history a

  abbrev Asked : ℕ → Form → Environment → Word → Type 0
  Asked = Consults whole history

  abbrev Refused : Form → Environment → Word → Type 0
  Refused x e w = ¬ IsPartial x e (w ++ a ∷ [])

  one_told : {n : ℕ} (x : Form) (e : Environment) (w : Word) → Asked n x e w → IsPartial x e w → Refused x e w → Each Told (here n e)
  one_told {n} x e w h p r = item (record {
    form = x;
    environment = e;
    word = w;
    at = form-at h;
    bound = refl;
    refuses = λ f k.
        let each : Each (λ b. Member b (history ++ a ∷ [])) (history ++ a ∷ []) = Each-members (history ++ a ∷ []) (λ b m. m) in
        let within : Each (λ b. Member b (history ++ a ∷ [])) history = Each-left history (a ∷ []) each in
        let more : AgreeOn e f (w ++ a ∷ []) = Each-weaker (λ b m. fills-agree k b m) (Each-append (asked-each within h) (Each-right history (a ∷ []) each)) in
        record {
          consulted = asked-with within h k;
          partial = (agree-same x e f w (Each-left w (a ∷ []) more)).partial.0 p;
          refused = λ q. r ((agree-same x e f (w ++ a ∷ []) more).partial.1 q);
        };
  })
      no_item

  -- where the tree of a word doesn't take the action, it is refused
  refused_by : (x : Form) (e : Environment) (w : Word) → Fits x e → may x e (tree_of x e w) a ≡ false → Refused x e w
  refused_by x e w f m p = true≢false (sym (((each_step x e a f).next w).1 p) ∙ m)

  live : (x : Form) (e : Environment) (w : Word) → Fits x e → IsPartial x e w → is_dead (tree_of x e w) ≡ false
  live x e w f p = ((each_step x e a f).trees w).partial.1 p

  -- what is told of an operand whose tree this is
  abbrev Tells : ℕ → Form → Environment → Word → Type 0
  Tells n y e w = Refused y e w → Each Told (blames n y e (tree_of y e w) a)

  operand_tells : (n : ℕ) (y : Form) (e : Environment) (w : Word) (t : Plain) → Fits y e → t ≡ tree_of y e w → not (may y e t a) ≡ true → Tells n y e w → Each Told (blames n y e t a)
  operand_tells n y e w t f k m tells =
      subst (λ s. Each Told (blames n y e s a)) (sym k) (tells (refused_by y e w f (ap (λ s. may y e s a) (sym k) ∙ not_true (may y e t a) m)))

  side_tells : (n : ℕ) (y : Form) (e : Environment) (w : Word) (t : Plain) → Fits y e → t ≡ tree_of y e w → Tells n y e w → Each Told (when (not (may y e t a)) (blames n y e t a))
  side_tells n y e w t f k tells = when_each (not (may y e t a)) (blames n y e t a) (λ m. operand_tells n y e w t f k m tells)

  own_side_tells : (n : ℕ) (y : Form) (e : Environment) (w : Word) (t : Plain) → Fits y e → t ≡ tree_of y e w → Tells n y e w → Each Told (when (refuses y e t a) (blames n y e t a))
  own_side_tells n y e w t f k tells = when_each (refuses y e t a) (blames n y e t a) (λ m. operand_tells n y e w t f k (right_true (in_alphabet y e a) (not (may y e t a)) m) tells)

  -- Owners

  module _ (n : ℕ) (p : List ℕ) (y : Form) (e : Environment) (w : Word) (fits : (v : Option (List ℕ)) → Fits y (bind p v e)) (asked : Asked n (all p y) e w) (refused : Refused (all p y) e w) where
    abbrev maps : List Plain
    maps = flat_map (owned_map p y e w) (ownings w)

    owner_refused : (owners : List (List ℕ)) (v : List ℕ) → length owners ≡ length w → ((u : List ℕ) → IsPartial y (bind p (Some u) e) (part (text_eq u) owners w)) → Refused y (bind p (Some v) e) (part (text_eq v) owners w)
    owner_refused owners v long parts q = refused (record {
      owners = owners ++ v ∷ [];
      as_long = omega (arith, length-append owners (v ∷ []), length-append w (a ∷ []), long);
      each_has = λ u. by_value u (same_or_other u v);
    })
      where
        by_value : (u : List ℕ) → (u ≡ v) ⊎ (text_eq u v ≡ false) → IsPartial y (bind p (Some u) e) (part (text_eq u) (owners ++ v ∷ []) (w ++ a ∷ []))
        by_value u (inl s) = subst (λ r. IsPartial y (bind p (Some r) e) (part (text_eq r) (owners ++ v ∷ []) (w ++ a ∷ []))) (sym s) (subst (IsPartial y (bind p (Some v) e)) (sym (own_part owners w a v long)) q)
        by_value u (inr d) = subst (IsPartial y (bind p (Some u) e)) (sym (other_part owners w a v long u d)) (parts u)

    -- in a map the value has the tree of what it owns
    owner_tree : (owners : List (List ℕ)) (m : Plain) (v : List ℕ) → m ≡ map_of (set_of (entries_of (tree_of y e []) (owned_tree p y e w owners) owners)) → tree_at v (tree_of y [] []) (items_of (first_part m)) ≡ owned_tree p y e w owners v
    owner_tree owners m v k =
        (λ i. tree_at v (empty_tree y [] e i) (items_of (first_part (k i))))
        ∙ tree_at_value (tree_of y e []) (owned_tree p y e w owners) owners v (one (member-or-not v owners))
      where
        one : Member v owners ⊎ (¬ Member v owners) → (owned_tree p y e w owners v ≡ tree_of y e []) ⊎ Member v owners
        one (inl m) = inr m
        one (inr n) = inl (outside_owners p y e a w owners v n)

    owner_tells : (m : Plain) (v : List ℕ) → Member m (items_of (set_of maps)) → ((u : Word) → Asked (n + 1) y (bind p (Some v) e) u → IsPartial y (bind p (Some v) e) u → Tells (n + 1) y (bind p (Some v) e) u)
        → Each Told (blames (n + 1) y (bind p (Some v) e) (tree_at v (tree_of y [] []) (items_of (first_part m))) a)
    owner_tells m v among tells =
        let k = Member-flat_map (owned_map p y e w) (ownings w) ((set_items maps).to m among) in
        let owners : List (List ℕ) = k.0 in
        let made : Plain = map_of (set_of (entries_of (tree_of y e []) (owned_tree p y e w owners) owners)) in
        let j = Member-when (list_all (λ u. is_live (owned_tree p y e w owners u)) owners) (made ∷ []) k.2 in
        let parts : (u : List ℕ) → IsPartial y (bind p (Some u) e) (part (text_eq u) owners w) = (owned_live p y e (λ v. (each_step y (bind p v e) a (fits v)).trees) w owners).0 j.0 in
        let long : length owners ≡ length w = ownings_long w owners k.1 in
        let is : m ≡ made = elim (Member-cases j.1) [ inl s ↦ s | inr n ↦ elim n [ ] ] in
        let owned : Owned text_eq (λ u. IsPartial y (bind p (Some u) e)) w = record { owners = owners; as_long = long; each_has = parts } in
        subst (λ t. Each Told (blames (n + 1) y (bind p (Some v) e) t a)) (sym (owner_tree owners m v is))
        (tells (part (text_eq v) owners w) (body_of_all v asked owned) (parts v) (owner_refused owners v long parts))

  tells : (x : Form) (n : ℕ) (e : Environment) (w : Word) → Fits x e → Asked n x e w → IsPartial x e w → Refused x e w → Each Told (blames n x e (tree_of x e w) a)
  tells (opt y) n e w f h q r =
      let t : Plain = tree_of y e w in
      let l : left (tree_of (opt y) e w) ≡ t = ap left (live_node (is_dead t) (settled (opt_of (is_empty w) t)) (live (opt y) e w f q)) ∙ left_opt (is_empty w) t in
      subst (λ s. Each Told (blames (n + 1) y e s a)) (sym l) (tells y (n + 1) e w (fits-operands (opt y) e f) (operand h) q r)
  tells (and y z) n e w f h q r =
      let fs = fits-operands (and y z) e f in
      let t : Plain = tree_of y e w in
      let u : Plain = tree_of z e w in
      let node = live_node (is_dead t || is_dead u) (settled (and_of t u)) (live (and y z) e w f q) in
      Each-append
      (side_tells (n + 1) y e w (left (tree_of (and y z) e w)) fs.0 (ap left node ∙ (sides_and t u).0) (tells y (n + 1) e w fs.0 (left_of_and h) q.0))
      (side_tells (n + 1 + nodes y) z e w (right (tree_of (and y z) e w)) fs.1 (ap right node ∙ (sides_and t u).1) (tells z (n + 1 + nodes y) e w fs.1 (right_of_and h) q.1))
  tells (couple y z) n e w f h q r =
      let fs = fits-operands (couple y z) e f in
      let v : Word = filter (in_alphabet y e) w in
      let v' : Word = filter (in_alphabet z e) w in
      let t : Plain = tree_of y e v in
      let u : Plain = tree_of z e v' in
      let inside : Bool = list_all (λ b. in_alphabet y e b || in_alphabet z e b) w in
      let node = live_node (not inside || (is_dead t || is_dead u)) (settled (couple_of t u)) (live (couple y z) e w f q) in
      let first : IsPartial y e v = (projected_says (IsPartial y e) (in_alphabet y e) (alphabet_says y e) w).1 q.1 in
      let second : IsPartial z e v' = (projected_says (IsPartial z e) (in_alphabet z e) (alphabet_says z e) w).1 q.2 in
      if_each (in_alphabet (couple y z) e a) _ (here n e)
      (λ i. Each-append
      (own_side_tells (n + 1) y e v (left (tree_of (couple y z) e w)) fs.0 (ap left node ∙ (sides_couple t u).0) (tells y (n + 1) e v fs.0 (left_of_couple h (own_projection y e w)) first))
      (own_side_tells (n + 1 + nodes y) z e v' (right (tree_of (couple y z) e w)) fs.1 (ap right node ∙ (sides_couple t u).1) (tells z (n + 1 + nodes y) e v' fs.1 (right_of_couple h (own_projection z e w)) second)))
      (one_told (couple y z) e w h q r)
  tells (every p y) n e w f h q r =
      let fits = (fits-operands (every p y) e f).body in
      let tree : Option (List ℕ) → Plain = λ v. tree_of y (bind p v e) w in
      let es : List Plain = entries_of (tree None) (λ v. tree (Some v)) (values_of w) in
      let whole : Plain = tree_of (every p y) e w in
      let node = live_node (is_dead (tree None) || has_dead_entry es) (settled (every_of (tree None) (set_of es))) (live (every p y) e w f q) in
      let body : (v : Option (List ℕ)) → tree_for v whole ≡ tree v = λ v. ap (tree_for v) node ∙ body_every (tree None) (set_of es) v ∙ body_tree tree (values_of w) (given_outside p y e w) v in
      let test : Option (List ℕ) → Bool = λ v. not (may y (bind p v e) (tree_for v whole) a) in
      made_each (first_that test (tried a whole)) (λ v. blames (n + 1) y (bind p v e) (tree_for v whole) a)
      (λ v o. operand_tells (n + 1) y (bind p v e) w (tree_for v whole) (fits v) (body v) (first_passes test (tried a whole) v o)
      (tells y (n + 1) (bind p v e) w (fits v) (body_of_every v h) (partial_for p y e w q v)))
  tells (sync p y) n e w f h q r =
      let fits = (fits-operands (sync p y) e f).body in
      let tree : Option (List ℕ) → Plain = own_tree p y e w in
      let es : List Plain = own_entries p y e w in
      let whole : Plain = tree_of (sync p y) e w in
      let inside : Bool = list_all (λ b. list_any (λ v. in_alphabet y (bind p v e) b) (values_and_outside b)) w in
      let node = live_node (not inside || (is_dead (tree None) || has_dead_entry es)) (settled (sync_of (tree None) (set_of es))) (live (sync p y) e w f q) in
      let body : (v : Option (List ℕ)) → tree_for v whole ≡ tree v = λ v. ap (tree_for v) node ∙ body_sync (tree None) (set_of es) v ∙ body_tree tree (values_of w) (own_outside p y e w) v in
      let test : Option (List ℕ) → Bool = λ v. refuses y (bind p v e) (tree_for v whole) a in
      if_each (in_alphabet (sync p y) e a) _ (here n e)
      (λ i. made_each (first_that test (tried a whole)) (λ v. blames (n + 1) y (bind p v e) (tree_for v whole) a)
      (λ v o. operand_tells (n + 1) y (bind p v e) (own p y e v w) (tree_for v whole) (fits v) (body v) (right_true (in_alphabet y (bind p v e) a) (not (may y (bind p v e) (tree_for v whole) a)) (first_passes test (tried a whole) v o))
      (tells y (n + 1) (bind p v e) (own p y e v w) (fits v) (body_of_sync v h (own_projection y (bind p v e) w)) (own_partial_for p y e w q.1 v))))
      (one_told (sync p y) e w h q r)
  tells (all p y) n e w f h q r =
      let fits = (fits-operands (all p y) e f).body in
      let make : Plain → List ℕ → List Part = λ m v. blames (n + 1) y (bind p (Some v) e) (tree_at v (tree_of y [] []) (items_of (first_part m))) a in
      let ms : List Plain = maps n p y e w fits h r in
      let node : tree_of (all p y) e w ≡ all_of (set_of ms) = live_node (is_empty ms) (all_of (set_of ms)) (live (all p y) e w f q) in
      subst (λ t. Each Told (made_of_both (only (owner_maps t)) (owner p y e a) make (here n e))) (sym node)
      (both_each (only (items_of (set_of ms))) (owner p y e a) make (here n e)
      (λ m v o. owner_tells n p y e w fits h r m v (only_among (items_of (set_of ms)) m o) (λ u hu qu ru. tells y (n + 1) (bind p (Some v) e) u (fits (Some v)) hu qu ru))
      (one_told (all p y) e w h q r))
  tells x n e w f h q r = one_told x e w h q r

pub parts-alone : (x : Form) (w : Word) (a : PlainAction) → IsWellFormed x → IsPartial x [] w → Each (RefusesByItself x w a) (refusals x (tree_of x [] w) a)
parts-alone x w a formed q =
    let fits : Fits x [] = record { faultless = formed.faultless; numbers = formed.numbers } in
    when_each (not (may x [] (tree_of x [] w) a)) (blames 0 x [] (tree_of x [] w) a)
    (λ m. tells x w a x 0 [] w fits itself q (refused_by x w a x [] w fits (not_true (may x [] (tree_of x [] w) a) m)))
