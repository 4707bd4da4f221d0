-- The static bound holds: where an expression is accepted, the tree of a word with at most k different values is at most as large as its bound.
use Rattle.std.proofs.Common.{◌≡◌, ◌≢◌, ◌≤◌, ◌+◌, ◌*◌, ◌⊎◌, inl, inr, ℕ, suc, Bool, true, false, not, ◌&&◌, ◌||◌, List, [], ◌∷◌, ◌++◌, Option, Some, None, flat_map, filter, length, refl, sym, ap, ◌∙◌, subst, arith, if◌then◌else◌}
use Rattle.std.specs.List.{list_any, list_all}
use Rattle.ix_words.specs.Each.{Each, no_item, item, Member, EachPair, no_pair, pair, here, there}
use Rattle.ix_words.specs.Parts.{part}
use Rattle.ix_words.specs.Canon.{canon, when, cuts, splits}
use Rattle.ix_words.proofs.Each.{Each-head, Each-tail, Each-left, Each-right, Each-same, Each-member, Each-members}
use Rattle.ix_words.proofs.Canon.{Member-cases, Member-when, Member-flat_map, flat_map-Member}
use Rattle.ix_words.proofs.Parts.{part-each}
use Rattle.ix_words.proofs.Owners.{owned_pairs, part-unused, EachPair-long}
use Rattle.ix_words.proofs.Ways.{cut_is, split_is}
use Rattle.ix_values.specs.Order.{text_eq, text_cmp}
use Rattle.ix_values.specs.lemmas.Order.{text_eq-decides}
use Rattle.ix_values.specs.PlainAction.{PlainAction, Word, values_of}
use Rattle.ix_expr.specs.Form.{PlainAtom, Form, atom, opt, seq, star, par, par_star, or, and, couple, any, every, sync, all, times}
use Rattle.ix_expr.specs.Environment.{Environment, bind}
use Rattle.ix_expr.specs.FormFaults.{Fits}
use Rattle.ix_expr.specs.Meaning.{InAlphabet, IsComplete, IsPartial}
use Rattle.ix_expr.specs.Laws.{EachAtomNames}
use Rattle.ix_expr.proofs.Agreement.{member-or-not}
use Rattle.ix_expr.proofs.Parts.{fits-operands}
use Rattle.ix_expr.proofs.LawsOfNames.{fits-names}
use Rattle.ix_expr.proofs.LawsOfMeaning.{partial-alphabet}
use Rattle.ix_tree.specs.Plain.{Plain, dead, done, opt as opt_tree, star as star_tree, par as par_tree, or as or_tree, and as and_tree, couple as couple_tree, any as any_tree, every as every_tree, sync as sync_tree, all as all_tree, pair as pair_of, map as map_of, entry as entry_of}
use Rattle.ix_tree.specs.Size.{size_of}
use Rattle.ix_expr.specs.Tests.{is_match, in_alphabet, values_and_outside}
use Rattle.ix_can.specs.Ways.{is_empty, is_concatenation, ownings}
use Rattle.ix_can.specs.Nodes.{is_dead, is_done, is_live, is_open, same_tree, set_of, live, dead_if, done_if, is_spent, settled, unless_done, has_dead_entry, seq_parts}
use Rattle.ix_can.specs.TreeOf.{is_final, atom_tree, entries_of, live_map, tree_of}
use Rattle.ix_can.specs.Laws.{EachAllNames}
use Rattle.ix_words.proofs.Deciding.{itself, when_both}
use Rattle.ix_can.proofs.Lists.{when_not, filled_says, Member-filter, all_to}
use Rattle.ix_can.proofs.Nodes.{live_says}
use Rattle.ix_can.proofs.Ways.{ownings_to}
use Rattle.ix_can.proofs.Naming.{fits_name}
use Rattle.ix_can.proofs.OperatorsTell.{seq_rest, par_pair, star_rest}
use Rattle.ix_can.proofs.TreesTell.{tree_tells}
use Rattle.ix_bound.specs.Names.{share_a_name}
use Rattle.ix_bound.specs.Heads.{is_headed}
use Rattle.ix_bound.specs.Keys.{is_keyed}
use Rattle.ix_bound.specs.Number.{bound_of}
use Rattle.ix_bound.specs.Laws.{HasAtMost}
use Rattle.ix_bound.specs.Refusals.{codes_of, first_refused}
use Rattle.ix_bound.proofs.Named.{one_cut, one_split, one_back}
use Rattle.ix_bound.proofs.Keyed.{one_owner, one_list}
use Rattle.ix_bound.proofs.Sets.{text_order, no_more, sizes, one_tree, value_sizes}

-- What is accepted, and how many values a word has

-- no node of the expression is refused
abbrev pub Passes : Form → Type 0
Passes x = Each (λ c. c ≡ None) (codes_of x)

pub all_pass : (n : ℕ) (codes : List (Option ℕ)) → first_refused n codes ≡ None → Each (λ c. c ≡ None) codes
all_pass n [] h = no_item
all_pass n (None ∷ codes) h = item refl (all_pass (suc n) codes h)
all_pass n (Some c ∷ codes) h = cc

-- each action of u is one of w
abbrev pub AreAmong : Word → Word → Type 0
AreAmong u w = Each (λ a. Member a w) u

themselves : (w : Word) → AreAmong w w
themselves w = Each-members w (λ a m. m)

-- values that stand in the word are few where the word's are
few_among : (w : Word) (k : ℕ) (values : List (List ℕ)) → ((v : List ℕ) → Member v values → Member v (values_of w)) → HasAtMost w k → length (canon text_cmp values) ≤ k
few_among w k values among few =
    let fewer = no_more text_order values (values_of w) among in
    omega (arith, fewer, few)

few : (u w : Word) (k : ℕ) → AreAmong u w → HasAtMost w k → HasAtMost u k
few u w k among h = few_among w k (values_of u) (λ v m. let i = Member-flat_map (λ a. a.values) u m in flat_map-Member (λ a. a.values) (Each-member among i.1) i.2) h

few_kept : (test : PlainAction → Bool) (w : Word) (k : ℕ) → HasAtMost w k → HasAtMost (filter test w) k
few_kept test w k h = few (filter test w) w k (Each-members (filter test w) (λ a m. (Member-filter test w m).0)) h

few_part : {K : Type 0} (mine : K → Bool) (owners : List K) (w : Word) (k : ℕ) → HasAtMost w k → HasAtMost (part mine owners w) k
few_part mine owners w k h = few (part mine owners w) w k (part-each mine owners (themselves w)) h

few_back : (u v w : Word) (k : ℕ) → w ≡ u ++ v → HasAtMost w k → HasAtMost v k
few_back u v w k e h = few v w k (Each-right u v (Each-same e (themselves w))) h

-- Nodes

small_dead : (b : Bool) (t : Plain) (n : ℕ) → 1 ≤ n → size_of t ≤ n → size_of (dead_if b t) ≤ n
small_dead true t n one h = one
small_dead false t n one h = h

small_done : (b : Bool) (t : Plain) (n : ℕ) → 1 ≤ n → size_of t ≤ n → size_of (done_if b t) ≤ n
small_done true t n one h = one
small_done false t n one h = h

-- a node may be dead or done instead
small_node : (b : Bool) (t : Plain) (n : ℕ) → 1 ≤ n → size_of t ≤ n → size_of (dead_if b (settled t)) ≤ n
small_node b t n one h = small_dead b (settled t) n one (small_done (is_spent t) t n one h)

small_unless : (t : Plain) (n : ℕ) → 1 ≤ n → size_of t ≤ n → size_of (unless_done t) ≤ n
small_unless t n one h = small_dead (is_done t) t n one h

small_when : (b : Bool) (xs : List Plain) (n : ℕ) → sizes xs ≤ n → sizes (when b xs) ≤ n
small_when true xs n h = h
small_when false xs n h = omega arith

one_node : (b : Bool) → size_of (if b then done else dead) ≤ 1
one_node true = omega arith
one_node false = omega arith

atom_small : (x : PlainAtom) (e : Environment) (w : Word) → size_of (atom_tree x e w) ≤ 1
atom_small x e [] = omega arith
atom_small x e (a ∷ []) = one_node (is_match x e a)
atom_small x e (a ∷ b ∷ w) = omega arith

two_parts : (t u b c : ℕ) → t ≤ b → u ≤ c → 1 + t + u ≤ 1 + b + c
two_parts t u b c h k = omega (arith, h, k)

first_one : (b c : ℕ) → 1 ≤ 1 + b + c
first_one b c = omega arith

one_and : (b : ℕ) → 1 ≤ 1 + b
one_and b = omega arith

-- a bound is at least 1
positive : (x : Form) (k : ℕ) → 1 ≤ bound_of x k
positive (atom x) k = omega arith
positive (opt y) k = one_and (bound_of y k)
positive (seq y z) k = first_one (bound_of y k) (bound_of z k)
positive (star y) k = one_and (bound_of y k)
positive (par y z) k = omega arith
positive (par_star y) k = omega arith
positive (or y z) k = first_one (bound_of y k) (bound_of z k)
positive (and y z) k = first_one (bound_of y k) (bound_of z k)
positive (couple y z) k = first_one (bound_of y k) (bound_of z k)
positive (any p y) k = first_one (bound_of y k) (k * (1 + bound_of y k))
positive (every p y) k = first_one (bound_of y k) (k * (1 + bound_of y k))
positive (sync p y) k = first_one (bound_of y k) (k * (1 + bound_of y k))
positive (all p y) k = omega arith
positive (times n y) k = omega arith

-- a part within its bound, and an entry for each value
entries_small : (common : Plain) (tree : List ℕ → Plain) (b k : ℕ) (vs : List (List ℕ)) → ((v : List ℕ) → size_of (tree v) ≤ b) → length (canon text_cmp vs) ≤ k → size_of (set_of (entries_of common tree vs)) ≤ k * (1 + b)
entries_small common tree b k vs small fewer =
    value_sizes (λ v. when (not (same_tree (tree v) common)) (entry_of v (tree v) ∷ [])) (1 + b) k vs
    (λ v. let h = small v in small_when (not (same_tree (tree v) common)) (entry_of v (tree v) ∷ []) (1 + b) (omega (arith, h)))
    fewer

-- Codes

not_shared : (b : Bool) (n : ℕ) → (if b then Some n else None) ≡ None → b ≡ false
not_shared true n h = cc
not_shared false n h = refl

is_so : (b : Bool) (n : ℕ) → (if b then None else Some n) ≡ None → b ≡ true
is_so true n h = refl
is_so false n h = cc

live_is : (t : Plain) (x : Plain) → Member x (live t) → (is_dead t ≡ false) × (x ≡ t)
live_is t x m =
    let h = Member-when (is_live t) (t ∷ []) m in
    ((live_says t).0 h.0, elim (Member-cases h.1) [ inl e ↦ e | inr n ↦ elim n [ ] ])

-- Sequences

module _ (y z : Form) (e : Environment) (w : Word) (names_y : EachAllNames y) (names_z : EachAllNames z) where
  -- a cut of the word behind whose front this tree stands for its back
  record Behind (x : Plain) : Type 0 where
    front : Word
    back : Word
    whole : w ≡ front ++ back
    complete : IsComplete y e front
    partial : IsPartial z e back
    is : x ≡ tree_of z e back

  behind : (x : Plain) → Member x (flat_map (seq_rest y z e) (cuts w)) → Behind x
  behind x m =
      let i = Member-flat_map (seq_rest y z e) (cuts w) m in
      let j = Member-when (is_final y (tree_of y e i.0.0)) (live (tree_of z e i.0.1)) i.2 in
      let l = live_is (tree_of z e i.0.1) x j.1 in
      record {
        front = i.0.0;
        back = i.0.1;
        whole = cut_is w i.0 i.1;
        complete = (tree_tells y names_y e i.0.0).complete.0 j.0;
        partial = (tree_tells z names_z e i.0.1).partial.0 l.0;
        is = l.1;
      }

  seq_small : (b c : ℕ) → share_a_name y z ≡ false → 1 ≤ b → size_of (tree_of y e w) ≤ b → ((u v : Word) → w ≡ u ++ v → size_of (tree_of z e v) ≤ c) → size_of (seq_parts (tree_of y e w) (flat_map (seq_rest y z e) (cuts w))) ≤ 1 + b + c
  seq_small b c n one first second =
      let kept : List Plain = filter is_open (flat_map (seq_rest y z e) (cuts w)) in
      let from : (x : Plain) → Member x kept → Behind x = λ x m. behind x (Member-filter is_open (flat_map (seq_rest y z e) (cuts w)) m).0 in
      let set = one_tree kept c
      (λ s t i j. let g = from s i in let h = from t j in
      g.is ∙ ap (tree_of z e) (one_cut y z e g.front g.back h.front h.back n (sym g.whole ∙ h.whole) g.complete g.partial h.complete h.partial).1 ∙ sym h.is)
      (λ s i. let g = from s i in subst (λ t. size_of t ≤ c) (sym g.is) (second g.front g.back g.whole)) in
      two_parts (size_of (unless_done (tree_of y e w))) (size_of (set_of kept)) b c (small_unless (tree_of y e w) b one first) set

-- Iterations

module _ (y : Form) (e : Environment) (w : Word) (names : EachAllNames y) where
  -- a cut of the word for whose back this tree stands
  record Last (x : Plain) : Type 0 where
    front : Word
    back : Word
    whole : w ≡ front ++ back
    filled : back ≢ []
    partial : IsPartial y e back
    is : x ≡ tree_of y e back

  last : (x : Plain) → Member x (flat_map (star_rest y e) (cuts w)) → Last x
  last x m =
      let i = Member-flat_map (star_rest y e) (cuts w) m in
      let test = is_concatenation (λ u. is_final y (tree_of y e u)) i.0.0 in
      let j = Member-when (not (is_empty i.0.1) && test) (live (tree_of y e i.0.1)) i.2 in
      let l = live_is (tree_of y e i.0.1) x j.1 in
      record {
        front = i.0.0;
        back = i.0.1;
        whole = cut_is w i.0 i.1;
        filled = (when_not (is_empty i.0.1) (filled_says i.0.1)).0 ((when_both (not (is_empty i.0.1)) test itself itself).0 j.0).0;
        partial = (tree_tells y names e i.0.1).partial.0 l.0;
        is = l.1;
      }

  star_small : (b : ℕ) (again : Bool) → is_headed y ≡ true → ((u v : Word) → w ≡ u ++ v → size_of (tree_of y e v) ≤ b) → size_of (star_tree again (set_of (filter is_open (flat_map (star_rest y e) (cuts w))))) ≤ 1 + b
  star_small b again headed small =
      let kept : List Plain = filter is_open (flat_map (star_rest y e) (cuts w)) in
      let from : (x : Plain) → Member x kept → Last x = λ x m. last x (Member-filter is_open (flat_map (star_rest y e) (cuts w)) m).0 in
      let set = one_tree kept b
      (λ s t i j. let g = from s i in let h = from t j in
      g.is ∙ ap (tree_of y e) (one_back y e g.front g.back h.front h.back headed (sym g.whole ∙ h.whole) g.partial g.filled h.partial h.filled) ∙ sym h.is)
      (λ s i. let g = from s i in subst (λ t. size_of t ≤ b) (sym g.is) (small g.front g.back g.whole)) in
      omega (arith, set)

-- Side by side

module _ (y z : Form) (e : Environment) (w : Word) (names_y : EachAllNames y) (names_z : EachAllNames z) where
  -- a split of the word for whose parts this pair stands
  record Beside (x : Plain) : Type 0 where
    split : Word × Word
    among : Member split (splits w)
    left : IsPartial y e split.0
    right : IsPartial z e split.1
    is : x ≡ pair_of (tree_of y e split.0) (tree_of z e split.1)

  beside : (x : Plain) → Member x (flat_map (par_pair y z e) (splits w)) → Beside x
  beside x m =
      let i = Member-flat_map (par_pair y z e) (splits w) m in
      let t = tree_of y e i.0.0 in
      let u = tree_of z e i.0.1 in
      let j = Member-when (is_live t && is_live u) (pair_of t u ∷ []) i.2 in
      let lives = (when_both (is_live t) (is_live u) (live_says t) (live_says u)).0 j.0 in
      record {
        split = i.0;
        among = i.1;
        left = (tree_tells y names_y e i.0.0).partial.0 lives.0;
        right = (tree_tells z names_z e i.0.1).partial.0 lives.1;
        is = elim (Member-cases j.1) [ inl k ↦ k | inr n ↦ elim n [ ] ];
      }

  par_small : (b c : ℕ) → share_a_name y z ≡ false → ((s : Word × Word) → Member s (splits w) → (size_of (tree_of y e s.0) ≤ b) × (size_of (tree_of z e s.1) ≤ c)) → size_of (par_tree (set_of (flat_map (par_pair y z e) (splits w)))) ≤ 2 + b + c
  par_small b c n small =
      let apart : (x : Plain) → (h : Beside x) → Each (InAlphabet y e) h.split.0 × Each (InAlphabet z e) h.split.1 = λ x h. (partial-alphabet y e h.split.0 h.left, partial-alphabet z e h.split.1 h.right) in
      let set = one_tree (flat_map (par_pair y z e) (splits w)) (1 + b + c)
      (λ s t i j. let g = beside s i in let h = beside t j in
      g.is ∙ ap (λ r. pair_of (tree_of y e r.0) (tree_of z e r.1)) (one_split y z e w g.split h.split n g.among (apart s g) h.among (apart t h)) ∙ sym h.is)
      (λ s i. let g = beside s i in let k = small g.split g.among in
      subst (λ t. size_of t ≤ 1 + b + c) (sym g.is) (two_parts (size_of (tree_of y e g.split.0)) (size_of (tree_of z e g.split.1)) b c k.0 k.1)) in
      omega (arith, set)

few_splits : (w : Word) (k : ℕ) (s : Word × Word) → Member s (splits w) → HasAtMost w k → HasAtMost s.0 k × HasAtMost s.1 k
few_splits w k s m h =
    let d = split_is w s m in
    (subst (λ u. HasAtMost u k) d.left_is (few_part (λ mark. mark) d.marks w k h), subst (λ u. HasAtMost u k) d.right_is (few_part not d.marks w k h))

-- Owners

owner_values : {owners : List (List ℕ)} {w : Word} → EachPair (λ v a. Member v a.values) owners w → (v : List ℕ) → Member v owners → Member v (values_of w)
owner_values h v m = flat_map-Member (λ a. a.values) (owned h m).1 (owned h m).2
  where
    owned : {owners : List (List ℕ)} {w : Word} → EachPair (λ v a. Member v a.values) owners w → Member v owners → (a : PlainAction) × Member a w × Member v a.values
    owned no_pair m = elim m [ ]
    owned (pair {owner} {a} {owners} {w} g k) m = elim (Member-cases m) [
      | inl e ↦ (a, here, subst (λ u. Member u a.values) (sym e) g)
      | inr n ↦ let r = owned k n in (r.0, there r.1, r.2)
    ]

differs : (v u : List ℕ) → v ≢ u → text_eq v u ≡ false
differs v u n = by_test (text_eq v u) refl
  where
    by_test : (b : Bool) → text_eq v u ≡ b → text_eq v u ≡ false
    by_test true h = absurd (n ((text_eq-decides v u).0 h))
    by_test false h = h

module _ (p : List ℕ) (y : Form) (e : Environment) (w : Word) where
  abbrev given : List (List ℕ) → List ℕ → Plain
  given owners v = tree_of y (bind p (Some v) e) (part (text_eq v) owners w)

  abbrev map_with : List (List ℕ) → Plain
  map_with owners = map_of (set_of (entries_of (tree_of y e []) (given owners) owners))

  abbrev maps : List (List ℕ) → List Plain
  maps owners = live_map (tree_of y e []) (given owners) owners

  -- owners each of whose parts is partial, for which this map stands
  record Owns (x : Plain) : Type 0 where
    owners : List (List ℕ)
    among : Member owners (ownings w)
    lives : list_all (λ v. is_live (given owners v)) owners ≡ true
    is : x ≡ map_with owners

  owns : (x : Plain) → Member x (flat_map maps (ownings w)) → Owns x
  owns x m =
      let i = Member-flat_map maps (ownings w) m in
      let j = Member-when (list_all (λ v. is_live (given i.0 v)) i.0) (map_with i.0 ∷ []) i.2 in
      record { owners = i.0; among = i.1; lives = j.0; is = elim (Member-cases j.1) [ inl k ↦ k | inr n ↦ elim n [ ] ] }

module _ (p : List ℕ) (y : Form) (e : Environment) (w : Word) (names : EachAllNames y) where
  -- each owner has its action in its alphabet
  owned_alphabet : (owners : List (List ℕ)) → Member owners (ownings w) → list_all (λ v. is_live (given p y e w owners v)) owners ≡ true → EachPair (λ v a. InAlphabet y (bind p (Some v) e) a) owners w
  owned_alphabet owners m h = owned_pairs text_eq (λ v. (text_eq-decides v v).1 refl) owners w (EachPair-long (ownings_to w owners m)) (λ v. each v (member-or-not v owners))
    where
      each : (v : List ℕ) → Member v owners ⊎ (¬ Member v owners) → Each (InAlphabet y (bind p (Some v) e)) (part (text_eq v) owners w)
      each v (inl i) =
          let live = (live_says (given p y e w owners v)).0 (Each-member (all_to (λ v. is_live (given p y e w owners v)) owners h) i) in
          partial-alphabet y (bind p (Some v) e) (part (text_eq v) owners w) ((tree_tells y names (bind p (Some v) e) (part (text_eq v) owners w)).partial.0 live)
      each v (inr n) =
          let none = part-unused (text_eq v) owners w (Each-members owners (λ u i. differs v u (λ same. n (subst (λ k. Member k owners) (sym same) i)))) in
          Each-same (sym none) no_item

  all_small : (b k : ℕ) → is_keyed p y ≡ true → EachAtomNames p y → HasAtMost w k → ((owners : List (List ℕ)) (v : List ℕ) → size_of (given p y e w owners v) ≤ b) → size_of (all_tree (set_of (flat_map (maps p y e w) (ownings w)))) ≤ 2 + k * (1 + b)
  all_small b k keyed each_names fewer small =
      let same : (g h : List (List ℕ)) → EachPair (λ v a. InAlphabet y (bind p (Some v) e) a) g w → EachPair (λ v a. InAlphabet y (bind p (Some v) e) a) h w → g ≡ h = λ g h i j. one_list (λ v u a. one_owner p y e a v u keyed each_names) i j in
      let set = one_tree (flat_map (maps p y e w) (ownings w)) (1 + k * (1 + b))
      (λ s t i j. let g = owns p y e w s i in let h = owns p y e w t j in
      g.is ∙ ap (map_with p y e w) (same g.owners h.owners (owned_alphabet g.owners g.among g.lives) (owned_alphabet h.owners h.among h.lives)) ∙ sym h.is)
      (λ s i. let g = owns p y e w s i in
      let entries = entries_small (tree_of y e []) (given p y e w g.owners) b k g.owners (small g.owners) (few_among w k g.owners (owner_values (ownings_to w g.owners g.among)) fewer) in
      subst (λ t. size_of t ≤ 1 + k * (1 + b)) (sym g.is) (omega (arith, entries))) in
      omega (arith, set)

-- The bound

pub bounded : (x : Form) (e : Environment) (w : Word) (k : ℕ) → Fits x e → Passes x → HasAtMost w k → size_of (tree_of x e w) ≤ bound_of x k
bounded (atom x) e w k f h v = atom_small x e w
bounded (opt y) e w k f h v =
    let b = bounded y e w k (fits-operands (opt y) e f) (Each-tail h) v in
    small_node (is_dead (tree_of y e w)) (opt_tree (is_empty w) (tree_of y e w)) (bound_of (opt y) k) (positive (opt y) k) (omega (arith, b))
bounded (seq y z) e w k f h v =
    let g = fits-operands (seq y z) e f in
    let left : Passes y = Each-left (codes_of y) (codes_of z) (Each-tail h) in
    let right : Passes z = Each-right (codes_of y) (codes_of z) (Each-tail h) in
    let rest : List Plain = flat_map (seq_rest y z e) (cuts w) in
    small_node (is_dead (tree_of y e w) && is_empty rest) (seq_parts (tree_of y e w) rest) (bound_of (seq y z) k) (positive (seq y z) k)
    (seq_small y z e w (fits_name y e g.0) (fits_name z e g.1) (bound_of y k) (bound_of z k) (not_shared (share_a_name y z) 51 (Each-head h)) (positive y k)
    (bounded y e w k g.0 left v) (λ s t m. bounded z e t k g.1 right (few_back s t w k m v)))
bounded (star y) e w k f h v =
    let g = fits-operands (star y) e f in
    let again : Bool = is_concatenation (λ u. is_final y (tree_of y e u)) w in
    let rest : List Plain = flat_map (star_rest y e) (cuts w) in
    small_dead (not again && is_empty rest) (star_tree again (set_of (filter is_open rest))) (bound_of (star y) k) (positive (star y) k)
    (star_small y e w (fits_name y e g) (bound_of y k) again (is_so (is_headed y) 52 (Each-head h)) (λ s t m. bounded y e t k g (Each-tail h) (few_back s t w k m v)))
bounded (par y z) e w k f h v =
    let g = fits-operands (par y z) e f in
    let left : Passes y = Each-left (codes_of y) (codes_of z) (Each-tail h) in
    let right : Passes z = Each-right (codes_of y) (codes_of z) (Each-tail h) in
    let pairs : List Plain = flat_map (par_pair y z e) (splits w) in
    small_node (is_empty pairs) (par_tree (set_of pairs)) (bound_of (par y z) k) (positive (par y z) k)
    (par_small y z e w (fits_name y e g.0) (fits_name z e g.1) (bound_of y k) (bound_of z k) (not_shared (share_a_name y z) 51 (Each-head h))
    (λ s m. let d = few_splits w k s m v in (bounded y e s.0 k g.0 left d.0, bounded z e s.1 k g.1 right d.1)))
bounded (par_star y) e w k f h v = absurd (let c : Some 54 ≡ None = Each-head h in cc)
bounded (or y z) e w k f h v =
    let g = fits-operands (or y z) e f in
    let b = bounded y e w k g.0 (Each-left (codes_of y) (codes_of z) (Each-tail h)) v in
    let c = bounded z e w k g.1 (Each-right (codes_of y) (codes_of z) (Each-tail h)) v in
    small_node (is_dead (tree_of y e w) && is_dead (tree_of z e w)) (or_tree (tree_of y e w) (tree_of z e w)) (bound_of (or y z) k) (positive (or y z) k)
    (two_parts (size_of (tree_of y e w)) (size_of (tree_of z e w)) (bound_of y k) (bound_of z k) b c)
bounded (and y z) e w k f h v =
    let g = fits-operands (and y z) e f in
    let b = bounded y e w k g.0 (Each-left (codes_of y) (codes_of z) (Each-tail h)) v in
    let c = bounded z e w k g.1 (Each-right (codes_of y) (codes_of z) (Each-tail h)) v in
    small_node (is_dead (tree_of y e w) || is_dead (tree_of z e w)) (and_tree (tree_of y e w) (tree_of z e w)) (bound_of (and y z) k) (positive (and y z) k)
    (two_parts (size_of (tree_of y e w)) (size_of (tree_of z e w)) (bound_of y k) (bound_of z k) b c)
bounded (couple y z) e w k f h v =
    let g = fits-operands (couple y z) e f in
    let s : Word = filter (in_alphabet y e) w in
    let t : Word = filter (in_alphabet z e) w in
    let b = bounded y e s k g.0 (Each-left (codes_of y) (codes_of z) (Each-tail h)) (few_kept (in_alphabet y e) w k v) in
    let c = bounded z e t k g.1 (Each-right (codes_of y) (codes_of z) (Each-tail h)) (few_kept (in_alphabet z e) w k v) in
    small_node (not (list_all (λ a. in_alphabet y e a || in_alphabet z e a) w) || (is_dead (tree_of y e s) || is_dead (tree_of z e t))) (couple_tree (tree_of y e s) (tree_of z e t)) (bound_of (couple y z) k) (positive (couple y z) k)
    (two_parts (size_of (tree_of y e s)) (size_of (tree_of z e t)) (bound_of y k) (bound_of z k) b c)
bounded (any p y) e w k f h v =
    let g = (fits-operands (any p y) e f).body in
    let common : Plain = tree_of y (bind p None e) w in
    let entries : List Plain = entries_of common (λ u. tree_of y (bind p (Some u) e) w) (values_of w) in
    let b = bounded y (bind p None e) w k (g None) (Each-tail h) v in
    let c = entries_small common (λ u. tree_of y (bind p (Some u) e) w) (bound_of y k) k (values_of w) (λ u. bounded y (bind p (Some u) e) w k (g (Some u)) (Each-tail h) v) v in
    small_node (is_dead common && is_empty entries) (any_tree common (set_of entries)) (bound_of (any p y) k) (positive (any p y) k)
    (two_parts (size_of common) (size_of (set_of entries)) (bound_of y k) (k * (1 + bound_of y k)) b c)
bounded (every p y) e w k f h v =
    let g = (fits-operands (every p y) e f).body in
    let common : Plain = tree_of y (bind p None e) w in
    let entries : List Plain = entries_of common (λ u. tree_of y (bind p (Some u) e) w) (values_of w) in
    let b = bounded y (bind p None e) w k (g None) (Each-tail h) v in
    let c = entries_small common (λ u. tree_of y (bind p (Some u) e) w) (bound_of y k) k (values_of w) (λ u. bounded y (bind p (Some u) e) w k (g (Some u)) (Each-tail h) v) v in
    small_node (is_dead common || has_dead_entry entries) (every_tree common (set_of entries)) (bound_of (every p y) k) (positive (every p y) k)
    (two_parts (size_of common) (size_of (set_of entries)) (bound_of y k) (k * (1 + bound_of y k)) b c)
bounded (sync p y) e w k f h v =
    let g = (fits-operands (sync p y) e f).body in
    let own : Option (List ℕ) → Word = λ u. filter (in_alphabet y (bind p u e)) w in
    let tree : Option (List ℕ) → Plain = λ u. tree_of y (bind p u e) (own u) in
    let small : (u : Option (List ℕ)) → size_of (tree u) ≤ bound_of y k = λ u. bounded y (bind p u e) (own u) k (g u) (Each-tail h) (few_kept (in_alphabet y (bind p u e)) w k v) in
    let entries : List Plain = entries_of (tree None) (λ u. tree (Some u)) (values_of w) in
    let c = entries_small (tree None) (λ u. tree (Some u)) (bound_of y k) k (values_of w) (λ u. small (Some u)) v in
    small_node (not (list_all (λ a. list_any (λ u. in_alphabet y (bind p u e) a) (values_and_outside a)) w) || (is_dead (tree None) || has_dead_entry entries)) (sync_tree (tree None) (set_of entries)) (bound_of (sync p y) k) (positive (sync p y) k)
    (two_parts (size_of (tree None)) (size_of (set_of entries)) (bound_of y k) (k * (1 + bound_of y k)) (small None) c)
bounded (all p y) e w k f h v =
    let g = (fits-operands (all p y) e f).body in
    let names = fits-names p y e f in
    let each_all = fits_name y (bind p None e) (g None) in
    let all_maps : List Plain = flat_map (maps p y e w) (ownings w) in
    small_dead (is_empty all_maps) (all_tree (set_of all_maps)) (bound_of (all p y) k) (positive (all p y) k)
    (all_small p y e w each_all (bound_of y k) k (is_so (is_keyed p y) 53 (Each-head h)) names v
    (λ owners u. bounded y (bind p (Some u) e) (part (text_eq u) owners w) k (g (Some u)) (Each-tail h) (few_part (text_eq u) owners w k v)))
bounded (times n y) e w k f h v = absurd (let c : Some 54 ≡ None = Each-head h in cc)
