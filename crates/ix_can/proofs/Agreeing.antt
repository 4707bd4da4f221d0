-- Environments that agree on a word give the same tree.
use Rattle.std.proofs.Common.{◌≡◌, ℕ, Bool, cond, not, ◌&&◌, ◌||◌, List, [], ◌∷◌, ◌++◌, Option, Some, None, map, flat_map, filter, length, refl, sym, ap, ◌∙◌, if◌then◌else◌, ◌==◌}
use Rattle.std.specs.List.{list_any, list_all}
use Rattle.ix_words.specs.Each.{Each, no_item, Member, here, there}
use Rattle.ix_words.specs.Parts.{part}
use Rattle.ix_words.specs.Canon.{when, cuts, splits}
use Rattle.ix_words.proofs.Each.{Each-head, Each-tail, Each-weaker, Each-member, Each-members, Each-left, Each-right, Each-same, Each-pieces}
use Rattle.ix_words.proofs.Parts.{part-each}
use Rattle.ix_words.proofs.Canon.{Member-map}
use Rattle.ix_words.proofs.Ways.{cut_is, split_is}
use Rattle.ix_values.specs.Order.{text_eq}
use Rattle.ix_values.specs.PlainAction.{PlainAction, Word, values_of}
use Rattle.ix_expr.specs.Form.{PlainAtom, Form, atom, opt, seq, star, par, par_star, or, and, couple, any, every, sync, all, times}
use Rattle.ix_expr.specs.Environment.{Environment, bind}
use Rattle.ix_expr.specs.Meaning.{InAlphabet}
use Rattle.ix_expr.specs.Laws.{AgreeAt, AgreeOn}
use Rattle.ix_expr.proofs.Agreement.{alphabet-leads}
use Rattle.ix_expr.proofs.LawsOfMeaning.{agree-sym, bind-agree}
use Rattle.ix_tree.specs.Plain.{Plain, done, dead}
use Rattle.ix_expr.specs.Tests.{in_alphabet, values_and_outside}
use Rattle.ix_can.specs.Ways.{is_empty, ways_into_pieces, is_concatenation, numberings, nonempty_parts, numbers_below, ownings, sharings, parts_below}
use Rattle.ix_can.specs.Nodes.{live, opt_node, seq_node, star_node, par_node, par_star_node, or_node, and_node, couple_node, any_node, every_node, sync_node, all_node, times_node}
use Rattle.ix_can.specs.TreeOf.{is_final, tree_of, atom_tree, live_pair, live_bag, whole_bag, entries_of, live_map}
use Rattle.ix_words.proofs.Deciding.{one_test}
use Rattle.ix_can.proofs.Lists.{Member-filter}
use Rattle.ix_expr.proofs.Testing.{alphabet_says}
use Rattle.ix_can.proofs.Ways.{pieces_join}

-- Lists made alike

module _ {A B : Type 0} where
  pub flat_map-alike : {f g : A → List B} (w : List A) → ((a : A) → Member a w → f a ≡ g a) → flat_map f w ≡ flat_map g w
  flat_map-alike [] e = refl
  flat_map-alike (a ∷ w) e = (λ i. e a here i ++ flat_map-alike w (λ b m. e b (there m)) i)

  pub map-alike : {f g : A → B} (w : List A) → ((a : A) → Member a w → f a ≡ g a) → map f w ≡ map g w
  map-alike [] e = refl
  map-alike (a ∷ w) e = (λ i. e a here i ∷ map-alike w (λ b m. e b (there m)) i)

module _ {A : Type 0} where
  filter-alike : {f g : A → Bool} (w : List A) → Each (λ a. f a ≡ g a) w → filter f w ≡ filter g w
  filter-alike [] h = refl
  filter-alike (a ∷ w) h = (λ i. cond (Each-head h i) (a ∷ filter-alike w (Each-tail h) i) (filter-alike w (Each-tail h) i))

  all-alike : {f g : A → Bool} (w : List A) → Each (λ a. f a ≡ g a) w → list_all f w ≡ list_all g w
  all-alike [] h = refl
  all-alike (a ∷ w) h = (λ i. Each-head h i && all-alike w (Each-tail h) i)

  any-alike : {f g : A → Bool} (w : List A) → ((a : A) → Member a w → f a ≡ g a) → list_any f w ≡ list_any g w
  any-alike [] e = refl
  any-alike (a ∷ w) e = (λ i. e a here i || any-alike w (λ b m. e b (there m)) i)

  pub filter-each : {G : A → Type 0} (f : A → Bool) (w : List A) → Each G w → Each G (filter f w)
  filter-each {G} f w h = Each-members (filter f w) (λ a m. Each-member h (Member-filter f w m).0)

-- Alphabets

alphabet_to : (y : Form) {e f : Environment} (a : PlainAction) → AgreeAt e f a → InAlphabet y e a → InAlphabet y f a
alphabet_to y a k i = alphabet-leads y a (record { at = λ q u m. (k.agree q u m).0 }) i

alphabet_alike : (y : Form) {e f : Environment} (a : PlainAction) → AgreeAt e f a → in_alphabet y e a ≡ in_alphabet y f a
alphabet_alike y {e} {f} a k = one_test (in_alphabet y e a) (in_alphabet y f a) (
  λ h. (alphabet_says y f a).1 (alphabet_to y a k ((alphabet_says y e a).0 h)),
  λ h. (alphabet_says y e a).1 (alphabet_to y a (agree-sym k) ((alphabet_says y f a).0 h)),
)

-- Trees

-- y has the same trees under environments that agree
abbrev Alike : Form → Type 0
Alike y = (e f : Environment) (w : Word) → AgreeOn e f w → tree_of y e w ≡ tree_of y f w

atom_alike : (x : PlainAtom) (e f : Environment) (w : Word) → AgreeOn e f w → atom_tree x e w ≡ atom_tree x f w
atom_alike x e f [] k = refl
atom_alike x e f (a ∷ []) k = ap (λ b. if b then done else dead) (alphabet_alike (atom x) a (Each-head k))
atom_alike x e f (a ∷ b ∷ w) k = refl

module _ {e f : Environment} {w : Word} (k : AgreeOn e f w) where
  cut_agree : {c : Word × Word} → Member c (cuts w) → AgreeOn e f c.0 × AgreeOn e f c.1
  cut_agree {c} m =
      let g = Each-same (cut_is w c m) k in
      (Each-left c.0 c.1 g, Each-right c.0 c.1 g)

  split_agree : {s : Word × Word} → Member s (splits w) → AgreeOn e f s.0 × AgreeOn e f s.1
  split_agree {s} m =
      let j = split_is w s m in
      (Each-same j.left_is (part-each (λ mark. mark) j.marks k), Each-same j.right_is (part-each not j.marks k))

  parts_agree : (owners : List ℕ) {u : Word} → Member u (nonempty_parts owners w) → AgreeOn e f u
  parts_agree owners {u} m =
      let j = Member-map (λ number. part (λ owner. number == owner) owners w) (numbers_below (length w)) (Member-filter (λ x. not (is_empty x)) _ m).0 in
      Each-same (sym j.2) (part-each (λ owner. j.0 == owner) owners k)

  below_agree : (n : ℕ) (owners : List ℕ) {u : Word} → Member u (parts_below n owners w) → AgreeOn e f u
  below_agree n owners {u} m =
      let j = Member-map (λ number. part (λ owner. number == owner) owners w) (numbers_below n) (Member-filter (λ x. not (is_empty x)) _ m).0 in
      Each-same (sym j.2) (part-each (λ owner. j.0 == owner) owners k)

  bound : (p : List ℕ) (v : Option (List ℕ)) → AgreeOn (bind p v e) (bind p v f) w
  bound p v = Each-weaker (λ a g. bind-agree p v a g) k

  pub own_alike : (y : Form) → filter (in_alphabet y e) w ≡ filter (in_alphabet y f) w
  own_alike y = filter-alike w (Each-weaker (λ a g. alphabet_alike y a g) k)

again_alike : (y : Form) → Alike y → (e f : Environment) (w : Word) → AgreeOn e f w → is_concatenation (λ u. is_final y (tree_of y e u)) w ≡ is_concatenation (λ u. is_final y (tree_of y f u)) w
again_alike y same e f w k =
    any-alike (ways_into_pieces w) (λ pieces m.
    all-alike pieces (Each-weaker (λ u g. ap (is_final y) (same e f u g)) (Each-pieces pieces (Each-same (sym (pieces_join w pieces m)) k))))

entries_alike : {c d : Plain} {s t : List ℕ → Plain} (values : List (List ℕ)) → c ≡ d → ((v : List ℕ) → s v ≡ t v) → entries_of c s values ≡ entries_of d t values
entries_alike values e g = (λ i. entries_of (e i) (λ v. g v i) values)

couple_alike : (y z : Form) → Alike y → Alike z → Alike (couple y z)
couple_alike y z l r e f w k =
    let left : tree_of y e (filter (in_alphabet y e) w) ≡ tree_of y f (filter (in_alphabet y f) w) = l e f (filter (in_alphabet y e) w) (filter-each (in_alphabet y e) w k) ∙ ap (tree_of y f) (own_alike k y) in
    let right : tree_of z e (filter (in_alphabet z e) w) ≡ tree_of z f (filter (in_alphabet z f) w) = r e f (filter (in_alphabet z e) w) (filter-each (in_alphabet z e) w k) ∙ ap (tree_of z f) (own_alike k z) in
    let inside : list_all (λ a. in_alphabet y e a || in_alphabet z e a) w ≡ list_all (λ a. in_alphabet y f a || in_alphabet z f a) w = all-alike w (Each-weaker (λ a g. alphabet_alike (couple y z) a g) k) in
    (λ i. couple_node (inside i) (left i) (right i))

sync_alike : (p : List ℕ) (y : Form) → Alike y → Alike (sync p y)
sync_alike p y same e f w k =
    let inside : list_all (λ a. list_any (λ v. in_alphabet y (bind p v e) a) (values_and_outside a)) w ≡ list_all (λ a. list_any (λ v. in_alphabet y (bind p v f) a) (values_and_outside a)) w = all-alike w (Each-weaker (λ a g. alphabet_alike (sync p y) a g) k) in
    let tree : (v : Option (List ℕ)) → tree_of y (bind p v e) (filter (in_alphabet y (bind p v e)) w) ≡ tree_of y (bind p v f) (filter (in_alphabet y (bind p v f)) w) =
    λ v. same (bind p v e) (bind p v f) (filter (in_alphabet y (bind p v e)) w) (filter-each (in_alphabet y (bind p v e)) w (bound k p v)) ∙ ap (tree_of y (bind p v f)) (own_alike (bound k p v) y) in
    (λ i. sync_node (inside i) (tree None i) (entries_of (tree None i) (λ v. tree (Some v) i) (values_of w)))

pub same_tree_of : (x : Form) → Alike x
same_tree_of (atom x) e f w k = atom_alike x e f w k
same_tree_of (opt y) e f w k = ap (opt_node (is_empty w)) (same_tree_of y e f w k)
same_tree_of (seq y z) e f w k =
    (λ i. seq_node (same_tree_of y e f w k i)
    (flat_map-alike {f = λ c. when (is_final y (tree_of y e c.0)) (live (tree_of z e c.1))} {g = λ c. when (is_final y (tree_of y f c.0)) (live (tree_of z f c.1))} (cuts w) (λ c m.
    let g = cut_agree k m in
    (λ j. when (is_final y (same_tree_of y e f c.0 g.0 j)) (live (same_tree_of z e f c.1 g.1 j)))) i))
same_tree_of (star y) e f w k =
    (λ i. star_node (again_alike y (same_tree_of y) e f w k i)
    (flat_map-alike {f = λ c. when (not (is_empty c.1) && is_concatenation (λ u. is_final y (tree_of y e u)) c.0) (live (tree_of y e c.1))} {g = λ c. when (not (is_empty c.1) && is_concatenation (λ u. is_final y (tree_of y f u)) c.0) (live (tree_of y f c.1))} (cuts w) (λ c m.
    let g = cut_agree k m in
    (λ j. when (not (is_empty c.1) && again_alike y (same_tree_of y) e f c.0 g.0 j) (live (same_tree_of y e f c.1 g.1 j)))) i))
same_tree_of (par y z) e f w k =
    ap par_node (flat_map-alike {f = λ s. live_pair (tree_of y e s.0) (tree_of z e s.1)} {g = λ s. live_pair (tree_of y f s.0) (tree_of z f s.1)} (splits w) (λ s m.
    let g = split_agree k m in
    (λ j. live_pair (same_tree_of y e f s.0 g.0 j) (same_tree_of z e f s.1 g.1 j))))
same_tree_of (par_star y) e f w k =
    ap par_star_node (flat_map-alike {f = λ owners. live_bag (map (tree_of y e) (nonempty_parts owners w))} {g = λ owners. live_bag (map (tree_of y f) (nonempty_parts owners w))} (numberings w) (λ owners m.
    ap live_bag (map-alike (nonempty_parts owners w) (λ u n. same_tree_of y e f u (parts_agree k owners n)))))
same_tree_of (or y z) e f w k = (λ i. or_node (same_tree_of y e f w k i) (same_tree_of z e f w k i))
same_tree_of (and y z) e f w k = (λ i. and_node (same_tree_of y e f w k i) (same_tree_of z e f w k i))
same_tree_of (couple y z) e f w k = couple_alike y z (same_tree_of y) (same_tree_of z) e f w k
same_tree_of (any p y) e f w k =
    let tree : (v : Option (List ℕ)) → tree_of y (bind p v e) w ≡ tree_of y (bind p v f) w = λ v. same_tree_of y (bind p v e) (bind p v f) w (bound k p v) in
    (λ i. any_node (tree None i) (entries_of (tree None i) (λ v. tree (Some v) i) (values_of w)))
same_tree_of (every p y) e f w k =
    let tree : (v : Option (List ℕ)) → tree_of y (bind p v e) w ≡ tree_of y (bind p v f) w = λ v. same_tree_of y (bind p v e) (bind p v f) w (bound k p v) in
    (λ i. every_node (tree None i) (entries_of (tree None i) (λ v. tree (Some v) i) (values_of w)))
same_tree_of (sync p y) e f w k = sync_alike p y (same_tree_of y) e f w k
same_tree_of (all p y) e f w k =
    let initial : tree_of y e [] ≡ tree_of y f [] = same_tree_of y e f [] no_item in
    ap all_node (flat_map-alike {f = λ owners. live_map (tree_of y e []) (λ v. tree_of y (bind p (Some v) e) (part (text_eq v) owners w)) owners} {g = λ owners. live_map (tree_of y f []) (λ v. tree_of y (bind p (Some v) f) (part (text_eq v) owners w)) owners} (ownings w) (λ owners m.
    (λ j. live_map (initial j) (λ v. same_tree_of y (bind p (Some v) e) (bind p (Some v) f) (part (text_eq v) owners w) (part-each (text_eq v) owners (bound k p (Some v))) j) owners)))
same_tree_of (times n y) e f w k =
    ap (times_node n) (flat_map-alike {f = λ owners. whole_bag (map (tree_of y e) (parts_below n owners w))} {g = λ owners. whole_bag (map (tree_of y f) (parts_below n owners w))} (sharings n w) (λ owners m.
    ap whole_bag (map-alike (parts_below n owners w) (λ u h. same_tree_of y e f u (below_agree k n owners h)))))

-- the empty word has one tree
pub empty_tree : (x : Form) (e f : Environment) → tree_of x e [] ≡ tree_of x f []
empty_tree x e f = same_tree_of x e f [] no_item
