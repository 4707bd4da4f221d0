-- What the moved trees of all forms have in common: nodes, and lists of alternatives that are moved.
use Rattle.std.proofs.Common.{◌≡◌, ◌↔◌, inl, inr, Bool, true, false, not, if◌then◌else◌, List, [], ◌∷◌, ◌++◌, Some, None, map, flat_map, filter, refl, sym, ap, ◌∙◌, true≢false, append-nil}
use Rattle.std.specs.List.{list_any}
use Rattle.std.specs.Prelude.{nat_lt, length}
use Rattle.ix_words.specs.Each.{Member}
use Rattle.ix_words.specs.Canon.{SameMembers, canon, when, cuts, with_start, with_end}
use Rattle.ix_words.proofs.Each.{Member-left, Member-right, Member-either}
use Rattle.ix_words.proofs.Ways.{cuts-end}
use Rattle.ix_words.proofs.Canon.{Member-flat_map, flat_map-Member, SameMembers-refl, SameMembers-trans, SameMembers-eq, SameMembers-flat_map, canon-members, canon-same, flat_map-append, flat_map-flat_map}
use Rattle.ix_values.specs.PlainAction.{PlainAction}
use Rattle.ix_expr.specs.Form.{Form, atom, opt, seq, star, par, par_star, or, and, couple, any, every, sync, all, times}
use Rattle.ix_expr.specs.Environment.{Environment, bind}
use Rattle.ix_expr.proofs.LawsOfMeaning.{empty-partial}
use Rattle.ix_tree.specs.Plain.{Plain, dead, start, done, opt as opt_of, seq as seq_of, star as star_of, par as par_of, par_star as par_star_of, or as or_of, and as and_of, couple as couple_of, any as any_of, every as every_of, sync as sync_of, all as all_of, times as times_of, pair as pair_of}
use Rattle.ix_tree.specs.Order.{tree_cmp, key, first_part, second_part}
use Rattle.ix_tree.specs.lemmas.TreeOrder.{tree_order}
use Rattle.ix_expr.specs.Tests.{is_match, in_alphabet}
use Rattle.ix_can.specs.Ways.{is_empty}
use Rattle.ix_can.specs.Nodes.{is_dead, is_live, is_open, listed, items_of, set_of, live, dead_if, done_if, only_bag_done, is_spent, settled, seq_parts}
use Rattle.ix_can.specs.TreeOf.{is_final, tree_of}
use Rattle.ix_can.specs.May.{may_first, may, tree_at}
use Rattle.ix_can.specs.inside.Moved.{picks, bag_with, keep_with, entry_with, map_with, or_initial, moved_inside, moved}
use Rattle.ix_words.proofs.Deciding.{one_test, iff_trans, iff_sym}
use Rattle.ix_can.proofs.Spent.{dead_is, may_dead, spent_may, moved_dead, moved_done, done_live, done_may, done_moved, open_made, open_same}
use Rattle.ix_can.proofs.Nodes.{live_says, items_listed}
use Rattle.ix_can.proofs.OperatorsTell.{Tells}
use Rattle.ix_can.proofs.MayTell.{Begins, MayTells}
use Rattle.ix_can.proofs.Agreeing.{empty_tree}

-- Dead and live

either_live : (b d : Bool) (t : Plain) → is_dead t ≡ false → is_live (dead_if (not b) (done_if d t)) ≡ b
either_live true d t l = ap not (done_live d t l)
either_live false d t l = refl

kept_live : (b : Bool) (t : Plain) → is_dead t ≡ false → is_live (dead_if (not b) (settled t)) ≡ b
kept_live b t l = either_live b (is_spent t) t l

match_live : (b : Bool) → is_live (if b then done else dead) ≡ b
match_live true = refl
match_live false = refl

module _ {P : Type 0} (x : Form) (e : Environment) (a : PlainAction) where
  -- a node moves where its parts do: b and c say where it and the next one are dead, t and u are the nodes before it is
  -- asked whether they are spent, s is the node with moved parts
  pub either_moves : (test : Plain → Bool) (b c : Bool) (t u s : Plain) → (test t ≡ true → may x e t a ≡ false) → moved x e t a ≡ dead_if (not (may x e t a)) (done_if (test s) s) →
      (may x e (dead_if b (done_if (test t) t)) a ≡ true) ↔ P → is_dead u ≡ false → (is_dead (dead_if c (done_if (test u) u)) ≡ false) ↔ P →
      (b ≡ false → P → s ≡ u) → moved x e (dead_if b (done_if (test t) t)) a ≡ dead_if c (done_if (test u) u)
  either_moves test true true t u s d m f l g same = moved_dead x e a
  either_moves test true false t u s d m f l g same = absurd (true≢false (sym (f.1 (g.0 (done_live (test u) u l))) ∙ may_dead x e a))
  either_moves test false true t u s d m f l g same = done_moved x e (test t) t (done_if (test s) s) a d m ∙ m ∙ stays (may x e t a) refl
    where
      stays : (q : Bool) → may x e t a ≡ q → dead_if (not q) (done_if (test s) s) ≡ dead
      stays true h = absurd (true≢false (g.1 (f.0 (done_may x e (test t) t a d ∙ h))))
      stays false h = refl
  either_moves test false false t u s d m f l g same =
      let p : P = g.0 (done_live (test u) u l) in
      done_moved x e (test t) t (done_if (test s) s) a d m ∙ m ∙ ap (λ q. dead_if (not q) (done_if (test s) s)) (sym (done_may x e (test t) t a d) ∙ f.1 p) ∙ ap (λ z. done_if (test z) z) (same refl p)

  -- so with a node that is done where it is spent
  pub node_moves : (b c : Bool) (t u s : Plain) → moved x e t a ≡ dead_if (not (may x e t a)) (settled s) →
      (may x e (dead_if b (settled t)) a ≡ true) ↔ P → is_dead u ≡ false → (is_dead (dead_if c (settled u)) ≡ false) ↔ P →
      (b ≡ false → P → s ≡ u) → moved x e (dead_if b (settled t)) a ≡ dead_if c (settled u)
  node_moves b c t u s m f l g same = either_moves is_spent b c t u s (spent_may x e t a) m f l g same

-- a tree is live after an action exactly where the action may come next
pub moved_live : (x : Form) (e : Environment) (t : Plain) (a : PlainAction) → is_live (moved x e t a) ≡ may x e t a
moved_live (atom x) e start a = match_live (is_match x e a)
moved_live (opt y) e (opt_of empty t) a =
    kept_live (may (opt y) e (opt_of empty t) a) (opt_of false (moved y e t a)) refl
moved_live (seq y z) e (seq_of t ended rest) a =
    kept_live (may (seq y z) e (seq_of t ended rest) a) (seq_parts (moved y e t a)
    (flat_map (λ s. live (moved z e s a)) (items_of rest) ++ when (is_final y (moved y e t a)) (tree_of z [] [] ∷ []))) refl
moved_live (star y) e (star_of again rest) a =
    kept_live (may (star y) e (star_of again rest) a) (star_of
    (list_any (is_final y) (flat_map (λ s. live (moved y e s a)) (items_of rest) ++ when again (live (moved y e (tree_of y [] []) a))))
    (set_of (filter is_open (flat_map (λ s. live (moved y e s a)) (items_of rest) ++ when again (live (moved y e (tree_of y [] []) a)))))) refl
moved_live (par y z) e (par_of pairs) a =
    kept_live (may (par y z) e (par_of pairs) a) (par_of (set_of (flat_map (λ p.
    when (is_live (moved y e (first_part p) a)) (pair_of (moved y e (first_part p) a) (second_part p) ∷ [])
    ++ when (is_live (moved z e (second_part p) a)) (pair_of (first_part p) (moved z e (second_part p) a) ∷ [])) (items_of pairs)))) refl
moved_live (par_star y) e (par_star_of bags) a =
    kept_live (may (par_star y) e (par_star_of bags) a) (par_star_of (set_of (flat_map (λ b.
    flat_map (λ p. bag_with (moved y e p.0 a) p.1) (picks (items_of (first_part b)))
    ++ bag_with (moved y e (tree_of y [] []) a) (items_of (first_part b))) (items_of bags)))) refl
moved_live (or y z) e (or_of t u) a =
    kept_live (may (or y z) e (or_of t u) a) (or_of (moved y e t a) (moved z e u a)) refl
moved_live (and y z) e (and_of t u) a =
    kept_live (may (and y z) e (and_of t u) a) (and_of (moved y e t a) (moved z e u a)) refl
moved_live (couple y z) e (couple_of t u) a =
    kept_live (may (couple y z) e (couple_of t u) a) (couple_of
    (moved_inside (in_alphabet y e a) (moved y e t a) t)
    (moved_inside (in_alphabet z e a) (moved z e u a) u)) refl
moved_live (any p y) e (any_of common entries) a =
    kept_live (may (any p y) e (any_of common entries) a) (any_of (moved y (bind p None e) common a)
    (set_of (flat_map (λ x. entry_with (moved y (bind p None e) common a) (key x) (moved y (bind p (Some (key x)) e) (first_part x) a)) (items_of entries)
    ++ flat_map (λ v. entry_with (moved y (bind p None e) common a) v (moved y (bind p (Some v) e) (tree_at v common (items_of entries)) a)) a.values))) refl
moved_live (every p y) e (every_of common entries) a =
    kept_live (may (every p y) e (every_of common entries) a) (every_of (moved y (bind p None e) common a)
    (set_of (flat_map (λ x. entry_with (moved y (bind p None e) common a) (key x) (moved y (bind p (Some (key x)) e) (first_part x) a)) (items_of entries)
    ++ flat_map (λ v. entry_with (moved y (bind p None e) common a) v (moved y (bind p (Some v) e) (tree_at v common (items_of entries)) a)) a.values))) refl
moved_live (sync p y) e (sync_of common entries) a =
    kept_live (may (sync p y) e (sync_of common entries) a) (sync_of
    (moved_inside (in_alphabet y (bind p None e) a) (moved y (bind p None e) common a) common)
    (set_of (flat_map (λ x. entry_with (moved_inside (in_alphabet y (bind p None e) a) (moved y (bind p None e) common a) common) (key x)
    (moved_inside (in_alphabet y (bind p (Some (key x)) e) a) (moved y (bind p (Some (key x)) e) (first_part x) a) (first_part x))) (items_of entries)
    ++ flat_map (λ v. entry_with (moved_inside (in_alphabet y (bind p None e) a) (moved y (bind p None e) common a) common) v
    (moved_inside (in_alphabet y (bind p (Some v) e) a) (moved y (bind p (Some v) e) (tree_at v common (items_of entries)) a) (tree_at v common (items_of entries)))) a.values))) refl
moved_live (all p y) e (all_of maps) a =
    kept_live (may (all p y) e (all_of maps) a) (all_of (set_of (flat_map (λ m. flat_map (λ v.
    map_with (tree_of y [] []) v (moved y (bind p (Some v) e) (or_initial (tree_of y [] []) (tree_at v dead (items_of (first_part m)))) a) (items_of (first_part m))) a.values) (items_of maps)))) refl
moved_live (times n y) e (times_of bags) a =
    let moves : Plain = set_of (flat_map (λ b.
    flat_map (λ p. keep_with (moved y e p.0 a) p.1) (picks (items_of (first_part b)))
    ++ when (nat_lt (length (items_of (first_part b))) n) (keep_with (moved y e (tree_of y [] []) a) (items_of (first_part b)))) (items_of bags)) in
    either_live (may (times n y) e (times_of bags) a) (only_bag_done n (items_of moves)) (times_of moves) refl
moved_live _ e _ a = refl

-- the tree of the empty word is live
pub empty_live : (y : Form) (e f : Environment) → Tells y e → is_live (tree_of y f []) ≡ true
empty_live y e f k = ap is_live (empty_tree y f e) ∙ (live_says (tree_of y e [])).1 ((k []).partial.1 (empty-partial y e))

-- the first action is tried on the tree of the empty word
pub first_may : (y : Form) (e f : Environment) (a : PlainAction) → Begins a y e → MayTells a y e → may_first y e a ≡ may y e (tree_of y f []) a
first_may y e f a b m = one_test (may_first y e a) (may y e (tree_of y e []) a) (iff_trans b (iff_sym (m []))) ∙ ap (λ t. may y e t a) (empty_tree y e f)

-- Lists that are made

module _ {A B C : Type 0} where
  pub flat_map-map : (f : B → List C) (g : A → B) (w : List A) → flat_map f (map g w) ≡ flat_map (λ a. f (g a)) w
  flat_map-map f g [] = refl
  flat_map-map f g (a ∷ w) = ap (λ x. f (g a) ++ x) (flat_map-map f g w)

module _ {A B : Type 0} where
  pub flat_map-when : (f : A → List B) (b : Bool) (w : List A) → flat_map f (when b w) ≡ when b (flat_map f w)
  flat_map-when f true w = refl
  flat_map-when f false w = refl

  both_to : (f g : A → List B) (w : List A) (b : B) → Member b (flat_map (λ a. f a ++ g a) w) → Member b (flat_map f w ++ flat_map g w)
  both_to f g w b m =
      let k = Member-flat_map (λ a. f a ++ g a) w m in
      elim (Member-either (f k.0) (g k.0) k.2) [
        | inl l ↦ Member-left (flat_map-Member f k.1 l) (flat_map g w)
        | inr r ↦ Member-right (flat_map f w) (flat_map-Member g k.1 r)
      ]

  both_from : (f g : A → List B) (w : List A) (b : B) → Member b (flat_map f w ++ flat_map g w) → Member b (flat_map (λ a. f a ++ g a) w)
  both_from f g w b m = elim (Member-either (flat_map f w) (flat_map g w) m) [
    | inl l ↦ let k = Member-flat_map f w l in flat_map-Member (λ a. f a ++ g a) k.1 (Member-left k.2 (g k.0))
    | inr r ↦ let k = Member-flat_map g w r in flat_map-Member (λ a. f a ++ g a) k.1 (Member-right (f k.0) k.2)
  ]

  -- two comprehensions in one
  pub flat_map-both : (f g : A → List B) (w : List A) → SameMembers (flat_map (λ a. f a ++ g a) w) (flat_map f w ++ flat_map g w)
  flat_map-both f g w = record { to = both_to f g w; from = both_from f g w }

  -- what is made of the cuts of a word with one more item
  pub cuts_more : (f : List A × List A → List B) (w : List A) (a : A) → flat_map f (cuts (w ++ a ∷ [])) ≡ flat_map (λ c. f (with_end a c)) (cuts w) ++ f (w ++ a ∷ [], [])
  cuts_more f w a =
      ap (flat_map f) (cuts-end w a)
      ∙ flat_map-append f (map (with_end a) (cuts w)) ((w ++ a ∷ [], []) ∷ [])
      ∙ ap (λ x. x ++ (f (w ++ a ∷ [], []) ++ [])) (flat_map-map f (with_end a) (cuts w))
      ∙ ap (λ x. flat_map (λ c. f (with_end a c)) (cuts w) ++ x) (append-nil (f (w ++ a ∷ [], [])))

  -- only the last cut has nothing behind it
  pub last_cut : (f : List A × List A → List B) (w : List A) → flat_map (λ c. when (is_empty c.1) (f c)) (cuts w) ≡ f (w, [])
  last_cut f [] = append-nil (f ([], []))
  last_cut f (a ∷ w) =
      flat_map-map (λ c. when (is_empty c.1) (f c)) (with_start a) (cuts w) ∙ last_cut (λ c. f (with_start a c)) w

-- Alternatives

-- sets are compared by their members
pub set_same : (xs ys : List Plain) → SameMembers xs ys → set_of xs ≡ set_of ys
set_same xs ys s = ap listed (canon-same tree_order xs ys s)

pub set_members : (xs : List Plain) → SameMembers (items_of (set_of xs)) xs
set_members xs = SameMembers-trans (SameMembers-eq (items_listed (canon tree_cmp xs))) (canon-members tree_order xs)

-- what is made of the alternatives of a set
pub set_flat_map : {B : Type 0} (f : Plain → List B) (xs : List Plain) → SameMembers (flat_map f (items_of (set_of xs))) (flat_map f xs)
set_flat_map f xs = SameMembers-flat_map f f (set_members xs) (λ x m. SameMembers-refl (f x))

-- what is made of the alternatives that ways give
pub set_made : {A B : Type 0} (f : Plain → List B) (make : A → List Plain) (ways : List A) → SameMembers (flat_map f (items_of (set_of (flat_map make ways)))) (flat_map (λ way. flat_map f (make way)) ways)
set_made f make ways = SameMembers-trans (set_flat_map f (flat_map make ways)) (SameMembers-eq (flat_map-flat_map make f ways))

-- the sets of those that are open
pub open_set_same : (xs ys : List Plain) → SameMembers xs ys → set_of (filter is_open xs) ≡ set_of (filter is_open ys)
open_set_same xs ys s = set_same (filter is_open xs) (filter is_open ys) (open_same s)

-- so where nothing is made of an alternative that is dead or done
open_set_made : {A B : Type 0} (f : Plain → List B) → f dead ≡ [] → f done ≡ [] → (make : A → List Plain) (ways : List A) → SameMembers (flat_map f (items_of (set_of (filter is_open (flat_map make ways))))) (flat_map (λ way. flat_map f (make way)) ways)
open_set_made f d n make ways =
    SameMembers-trans (set_flat_map f (filter is_open (flat_map make ways)))
    (SameMembers-eq (open_made f d n (flat_map make ways) ∙ flat_map-flat_map make f ways))

-- what is made where the tree is live, if nothing is made of a dead one
pub live_made : {B : Type 0} (f : Plain → List B) → f dead ≡ [] → (t : Plain) → flat_map f (live t) ≡ f t
live_made f n t = one (is_dead t) refl
  where
    one : (b : Bool) → is_dead t ≡ b → flat_map f (when (not b) (t ∷ [])) ≡ f t
    one true e = sym (ap f (dead_is t e) ∙ n)
    one false e = append-nil (f t)

-- a dead tree isn't listed where it moves
pub dead_unlisted : (x : Form) (e : Environment) (a : PlainAction) → live (moved x e dead a) ≡ []
dead_unlisted x e a = ap live (moved_dead x e a)

-- nor is one that is done
done_unlisted : (x : Form) (e : Environment) (a : PlainAction) → live (moved x e done a) ≡ []
done_unlisted x e a = ap live (moved_done x e a)

-- so with what is made of the open alternatives
pub open_moved : {A : Type 0} (x : Form) (e : Environment) (a : PlainAction) (make : A → List Plain) (ways : List A) → SameMembers (flat_map (λ s. live (moved x e s a)) (items_of (set_of (filter is_open (flat_map make ways))))) (flat_map (λ way. flat_map (λ s. live (moved x e s a)) (make way)) ways)
open_moved x e a make ways = open_set_made (λ s. live (moved x e s a)) (dead_unlisted x e a) (done_unlisted x e a) make ways

-- what is listed where the tree is live, moved
pub live_moved : (x : Form) (e : Environment) (a : PlainAction) (t : Plain) → flat_map (λ s. live (moved x e s a)) (live t) ≡ live (moved x e t a)
live_moved x e a t = live_made (λ s. live (moved x e s a)) (dead_unlisted x e a) t
