-- The quantifier all: what is asked of maps before a tree is moved in them, and the maps after an action.
use Rattle.std.proofs.Common.{◌≡◌, ℕ, zero, suc, ◌+◌, ◌<◌, ◌≤◌, inl, inr, Bool, true, false, not, cond, List, [], ◌∷◌, ◌++◌, map, filter, Some, None, Result, Ok, Err, MatchResult, refl, sym, ap, ◌∙◌, subst, true≢false, arith, if◌then◌else◌}
use Rattle.std.specs.List.{All}
use Rattle.std.specs.Map.{values_of}
use Rattle.ix_words.specs.Each.{Each, Member, here}
use Rattle.ix_words.specs.Canon.{Ascending, canon, put_once, when}
use Rattle.ix_words.proofs.Each.{Each-head, Each-tail, Each-weaker, Each-member, Each-members}
use Rattle.ix_words.proofs.Canon.{by_order-has, Member-cases}
use Rattle.ix_values.specs.Order.{text_eq, text_cmp}
use Rattle.ix_entries.specs.inside.Entries.{AreProperEntries as IsProperList, KeysAscend, with_entry}
use Rattle.ix_expr.specs.Form.{Form, all}
use Rattle.ix_expr.specs.Environment.{Environment, bind}
use Rattle.ix_expr.proofs.LawsOfNames.{fits-names}
use Rattle.ix_expr.proofs.Parts.{fits-operands}
use Rattle.ix_tree.specs.Plain.{Plain, dead, entry, listed, items_of, is_dead, all as all_of, map as map_of}
use Rattle.ix_tree.specs.PlainOf.{plain_map, plain_entry, plain_entries}
use Rattle.ix_tree.specs.Order.{key, first_part, tree_cmp}
use Rattle.ix_tree.specs.Size.{size_of}
use Rattle.ix_tree.specs.declared.node.Map.{Map}
use Rattle.ix_tree.specs.contracts.order.KnotPartialEq.TheImpl.{ghosts as tree_ghosts}
use Rattle.ix_tree.proofs.PlainLists.{items_of-listed}
use Rattle.ix_can.specs.Nodes.{same_tree, set_of}
use Rattle.ix_can.specs.Laws.{EachOnce, IsProper, ProperEntries}
use Rattle.ix_can.specs.May.{tree_at}
use Rattle.ix_can.specs.TreeOf.{tree_of}
use Rattle.ix_can.specs.inside.Moved.{map_with, entry_with, or_initial}
use Rattle.ix_can.proofs.Nodes.{same_is}
use Rattle.ix_can.proofs.Spent.{dead_is}
use Rattle.ix_step.specs.inside.Makes.{IsAboveLimit, Makes, put_all}
use Rattle.ix_step.specs.declared.fault.Unbuilt.{Unbuilt}
use Rattle.ix_step.specs.inside.Ready.{Ready}
use Rattle.ix_step.specs.inside.Initial.{initial_tree}
use Rattle.ix_step.specs.inside.MapsAfter.{HoldsWell, ReadyToBegin, with_tree}
use Rattle.ix_step.proofs.Gathered.{put_all-nothing, put_all_holds, size_all}
use Rattle.ix_step.proofs.Beginnings.{initial_is, initial_proper, initial_small}
use Rattle.ix_step.proofs.EntriesPut.{keys_ascend}
use Rattle.ix_can.proofs.Keys.{tree_at_has}
use Rattle.ix_step.proofs.Quantifying.{tree_at_size}
use Rattle.ix_step.proofs.MapEntries.{with_entry_map}
use Rattle.ix_step.proofs.SameTrees.{same_trees}

member_size : (m : Plain) (ms : List Plain) → Member m ms → size_of m ≤ size_all ms
member_size m [] k = elim k [ ]
member_size m (x ∷ ms) k = elim (Member-cases k) [
  | inl e ↦ let s : size_of m ≡ size_of x = ap size_of e in omega arith
  | inr n ↦ omega (arith, member_size m ms n)
]

-- The entries of a map

pub map_items : (m : Map) → items_of (first_part (plain_map m)) ≡ map plain_entry m.entries
map_items m = items_of-listed (map plain_entry m.entries)

-- no entry has the initial tree
differing : (initial : Plain) (es : List (List ℕ × Plain)) → Each (λ x. ¬ (first_part x ≡ initial)) (map plain_entry es) → All (λ x. tree_ghosts.eq x initial ≡ false) (values_of es)
differing initial [] h k d lt = absurd (omega arith)
differing initial (e ∷ es) h zero d lt = same_trees e.1 initial ∙ other (same_tree e.1 initial) refl
  where
    other : (b : Bool) → same_tree e.1 initial ≡ b → same_tree e.1 initial ≡ false
    other false s = s
    other true s = absurd (Each-head h (same_is e.1 initial s))
differing initial (e ∷ es) h (suc k) d lt = differing initial es (Each-tail h) k d (omega arith)

-- entries that copy those of a map are proper
pub copy_proper : {G : Plain → Type 0} (initial : Plain) (copy : List (List ℕ × Plain)) (xs : List Plain) → map plain_entry copy ≡ xs → ProperEntries G initial xs → IsProperList text_cmp tree_ghosts.eq initial copy
copy_proper initial copy xs e h = record {
  ascending = keys_ascend copy (subst (Ascending (λ x y. text_cmp (key x) (key y))) (sym e) h.ascending);
  differing = differing initial copy (subst (Each (λ x. ¬ (first_part x ≡ initial))) (sym e) h.differ);
}

-- and the map of them with a tree put among them is the map with that tree
pub copy_with_tree : (initial : Plain) (copy new : List (List ℕ × Plain)) (xs : List Plain) (v : List ℕ) (x : Plain) → map plain_entry copy ≡ xs → Ascending (λ x y. text_cmp (key x) (key y)) xs → new ≡ with_entry text_cmp tree_ghosts.eq initial copy v x → map_of (plain_entries new) ≡ with_tree initial v x xs
copy_with_tree initial copy new xs v x e h n =
    ap (λ l. map_of (plain_entries l)) n
    ∙ ap (λ l. map_of (listed l)) (with_entry_map tree_ghosts.eq same_trees initial copy v x (subst (Ascending (λ y z. text_cmp (key y) (key z))) (sym e) h))
    ∙ ap (λ l. map_of (set_of (entry_with initial v x ++ filter (λ other. not (text_eq (key other) v)) l))) e

-- Sizes

put_once_size : (y : Plain) (xs : List Plain) → size_all (put_once tree_cmp y xs) ≤ size_of y + size_all xs
put_once_size y [] = omega arith
put_once_size y (x ∷ xs) =
    by_order-has (λ l. size_all l ≤ size_of y + size_all (x ∷ xs)) (tree_cmp y x) (y ∷ x ∷ xs) (x ∷ xs) (x ∷ put_once tree_cmp y xs)
    (λ e. omega arith) (λ e. omega arith) (λ e. omega (arith, put_once_size y xs))

canon_size : (xs : List Plain) → size_all (canon tree_cmp xs) ≤ size_all xs
canon_size [] = omega arith
canon_size (x ∷ xs) = omega (arith, put_once_size x (canon tree_cmp xs), canon_size xs)

filter_size : (test : Plain → Bool) (xs : List Plain) → size_all (filter test xs) ≤ size_all xs
filter_size test [] = omega arith
filter_size test (x ∷ xs) = chosen (test x) (filter_size test xs)
  where
    chosen : (b : Bool) → size_all (filter test xs) ≤ size_all xs → size_all (cond b (x ∷ filter test xs) (filter test xs)) ≤ size_all (x ∷ xs)
    chosen true k = omega (arith, k)
    chosen false k = omega (arith, k)

when_size : (b : Bool) (y : Plain) (xs : List Plain) → size_all (when b (y ∷ []) ++ xs) ≤ size_of y + size_all xs
when_size true y xs = omega arith
when_size false y xs = omega arith

-- the map with one more tree is no larger than the two together
pub with_tree_size : (initial : Plain) (v : List ℕ) (x : Plain) (xs : List Plain) → size_of (with_tree initial v x xs) ≤ 2 + size_of x + size_all xs
with_tree_size initial v x xs =
    let f = filter_size (λ other. not (text_eq (key other) v)) xs in
    let w = when_size (not (same_tree x initial)) (entry v x) (filter (λ other. not (text_eq (key other) v)) xs) in
    let k = canon_size (when (not (same_tree x initial)) (entry v x ∷ []) ++ filter (λ other. not (text_eq (key other) v)) xs) in
    omega (arith, f, w, k)

-- Faults

-- a live tree that isn't the initial one is no larger than the map that has it
tree_in_map : (initial : Plain) (v : List ℕ) (x : Plain) (xs : List Plain) → same_tree x initial ≡ false → size_of x ≤ size_of (with_tree initial v x xs)
tree_in_map initial v x xs d =
    let kept : List Plain = filter (λ other. not (text_eq (key other) v)) xs in
    let k : size_of (entry v x) ≤ size_all (put_all (entry v x ∷ filter (λ other. not (text_eq (key other) v)) xs) []) = put_all_holds (entry v x) (entry v x ∷ filter (λ other. not (text_eq (key other) v)) xs) [] here in
    let e : size_all (put_all (entry v x ∷ filter (λ other. not (text_eq (key other) v)) xs) []) ≡ size_all (canon tree_cmp (entry v x ∷ filter (λ other. not (text_eq (key other) v)) xs)) = ap size_all (put_all-nothing (entry v x ∷ filter (λ other. not (text_eq (key other) v)) xs)) in
    let i : size_of (with_tree initial v x xs) ≡ 1 + size_all (canon tree_cmp (entry v x ∷ filter (λ other. not (text_eq (key other) v)) xs)) = ap (λ b. size_of (map_of (set_of (when (not b) (entry v x ∷ []) ++ filter (λ other. not (text_eq (key other) v)) xs)))) d in
    omega (arith, k, e, i)

-- a tree above the room is in the map, so that this is above the limit
pub above_room : (limit room : ℕ) (initial : Plain) (v : List ℕ) (x : Plain) (xs old : List Plain) → 1 ≤ room → limit ≤ room → size_of initial ≤ room → room < size_of x → limit < size_of (listed (put_all (map_with initial v x xs) old))
above_room limit room initial v x xs old positive le small lt = by_life (is_dead x) refl
  where
    by_same : (b : Bool) → same_tree x initial ≡ b → size_of x ≤ size_of (with_tree initial v x xs)
    by_same false s = tree_in_map initial v x xs s
    by_same true s = let e : size_of x ≡ size_of initial = ap size_of (same_is x initial s) in absurd (omega arith)

    by_life : (b : Bool) → is_dead x ≡ b → limit < size_of (listed (put_all (map_with initial v x xs) old))
    by_life true d = let e : size_of x ≡ 1 = ap size_of (dead_is x d) in absurd (omega arith)
    by_life false d =
        let k : size_of (with_tree initial v x xs) ≤ size_all (put_all (with_tree initial v x xs ∷ []) old) = put_all_holds (with_tree initial v x xs) (with_tree initial v x xs ∷ []) old here in
        let e : size_all (put_all (map_with initial v x xs) old) ≡ size_all (put_all (with_tree initial v x xs ∷ []) old) = ap (λ b. size_all (put_all (when (not b) (with_tree initial v x xs ∷ [])) old)) d in
        omega (arith, k, e, by_same (same_tree x initial) refl)

-- What is asked

-- the initial tree is small
pub begin_small : (p : List ℕ) (y : Form) (e : Environment) (t : Plain) → Ready (all p y) e t → size_of (initial_tree y) ≤ 1000000
begin_small p y e t r = initial_small y (bind p None e) ((fits-operands (all p y) e r.fits).body None)

-- and ready
pub begin_ready : (p : List ℕ) (y : Form) (e : Environment) (initial ps : Plain) → Ready (all p y) e ps → initial ≡ initial_tree y → ReadyToBegin p y e initial
begin_ready p y e initial ps r i =
    record {
      fits = fits-operands (all p y) e r.fits;
      named = fits-names p y e r.fits;
      proper = subst (IsProper y) (sym i) (initial_proper y);
      small = omega (arith, ap size_of i, begin_small p y e ps r);
    }

-- and the maps hold well
pub all_held : (p : List ℕ) (y : Form) (e : Environment) (initial : Plain) (ms : List Plain) → Ready (all p y) e (all_of (listed ms)) → initial ≡ initial_tree y → Each (HoldsWell y initial) ms
all_held p y e initial ms r i =
    let once = subst (λ l. EachOnce (λ m. ProperEntries (IsProper y) (tree_of y [] []) (items_of (first_part m))) l) (items_of-listed ms) r.proper in
    Each-members ms (λ m k. record {
      beside = subst (λ z. ProperEntries (IsProper y) z (items_of (first_part m))) (initial_is y [] ∙ sym i) (Each-member once.each k);
      small = omega (arith, member_size m ms k, r.small);
    })

-- the entries of a map are no larger than it
pub items_size : (m : Map) → size_all (items_of (first_part (plain_map m))) ≤ size_of (plain_map m)
items_size m =
    let e : size_all (items_of (first_part (plain_map m))) ≡ size_all (map plain_entry m.entries) = ap size_all (map_items m) in
    let k : size_of (plain_map m) ≡ 1 + size_all (map plain_entry m.entries) = refl in
    omega (arith, e, k)

-- Trees of values in a map

module _ (m : Map) (es : List (List ℕ × Plain)) (copied : es ≡ m.entries) where
  same_entries : items_of (first_part (plain_map m)) ≡ map plain_entry es
  same_entries = map_items m ∙ ap (map plain_entry) (sym copied)

  pub map_keys : Ascending (λ x y. text_cmp (key x) (key y)) (items_of (first_part (plain_map m))) → KeysAscend text_cmp es
  map_keys h = keys_ascend es (subst (Ascending (λ x y. text_cmp (key x) (key y))) same_entries h)

  found_size : (v : List ℕ) → size_of (tree_at v dead (items_of (first_part (plain_map m)))) ≤ size_of (plain_map m)
  found_size v =
      let k = tree_at_size v dead es in
      let e : size_of (plain_map m) ≡ 1 + size_of (plain_entries es) = ap (λ l. 1 + size_of (plain_entries l)) (sym copied) in
      let t : size_of (tree_at v dead (items_of (first_part (plain_map m)))) ≡ size_of (tree_at v dead (map plain_entry es)) = ap (λ l. size_of (tree_at v dead l)) same_entries in
      omega (arith, k, e, t)

  module _ (p : List ℕ) (y : Form) (e f : Environment) (initial : Plain) (v : List ℕ) (inside : f ≡ bind p (Some v) e) where
    -- what is asked of the initial tree
    pub first_ready : ReadyToBegin p y e initial → Ready y f initial
    first_ready r =
        subst (λ (g : Environment). Ready y g initial) (sym inside)
        (record { fits = r.fits.body (Some v); proper = r.proper; small = r.small })

    -- and of a live tree that is found
    pub found_ready : (t : Plain) → ReadyToBegin p y e initial → HoldsWell y initial (plain_map m) → tree_at v dead (items_of (first_part (plain_map m))) ≡ t → is_dead t ≡ false → Ready y f t
    found_ready t r h s live =
        subst (λ (g : Environment). Ready y g t) (sym inside)
        (subst (λ (z : Plain). Ready y (bind p (Some v) e) z) s
        (record {
          fits = r.fits.body (Some v);
          proper = tree_at_has (λ z. is_dead z ≡ false → IsProper y z) dead v (items_of (first_part (plain_map m))) (λ n. absurd (true≢false n)) (Each-weaker (λ x g n. g) h.beside.each) (ap is_dead s ∙ live);
          small = omega (arith, found_size v, h.small);
        }))

    -- and of the tree that moves
    pub start_ready : ReadyToBegin p y e initial → HoldsWell y initial (plain_map m) → Ready y f (or_initial initial (tree_at v dead (items_of (first_part (plain_map m)))))
    start_ready r h = chosen (is_dead found) refl
      where
        found : Plain
        found = tree_at v dead (items_of (first_part (plain_map m)))

        chosen : (b : Bool) → is_dead found ≡ b → Ready y f (if b then initial else found)
        chosen true d = first_ready r
        chosen false d = found_ready found r h refl d

-- What was made

-- a value's tree that was made within the room, or puts each list with its map above the limit
pub owner_made : (limit room : ℕ) (initial : Plain) (v : List ℕ) (x z : Plain) (xs : List Plain) (r : Result Plain Unbuilt) → z ≡ x → 1 ≤ room → limit ≤ room → size_of initial ≤ room → room ≤ 2000010 → Makes room z r → MatchResult r (λ tree. (tree ≡ x) × (size_of tree ≤ 2000010)) (λ fault. (old : List Plain) → IsAboveLimit limit (listed (put_all (map_with initial v x xs) old)) fault)
owner_made limit room initial v x z xs (Ok tree) same positive le small bound h =
    (h.0 ∙ same, omega (arith, ap size_of h.0, h.1))
owner_made limit room initial v x z xs (Err fault) same positive le small bound h = λ old e.
    above_room limit room initial v x xs old positive le small (let lt : room < size_of z = h e in omega (arith, ap size_of same))

-- the dead tree of a value that can't move, which puts no map into a list
pub dead_owner : (limit : ℕ) (initial : Plain) (v : List ℕ) (x : Plain) (xs : List Plain) (r : Result Plain Unbuilt) → x ≡ dead → 1 ≤ limit → limit ≤ 2000010 → Makes limit dead r → MatchResult r (λ tree. (tree ≡ x) × (size_of tree ≤ 2000010)) (λ fault. (old : List Plain) → IsAboveLimit limit (listed (put_all (map_with initial v x xs) old)) fault)
dead_owner limit initial v x xs (Ok tree) is positive bound h = (h.0 ∙ sym is, omega (arith, h.1, bound, ap size_of h.0))
dead_owner limit initial v x xs (Err fault) is positive bound h = λ old e. absurd (let lt : limit < 1 = h e in omega arith)
