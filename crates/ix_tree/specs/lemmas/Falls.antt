-- Each knot in a node, and each list of entries, has a smaller measure than the node: the measure
-- of a tree is twice its Size, and that of a list of entries is one more, so that a piece of it is
-- below it.
use Rattle.std.specs.Prelude.{◌≡◌, ℕ, ◌+◌, ◌*◌, ◌≤◌, max, List, [], ◌∷◌, ◌++◌, flat_map}
use Rattle.std.specs.Prelude.{map as each}
use Rattle.std.proofs.Common.{arith}
use denote.Param.Weighed.{most}
use Rattle.ix_tree.specs.Plain.{Plain, listed}
use Rattle.ix_tree.specs.Size.{size_of}
use Rattle.ix_tree.specs.PlainOf.{plain_pair, plain_bag, plain_map, plain_entry, plain_entries}
use Rattle.ix_tree.specs.inside.HeldEntries.{entries_kept}
use Rattle.ix_tree.specs.inside.PlainNode.{plain_node}
use Rattle.ix_tree.specs.declared.node.Node.{Node}
use Rattle.ix_tree.specs.declared.node.Node.TheVariants.{Dead, Start, Done, Opt, Seq, Star, Par}
use Rattle.ix_tree.specs.declared.node.Node.TheVariants.{ParStar, Or, And, Couple, Any, Every, Sync}
use Rattle.ix_tree.specs.declared.node.Node.TheVariants.{All, Times}
use Rattle.ix_tree.specs.declared.node.Pair.{Pair}
use Rattle.ix_tree.specs.declared.node.Bag.{Bag}
use Rattle.ix_tree.specs.declared.node.Map.{Map}
use Rattle.ix_tree.specs.declared.entries.Entries.TheDeep.{deep-Node, deep-Pair, deep-Bag, deep-Map}
use Rattle.ix_tree.specs.declared.entries.Entries.TheDeep.{deep-Held}
use Rattle.ix_tree.specs.declared.entries.Held.{Held}
use Rattle.ix_tree.specs.declared.entries.Held.TheVariants.{Few, Cut}
use Rattle.ix_tree.specs.declared.entries.Entries.TheShapes.{weighed-Held-Few-0-at-2}

-- a knot counts one more than its measure
abbrev size_and_more : Plain → ℕ
size_and_more x = 2 * size_of x + 1

-- the greatest of some knots counts at most one more than all of them
knots : (xs : List Plain) → most size_and_more xs ≤ 2 * size_of (listed xs) + 1
knots [] = omega arith
knots (x ∷ xs) = omega (arith, knots xs)

-- so with parts that have knots
module _ {A : Type 0} (w : A → ℕ) (f : A → Plain) (h : (x : A) → w x ≤ 2 * size_of (f x)) where
  parts : (xs : List A) → most w xs ≤ 2 * size_of (listed (each f xs))
  parts [] = omega arith
  parts (x ∷ xs) = omega (arith, h x, parts xs)

-- so with entries
pub depth_le-piece : (es : List (List ℕ × Plain))
    → max (most (weighed-Held-Few-0-at-2.weight Plain size_and_more) es) 0
    ≤ 2 * size_of (plain_entries es)
depth_le-piece es = omega (
  arith,
  parts (weighed-Held-Few-0-at-2.weight Plain size_and_more) plain_entry (λ e.
      omega arith) es,
)

-- some entries and others behind them
pub size_joined : (es fs : List (List ℕ × Plain))
    → size_of (plain_entries (es ++ fs)) ≡ size_of (plain_entries es) + size_of (plain_entries fs)
size_joined [] fs = omega arith
size_joined (e ∷ es) fs = omega (arith, size_joined es fs)

-- a piece counts at most as much as all of them
pieces : (ps : List (List (List ℕ × Plain)))
    → most (λ p. 2 * size_of (plain_entries p) + 1) ps
    ≤ 2 * size_of (plain_entries (flat_map (λ p. p) ps)) + 1
pieces [] = omega arith
pieces (p ∷ ps) = omega (arith, pieces ps, size_joined p (flat_map (λ q. q) ps))

-- no knot among the entries of a list, and no piece of them, has as large a measure as the list
pub depth_le-held : (h : Held)
    → max (deep-Held h) 0 ≤ 2 * size_of (plain_entries (entries_kept h)) + 1
depth_le-held (Few es) = omega (arith, depth_le-piece es.items)
depth_le-held (Cut ps) = omega (arith, pieces ps.items)

-- so with pairs_fall
pairs_fall : (ps : List Pair) → most deep-Pair ps ≤ 2 * size_of (listed (each plain_pair ps))
pairs_fall ps = parts deep-Pair plain_pair (λ p. omega arith) ps

-- so with bags
bags : (bs : List Bag) → most deep-Bag bs ≤ 2 * size_of (listed (each plain_bag bs))
bags bs = parts deep-Bag plain_bag (λ b. omega (arith, knots b.items.items)) bs

-- so with maps
maps : (ms : List Map) → most deep-Map ms ≤ 2 * size_of (listed (each plain_map ms))
maps ms = parts deep-Map plain_map (λ m. omega arith) ms

-- no knot in a node, and no list of entries, has as large a measure as the node
pub depth_le-size : (n : Node) → max (deep-Node n) 0 ≤ 2 * size_of (plain_node n)
depth_le-size Dead = omega arith
depth_le-size Start = omega arith
depth_le-size Done = omega arith
depth_le-size (Opt empty x) = omega arith
depth_le-size (Seq x ended xs) = omega (arith, knots xs.items)
depth_le-size (Star again xs) = omega (arith, knots xs.items)
depth_le-size (Par ps) = omega (arith, pairs_fall ps.items)
depth_le-size (ParStar bs) = omega (arith, bags bs.items)
depth_le-size (Or x y) = omega arith
depth_le-size (And x y) = omega arith
depth_le-size (Couple x y) = omega arith
depth_le-size (Any x es) = omega arith
depth_le-size (Every x es) = omega arith
depth_le-size (Sync x es) = omega arith
depth_le-size (All ms) = omega (arith, maps ms.items)
depth_le-size (Times bs) = omega (arith, bags bs.items)
