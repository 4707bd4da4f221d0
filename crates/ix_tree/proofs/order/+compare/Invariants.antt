use Rattle.std.proofs.Common.{◌≡◌, ◌+◌, ◌*◌, ◌≤◌, drop, map}
use Rattle.ix_tree.specs.Plain.{listed}
use Rattle.ix_tree.specs.PlainOf.{plain_pair, plain_bag, plain_map, plain_entry, plain_entries}
use Rattle.ix_tree.specs.Order.{tree_cmp}
use Rattle.ix_tree.specs.Size.{size_of}
use Rattle.ix_tree.proofs.order.+compare.Given as goal

abbrev pub decreases-compare : goal.decreases-compare
decreases-compare l = 3 * size_of l.left.now

abbrev pub decreases-compare_pair : goal.decreases-compare_pair
decreases-compare_pair l = 3 * size_of (plain_pair l.left.now)

abbrev pub decreases-compare_bag : goal.decreases-compare_bag
decreases-compare_bag l = 3 * size_of (plain_bag l.left.now)

abbrev pub decreases-compare_map : goal.decreases-compare_map
decreases-compare_map l = 3 * size_of (plain_map l.left.now)

abbrev pub decreases-compare_entry : goal.decreases-compare_entry
decreases-compare_entry l = 3 * size_of (plain_entry l.left.now)

abbrev pub decreases-compare_knots : goal.decreases-compare_knots
decreases-compare_knots l = 3 * size_of (listed l.left.now) + 1

abbrev pub invariant-compare_knots-loop-i : goal.invariant-compare_knots-loop-i
invariant-compare_knots-loop-i l = (tree_cmp (listed l.left) (listed l.right) ≡ tree_cmp (listed (drop l.i l.left)) (listed (drop l.i l.right))) × (size_of (listed (drop l.i l.left)) ≤ size_of (listed l.left))

abbrev pub decreases-compare_pairs : goal.decreases-compare_pairs
decreases-compare_pairs l = 3 * size_of (listed (map plain_pair l.left.now)) + 1

abbrev pub invariant-compare_pairs-loop-i : goal.invariant-compare_pairs-loop-i
invariant-compare_pairs-loop-i l = (tree_cmp (listed (map plain_pair l.left)) (listed (map plain_pair l.right)) ≡ tree_cmp (listed (map plain_pair (drop l.i l.left))) (listed (map plain_pair (drop l.i l.right)))) × (size_of (listed (map plain_pair (drop l.i l.left))) ≤ size_of (listed (map plain_pair l.left)))

abbrev pub decreases-compare_bags : goal.decreases-compare_bags
decreases-compare_bags l = 3 * size_of (listed (map plain_bag l.left.now)) + 1

abbrev pub invariant-compare_bags-loop-i : goal.invariant-compare_bags-loop-i
invariant-compare_bags-loop-i l = (tree_cmp (listed (map plain_bag l.left)) (listed (map plain_bag l.right)) ≡ tree_cmp (listed (map plain_bag (drop l.i l.left))) (listed (map plain_bag (drop l.i l.right)))) × (size_of (listed (map plain_bag (drop l.i l.left))) ≤ size_of (listed (map plain_bag l.left)))

abbrev pub decreases-compare_maps : goal.decreases-compare_maps
decreases-compare_maps l = 3 * size_of (listed (map plain_map l.left.now)) + 1

abbrev pub invariant-compare_maps-loop-i : goal.invariant-compare_maps-loop-i
invariant-compare_maps-loop-i l = (tree_cmp (listed (map plain_map l.left)) (listed (map plain_map l.right)) ≡ tree_cmp (listed (map plain_map (drop l.i l.left))) (listed (map plain_map (drop l.i l.right)))) × (size_of (listed (map plain_map (drop l.i l.left))) ≤ size_of (listed (map plain_map l.left)))

abbrev pub decreases-compare_entries : goal.decreases-compare_entries
decreases-compare_entries l = 3 * size_of (plain_entries l.left.now) + 1

abbrev pub invariant-compare_entries-loop-entry : goal.invariant-compare_entries-loop-entry
invariant-compare_entries-loop-entry l = (tree_cmp (plain_entries l.left) (plain_entries l.right) ≡ tree_cmp (plain_entries l.entry-iterator) (plain_entries l.others)) × (size_of (plain_entries l.entry-iterator) ≤ size_of (plain_entries l.left))

abbrev pub decreases-compare_or : goal.decreases-compare_or
decreases-compare_or l = 3 * (size_of l.x.now + size_of l.z.now) + 2

abbrev pub decreases-compare_and : goal.decreases-compare_and
decreases-compare_and l = 3 * (size_of l.x.now + size_of l.z.now) + 2

abbrev pub decreases-compare_couple : goal.decreases-compare_couple
decreases-compare_couple l = 3 * (size_of l.x.now + size_of l.z.now) + 2

abbrev pub decreases-compare_any : goal.decreases-compare_any
decreases-compare_any l = 3 * (size_of l.x.now + size_of (plain_entries l.xs.now)) + 2

abbrev pub decreases-compare_every : goal.decreases-compare_every
decreases-compare_every l = 3 * (size_of l.x.now + size_of (plain_entries l.xs.now)) + 2

abbrev pub decreases-compare_sync : goal.decreases-compare_sync
decreases-compare_sync l = 3 * (size_of l.x.now + size_of (plain_entries l.xs.now)) + 2
