-- Measures and invariants of the functions behind `is_final`.
use Rattle.std.proofs.Common.{◌≡◌, ◌&&◌, ◌||◌, ◌==◌, length, ◌+◌, ◌*◌, drop, map}
use Rattle.std.specs.List.{list_all, list_any}
use Rattle.ix_expr.specs.inside.FormOf.{form_of}
use Rattle.ix_tree.specs.Order.{first_part, second_part}
use Rattle.ix_tree.specs.Plain.{listed, items_of}
use Rattle.ix_tree.specs.PlainOf.{plain_pair, plain_bag, plain_map, plain_entries}
use Rattle.ix_expr.specs.Tests.{accepts_empty}
use Rattle.ix_can.specs.TreeOf.{is_final}
use Rattle.ix_can.proofs.Measures.{count}
use Rattle.ix_can.proofs.completion.+completes.Given as goal

abbrev pub decreases-completes : goal.decreases-completes
decreases-completes l = 4 * count (form_of l.expr.now)

abbrev pub decreases-some_completes : goal.decreases-some_completes
decreases-some_completes l = 4 * count (form_of l.y.now) + 1

abbrev pub invariant-some_completes-loop-item : goal.invariant-some_completes-loop-item
invariant-some_completes-loop-item l =
    list_any (is_final (form_of l.y)) (items_of (listed l.items))
    ≡ list_any (is_final (form_of l.y)) (items_of (listed (drop l.item-index l.items)))

abbrev pub decreases-each_completes : goal.decreases-each_completes
decreases-each_completes l = 4 * count (form_of l.y.now) + 1

abbrev pub invariant-each_completes-loop-item : goal.invariant-each_completes-loop-item
invariant-each_completes-loop-item l =
    list_all (is_final (form_of l.y)) (items_of (listed l.items))
    ≡ list_all (is_final (form_of l.y)) (items_of (listed (drop l.item-index l.items)))

abbrev pub decreases-pair_completes : goal.decreases-pair_completes
decreases-pair_completes l = 4 * (count (form_of l.y.now) + count (form_of l.z.now)) + 1

abbrev pub decreases-some_pair_completes : goal.decreases-some_pair_completes
decreases-some_pair_completes l = 4 * (count (form_of l.y.now) + count (form_of l.z.now)) + 2

abbrev pub invariant-some_pair_completes-loop-pair : goal.invariant-some_pair_completes-loop-pair
invariant-some_pair_completes-loop-pair l =
    list_any (λ p. is_final (form_of l.y) (first_part p) && is_final (form_of l.z) (second_part p)) (items_of (listed (map plain_pair l.pairs)))
    ≡ list_any (λ p. is_final (form_of l.y) (first_part p) && is_final (form_of l.z) (second_part p)) (items_of (listed (map plain_pair (drop l.pair-index l.pairs))))

abbrev pub decreases-some_bag_completes : goal.decreases-some_bag_completes
decreases-some_bag_completes l = 4 * count (form_of l.y.now) + 2

abbrev pub invariant-some_bag_completes-loop-bag : goal.invariant-some_bag_completes-loop-bag
invariant-some_bag_completes-loop-bag l =
    list_any (λ b. list_all (is_final (form_of l.y)) (items_of (first_part b))) (items_of (listed (map plain_bag l.bags)))
    ≡ list_any (λ b. list_all (is_final (form_of l.y)) (items_of (first_part b))) (items_of (listed (map plain_bag (drop l.bag-index l.bags))))

abbrev pub decreases-limited_bag_completes : goal.decreases-limited_bag_completes
decreases-limited_bag_completes l = 4 * count (form_of l.y.now) + 2

abbrev pub decreases-some_limited_bag_completes : goal.decreases-some_limited_bag_completes
decreases-some_limited_bag_completes l = 4 * count (form_of l.y.now) + 3

abbrev pub invariant-some_limited_bag_completes-loop-bag : goal.invariant-some_limited_bag_completes-loop-bag
invariant-some_limited_bag_completes-loop-bag l =
    list_any (λ b. list_all (is_final (form_of l.y)) (items_of (first_part b)) && ((length (items_of (first_part b)) == l.number) || accepts_empty (form_of l.y))) (items_of (listed (map plain_bag l.bags)))
    ≡ list_any (λ b. list_all (is_final (form_of l.y)) (items_of (first_part b)) && ((length (items_of (first_part b)) == l.number) || accepts_empty (form_of l.y))) (items_of (listed (map plain_bag (drop l.bag-index l.bags))))

abbrev pub decreases-some_entry_completes : goal.decreases-some_entry_completes
decreases-some_entry_completes l = 4 * count (form_of l.y.now) + 1

abbrev pub invariant-some_entry_completes-loop-entry : goal.invariant-some_entry_completes-loop-entry
invariant-some_entry_completes-loop-entry l =
    list_any (λ x. is_final (form_of l.y) (first_part x)) (items_of (plain_entries l.entries))
    ≡ list_any (λ x. is_final (form_of l.y) (first_part x)) (items_of (plain_entries l.entry-iterator))

abbrev pub decreases-each_entry_completes : goal.decreases-each_entry_completes
decreases-each_entry_completes l = 4 * count (form_of l.y.now) + 1

abbrev pub invariant-each_entry_completes-loop-entry : goal.invariant-each_entry_completes-loop-entry
invariant-each_entry_completes-loop-entry l =
    list_all (λ x. is_final (form_of l.y) (first_part x)) (items_of (plain_entries l.entries))
    ≡ list_all (λ x. is_final (form_of l.y) (first_part x)) (items_of (plain_entries l.entry-iterator))

abbrev pub decreases-some_map_completes : goal.decreases-some_map_completes
decreases-some_map_completes l = 4 * count (form_of l.y.now) + 2

abbrev pub invariant-some_map_completes-loop-map : goal.invariant-some_map_completes-loop-map
invariant-some_map_completes-loop-map l =
    list_any (λ m. list_all (λ x. is_final (form_of l.y) (first_part x)) (items_of (first_part m))) (items_of (listed (map plain_map l.maps)))
    ≡ list_any (λ m. list_all (λ x. is_final (form_of l.y) (first_part x)) (items_of (first_part m))) (items_of (listed (map plain_map (drop l.map-index l.maps))))
