-- Measures and invariants of the functions behind `can`.
use Rattle.std.proofs.Common.{◌≡◌, ◌&&◌, ◌||◌, length, nat_lt, ◌+◌, ◌*◌, Some, drop, map}
use Rattle.std.specs.List.{list_all, list_any}
use Rattle.ix_expr.specs.Environment.{bind}
use Rattle.ix_expr.specs.inside.FormOf.{form_of}
use Rattle.ix_tree.specs.Order.{key, first_part, second_part}
use Rattle.ix_tree.specs.Plain.{listed, items_of}
use Rattle.ix_tree.specs.PlainOf.{plain_pair, plain_bag, plain_map, plain_entries}
use Rattle.ix_words.specs.Each.{Each}
use Rattle.ix_can.specs.Laws.{IsProper}
use Rattle.ix_can.specs.inside.CanAsk.{stays, may_or_stays, may_own}
use Rattle.ix_can.specs.May.{may, may_first, tree_at}
use Rattle.ix_can.proofs.Measures.{count}
use Rattle.ix_can.proofs.next.+goes_on.Given as goal

abbrev pub decreases-goes_on : goal.decreases-goes_on
decreases-goes_on l = 8 * count (form_of l.expr.now)

abbrev pub decreases-some_goes_on : goal.decreases-some_goes_on
decreases-some_goes_on l = 8 * count (form_of l.y.now) + 1

abbrev pub invariant-some_goes_on-loop-item : goal.invariant-some_goes_on-loop-item
invariant-some_goes_on-loop-item l =
    list_any (λ x. may (form_of l.y) l.env x l.action) (items_of (listed l.items)) ≡ list_any (λ x. may (form_of l.y) l.env x l.action) (items_of (listed (drop l.item-index l.items)))

abbrev pub decreases-pair_goes_on : goal.decreases-pair_goes_on
decreases-pair_goes_on l = 8 * (count (form_of l.y.now) + count (form_of l.z.now)) + 1

abbrev pub decreases-some_pair_goes_on : goal.decreases-some_pair_goes_on
decreases-some_pair_goes_on l = 8 * (count (form_of l.y.now) + count (form_of l.z.now)) + 2

abbrev pub invariant-some_pair_goes_on-loop-pair : goal.invariant-some_pair_goes_on-loop-pair
invariant-some_pair_goes_on-loop-pair l =
    list_any (λ p. may (form_of l.y) l.env (first_part p) l.action || may (form_of l.z) l.env (second_part p) l.action) (items_of (listed (map plain_pair l.pairs))) ≡ list_any (λ p. may (form_of l.y) l.env (first_part p) l.action || may (form_of l.z) l.env (second_part p) l.action) (items_of (listed (map plain_pair (drop l.pair-index l.pairs))))

abbrev pub decreases-bag_goes_on : goal.decreases-bag_goes_on
decreases-bag_goes_on l = 8 * count (form_of l.y.now) + 2

abbrev pub decreases-some_bag_goes_on : goal.decreases-some_bag_goes_on
decreases-some_bag_goes_on l = 8 * count (form_of l.y.now) + 3

abbrev pub invariant-some_bag_goes_on-loop-bag : goal.invariant-some_bag_goes_on-loop-bag
invariant-some_bag_goes_on-loop-bag l =
    list_any (λ b. may_first (form_of l.y) l.env l.action || list_any (λ x. may (form_of l.y) l.env x l.action) (items_of (first_part b))) (items_of (listed (map plain_bag l.bags))) ≡ list_any (λ b. may_first (form_of l.y) l.env l.action || list_any (λ x. may (form_of l.y) l.env x l.action) (items_of (first_part b))) (items_of (listed (map plain_bag (drop l.bag-index l.bags))))

abbrev pub decreases-limited_bag_goes_on : goal.decreases-limited_bag_goes_on
decreases-limited_bag_goes_on l = 8 * count (form_of l.y.now) + 2

abbrev pub decreases-some_limited_bag_goes_on : goal.decreases-some_limited_bag_goes_on
decreases-some_limited_bag_goes_on l = 8 * count (form_of l.y.now) + 3

abbrev pub invariant-some_limited_bag_goes_on-loop-bag : goal.invariant-some_limited_bag_goes_on-loop-bag
invariant-some_limited_bag_goes_on-loop-bag l =
    list_any (λ b. (nat_lt (length (items_of (first_part b))) l.number && may_first (form_of l.y) l.env l.action) || list_any (λ x. may (form_of l.y) l.env x l.action) (items_of (first_part b))) (items_of (listed (map plain_bag l.bags))) ≡ list_any (λ b. (nat_lt (length (items_of (first_part b))) l.number && may_first (form_of l.y) l.env l.action) || list_any (λ x. may (form_of l.y) l.env x l.action) (items_of (first_part b))) (items_of (listed (map plain_bag (drop l.bag-index l.bags))))

abbrev pub decreases-coupled_go_on : goal.decreases-coupled_go_on
decreases-coupled_go_on l = 8 * (count (form_of l.y.now) + count (form_of l.z.now)) + 2

abbrev pub decreases-meets : goal.decreases-meets
decreases-meets l = 8 * count (form_of l.y.now) + 1

abbrev pub decreases-goes_on_or_stays : goal.decreases-goes_on_or_stays
decreases-goes_on_or_stays l = 8 * count (form_of l.y.now) + 1

abbrev pub decreases-goes_on_at : goal.decreases-goes_on_at
decreases-goes_on_at l = 8 * count (form_of l.body.expr.now) + 2

abbrev pub decreases-some_entry_goes_on : goal.decreases-some_entry_goes_on
decreases-some_entry_goes_on l = 8 * count (form_of l.body.expr.now) + 3

abbrev pub invariant-some_entry_goes_on-loop-entry : goal.invariant-some_entry_goes_on-loop-entry
invariant-some_entry_goes_on-loop-entry l =
    (list_any (λ x. may (form_of l.body.expr.now) (bind l.body.parameter.now (Some (key x)) l.env) (first_part x) l.action) (items_of (plain_entries l.entries)) ≡ list_any (λ x. may (form_of l.body.expr.now) (bind l.body.parameter.now (Some (key x)) l.env) (first_part x) l.action) (items_of (plain_entries l.entry-iterator)))
    × Each (λ x. IsProper (form_of l.body.expr.now) (first_part x)) (items_of (plain_entries l.entry-iterator))

abbrev pub decreases-each_entry_goes_on : goal.decreases-each_entry_goes_on
decreases-each_entry_goes_on l = 8 * count (form_of l.body.expr.now) + 3

abbrev pub invariant-each_entry_goes_on-loop-entry : goal.invariant-each_entry_goes_on-loop-entry
invariant-each_entry_goes_on-loop-entry l =
    (list_all (λ x. may_or_stays (stays l.outside) (form_of l.body.expr.now) (bind l.body.parameter.now (Some (key x)) l.env) (first_part x) l.action) (items_of (plain_entries l.entries)) ≡ list_all (λ x. may_or_stays (stays l.outside) (form_of l.body.expr.now) (bind l.body.parameter.now (Some (key x)) l.env) (first_part x) l.action) (items_of (plain_entries l.entry-iterator)))
    × Each (λ x. IsProper (form_of l.body.expr.now) (first_part x)) (items_of (plain_entries l.entry-iterator))

abbrev pub decreases-some_own_goes_on : goal.decreases-some_own_goes_on
decreases-some_own_goes_on l = 8 * count (form_of l.body.expr.now) + 3

abbrev pub invariant-some_own_goes_on-loop-value : goal.invariant-some_own_goes_on-loop-value
invariant-some_own_goes_on-loop-value l = list_any (λ v. may (form_of l.body.expr.now) (bind l.body.parameter.now (Some v) l.env) (tree_at v l.common (items_of (plain_entries l.entries))) l.action) l.action.values ≡ list_any (λ v. may (form_of l.body.expr.now) (bind l.body.parameter.now (Some v) l.env) (tree_at v l.common (items_of (plain_entries l.entries))) l.action) (drop l.value-index l.action.values)

abbrev pub decreases-each_own_goes_on : goal.decreases-each_own_goes_on
decreases-each_own_goes_on l = 8 * count (form_of l.body.expr.now) + 3

abbrev pub invariant-each_own_goes_on-loop-value : goal.invariant-each_own_goes_on-loop-value
invariant-each_own_goes_on-loop-value l = list_all (λ v. may_or_stays (stays l.outside) (form_of l.body.expr.now) (bind l.body.parameter.now (Some v) l.env) (tree_at v l.common (items_of (plain_entries l.entries))) l.action) l.action.values ≡ list_all (λ v. may_or_stays (stays l.outside) (form_of l.body.expr.now) (bind l.body.parameter.now (Some v) l.env) (tree_at v l.common (items_of (plain_entries l.entries))) l.action) (drop l.value-index l.action.values)

abbrev pub decreases-some_goes_on_for : goal.decreases-some_goes_on_for
decreases-some_goes_on_for l = 8 * count (form_of l.body.expr.now) + 4

abbrev pub decreases-each_goes_on_for : goal.decreases-each_goes_on_for
decreases-each_goes_on_for l = 8 * count (form_of l.body.expr.now) + 4

abbrev pub decreases-each_goes_on_or_stays : goal.decreases-each_goes_on_or_stays
decreases-each_goes_on_or_stays l = 8 * count (form_of l.body.expr.now) + 5

abbrev pub decreases-some_map_goes_on : goal.decreases-some_map_goes_on
decreases-some_map_goes_on l = 8 * count (form_of l.body.expr.now) + 5

abbrev pub invariant-some_map_goes_on-loop-map : goal.invariant-some_map_goes_on-loop-map
invariant-some_map_goes_on-loop-map l =
    list_any (λ m. list_any (λ v. may_own (form_of l.body.expr.now) l.body.parameter.now l.env l.action (items_of (first_part m)) v) l.action.values) (items_of (listed (map plain_map l.maps))) ≡ list_any (λ m. list_any (λ v. may_own (form_of l.body.expr.now) l.body.parameter.now l.env l.action (items_of (first_part m)) v) l.action.values) (items_of (listed (map plain_map (drop l.map-index l.maps))))

abbrev pub decreases-some_owner_goes_on : goal.decreases-some_owner_goes_on
decreases-some_owner_goes_on l = 8 * count (form_of l.body.expr.now) + 4

abbrev pub invariant-some_owner_goes_on-loop-value : goal.invariant-some_owner_goes_on-loop-value
invariant-some_owner_goes_on-loop-value l = list_any (may_own (form_of l.body.expr.now) l.body.parameter.now l.env l.action (items_of (plain_entries l.entries))) l.action.values ≡ list_any (may_own (form_of l.body.expr.now) l.body.parameter.now l.env l.action (items_of (plain_entries l.entries))) (drop l.value-index l.action.values)

abbrev pub decreases-owner_goes_on : goal.decreases-owner_goes_on
decreases-owner_goes_on l = 8 * count (form_of l.body.expr.now) + 3
