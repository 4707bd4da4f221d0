-- Measures and invariants of the functions behind `step`.
use Rattle.std.proofs.Common.{◌+◌, ◌*◌, ◌≡◌, ◌≤◌, [], map, length, take, drop, flat_map, ◌-◌}
use Rattle.ix_expr.specs.inside.FormOf.{form_of}
use Rattle.ix_values.specs.Order.{text_cmp}
use Rattle.ix_entries.specs.inside.Entries.{AreProperEntries}
use Rattle.ix_tree.specs.Plain.{listed}
use Rattle.ix_tree.specs.PlainOf.{plain_pair, plain_bag, plain_map, plain_entry, plain_entries}
use Rattle.ix_tree.specs.Size.{size_of}
use Rattle.ix_tree.specs.contracts.order.KnotPartialEq.TheImpl.{ghosts as tree_ghosts}
use Rattle.ix_can.specs.inside.Moved.{picks}
use Rattle.ix_step.specs.inside.EnterTrees.{HoldTrees}
use Rattle.ix_step.specs.inside.Makes.{put_all}
use Rattle.ix_step.specs.inside.MapsAfter.{maps_after, map_after}
use Rattle.ix_step.specs.inside.Moves.{open_move, some_ends}
use Rattle.ix_step.specs.inside.ParallelMoves.{pair_moves, bag_moves, pick_move}
use Rattle.ix_step.specs.inside.ValueTrees.{tree_after}
use Rattle.ix_step.specs.declared.bodies.Reach.TheVariants.{OwnAlphabet}
use Rattle.ix_step.proofs.Measure.{form_size}
use Rattle.ix_step.proofs.OwnEntries.{GivesAll}
use Rattle.ix_step.proofs.+advance.Given as goal

abbrev pub decreases-advance::advance : goal.decreases-advance::advance
decreases-advance::advance l = 8 * form_size (form_of l.expr.now) + 2

abbrev pub decreases-advance::advance_asked : goal.decreases-advance::advance_asked
decreases-advance::advance_asked l = 8 * form_size (form_of l.expr.now) + 1

abbrev pub decreases-advance::advance_node : goal.decreases-advance::advance_node
decreases-advance::advance_node l = 8 * form_size (form_of l.expr.now)

abbrev pub decreases-coupling::advance_couple : goal.decreases-coupling::advance_couple
decreases-coupling::advance_couple l = 8 * form_size (form_of l.y.now) + 8 * form_size (form_of l.z.now) + 4

abbrev pub decreases-coupling::advance_met : goal.decreases-coupling::advance_met
decreases-coupling::advance_met l = 8 * form_size (form_of l.expr.now) + 2

abbrev pub decreases-coupling::advance_side : goal.decreases-coupling::advance_side
decreases-coupling::advance_side l = 8 * form_size (form_of l.expr.now) + 3

abbrev pub decreases-advance::advance_opt : goal.decreases-advance::advance_opt
decreases-advance::advance_opt l = 8 * form_size (form_of l.y.now) + 7

abbrev pub decreases-advance::advance_or : goal.decreases-advance::advance_or
decreases-advance::advance_or l = 8 * form_size (form_of l.y.now) + 8 * form_size (form_of l.z.now) + 4

abbrev pub decreases-advance::advance_and : goal.decreases-advance::advance_and
decreases-advance::advance_and l = 8 * form_size (form_of l.y.now) + 8 * form_size (form_of l.z.now) + 4

abbrev pub decreases-advance::advance_seq : goal.decreases-advance::advance_seq
decreases-advance::advance_seq l = 8 * form_size (form_of l.y.now) + 8 * form_size (form_of l.z.now) + 4

abbrev pub decreases-advance::advance_star : goal.decreases-advance::advance_star
decreases-advance::advance_star l = 8 * form_size (form_of l.y.now) + 7

abbrev pub decreases-advance::advance_each : goal.decreases-advance::advance_each
decreases-advance::advance_each l = 8 * form_size (form_of l.expr.now) + 3

-- the set holds the open ones of what the trees so far give, within the limit, and the flag says whether one is done
abbrev pub invariant-advance::advance_each-loop-tree : goal.invariant-advance::advance_each-loop-tree
invariant-advance::advance_each-loop-tree l = record {
  items : l.set.items ≡ put_all (flat_map (open_move (form_of l.expr) l.step.env.now l.step.action.now) (take l.tree-index l.trees)) [];
  within : size_of (listed l.set.items) ≤ l.step.limit;
  budget : l.set.budget ≡ l.step.limit;
  ended : l.ended ≡ some_ends (form_of l.expr) l.step.env.now l.step.action.now (take l.tree-index l.trees);
}

abbrev pub decreases-beginning::advance_again : goal.decreases-beginning::advance_again
decreases-beginning::advance_again l = 8 * form_size (form_of l.expr.now) + 6

abbrev pub decreases-beginning::advance_first : goal.decreases-beginning::advance_first
decreases-beginning::advance_first l = 8 * form_size (form_of l.expr.now) + 5

abbrev pub decreases-beginning::advance_either : goal.decreases-beginning::advance_either
decreases-beginning::advance_either l = 8 * form_size (form_of l.y.now) + 8 * form_size (form_of l.z.now) + 6

abbrev pub decreases-beginning::advance_first_seq : goal.decreases-beginning::advance_first_seq
decreases-beginning::advance_first_seq l = 8 * form_size (form_of l.y.now) + 8 * form_size (form_of l.z.now) + 7

abbrev pub decreases-beginning::advance_first_any : goal.decreases-beginning::advance_first_any
decreases-beginning::advance_first_any l = 8 * form_size (form_of l.body.expr.now) + 8

abbrev pub decreases-beginning::advance_built : goal.decreases-beginning::advance_built
decreases-beginning::advance_built l = 8 * form_size (form_of l.expr.now) + 3

abbrev pub decreases-beginning::advance_whole : goal.decreases-beginning::advance_whole
decreases-beginning::advance_whole l = 8 * form_size (form_of l.expr.now) + 4

abbrev pub decreases-parallel::advance_par : goal.decreases-parallel::advance_par
decreases-parallel::advance_par l = 8 * form_size (form_of l.y.now) + 8 * form_size (form_of l.z.now) + 4

abbrev pub decreases-parallel::advance_pairs : goal.decreases-parallel::advance_pairs
decreases-parallel::advance_pairs l = 8 * form_size (form_of l.y.now) + 8 * form_size (form_of l.z.now) + 3

-- the set holds what the pairs so far give, within the limit
abbrev pub invariant-parallel::advance_pairs-loop-pair : goal.invariant-parallel::advance_pairs-loop-pair
invariant-parallel::advance_pairs-loop-pair l = record {
  items : map plain_pair l.set.items ≡ put_all (flat_map (pair_moves (form_of l.y) (form_of l.z) l.step.env.now l.step.action.now) (take l.pair-index (map plain_pair l.pairs))) [];
  within : size_of (listed (map plain_pair l.set.items)) ≤ l.step.limit;
  budget : l.set.budget ≡ l.step.limit;
}

abbrev pub decreases-parallel::advance_par_star : goal.decreases-parallel::advance_par_star
decreases-parallel::advance_par_star l = 8 * form_size (form_of l.y.now) + 7

abbrev pub decreases-parallel::advance_times : goal.decreases-parallel::advance_times
decreases-parallel::advance_times l = 8 * form_size (form_of l.y.now) + 7

abbrev pub decreases-parallel::advance_bags : goal.decreases-parallel::advance_bags
decreases-parallel::advance_bags l = 8 * form_size (form_of l.runs.expr.now) + 5

-- the set holds what the bags so far give, within the limit
abbrev pub invariant-parallel::advance_bags-loop-bag : goal.invariant-parallel::advance_bags-loop-bag
invariant-parallel::advance_bags-loop-bag l = record {
  items : map plain_bag l.set.items ≡ put_all (flat_map (bag_moves l.runs.wanted (form_of l.runs.expr.now) l.step.env.now l.step.action.now) (take l.bag-index (map plain_bag l.bags))) [];
  within : size_of (listed (map plain_bag l.set.items)) ≤ l.step.limit;
  budget : l.set.budget ≡ l.step.limit;
}

abbrev pub decreases-parallel::advance_picks : goal.decreases-parallel::advance_picks
decreases-parallel::advance_picks l = 8 * form_size (form_of l.runs.expr.now) + 4

-- the set holds the bags in which one of the trees so far is moved, within the limit
abbrev pub invariant-parallel::advance_picks-loop-place : goal.invariant-parallel::advance_picks-loop-place
invariant-parallel::advance_picks-loop-place l = record {
  items : map plain_bag l.set.items ≡ put_all (flat_map (pick_move l.runs.wanted (form_of l.runs.expr.now) l.step.env.now l.step.action.now) (take l.place (picks l.items))) (map plain_bag l.initial.set.items);
  within : size_of (listed (map plain_bag l.set.items)) ≤ l.step.limit;
  budget : l.set.budget ≡ l.step.limit;
  place : l.place ≤ length l.items;
}

abbrev pub decreases-parallel::advance_picks-loop-place : goal.decreases-parallel::advance_picks-loop-place
decreases-parallel::advance_picks-loop-place l = length l.items - l.place

abbrev pub decreases-parallel::advance_pick : goal.decreases-parallel::advance_pick
decreases-parallel::advance_pick l = 8 * form_size (form_of l.runs.expr.now) + 3

abbrev pub decreases-quantifiers::advance_values : goal.decreases-quantifiers::advance_values
decreases-quantifiers::advance_values l = 8 * form_size (form_of l.body.expr.now) + 6

abbrev pub decreases-quantifiers::advance_entries : goal.decreases-quantifiers::advance_entries
decreases-quantifiers::advance_entries l = 8 * form_size (form_of l.body.expr.now) + 5

abbrev pub invariant-quantifiers::advance_entries-loop-value : goal.invariant-quantifiers::advance_entries-loop-value
invariant-quantifiers::advance_entries-loop-value l = record {
  proper : AreProperEntries text_cmp tree_ghosts.eq l.next l.built.items;
  held : HoldTrees l.next (tree_after l.reach l.body.parameter.now (form_of l.body.expr.now) l.step.env.now l.step.action.now l.common (map plain_entry l.entries)) (take l.value-index l.value-items) l.built.items l.total;
  within : l.total ≤ l.step.limit;
}

abbrev pub decreases-quantifiers::advance_any : goal.decreases-quantifiers::advance_any
decreases-quantifiers::advance_any l = 8 * form_size (form_of l.body.expr.now) + 7

abbrev pub decreases-quantifiers::advance_every : goal.decreases-quantifiers::advance_every
decreases-quantifiers::advance_every l = 8 * form_size (form_of l.body.expr.now) + 7

abbrev pub decreases-quantifiers::advance_sync : goal.decreases-quantifiers::advance_sync
decreases-quantifiers::advance_sync l = 8 * form_size (form_of l.body.expr.now) + 7

abbrev pub decreases-quantifiers::advance_own : goal.decreases-quantifiers::advance_own
decreases-quantifiers::advance_own l = 8 * form_size (form_of l.body.expr.now) + 6

abbrev pub invariant-quantifiers::advance_own-loop-value : goal.invariant-quantifiers::advance_own-loop-value
invariant-quantifiers::advance_own-loop-value l = record {
  proper : AreProperEntries text_cmp tree_ghosts.eq l.common l.own;
  given : GivesAll l.common (tree_after OwnAlphabet l.body.parameter.now (form_of l.body.expr.now) l.step.env.now l.step.action.now l.common (map plain_entry l.entries)) (drop l.value-index l.later) l.own;
  small : size_of (plain_entries l.own) ≤ 1000000 + (l.value-index + 1) * 2000011;
}

abbrev pub decreases-quantifiers::advance_own_at : goal.decreases-quantifiers::advance_own_at
decreases-quantifiers::advance_own_at l = 8 * form_size (form_of l.body.expr.now) + 5

abbrev pub decreases-quantifiers::advance_at : goal.decreases-quantifiers::advance_at
decreases-quantifiers::advance_at l = 8 * form_size (form_of l.body.expr.now) + 4

abbrev pub decreases-maps::advance_all : goal.decreases-maps::advance_all
decreases-maps::advance_all l = 8 * form_size (form_of l.body.expr.now) + 6

abbrev pub decreases-maps::advance_maps : goal.decreases-maps::advance_maps
decreases-maps::advance_maps l = 8 * form_size (form_of l.body.expr.now) + 5

-- the set holds what the maps so far give, within the limit
abbrev pub invariant-maps::advance_maps-loop-state : goal.invariant-maps::advance_maps-loop-state
invariant-maps::advance_maps-loop-state l = record {
  items : map plain_map l.set.items ≡ put_all (flat_map (maps_after l.body.parameter.now (form_of l.body.expr.now) l.step.env.now l.step.action.now l.first l.step.action.now.values) (take l.state-index (map plain_map l.maps))) [];
  within : size_of (listed (map plain_map l.set.items)) ≤ l.step.limit;
  budget : l.set.budget ≡ l.step.limit;
}

abbrev pub decreases-maps::advance_owners : goal.decreases-maps::advance_owners
decreases-maps::advance_owners l = 8 * form_size (form_of l.body.expr.now) + 4

-- the set holds what the values so far give, within the limit
abbrev pub invariant-maps::advance_owners-loop-value : goal.invariant-maps::advance_owners-loop-value
invariant-maps::advance_owners-loop-value l = record {
  items : map plain_map l.set.items ≡ put_all (flat_map (map_after l.body.parameter.now (form_of l.body.expr.now) l.step.env.now l.step.action.now l.first (plain_map l.state)) (take l.value-index l.step.action.now.values)) (map plain_map l.initial.set.items);
  within : size_of (listed (map plain_map l.set.items)) ≤ l.step.limit;
  budget : l.set.budget ≡ l.step.limit;
}

abbrev pub decreases-maps::advance_owner : goal.decreases-maps::advance_owner
decreases-maps::advance_owner l = 8 * form_size (form_of l.body.expr.now) + 3
