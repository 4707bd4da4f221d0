-- The parts of a step: what each asks of the next, and what it makes. A goal is shown in the module that its answer names.
mod Operands
mod Sequences
mod Repetitions
mod Beginnings
mod Coupling
mod Maps
mod Pairs
mod Runs
mod Bags
mod Quantifiers
mod ValueStates
mod OwnStates
use Rattle.ix_step.proofs.+advance.Goals as goal

-- advance.rt

pub advance::advance-returns-then-is_ended : goal.advance::advance-returns-then-is_ended
advance::advance-returns-then-is_ended = Operands.advance::advance-returns-then-is_ended

pub advance::advance-advance_couple-requires : goal.advance::advance-advance_couple-requires
advance::advance-advance_couple-requires = Operands.advance::advance-advance_couple-requires

pub advance::advance-returns-then-not-passes : goal.advance::advance-returns-then-not-passes
advance::advance-returns-then-not-passes = Operands.advance::advance-returns-then-not-passes

pub advance::advance_asked-returns : goal.advance::advance_asked-returns
advance::advance_asked-returns = Operands.advance::advance_asked-returns

pub advance::advance_node-advance_opt-requires : goal.advance::advance_node-advance_opt-requires
advance::advance_node-advance_opt-requires = Operands.advance::advance_node-advance_opt-requires

pub advance::advance_node-advance_or-requires : goal.advance::advance_node-advance_or-requires
advance::advance_node-advance_or-requires = Operands.advance::advance_node-advance_or-requires

pub advance::advance_node-advance_and-requires : goal.advance::advance_node-advance_and-requires
advance::advance_node-advance_and-requires = Operands.advance::advance_node-advance_and-requires

pub advance::advance_node-advance_seq-requires : goal.advance::advance_node-advance_seq-requires
advance::advance_node-advance_seq-requires = Operands.advance::advance_node-advance_seq-requires

pub advance::advance_node-advance_couple-requires : goal.advance::advance_node-advance_couple-requires
advance::advance_node-advance_couple-requires = Operands.advance::advance_node-advance_couple-requires

pub advance::advance_node-advance_any-requires : goal.advance::advance_node-advance_any-requires
advance::advance_node-advance_any-requires = Operands.advance::advance_node-advance_any-requires

pub advance::advance_node-advance_every-requires : goal.advance::advance_node-advance_every-requires
advance::advance_node-advance_every-requires = Operands.advance::advance_node-advance_every-requires

pub advance::advance_node-advance_sync-requires : goal.advance::advance_node-advance_sync-requires
advance::advance_node-advance_sync-requires = Operands.advance::advance_node-advance_sync-requires

pub advance::advance_seq-advance-requires : goal.advance::advance_seq-advance-requires
advance::advance_seq-advance-requires = Sequences.advance::advance_seq-advance-requires

pub advance::advance_seq-advance_each-requires : goal.advance::advance_seq-advance_each-requires
advance::advance_seq-advance_each-requires = Sequences.advance::advance_seq-advance_each-requires

pub advance::advance_seq-returns-in_err-first : goal.advance::advance_seq-returns-in_err-first
advance::advance_seq-returns-in_err-first = Sequences.advance::advance_seq-returns-in_err-first

pub advance::advance_seq-returns-in_err-rest : goal.advance::advance_seq-returns-in_err-rest
advance::advance_seq-returns-in_err-rest = Sequences.advance::advance_seq-returns-in_err-rest

pub advance::advance_seq-sequence_of-requires-clause-first : goal.advance::advance_seq-sequence_of-requires-clause-first
advance::advance_seq-sequence_of-requires-clause-first = Sequences.advance::advance_seq-sequence_of-requires-clause-first

pub advance::advance_seq-returns : goal.advance::advance_seq-returns
advance::advance_seq-returns = Sequences.advance::advance_seq-returns

pub advance::advance_each-advance-requires : goal.advance::advance_each-advance-requires
advance::advance_each-advance-requires = Sequences.advance::advance_each-advance-requires

pub advance::advance_each-returns-in_err-tree : goal.advance::advance_each-returns-in_err-tree
advance::advance_each-returns-in_err-tree = Sequences.advance::advance_each-returns-in_err-tree

pub advance::advance_each-returns-in_err-put_open : goal.advance::advance_each-returns-in_err-put_open
advance::advance_each-returns-in_err-put_open = Sequences.advance::advance_each-returns-in_err-put_open

pub advance::advance_each-loop-tree-preserved : goal.advance::advance_each-loop-tree-preserved
advance::advance_each-loop-tree-preserved = Sequences.advance::advance_each-loop-tree-preserved

pub advance::advance_star-advance_again-requires : goal.advance::advance_star-advance_again-requires
advance::advance_star-advance_again-requires = Repetitions.advance::advance_star-advance_again-requires

pub advance::advance_star-advance_each-requires : goal.advance::advance_star-advance_each-requires
advance::advance_star-advance_each-requires = Repetitions.advance::advance_star-advance_each-requires

pub advance::advance_star-returns-in_err-begun : goal.advance::advance_star-returns-in_err-begun
advance::advance_star-returns-in_err-begun = Repetitions.advance::advance_star-returns-in_err-begun

pub advance::advance_star-returns-in_err-set : goal.advance::advance_star-returns-in_err-set
advance::advance_star-returns-in_err-set = Repetitions.advance::advance_star-returns-in_err-set

pub advance::advance_star-returns-in_err-put_open : goal.advance::advance_star-returns-in_err-put_open
advance::advance_star-returns-in_err-put_open = Repetitions.advance::advance_star-returns-in_err-put_open

pub advance::advance_star-sized_if_live-requires-clause-size : goal.advance::advance_star-sized_if_live-requires-clause-size
advance::advance_star-sized_if_live-requires-clause-size = Repetitions.advance::advance_star-sized_if_live-requires-clause-size

pub advance::advance_star-returns : goal.advance::advance_star-returns
advance::advance_star-returns = Repetitions.advance::advance_star-returns

-- beginning.rt

pub beginning::advance_again-returns : goal.beginning::advance_again-returns
beginning::advance_again-returns = Beginnings.beginning::advance_again-returns

pub beginning::advance_first-advance_either-requires : goal.beginning::advance_first-advance_either-requires
beginning::advance_first-advance_either-requires = Beginnings.beginning::advance_first-advance_either-requires

pub beginning::advance_first-returns-in-Or : goal.beginning::advance_first-returns-in-Or
beginning::advance_first-returns-in-Or = Beginnings.beginning::advance_first-returns-in-Or

pub beginning::advance_first_seq-advance_first-requires : goal.beginning::advance_first_seq-advance_first-requires
beginning::advance_first_seq-advance_first-requires = Beginnings.beginning::advance_first_seq-advance_first-requires

pub beginning::advance_first_seq-advance_again-requires : goal.beginning::advance_first_seq-advance_again-requires
beginning::advance_first_seq-advance_again-requires = Beginnings.beginning::advance_first_seq-advance_again-requires

pub beginning::advance_first_seq-returns-in_err-first : goal.beginning::advance_first_seq-returns-in_err-first
beginning::advance_first_seq-returns-in_err-first = Beginnings.beginning::advance_first_seq-returns-in_err-first

pub beginning::advance_first_seq-returns-in_err-second : goal.beginning::advance_first_seq-returns-in_err-second
beginning::advance_first_seq-returns-in_err-second = Beginnings.beginning::advance_first_seq-returns-in_err-second

pub beginning::advance_whole-returns-then-is_refused : goal.beginning::advance_whole-returns-then-is_refused
beginning::advance_whole-returns-then-is_refused = Beginnings.beginning::advance_whole-returns-then-is_refused

pub beginning::advance_whole-advance_first_seq-requires : goal.beginning::advance_whole-advance_first_seq-requires
beginning::advance_whole-advance_first_seq-requires = Beginnings.beginning::advance_whole-advance_first_seq-requires

pub beginning::advance_whole-returns-in-Seq : goal.beginning::advance_whole-returns-in-Seq
beginning::advance_whole-returns-in-Seq = Beginnings.beginning::advance_whole-returns-in-Seq

pub beginning::advance_first_any-first_tree-requires : goal.beginning::advance_first_any-first_tree-requires
beginning::advance_first_any-first_tree-requires = Beginnings.beginning::advance_first_any-first_tree-requires

pub beginning::advance_first_any-advance_any-requires : goal.beginning::advance_first_any-advance_any-requires
beginning::advance_first_any-advance_any-requires = Beginnings.beginning::advance_first_any-advance_any-requires

pub beginning::advance_first_any-returns : goal.beginning::advance_first_any-returns
beginning::advance_first_any-returns = Beginnings.beginning::advance_first_any-returns

pub beginning::advance_whole-advance_first_any-requires : goal.beginning::advance_whole-advance_first_any-requires
beginning::advance_whole-advance_first_any-requires = Beginnings.beginning::advance_whole-advance_first_any-requires

pub beginning::advance_whole-returns-in-Any : goal.beginning::advance_whole-returns-in-Any
beginning::advance_whole-returns-in-Any = Beginnings.beginning::advance_whole-returns-in-Any

pub beginning::advance_built-returns : goal.beginning::advance_built-returns
beginning::advance_built-returns = Beginnings.beginning::advance_built-returns

-- coupling.rt

pub coupling::advance_couple-returns-then-refuses : goal.coupling::advance_couple-returns-then-refuses
coupling::advance_couple-returns-then-refuses = Coupling.coupling::advance_couple-returns-then-refuses

pub coupling::advance_couple-returns-in_err-left : goal.coupling::advance_couple-returns-in_err-left
coupling::advance_couple-returns-in_err-left = Coupling.coupling::advance_couple-returns-in_err-left

pub coupling::advance_couple-returns-then-refuses-2 : goal.coupling::advance_couple-returns-then-refuses-2
coupling::advance_couple-returns-then-refuses-2 = Coupling.coupling::advance_couple-returns-then-refuses-2

pub coupling::advance_couple-returns-then-is_foreign : goal.coupling::advance_couple-returns-then-is_foreign
coupling::advance_couple-returns-then-is_foreign = Coupling.coupling::advance_couple-returns-then-is_foreign

pub coupling::advance_couple-returns-in_err-right : goal.coupling::advance_couple-returns-in_err-right
coupling::advance_couple-returns-in_err-right = Coupling.coupling::advance_couple-returns-in_err-right

pub coupling::advance_couple-advance_met-requires : goal.coupling::advance_couple-advance_met-requires
coupling::advance_couple-advance_met-requires = Coupling.coupling::advance_couple-advance_met-requires

pub coupling::advance_couple-returns : goal.coupling::advance_couple-returns
coupling::advance_couple-returns = Coupling.coupling::advance_couple-returns

pub coupling::advance_side-returns-then-not-contains : goal.coupling::advance_side-returns-then-not-contains
coupling::advance_side-returns-then-not-contains = Coupling.coupling::advance_side-returns-then-not-contains

pub coupling::advance_side-returns-then-is_outside : goal.coupling::advance_side-returns-then-is_outside
coupling::advance_side-returns-then-is_outside = Coupling.coupling::advance_side-returns-then-is_outside

pub coupling::advance_side-returns : goal.coupling::advance_side-returns
coupling::advance_side-returns = Coupling.coupling::advance_side-returns

-- maps.rt

pub maps::advance_all-first_tree-requires : goal.maps::advance_all-first_tree-requires
maps::advance_all-first_tree-requires = Maps.maps::advance_all-first_tree-requires

pub maps::advance_all-advance_maps-requires : goal.maps::advance_all-advance_maps-requires
maps::advance_all-advance_maps-requires = Maps.maps::advance_all-advance_maps-requires

pub maps::advance_all-returns-in_err-set : goal.maps::advance_all-returns-in_err-set
maps::advance_all-returns-in_err-set = Maps.maps::advance_all-returns-in_err-set

pub maps::advance_all-sized_if_live-requires-clause-size : goal.maps::advance_all-sized_if_live-requires-clause-size
maps::advance_all-sized_if_live-requires-clause-size = Maps.maps::advance_all-sized_if_live-requires-clause-size

pub maps::advance_all-returns : goal.maps::advance_all-returns
maps::advance_all-returns = Maps.maps::advance_all-returns

pub maps::advance_maps-advance_owners-requires : goal.maps::advance_maps-advance_owners-requires
maps::advance_maps-advance_owners-requires = Maps.maps::advance_maps-advance_owners-requires

pub maps::advance_maps-returns-in_err-advance_owners : goal.maps::advance_maps-returns-in_err-advance_owners
maps::advance_maps-returns-in_err-advance_owners = Maps.maps::advance_maps-returns-in_err-advance_owners

pub maps::advance_maps-loop-state-preserved : goal.maps::advance_maps-loop-state-preserved
maps::advance_maps-loop-state-preserved = Maps.maps::advance_maps-loop-state-preserved

pub maps::advance_owners-returns-in_err-tree-clause-gathers : goal.maps::advance_owners-returns-in_err-tree-clause-gathers
maps::advance_owners-returns-in_err-tree-clause-gathers = Maps.maps::advance_owners-returns-in_err-tree-clause-gathers

pub maps::advance_owners-returns-in_err-put_owner-clause-gathers : goal.maps::advance_owners-returns-in_err-put_owner-clause-gathers
maps::advance_owners-returns-in_err-put_owner-clause-gathers = Maps.maps::advance_owners-returns-in_err-put_owner-clause-gathers

pub maps::advance_owners-loop-value-preserved : goal.maps::advance_owners-loop-value-preserved
maps::advance_owners-loop-value-preserved = Maps.maps::advance_owners-loop-value-preserved

pub maps::advance_owner-or_first-requires : goal.maps::advance_owner-or_first-requires
maps::advance_owner-or_first-requires = Maps.maps::advance_owner-or_first-requires

pub maps::advance_owner-advance-requires : goal.maps::advance_owner-advance-requires
maps::advance_owner-advance-requires = Maps.maps::advance_owner-advance-requires

pub maps::advance_owner-returns-then-not-sees : goal.maps::advance_owner-returns-then-not-sees
maps::advance_owner-returns-then-not-sees = Maps.maps::advance_owner-returns-then-not-sees

pub maps::advance_owner-returns : goal.maps::advance_owner-returns
maps::advance_owner-returns = Maps.maps::advance_owner-returns

-- parallel.rt

pub parallel::advance_par-advance_pairs-requires : goal.parallel::advance_par-advance_pairs-requires
parallel::advance_par-advance_pairs-requires = Pairs.parallel::advance_par-advance_pairs-requires

pub parallel::advance_par-invariant_of-wide : goal.parallel::advance_par-invariant_of-wide
parallel::advance_par-invariant_of-wide = Pairs.parallel::advance_par-invariant_of-wide

pub parallel::advance_par-returns-in_err-set : goal.parallel::advance_par-returns-in_err-set
parallel::advance_par-returns-in_err-set = Pairs.parallel::advance_par-returns-in_err-set

pub parallel::advance_par-sized_if_live-requires-clause-size : goal.parallel::advance_par-sized_if_live-requires-clause-size
parallel::advance_par-sized_if_live-requires-clause-size = Pairs.parallel::advance_par-sized_if_live-requires-clause-size

pub parallel::advance_par-returns : goal.parallel::advance_par-returns
parallel::advance_par-returns = Pairs.parallel::advance_par-returns

pub parallel::advance_pairs-advance-requires : goal.parallel::advance_pairs-advance-requires
parallel::advance_pairs-advance-requires = Pairs.parallel::advance_pairs-advance-requires

pub parallel::advance_pairs-advance-requires-in-loop-pair : goal.parallel::advance_pairs-advance-requires-in-loop-pair
parallel::advance_pairs-advance-requires-in-loop-pair = Pairs.parallel::advance_pairs-advance-requires-in-loop-pair

pub parallel::advance_pairs-put_pairs-requires-clause-small : goal.parallel::advance_pairs-put_pairs-requires-clause-small
parallel::advance_pairs-put_pairs-requires-clause-small = Pairs.parallel::advance_pairs-put_pairs-requires-clause-small

pub parallel::advance_pairs-returns-in_err-left : goal.parallel::advance_pairs-returns-in_err-left
parallel::advance_pairs-returns-in_err-left = Pairs.parallel::advance_pairs-returns-in_err-left

pub parallel::advance_pairs-returns-in_err-right : goal.parallel::advance_pairs-returns-in_err-right
parallel::advance_pairs-returns-in_err-right = Pairs.parallel::advance_pairs-returns-in_err-right

pub parallel::advance_pairs-returns-in_err-put_pairs : goal.parallel::advance_pairs-returns-in_err-put_pairs
parallel::advance_pairs-returns-in_err-put_pairs = Pairs.parallel::advance_pairs-returns-in_err-put_pairs

pub parallel::advance_pairs-loop-pair-preserved : goal.parallel::advance_pairs-loop-pair-preserved
parallel::advance_pairs-loop-pair-preserved = Pairs.parallel::advance_pairs-loop-pair-preserved

pub parallel::advance_par_star-returns-then-is_empty : goal.parallel::advance_par_star-returns-then-is_empty
parallel::advance_par_star-returns-then-is_empty = Runs.parallel::advance_par_star-returns-then-is_empty

pub parallel::advance_par_star-advance_again-requires : goal.parallel::advance_par_star-advance_again-requires
parallel::advance_par_star-advance_again-requires = Runs.parallel::advance_par_star-advance_again-requires

pub parallel::advance_par_star-advance_bags-requires : goal.parallel::advance_par_star-advance_bags-requires
parallel::advance_par_star-advance_bags-requires = Runs.parallel::advance_par_star-advance_bags-requires

pub parallel::advance_par_star-returns-in_err-first : goal.parallel::advance_par_star-returns-in_err-first
parallel::advance_par_star-returns-in_err-first = Runs.parallel::advance_par_star-returns-in_err-first

pub parallel::advance_par_star-returns-in_err-set : goal.parallel::advance_par_star-returns-in_err-set
parallel::advance_par_star-returns-in_err-set = Runs.parallel::advance_par_star-returns-in_err-set

pub parallel::advance_par_star-sized_if_live-requires-clause-size : goal.parallel::advance_par_star-sized_if_live-requires-clause-size
parallel::advance_par_star-sized_if_live-requires-clause-size = Runs.parallel::advance_par_star-sized_if_live-requires-clause-size

pub parallel::advance_par_star-returns : goal.parallel::advance_par_star-returns
parallel::advance_par_star-returns = Runs.parallel::advance_par_star-returns

pub parallel::advance_times-invariant_of-wide : goal.parallel::advance_times-invariant_of-wide
parallel::advance_times-invariant_of-wide = Runs.parallel::advance_times-invariant_of-wide

pub parallel::advance_times-advance_again-requires : goal.parallel::advance_times-advance_again-requires
parallel::advance_times-advance_again-requires = Runs.parallel::advance_times-advance_again-requires

pub parallel::advance_times-advance_bags-requires : goal.parallel::advance_times-advance_bags-requires
parallel::advance_times-advance_bags-requires = Runs.parallel::advance_times-advance_bags-requires

pub parallel::advance_times-returns-in_err-first : goal.parallel::advance_times-returns-in_err-first
parallel::advance_times-returns-in_err-first = Runs.parallel::advance_times-returns-in_err-first

pub parallel::advance_times-returns-in_err-set : goal.parallel::advance_times-returns-in_err-set
parallel::advance_times-returns-in_err-set = Runs.parallel::advance_times-returns-in_err-set

pub parallel::advance_times-returns : goal.parallel::advance_times-returns
parallel::advance_times-returns = Runs.parallel::advance_times-returns

pub parallel::advance_bags-advance_picks-requires : goal.parallel::advance_bags-advance_picks-requires
parallel::advance_bags-advance_picks-requires = Bags.parallel::advance_bags-advance_picks-requires

pub parallel::advance_bags-returns-in_err-advance_picks : goal.parallel::advance_bags-returns-in_err-advance_picks
parallel::advance_bags-returns-in_err-advance_picks = Bags.parallel::advance_bags-returns-in_err-advance_picks

pub parallel::advance_bags-put_more-requires-clause-items : goal.parallel::advance_bags-put_more-requires-clause-items
parallel::advance_bags-put_more-requires-clause-items = Bags.parallel::advance_bags-put_more-requires-clause-items

pub parallel::advance_bags-put_more-requires-clause-rising : goal.parallel::advance_bags-put_more-requires-clause-rising
parallel::advance_bags-put_more-requires-clause-rising = Bags.parallel::advance_bags-put_more-requires-clause-rising

pub parallel::advance_bags-returns-in_err-put_more : goal.parallel::advance_bags-returns-in_err-put_more
parallel::advance_bags-returns-in_err-put_more = Bags.parallel::advance_bags-returns-in_err-put_more

pub parallel::advance_bags-loop-bag-preserved : goal.parallel::advance_bags-loop-bag-preserved
parallel::advance_bags-loop-bag-preserved = Bags.parallel::advance_bags-loop-bag-preserved

pub parallel::advance_picks-loop-place-init : goal.parallel::advance_picks-loop-place-init
parallel::advance_picks-loop-place-init = Bags.parallel::advance_picks-loop-place-init

pub parallel::advance_picks-advance_pick-requires : goal.parallel::advance_picks-advance_pick-requires
parallel::advance_picks-advance_pick-requires = Bags.parallel::advance_picks-advance_pick-requires

pub parallel::advance_picks-returns-in_err-advance_pick-clause-gathers : goal.parallel::advance_picks-returns-in_err-advance_pick-clause-gathers
parallel::advance_picks-returns-in_err-advance_pick-clause-gathers = Bags.parallel::advance_picks-returns-in_err-advance_pick-clause-gathers

pub parallel::advance_picks-loop-place-preserved : goal.parallel::advance_picks-loop-place-preserved
parallel::advance_picks-loop-place-preserved = Bags.parallel::advance_picks-loop-place-preserved

pub parallel::advance_picks-loop-place-smaller : goal.parallel::advance_picks-loop-place-smaller
parallel::advance_picks-loop-place-smaller = Bags.parallel::advance_picks-loop-place-smaller

pub parallel::advance_picks-returns-clause-gathers : goal.parallel::advance_picks-returns-clause-gathers
parallel::advance_picks-returns-clause-gathers = Bags.parallel::advance_picks-returns-clause-gathers

pub parallel::advance_picks-returns-clause-within : goal.parallel::advance_picks-returns-clause-within
parallel::advance_picks-returns-clause-within = Bags.parallel::advance_picks-returns-clause-within

pub parallel::advance_picks-returns-clause-budget : goal.parallel::advance_picks-returns-clause-budget
parallel::advance_picks-returns-clause-budget = Bags.parallel::advance_picks-returns-clause-budget

pub parallel::advance_pick-advance-requires : goal.parallel::advance_pick-advance-requires
parallel::advance_pick-advance-requires = Bags.parallel::advance_pick-advance-requires

pub parallel::advance_pick-returns-in_err-tree-clause-gathers : goal.parallel::advance_pick-returns-in_err-tree-clause-gathers
parallel::advance_pick-returns-in_err-tree-clause-gathers = Bags.parallel::advance_pick-returns-in_err-tree-clause-gathers

pub parallel::advance_pick-returns-clause-gathers : goal.parallel::advance_pick-returns-clause-gathers
parallel::advance_pick-returns-clause-gathers = Bags.parallel::advance_pick-returns-clause-gathers

-- quantifiers.rt

pub quantifiers::advance_any-invariant_of-wide : goal.quantifiers::advance_any-invariant_of-wide
quantifiers::advance_any-invariant_of-wide = Quantifiers.quantifiers::advance_any-invariant_of-wide

pub quantifiers::advance_any-advance_values-requires : goal.quantifiers::advance_any-advance_values-requires
quantifiers::advance_any-advance_values-requires = Quantifiers.quantifiers::advance_any-advance_values-requires

pub quantifiers::advance_any-returns-in_err-common : goal.quantifiers::advance_any-returns-in_err-common
quantifiers::advance_any-returns-in_err-common = Quantifiers.quantifiers::advance_any-returns-in_err-common

pub quantifiers::advance_any-returns : goal.quantifiers::advance_any-returns
quantifiers::advance_any-returns = Quantifiers.quantifiers::advance_any-returns

pub quantifiers::advance_every-advance_values-requires : goal.quantifiers::advance_every-advance_values-requires
quantifiers::advance_every-advance_values-requires = Quantifiers.quantifiers::advance_every-advance_values-requires

pub quantifiers::advance_every-returns-in_err-common : goal.quantifiers::advance_every-returns-in_err-common
quantifiers::advance_every-returns-in_err-common = Quantifiers.quantifiers::advance_every-returns-in_err-common

pub quantifiers::advance_every-returns : goal.quantifiers::advance_every-returns
quantifiers::advance_every-returns = Quantifiers.quantifiers::advance_every-returns

pub quantifiers::advance_sync-contains-requires : goal.quantifiers::advance_sync-contains-requires
quantifiers::advance_sync-contains-requires = Quantifiers.quantifiers::advance_sync-contains-requires

pub quantifiers::advance_sync-advance_values-requires : goal.quantifiers::advance_sync-advance_values-requires
quantifiers::advance_sync-advance_values-requires = Quantifiers.quantifiers::advance_sync-advance_values-requires

pub quantifiers::advance_sync-advance_own-requires : goal.quantifiers::advance_sync-advance_own-requires
quantifiers::advance_sync-advance_own-requires = Quantifiers.quantifiers::advance_sync-advance_own-requires

pub quantifiers::advance_sync-returns-in_err-common : goal.quantifiers::advance_sync-returns-in_err-common
quantifiers::advance_sync-returns-in_err-common = Quantifiers.quantifiers::advance_sync-returns-in_err-common

pub quantifiers::advance_sync-returns : goal.quantifiers::advance_sync-returns
quantifiers::advance_sync-returns = Quantifiers.quantifiers::advance_sync-returns

pub quantifiers::advance_sync-returns-in_err-entries : goal.quantifiers::advance_sync-returns-in_err-entries
quantifiers::advance_sync-returns-in_err-entries = Quantifiers.quantifiers::advance_sync-returns-in_err-entries

pub quantifiers::advance_values-advance_at-requires : goal.quantifiers::advance_values-advance_at-requires
quantifiers::advance_values-advance_at-requires = ValueStates.quantifiers::advance_values-advance_at-requires

pub quantifiers::advance_entries-loop-value-init : goal.quantifiers::advance_entries-loop-value-init
quantifiers::advance_entries-loop-value-init = ValueStates.quantifiers::advance_entries-loop-value-init

pub quantifiers::advance_entries-state_at-state-requires : goal.quantifiers::advance_entries-state_at-state-requires
quantifiers::advance_entries-state_at-state-requires = ValueStates.quantifiers::advance_entries-state_at-state-requires

pub quantifiers::advance_entries-advance_at-requires : goal.quantifiers::advance_entries-advance_at-requires
quantifiers::advance_entries-advance_at-requires = ValueStates.quantifiers::advance_entries-advance_at-requires

pub quantifiers::advance_entries-returns-in_err-tree : goal.quantifiers::advance_entries-returns-in_err-tree
quantifiers::advance_entries-returns-in_err-tree = ValueStates.quantifiers::advance_entries-returns-in_err-tree

pub quantifiers::advance_entries-put_tree-requires-clause-proper : goal.quantifiers::advance_entries-put_tree-requires-clause-proper
quantifiers::advance_entries-put_tree-requires-clause-proper = ValueStates.quantifiers::advance_entries-put_tree-requires-clause-proper

pub quantifiers::advance_entries-put_tree-requires-clause-within : goal.quantifiers::advance_entries-put_tree-requires-clause-within
quantifiers::advance_entries-put_tree-requires-clause-within = ValueStates.quantifiers::advance_entries-put_tree-requires-clause-within

pub quantifiers::advance_entries-returns-in_err-total : goal.quantifiers::advance_entries-returns-in_err-total
quantifiers::advance_entries-returns-in_err-total = ValueStates.quantifiers::advance_entries-returns-in_err-total

pub quantifiers::advance_entries-loop-value-preserved : goal.quantifiers::advance_entries-loop-value-preserved
quantifiers::advance_entries-loop-value-preserved = ValueStates.quantifiers::advance_entries-loop-value-preserved

pub quantifiers::advance_entries-returns : goal.quantifiers::advance_entries-returns
quantifiers::advance_entries-returns = ValueStates.quantifiers::advance_entries-returns

pub quantifiers::advance_at-advance-requires : goal.quantifiers::advance_at-advance-requires
quantifiers::advance_at-advance-requires = ValueStates.quantifiers::advance_at-advance-requires

pub quantifiers::advance_at-advance_asked-requires : goal.quantifiers::advance_at-advance_asked-requires
quantifiers::advance_at-advance_asked-requires = ValueStates.quantifiers::advance_at-advance_asked-requires

pub quantifiers::advance_at-advance_side-requires : goal.quantifiers::advance_at-advance_side-requires
quantifiers::advance_at-advance_side-requires = ValueStates.quantifiers::advance_at-advance_side-requires

pub quantifiers::advance_at-returns-in_err-advance_side-in-OwnAlphabet : goal.quantifiers::advance_at-returns-in_err-advance_side-in-OwnAlphabet
quantifiers::advance_at-returns-in_err-advance_side-in-OwnAlphabet = ValueStates.quantifiers::advance_at-returns-in_err-advance_side-in-OwnAlphabet

pub quantifiers::advance_at-returns-then-is_ended : goal.quantifiers::advance_at-returns-then-is_ended
quantifiers::advance_at-returns-then-is_ended = ValueStates.quantifiers::advance_at-returns-then-is_ended

pub quantifiers::advance_own-returns-in_ok-share-in-empty : goal.quantifiers::advance_own-returns-in_ok-share-in-empty
quantifiers::advance_own-returns-in_ok-share-in-empty = OwnStates.quantifiers::advance_own-returns-in_ok-share-in-empty

pub quantifiers::advance_own-advance_own_at-requires : goal.quantifiers::advance_own-advance_own_at-requires
quantifiers::advance_own-advance_own_at-requires = OwnStates.quantifiers::advance_own-advance_own_at-requires

pub quantifiers::advance_own-with-requires : goal.quantifiers::advance_own-with-requires
quantifiers::advance_own-with-requires = OwnStates.quantifiers::advance_own-with-requires

pub quantifiers::advance_own-loop-value-init : goal.quantifiers::advance_own-loop-value-init
quantifiers::advance_own-loop-value-init = OwnStates.quantifiers::advance_own-loop-value-init

pub quantifiers::advance_own-advance_own_at-requires-in-loop-value : goal.quantifiers::advance_own-advance_own_at-requires-in-loop-value
quantifiers::advance_own-advance_own_at-requires-in-loop-value = OwnStates.quantifiers::advance_own-advance_own_at-requires-in-loop-value

pub quantifiers::advance_own-with-requires-in-loop-value : goal.quantifiers::advance_own-with-requires-in-loop-value
quantifiers::advance_own-with-requires-in-loop-value = OwnStates.quantifiers::advance_own-with-requires-in-loop-value

pub quantifiers::advance_own-loop-value-preserved : goal.quantifiers::advance_own-loop-value-preserved
quantifiers::advance_own-loop-value-preserved = OwnStates.quantifiers::advance_own-loop-value-preserved

pub quantifiers::advance_own-returns-after-loop-value : goal.quantifiers::advance_own-returns-after-loop-value
quantifiers::advance_own-returns-after-loop-value = OwnStates.quantifiers::advance_own-returns-after-loop-value

pub quantifiers::advance_own_at-state_at-state-requires : goal.quantifiers::advance_own_at-state_at-state-requires
quantifiers::advance_own_at-state_at-state-requires = OwnStates.quantifiers::advance_own_at-state_at-state-requires

pub quantifiers::advance_own_at-advance_at-requires : goal.quantifiers::advance_own_at-advance_at-requires
quantifiers::advance_own_at-advance_at-requires = OwnStates.quantifiers::advance_own_at-advance_at-requires

pub quantifiers::advance_own_at-returns : goal.quantifiers::advance_own_at-returns
quantifiers::advance_own_at-returns = OwnStates.quantifiers::advance_own_at-returns
