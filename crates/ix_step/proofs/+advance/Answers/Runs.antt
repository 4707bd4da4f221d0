-- The moved trees of `#y` and `times N y`.
use Rattle.std.proofs.Common.{◌<◌, sym, ap, ◌∙◌, subst, arith, map, length, flat_map, Some, None}
use Rattle.std.proofs.lemmas.List.{length-map}
use Rattle.ix_words.proofs.Each.{Each-members, Each-anything}
use Rattle.ix_expr.specs.inside.FormOf.{form_of}
use Rattle.ix_tree.specs.Plain.{listed, items_of, par_star as par_star_of}
use Rattle.ix_tree.specs.PlainOf.{plain_bag}
use Rattle.ix_tree.specs.Order.{first_part}
use Rattle.ix_tree.specs.Size.{size_of}
use Rattle.ix_tree.proofs.Alternatives.{weight_of-list}
use Rattle.ix_tree.proofs.PlainLists.{items_of-listed}
use Rattle.ix_can.specs.Nodes.{settled_times, set_of}
use Rattle.ix_words.proofs.Deciding.{any_from}
use Rattle.ix_step.specs.inside.Makes.{Makes}
use Rattle.ix_step.specs.inside.Moves.{begun_again}
use Rattle.ix_step.specs.inside.ParallelMoves.{bag_moves, has_room}
use Rattle.ix_step.specs.inside.Pruned.{pruned}
use Rattle.ix_step.proofs.Exits.{exit_over}
use Rattle.ix_step.proofs.Gathered.{size_all}
use Rattle.ix_step.proofs.Gathering.{first_over, made_set}
use Rattle.ix_step.proofs.LimitedBags.{some_bag, limited_over, limited_first_over}
use Rattle.ix_step.proofs.ParallelArms.{bags_ready, run_begins, times_ready, times_begins}
use Rattle.ix_step.proofs.Pruning.{no_items, some_items, list_over}
use Rattle.ix_step.proofs.+advance.Goals as goal

pub parallel::advance_par_star-returns-then-is_empty : goal.parallel::advance_par_star-returns-then-is_empty
parallel::advance_par_star-returns-then-is_empty t c =
    subst (λ bags. Makes c.args.step.limit (pruned (par_star_of (set_of (flat_map (bag_moves None (form_of c.args.y.now) c.args.step.env.now c.args.step.action.now) (items_of (listed (map plain_bag bags))))))) c.dead_knot.result)
    (sym (no_items c.args.bags.now (sym c.is_empty.ensures ∙ c.if-is_empty.true))) c.dead_knot.ensures

pub parallel::advance_par_star-advance_again-requires : goal.parallel::advance_par_star-advance_again-requires
parallel::advance_par_star-advance_again-requires t c =
    (omega arith, run_begins c.requires)

pub parallel::advance_par_star-advance_bags-requires : goal.parallel::advance_par_star-advance_bags-requires
parallel::advance_par_star-advance_bags-requires t c =
    (omega arith, (bags_ready (map plain_bag c.args.bags.now) c.requires, (Each-anything (λ b room. c.in_ok-first.ensures.0) (map plain_bag c.args.bags.now), omega (arith, ap size_of c.in_ok-first.ensures.0, c.in_ok-first.ensures.1, c.args.step.bounded))))

pub parallel::advance_par_star-returns-in_err-first : goal.parallel::advance_par_star-returns-in_err-first
parallel::advance_par_star-returns-in_err-first t c =
    let some : 0 < length (items_of (listed (map plain_bag c.args.bags.now))) = omega (arith, ap length (items_of-listed (map plain_bag c.args.bags.now)), length-map c.args.bags.now plain_bag, some_items c.args.bags.now (sym c.is_empty.ensures ∙ c.if-is_empty.false)) in
    exit_over _ c.from_residual.result _ c.from_residual.ensures.1 c.in_err-first.ensures (λ lt.
    let k = first_over None c.args.step.limit (form_of c.args.y.now) c.args.step.env.now c.args.step.action.now (items_of (listed (map plain_bag c.args.bags.now))) (some_bag (items_of (listed (map plain_bag c.args.bags.now))) some) c.args.step.positive lt in
    list_over c.args.step.limit (par_star_of (set_of (flat_map (bag_moves None (form_of c.args.y.now) c.args.step.env.now c.args.step.action.now) (items_of (listed (map plain_bag c.args.bags.now)))))) (set_of (flat_map (bag_moves None (form_of c.args.y.now) c.args.step.env.now c.args.step.action.now) (items_of (listed (map plain_bag c.args.bags.now))))) k (omega arith))

pub parallel::advance_par_star-returns-in_err-set : goal.parallel::advance_par_star-returns-in_err-set
parallel::advance_par_star-returns-in_err-set t c =
    let whole = made_set (bag_moves None (form_of c.args.y.now) c.args.step.env.now c.args.step.action.now) (map plain_bag c.args.bags.now) in
    exit_over _ c.from_residual-in_err-set.result _ c.from_residual-in_err-set.ensures.1 c.in_err-set.ensures (λ lt.
    list_over c.args.step.limit (par_star_of (set_of (flat_map (bag_moves None (form_of c.args.y.now) c.args.step.env.now c.args.step.action.now) (items_of (listed (map plain_bag c.args.bags.now)))))) (set_of (flat_map (bag_moves None (form_of c.args.y.now) c.args.step.env.now c.args.step.action.now) (items_of (listed (map plain_bag c.args.bags.now))))) (omega (arith, ap size_of whole)) (omega arith))

pub parallel::advance_par_star-sized_if_live-requires-clause-size : goal.parallel::advance_par_star-sized_if_live-requires-clause-size
parallel::advance_par_star-sized_if_live-requires-clause-size t c =
    omega (arith, weight_of-list plain_bag c.in_ok-set.set.items, ap (λ v. size_all (map plain_bag v)) c.into_items.ensures.items)

pub parallel::advance_par_star-returns : goal.parallel::advance_par_star-returns
parallel::advance_par_star-returns t c =
    subst (λ l. Makes c.args.step.limit (pruned (par_star_of l)) c.sized_if_live.result)
    (ap (λ v. listed (map plain_bag v)) c.into_items.ensures.items ∙ ap listed c.in_ok-set.ensures.0 ∙ made_set (bag_moves None (form_of c.args.y.now) c.args.step.env.now c.args.step.action.now) (map plain_bag c.args.bags.now)) c.sized_if_live.ensures

pub parallel::advance_times-invariant_of-wide : goal.parallel::advance_times-invariant_of-wide
parallel::advance_times-invariant_of-wide t c = record {
  positive = omega (arith, c.args.step.positive, c.larger.ensures.first);
  bounded = c.larger.ensures.bound 2000010 c.args.step.bounded (omega arith);
}

pub parallel::advance_times-advance_again-requires : goal.parallel::advance_times-advance_again-requires
parallel::advance_times-advance_again-requires t c =
    (omega arith, times_begins c.requires)

pub parallel::advance_times-advance_bags-requires : goal.parallel::advance_times-advance_bags-requires
parallel::advance_times-advance_bags-requires t c = (
  omega arith,
  (
    times_ready (map plain_bag c.args.bags.now) c.requires,
    (
      Each-members (map plain_bag c.args.bags.now) (λ b m room.
          c.in_ok-first.ensures.0
          ∙ ap (λ r. begun_again r (form_of c.args.y.now) c.args.step.env.now c.args.step.action.now)
          (c.some_room.ensures ∙ any_from (λ x. has_room (Some c.args.number) (items_of (first_part x))) (map plain_bag c.args.bags.now) m room)),
      omega (arith, ap size_of c.in_ok-first.ensures.0, c.in_ok-first.ensures.1),
    ),
  ),
)

pub parallel::advance_times-returns-in_err-first : goal.parallel::advance_times-returns-in_err-first
parallel::advance_times-returns-in_err-first t c =
    exit_over _ c.from_residual.result _ c.from_residual.ensures.1 c.in_err-first.ensures (λ lt.
    limited_first_over c.args.number (form_of c.args.y.now) c.args.step.env.now c.args.step.action.now (map plain_bag c.args.bags.now) c.args.step.limit c.larger.result
    c.larger.ensures.first (omega (arith, c.larger.ensures.second)) c.some_room.result c.some_room.ensures lt)

pub parallel::advance_times-returns-in_err-set : goal.parallel::advance_times-returns-in_err-set
parallel::advance_times-returns-in_err-set t c =
    exit_over _ c.from_residual-in_err-set.result _ c.from_residual-in_err-set.ensures.1 c.in_err-set.ensures (λ lt.
    limited_over c.args.number (form_of c.args.y.now) c.args.step.env.now c.args.step.action.now (map plain_bag c.args.bags.now) c.args.step.limit c.larger.result
    c.larger.ensures.first (omega (arith, c.larger.ensures.second)) lt)

pub parallel::advance_times-returns : goal.parallel::advance_times-returns
parallel::advance_times-returns t c =
    subst (λ l. Makes c.args.step.limit (pruned (settled_times c.args.number l)) c.full_or_within.result)
    (ap listed c.in_ok-set.ensures.0 ∙ made_set (bag_moves (Some c.args.number) (form_of c.args.y.now) c.args.step.env.now c.args.step.action.now) (map plain_bag c.args.bags.now)) c.full_or_within.ensures
