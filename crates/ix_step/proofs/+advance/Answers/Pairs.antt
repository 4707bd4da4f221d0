-- The moved tree of `y + z`: each pair with one side moved.
use Rattle.std.proofs.Common.{◌≤◌, ap, ◌∙◌, subst, arith, [], map, flat_map}
use Rattle.std.proofs.lemmas.List.{length-map}
use Rattle.ix_words.specs.Canon.{canon}
use Rattle.ix_expr.specs.inside.FormOf.{form_of}
use Rattle.ix_tree.specs.Plain.{listed, items_of, par as par_of}
use Rattle.ix_tree.specs.PlainOf.{plain_pair}
use Rattle.ix_tree.specs.Order.{tree_cmp}
use Rattle.ix_tree.specs.Size.{size_of}
use Rattle.ix_tree.proofs.Alternatives.{weight_of-list}
use Rattle.ix_can.specs.inside.Moved.{moved}
use Rattle.ix_step.specs.inside.Makes.{Makes, put_all}
use Rattle.ix_step.specs.inside.ParallelMoves.{pairs_moved, pair_moves, IsReadyPair}
use Rattle.ix_step.specs.inside.Pruned.{pruned}
use Rattle.ix_step.proofs.Exits.{exit_over}
use Rattle.ix_step.proofs.Gathered.{size_all}
use Rattle.ix_step.proofs.Gathering.{each_at, image_at, lot_over, lots_more, left_over, right_over, made_set}
use Rattle.ix_step.proofs.Overs.{par_over}
use Rattle.ix_step.proofs.ParallelArms.{pairs_ready, pairs_small}
use Rattle.ix_step.proofs.+advance.Goals as goal

pub parallel::advance_par-advance_pairs-requires : goal.parallel::advance_par-advance_pairs-requires
parallel::advance_par-advance_pairs-requires t c =
    (omega arith, (pairs_ready (map plain_pair c.args.pairs.now) c.requires, pairs_small (map plain_pair c.args.pairs.now) c.requires))

pub parallel::advance_par-invariant_of-wide : goal.parallel::advance_par-invariant_of-wide
parallel::advance_par-invariant_of-wide t c = record {
  positive = omega (arith, c.larger.ensures.second);
  bounded = c.larger.ensures.bound 2000010 c.args.step.bounded (omega arith);
}

pub parallel::advance_par-returns-in_err-set : goal.parallel::advance_par-returns-in_err-set
parallel::advance_par-returns-in_err-set t c =
    let moves = flat_map (pair_moves (form_of c.args.y.now) (form_of c.args.z.now) c.args.step.env.now c.args.step.action.now) (items_of (listed (map plain_pair c.args.pairs.now))) in
    let whole = made_set (pair_moves (form_of c.args.y.now) (form_of c.args.z.now) c.args.step.env.now c.args.step.action.now) (map plain_pair c.args.pairs.now) in
    exit_over _ c.from_residual.result _ c.from_residual.ensures.1 c.in_err-set.ensures (λ lt.
    par_over c.args.step.limit c.larger.result (canon tree_cmp moves) (omega (arith, c.larger.ensures.second)) c.larger.ensures.first (omega (arith, lt, ap size_of whole)))

pub parallel::advance_par-sized_if_live-requires-clause-size : goal.parallel::advance_par-sized_if_live-requires-clause-size
parallel::advance_par-sized_if_live-requires-clause-size t c =
    omega (arith, weight_of-list plain_pair c.in_ok-set.set.items, ap (λ v. size_all (map plain_pair v)) c.into_items.ensures.items)

pub parallel::advance_par-returns : goal.parallel::advance_par-returns
parallel::advance_par-returns t c =
    subst (λ l. Makes c.args.step.limit (pruned (par_of l)) c.sized_if_live.result)
    (ap (λ v. listed (map plain_pair v)) c.into_items.ensures.items ∙ ap listed c.in_ok-set.ensures.0 ∙ made_set (pair_moves (form_of c.args.y.now) (form_of c.args.z.now) c.args.step.env.now c.args.step.action.now) (map plain_pair c.args.pairs.now)) c.sized_if_live.ensures

pub parallel::advance_pairs-advance-requires : goal.parallel::advance_pairs-advance-requires
parallel::advance_pairs-advance-requires t c =
    (omega arith, (each_at {G = IsReadyPair (form_of c.args.y.now) (form_of c.args.z.now) c.args.step.env.now} (map plain_pair c.args.pairs.now) c.loop-pair.pair-index (plain_pair c.pair-item.result) (omega (arith, length-map c.args.pairs.now plain_pair, c.loop-pair-test.true)) (image_at plain_pair c.args.pairs.now c.loop-pair.pair-index c.pair-item.result c.pair-item.is) c.requires.ready).0)

pub parallel::advance_pairs-advance-requires-in-loop-pair : goal.parallel::advance_pairs-advance-requires-in-loop-pair
parallel::advance_pairs-advance-requires-in-loop-pair t c =
    (omega arith, (each_at {G = IsReadyPair (form_of c.args.y.now) (form_of c.args.z.now) c.args.step.env.now} (map plain_pair c.args.pairs.now) c.loop-pair.pair-index (plain_pair c.pair-item.result) (omega (arith, length-map c.args.pairs.now plain_pair, c.loop-pair-test.true)) (image_at plain_pair c.args.pairs.now c.loop-pair.pair-index c.pair-item.result c.pair-item.is) c.requires.ready).1)

pub parallel::advance_pairs-put_pairs-requires-clause-small : goal.parallel::advance_pairs-put_pairs-requires-clause-small
parallel::advance_pairs-put_pairs-requires-clause-small t c =
    each_at {G = λ p. size_of p ≤ 1000000} (map plain_pair c.args.pairs.now) c.loop-pair.pair-index (plain_pair c.pair-item.result) (omega (arith, length-map c.args.pairs.now plain_pair, c.loop-pair-test.true)) (image_at plain_pair c.args.pairs.now c.loop-pair.pair-index c.pair-item.result c.pair-item.is) c.requires.small

pub parallel::advance_pairs-returns-in_err-left : goal.parallel::advance_pairs-returns-in_err-left
parallel::advance_pairs-returns-in_err-left t c =
    exit_over _ c.from_residual.result _ c.from_residual.ensures.1 c.in_err-left.ensures (λ lt.
    lot_over (pair_moves (form_of c.args.y.now) (form_of c.args.z.now) c.args.step.env.now c.args.step.action.now) c.args.step.limit (map plain_pair c.args.pairs.now) c.loop-pair.pair-index (plain_pair c.pair-item.result) [] (map plain_pair c.loop-pair.set.items) (omega (arith, length-map c.args.pairs.now plain_pair, c.loop-pair-test.true)) (image_at plain_pair c.args.pairs.now c.loop-pair.pair-index c.pair-item.result c.pair-item.is) c.loop-pair.invariant.items
    (left_over c.args.step.limit c.pair-item.result.first c.pair-item.result.second (moved (form_of c.args.y.now) c.args.step.env.now c.pair-item.result.first c.args.step.action.now) (moved (form_of c.args.z.now) c.args.step.env.now c.pair-item.result.second c.args.step.action.now) (map plain_pair c.loop-pair.set.items) c.args.step.positive lt))

pub parallel::advance_pairs-returns-in_err-right : goal.parallel::advance_pairs-returns-in_err-right
parallel::advance_pairs-returns-in_err-right t c =
    exit_over _ c.from_residual-in_err-right.result _ c.from_residual-in_err-right.ensures.1 c.in_err-right.ensures (λ lt.
    lot_over (pair_moves (form_of c.args.y.now) (form_of c.args.z.now) c.args.step.env.now c.args.step.action.now) c.args.step.limit (map plain_pair c.args.pairs.now) c.loop-pair.pair-index (plain_pair c.pair-item.result) [] (map plain_pair c.loop-pair.set.items) (omega (arith, length-map c.args.pairs.now plain_pair, c.loop-pair-test.true)) (image_at plain_pair c.args.pairs.now c.loop-pair.pair-index c.pair-item.result c.pair-item.is) c.loop-pair.invariant.items
    (right_over c.args.step.limit c.pair-item.result.first c.pair-item.result.second (moved (form_of c.args.y.now) c.args.step.env.now c.pair-item.result.first c.args.step.action.now) (moved (form_of c.args.z.now) c.args.step.env.now c.pair-item.result.second c.args.step.action.now) (map plain_pair c.loop-pair.set.items) c.args.step.positive lt))

pub parallel::advance_pairs-returns-in_err-put_pairs : goal.parallel::advance_pairs-returns-in_err-put_pairs
parallel::advance_pairs-returns-in_err-put_pairs t c =
    let same = ap (λ l. size_all (put_all l (map plain_pair c.loop-pair.set.items))) (ap (λ x. pairs_moved c.pair-item.result.first c.pair-item.result.second x c.in_ok-right.right) c.in_ok-left.ensures.0 ∙ ap (λ x. pairs_moved c.pair-item.result.first c.pair-item.result.second (moved (form_of c.args.y.now) c.args.step.env.now c.pair-item.result.first c.args.step.action.now) x) c.in_ok-right.ensures.0) in
    exit_over _ c.from_residual-in_err-put_pairs.result _ c.from_residual-in_err-put_pairs.ensures.1 c.in_err-put_pairs.ensures.gathers (λ lt.
    lot_over (pair_moves (form_of c.args.y.now) (form_of c.args.z.now) c.args.step.env.now c.args.step.action.now) c.args.step.limit (map plain_pair c.args.pairs.now) c.loop-pair.pair-index (plain_pair c.pair-item.result) [] (map plain_pair c.loop-pair.set.items) (omega (arith, length-map c.args.pairs.now plain_pair, c.loop-pair-test.true)) (image_at plain_pair c.args.pairs.now c.loop-pair.pair-index c.pair-item.result c.pair-item.is) c.loop-pair.invariant.items
    (omega (arith, same, lt, c.loop-pair.invariant.budget)))

pub parallel::advance_pairs-loop-pair-preserved : goal.parallel::advance_pairs-loop-pair-preserved
parallel::advance_pairs-loop-pair-preserved t c =
    record {
      items = lots_more (pair_moves (form_of c.args.y.now) (form_of c.args.z.now) c.args.step.env.now c.args.step.action.now) (map plain_pair c.args.pairs.now) c.loop-pair.pair-index (plain_pair c.pair-item.result) [] (map plain_pair c.loop-pair.set.items) (map plain_pair c.put_pairs.new.set.items) (omega (arith, length-map c.args.pairs.now plain_pair, c.loop-pair-test.true)) (image_at plain_pair c.args.pairs.now c.loop-pair.pair-index c.pair-item.result c.pair-item.is) c.loop-pair.invariant.items
          (c.in_ok-put_pairs.ensures.gathers ∙ ap (λ l. put_all l (map plain_pair c.loop-pair.set.items)) (ap (λ x. pairs_moved c.pair-item.result.first c.pair-item.result.second x c.in_ok-right.right) c.in_ok-left.ensures.0 ∙ ap (λ x. pairs_moved c.pair-item.result.first c.pair-item.result.second (moved (form_of c.args.y.now) c.args.step.env.now c.pair-item.result.first c.args.step.action.now) x) c.in_ok-right.ensures.0));
      within = omega (arith, c.put_pairs.ensures.within, c.loop-pair.invariant.budget);
      budget = c.put_pairs.ensures.budget ∙ c.loop-pair.invariant.budget;
    }
