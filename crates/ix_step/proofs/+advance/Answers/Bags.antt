-- The moved bags: each with one of its trees moved, and where there is room with a run more.
use Rattle.std.proofs.Common.{◌+◌, ◌-◌, ◌<◌, ◌≡◌, true, refl, sym, ap, ◌∙◌, subst, arith, [], map, length, flat_map, take, get_or}
use Rattle.std.specs.List.{remove}
use Rattle.std.proofs.lemmas.List.{length-map}
use Rattle.ix_words.specs.Each.{Each}
use Rattle.ix_expr.specs.inside.FormOf.{form_of}
use Rattle.ix_tree.specs.Plain.{listed, items_of}
use Rattle.ix_tree.specs.PlainOf.{plain_bag}
use Rattle.ix_tree.specs.Order.{first_part}
use Rattle.ix_tree.specs.Size.{size_of}
use Rattle.ix_tree.proofs.PlainLists.{items_of-listed}
use Rattle.ix_can.specs.Laws.{IsRising}
use Rattle.ix_can.specs.inside.Moved.{moved, picks}
use Rattle.ix_step.specs.inside.Makes.{Gathers, put_all}
use Rattle.ix_step.specs.inside.Moves.{begun}
use Rattle.ix_step.specs.inside.ParallelMoves.{pick_move, bag_moves, runs_with, has_room, IsReadyBag}
use Rattle.ix_step.specs.inside.Ready.{Ready}
use Rattle.ix_step.proofs.BagsPut.{length-picks, get-picks}
use Rattle.ix_step.proofs.Exits.{exit_over}
use Rattle.ix_step.proofs.Gathered.{size_all}
use Rattle.ix_step.proofs.Gathering.{each_at, image_at, lot_over, lots_more, lots_end, bag_over, picks_size, bag_put}
use Rattle.ix_step.proofs.Repeats.{run_adds_none}
use Rattle.ix_step.proofs.+advance.Goals as goal

pub parallel::advance_bags-advance_picks-requires : goal.parallel::advance_bags-advance_picks-requires
parallel::advance_bags-advance_picks-requires t c =
    let ready = each_at {G = IsReadyBag (form_of c.args.runs.expr.now) c.args.step.env.now} (map plain_bag c.args.bags.now) c.loop-bag.bag-index (plain_bag c.bag-item.result) (omega (arith, length-map c.args.bags.now plain_bag, c.loop-bag-test.true)) (image_at plain_bag c.args.bags.now c.loop-bag.bag-index c.bag-item.result c.bag-item.is) c.requires.ready in (
      omega arith,
      (
        subst (Each (Ready (form_of c.args.runs.expr.now) c.args.step.env.now)) (items_of-listed c.bag-item.result.items.items ∙ sym c.deref.ensures.value) ready.0,
        (
          subst IsRising (items_of-listed c.bag-item.result.items.items ∙ sym c.deref.ensures.value) ready.2,
          (omega (arith, ap (λ l. size_of (listed l)) c.deref.ensures.value, ready.1), (c.loop-bag.invariant.budget, c.loop-bag.invariant.within)),
        ),
      ),
    )

pub parallel::advance_bags-returns-in_err-advance_picks : goal.parallel::advance_bags-returns-in_err-advance_picks
parallel::advance_bags-returns-in_err-advance_picks t c =
    let k = picks_size c.args.runs.wanted (form_of c.args.runs.expr.now) c.args.step.env.now c.args.step.action.now c.bag-item.result.items.items c.deref.result.now c.deref.ensures.value (map plain_bag c.loop-bag.set.items) in
    exit_over _ c.from_residual.result _ c.from_residual.ensures.1 c.in_err-advance_picks.ensures.gathers (λ lt.
    lot_over (bag_moves c.args.runs.wanted (form_of c.args.runs.expr.now) c.args.step.env.now c.args.step.action.now) c.args.step.limit (map plain_bag c.args.bags.now) c.loop-bag.bag-index (plain_bag c.bag-item.result) [] (map plain_bag c.loop-bag.set.items) (omega (arith, length-map c.args.bags.now plain_bag, c.loop-bag-test.true)) (image_at plain_bag c.args.bags.now c.loop-bag.bag-index c.bag-item.result c.bag-item.is) c.loop-bag.invariant.items (omega (arith, k, lt)))

pub parallel::advance_bags-put_more-requires-clause-items : goal.parallel::advance_bags-put_more-requires-clause-items
parallel::advance_bags-put_more-requires-clause-items t c =
    let ready = each_at {G = IsReadyBag (form_of c.args.runs.expr.now) c.args.step.env.now} (map plain_bag c.args.bags.now) c.loop-bag.bag-index (plain_bag c.bag-item.result) (omega (arith, length-map c.args.bags.now plain_bag, c.loop-bag-test.true)) (image_at plain_bag c.args.bags.now c.loop-bag.bag-index c.bag-item.result c.bag-item.is) c.requires.ready in
    omega (arith, ap (λ l. size_of (listed l)) c.deref-in-loop-bag.ensures.value, ready.1)

pub parallel::advance_bags-put_more-requires-clause-rising : goal.parallel::advance_bags-put_more-requires-clause-rising
parallel::advance_bags-put_more-requires-clause-rising t c =
    let ready = each_at {G = IsReadyBag (form_of c.args.runs.expr.now) c.args.step.env.now} (map plain_bag c.args.bags.now) c.loop-bag.bag-index (plain_bag c.bag-item.result) (omega (arith, length-map c.args.bags.now plain_bag, c.loop-bag-test.true)) (image_at plain_bag c.args.bags.now c.loop-bag.bag-index c.bag-item.result c.bag-item.is) c.requires.ready in
    subst IsRising (items_of-listed c.bag-item.result.items.items ∙ sym c.deref-in-loop-bag.ensures.value) ready.2

pub parallel::advance_bags-returns-in_err-put_more : goal.parallel::advance_bags-returns-in_err-put_more
parallel::advance_bags-returns-in_err-put_more t c =
    let put = bag_put c.args.runs.wanted (form_of c.args.runs.expr.now) c.args.step.env.now c.args.step.action.now c.bag-item.result.items.items c.deref.result.now c.deref.ensures.value (map plain_bag c.loop-bag.set.items) c.deref-in-loop-bag.result.now (map plain_bag c.advance_picks.new.set.items) c.args.first.now
    c.deref-in-loop-bag.ensures.value (each_at {G = λ x. has_room c.args.runs.wanted (items_of (first_part x)) ≡ true → c.args.first.now ≡ begun (form_of c.args.runs.expr.now) c.args.step.env.now c.args.step.action.now} (map plain_bag c.args.bags.now) c.loop-bag.bag-index (plain_bag c.bag-item.result) (omega (arith, length-map c.args.bags.now plain_bag, c.loop-bag-test.true)) (image_at plain_bag c.args.bags.now c.loop-bag.bag-index c.bag-item.result c.bag-item.is) c.requires.first) c.in_ok-advance_picks.ensures.gathers in
    exit_over _ c.from_residual-in_err-put_more.result _ c.from_residual-in_err-put_more.ensures.1 c.in_err-put_more.ensures.gathers (λ lt.
    lot_over (bag_moves c.args.runs.wanted (form_of c.args.runs.expr.now) c.args.step.env.now c.args.step.action.now) c.args.step.limit (map plain_bag c.args.bags.now) c.loop-bag.bag-index (plain_bag c.bag-item.result) [] (map plain_bag c.loop-bag.set.items) (omega (arith, length-map c.args.bags.now plain_bag, c.loop-bag-test.true)) (image_at plain_bag c.args.bags.now c.loop-bag.bag-index c.bag-item.result c.bag-item.is) c.loop-bag.invariant.items
    (omega (arith, ap size_all put, lt, c.advance_picks.ensures.budget)))

pub parallel::advance_bags-loop-bag-preserved : goal.parallel::advance_bags-loop-bag-preserved
parallel::advance_bags-loop-bag-preserved t c =
    record {
      items = lots_more (bag_moves c.args.runs.wanted (form_of c.args.runs.expr.now) c.args.step.env.now c.args.step.action.now) (map plain_bag c.args.bags.now) c.loop-bag.bag-index (plain_bag c.bag-item.result) [] (map plain_bag c.loop-bag.set.items) (map plain_bag c.put_more.new.set.items) (omega (arith, length-map c.args.bags.now plain_bag, c.loop-bag-test.true)) (image_at plain_bag c.args.bags.now c.loop-bag.bag-index c.bag-item.result c.bag-item.is) c.loop-bag.invariant.items
          (c.in_ok-put_more.ensures.gathers ∙ bag_put c.args.runs.wanted (form_of c.args.runs.expr.now) c.args.step.env.now c.args.step.action.now c.bag-item.result.items.items c.deref.result.now c.deref.ensures.value (map plain_bag c.loop-bag.set.items) c.deref-in-loop-bag.result.now (map plain_bag c.advance_picks.new.set.items) c.args.first.now
          c.deref-in-loop-bag.ensures.value (each_at {G = λ x. has_room c.args.runs.wanted (items_of (first_part x)) ≡ true → c.args.first.now ≡ begun (form_of c.args.runs.expr.now) c.args.step.env.now c.args.step.action.now} (map plain_bag c.args.bags.now) c.loop-bag.bag-index (plain_bag c.bag-item.result) (omega (arith, length-map c.args.bags.now plain_bag, c.loop-bag-test.true)) (image_at plain_bag c.args.bags.now c.loop-bag.bag-index c.bag-item.result c.bag-item.is) c.requires.first) c.in_ok-advance_picks.ensures.gathers);
      within = omega (arith, c.put_more.ensures.within, c.advance_picks.ensures.budget);
      budget = c.put_more.ensures.budget ∙ c.advance_picks.ensures.budget;
    }

pub parallel::advance_picks-loop-place-init : goal.parallel::advance_picks-loop-place-init
parallel::advance_picks-loop-place-init t c =
    record {
      items = refl;
      within = c.requires.within;
      budget = c.requires.budget;
      place = omega arith;
    }

pub parallel::advance_picks-advance_pick-requires : goal.parallel::advance_picks-advance_pick-requires
parallel::advance_picks-advance_pick-requires t c = (
  omega arith,
  (
    each_at c.args.items.now c.loop-place.place c.index-items-place.result (omega arith) c.index-items-place.is c.requires.ready,
    (c.requires.rising, (c.requires.size, (c.loop-place-test.true, (c.loop-place.invariant.budget, c.loop-place.invariant.within)))),
  ),
)

pub parallel::advance_picks-returns-in_err-advance_pick-clause-gathers : goal.parallel::advance_picks-returns-in_err-advance_pick-clause-gathers
parallel::advance_picks-returns-in_err-advance_pick-clause-gathers t c =
    let lt : c.loop-place.place < length (picks c.args.items.now) = omega (arith, length-picks c.args.items.now, c.loop-place-test.true) in
    let is : (c.index-items-place.result, remove c.args.items.now c.loop-place.place) ≡ get_or (picks c.args.items.now) c.loop-place.place (c.index-items-place.result, remove c.args.items.now c.loop-place.place) = ap (λ u. (u, remove c.args.items.now c.loop-place.place)) c.index-items-place.is ∙ sym (get-picks c.args.items.now c.loop-place.place c.index-items-place.result (c.index-items-place.result, remove c.args.items.now c.loop-place.place) c.loop-place-test.true) in
    exit_over _ c.from_residual.result _ c.from_residual.ensures.1 c.in_err-advance_pick.ensures.gathers (λ over.
    lot_over (pick_move c.args.runs.wanted (form_of c.args.runs.expr.now) c.args.step.env.now c.args.step.action.now) c.args.step.limit (picks c.args.items.now) c.loop-place.place (c.index-items-place.result, remove c.args.items.now c.loop-place.place) (map plain_bag c.args.set.now.items) (map plain_bag c.loop-place.set.items) lt is c.loop-place.invariant.items over)

pub parallel::advance_picks-loop-place-preserved : goal.parallel::advance_picks-loop-place-preserved
parallel::advance_picks-loop-place-preserved t c =
    let place = c.loop-place.place in
    let end = c.run_end-place.result in
    let items = c.args.items.now in
    let old = map plain_bag c.args.set.now.items in
    let new = map plain_bag c.advance_pick.new.set.items in
    let move = pick_move c.args.runs.wanted (form_of c.args.runs.expr.now) c.args.step.env.now c.args.step.action.now in
    let lt : place < length (picks items) = omega (arith, length-picks items, c.loop-place-test.true) in
    let is : (c.index-items-place.result, remove items place) ≡ get_or (picks items) place (c.index-items-place.result, remove items place) = ap (λ u. (u, remove items place)) c.index-items-place.is ∙ sym (get-picks items place c.index-items-place.result (c.index-items-place.result, remove items place) c.loop-place-test.true) in
    let moved_one = lots_more move (picks items) place (c.index-items-place.result, remove items place) old (map plain_bag c.loop-place.set.items) new lt is c.loop-place.invariant.items c.in_ok-advance_pick.ensures.gathers in
    let more = end - (place + 1) in
    let ends : place + 1 + more ≡ end = omega (arith, c.run_end-place.ensures.behind) in
    record {
      items = run_adds_none c.args.runs.wanted (form_of c.args.runs.expr.now) c.args.step.env.now c.args.step.action.now items place more old new (omega (arith, ends, c.run_end-place.ensures.within)) (λ k low high. c.run_end-place.ensures.repeats k low (omega (arith, ends, high))) moved_one
          ∙ ap (λ n. put_all (flat_map move (take n (picks items))) old) ends;
      within = c.advance_pick.ensures.within;
      budget = c.advance_pick.ensures.budget;
      place = c.run_end-place.ensures.within;
    }

pub parallel::advance_picks-loop-place-smaller : goal.parallel::advance_picks-loop-place-smaller
parallel::advance_picks-loop-place-smaller t c = omega (arith, c.run_end-place.ensures.behind, c.run_end-place.ensures.within, c.loop-place-test.true)

pub parallel::advance_picks-returns-clause-gathers : goal.parallel::advance_picks-returns-clause-gathers
parallel::advance_picks-returns-clause-gathers t c =
    let all : c.loop-place.place ≡ length (picks c.args.items.now) = omega (arith, length-picks c.args.items.now, c.loop-place-test.false, c.loop-place.invariant.place) in
    lots_end (pick_move c.args.runs.wanted (form_of c.args.runs.expr.now) c.args.step.env.now c.args.step.action.now) (picks c.args.items.now) (map plain_bag c.args.set.now.items) (map plain_bag c.loop-place.set.items)
    (subst (λ n. (map plain_bag c.loop-place.set.items) ≡ put_all (flat_map (pick_move c.args.runs.wanted (form_of c.args.runs.expr.now) c.args.step.env.now c.args.step.action.now) (take n (picks c.args.items.now))) (map plain_bag c.args.set.now.items)) all c.loop-place.invariant.items)

pub parallel::advance_picks-returns-clause-within : goal.parallel::advance_picks-returns-clause-within
parallel::advance_picks-returns-clause-within t c = c.loop-place.invariant.within

pub parallel::advance_picks-returns-clause-budget : goal.parallel::advance_picks-returns-clause-budget
parallel::advance_picks-returns-clause-budget t c = c.loop-place.invariant.budget

pub parallel::advance_pick-advance-requires : goal.parallel::advance_pick-advance-requires
parallel::advance_pick-advance-requires t c =
    (omega arith, c.requires.ready)

pub parallel::advance_pick-returns-in_err-tree-clause-gathers : goal.parallel::advance_pick-returns-in_err-tree-clause-gathers
parallel::advance_pick-returns-in_err-tree-clause-gathers t c =
    exit_over _ c.from_residual.result _ c.from_residual.ensures.1 c.in_err-tree.ensures (λ over.
    bag_over c.args.runs.wanted c.args.step.limit (moved (form_of c.args.runs.expr.now) c.args.step.env.now c.args.item.now c.args.step.action.now) (remove c.args.items.now c.args.place) (map plain_bag c.args.set.now.items) c.args.step.positive over)

pub parallel::advance_pick-returns-clause-gathers : goal.parallel::advance_pick-returns-clause-gathers
parallel::advance_pick-returns-clause-gathers t c =
    subst (λ x. Gathers c.args.step.limit (runs_with c.args.runs.wanted x (remove c.args.items.now c.args.place)) (map plain_bag c.args.set.now.items) (map plain_bag c.put_moved.new.set.items) c.put_moved.result) c.in_ok-tree.ensures.0
    (subst (λ n. Gathers n (runs_with c.args.runs.wanted c.in_ok-tree.tree (remove c.args.items.now c.args.place)) (map plain_bag c.args.set.now.items) (map plain_bag c.put_moved.new.set.items) c.put_moved.result) c.requires.budget c.put_moved.ensures.gathers)
