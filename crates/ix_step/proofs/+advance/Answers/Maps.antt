-- The moved tree of `all $p y`: each map with one value's tree moved.
use Rattle.std.proofs.Common.{refl, sym, ap, ◌∙◌, subst, arith, [], map, length, flat_map, get_or, Some, true≢false}
use Rattle.std.proofs.lemmas.List.{length-map}
use Rattle.ix_expr.specs.inside.FormOf.{form_of}
use Rattle.ix_expr.specs.Environment.{bind}
use Rattle.ix_tree.specs.Plain.{dead, listed, items_of, all as all_of}
use Rattle.ix_tree.specs.PlainOf.{plain_map}
use Rattle.ix_tree.specs.Order.{first_part}
use Rattle.ix_tree.specs.Size.{size_of}
use Rattle.ix_tree.proofs.Alternatives.{weight_of-list}
use Rattle.ix_can.specs.Nodes.{set_of}
use Rattle.ix_can.specs.May.{tree_at}
use Rattle.ix_can.specs.inside.Moved.{moved, map_with, or_initial}
use Rattle.ix_step.specs.inside.Initial.{initial_tree}
use Rattle.ix_step.specs.inside.Makes.{Makes, put_all}
use Rattle.ix_step.specs.inside.MapsAfter.{HoldsWell, begun_tree, map_after, maps_after}
use Rattle.ix_step.specs.inside.Pruned.{pruned}
use Rattle.ix_step.specs.inside.Ready.{Ready}
use Rattle.ix_step.proofs.Exits.{exit_over}
use Rattle.ix_step.proofs.Gathered.{size_all}
use Rattle.ix_step.proofs.Gathering.{each_at, image_at, lot_over, lots_more, made_set}
use Rattle.ix_step.proofs.Limits.{moved_is_dead}
use Rattle.ix_step.proofs.Pruning.{list_over}
use Rattle.ix_step.proofs.Mapping.{begin_small, begin_ready, all_held, map_keys, start_ready, owner_made, dead_owner}
use Rattle.ix_can.proofs.UnseenValues.{unseen_dead}
use Rattle.ix_step.proofs.+advance.Goals as goal

pub maps::advance_all-first_tree-requires : goal.maps::advance_all-first_tree-requires
maps::advance_all-first_tree-requires t c =
    begin_small c.args.body.parameter.now (form_of c.args.body.expr.now) c.args.step.env.now (all_of (listed (map plain_map c.args.maps.now))) c.requires

pub maps::advance_all-advance_maps-requires : goal.maps::advance_all-advance_maps-requires
maps::advance_all-advance_maps-requires t c =
    (omega arith, (begin_ready c.args.body.parameter.now (form_of c.args.body.expr.now) c.args.step.env.now c.in_ok-first.first (all_of (listed (map plain_map c.args.maps.now))) c.requires c.in_ok-first.ensures, all_held c.args.body.parameter.now (form_of c.args.body.expr.now) c.args.step.env.now c.in_ok-first.first (map plain_map c.args.maps.now) c.requires c.in_ok-first.ensures))

pub maps::advance_all-returns-in_err-set : goal.maps::advance_all-returns-in_err-set
maps::advance_all-returns-in_err-set t c =
    let whole = made_set (maps_after c.args.body.parameter.now (form_of c.args.body.expr.now) c.args.step.env.now c.args.step.action.now c.in_ok-first.first c.args.step.action.now.values) (map plain_map c.args.maps.now) ∙ ap (λ z. set_of (flat_map (maps_after c.args.body.parameter.now (form_of c.args.body.expr.now) c.args.step.env.now c.args.step.action.now z c.args.step.action.now.values) (items_of (listed (map plain_map c.args.maps.now))))) c.in_ok-first.ensures in
    exit_over _ c.from_residual-in_err-set.result _ c.from_residual-in_err-set.ensures.1 c.in_err-set.ensures (λ lt.
    list_over c.args.step.limit (all_of (set_of (flat_map (maps_after c.args.body.parameter.now (form_of c.args.body.expr.now) c.args.step.env.now c.args.step.action.now (initial_tree (form_of c.args.body.expr.now)) c.args.step.action.now.values) (items_of (listed (map plain_map c.args.maps.now)))))) (set_of (flat_map (maps_after c.args.body.parameter.now (form_of c.args.body.expr.now) c.args.step.env.now c.args.step.action.now (initial_tree (form_of c.args.body.expr.now)) c.args.step.action.now.values) (items_of (listed (map plain_map c.args.maps.now))))) (omega (arith, ap size_of whole)) (omega arith))

pub maps::advance_all-sized_if_live-requires-clause-size : goal.maps::advance_all-sized_if_live-requires-clause-size
maps::advance_all-sized_if_live-requires-clause-size t c =
    omega (arith, weight_of-list plain_map c.in_ok-set.set.items, ap (λ v. size_all (map plain_map v)) c.into_items.ensures.items)

pub maps::advance_all-returns : goal.maps::advance_all-returns
maps::advance_all-returns t c =
    subst (λ l. Makes c.args.step.limit (pruned (all_of l)) c.sized_if_live.result)
    (ap (λ v. listed (map plain_map v)) c.into_items.ensures.items ∙ ap listed c.in_ok-set.ensures.0 ∙ made_set (maps_after c.args.body.parameter.now (form_of c.args.body.expr.now) c.args.step.env.now c.args.step.action.now c.in_ok-first.first c.args.step.action.now.values) (map plain_map c.args.maps.now) ∙ ap (λ z. set_of (flat_map (maps_after c.args.body.parameter.now (form_of c.args.body.expr.now) c.args.step.env.now c.args.step.action.now z c.args.step.action.now.values) (items_of (listed (map plain_map c.args.maps.now))))) c.in_ok-first.ensures) c.sized_if_live.ensures

pub maps::advance_maps-advance_owners-requires : goal.maps::advance_maps-advance_owners-requires
maps::advance_maps-advance_owners-requires t c =
    (omega arith, (c.requires.ready, (each_at {G = HoldsWell (form_of c.args.body.expr.now) c.args.first.now} (map plain_map c.args.maps.now) c.loop-state.state-index (plain_map c.state-item.result) (omega (arith, length-map c.args.maps.now plain_map, c.loop-state-test.true)) (image_at plain_map c.args.maps.now c.loop-state.state-index c.state-item.result c.state-item.is) c.requires.held, (c.loop-state.invariant.budget, c.loop-state.invariant.within))))

pub maps::advance_maps-returns-in_err-advance_owners : goal.maps::advance_maps-returns-in_err-advance_owners
maps::advance_maps-returns-in_err-advance_owners t c =
    exit_over _ c.from_residual.result _ c.from_residual.ensures.1 c.in_err-advance_owners.ensures.gathers (λ lt.
    lot_over (maps_after c.args.body.parameter.now (form_of c.args.body.expr.now) c.args.step.env.now c.args.step.action.now c.args.first.now c.args.step.action.now.values) c.args.step.limit (map plain_map c.args.maps.now) c.loop-state.state-index (plain_map c.state-item.result) [] (map plain_map c.loop-state.set.items) (omega (arith, length-map c.args.maps.now plain_map, c.loop-state-test.true)) (image_at plain_map c.args.maps.now c.loop-state.state-index c.state-item.result c.state-item.is) c.loop-state.invariant.items lt)

pub maps::advance_maps-loop-state-preserved : goal.maps::advance_maps-loop-state-preserved
maps::advance_maps-loop-state-preserved t c =
    record {
      items = lots_more (maps_after c.args.body.parameter.now (form_of c.args.body.expr.now) c.args.step.env.now c.args.step.action.now c.args.first.now c.args.step.action.now.values) (map plain_map c.args.maps.now) c.loop-state.state-index (plain_map c.state-item.result) [] (map plain_map c.loop-state.set.items) (map plain_map c.advance_owners.new.set.items) (omega (arith, length-map c.args.maps.now plain_map, c.loop-state-test.true)) (image_at plain_map c.args.maps.now c.loop-state.state-index c.state-item.result c.state-item.is) c.loop-state.invariant.items c.in_ok-advance_owners.ensures.gathers;
      within = c.advance_owners.ensures.within;
      budget = c.advance_owners.ensures.budget;
    }

pub maps::advance_owners-returns-in_err-tree-clause-gathers : goal.maps::advance_owners-returns-in_err-tree-clause-gathers
maps::advance_owners-returns-in_err-tree-clause-gathers t c =
    exit_over _ c.from_residual.result _ c.from_residual.ensures.1 (c.in_err-tree.ensures (map plain_map c.loop-value.set.items)) (λ lt.
    lot_over (map_after c.args.body.parameter.now (form_of c.args.body.expr.now) c.args.step.env.now c.args.step.action.now c.args.first.now (plain_map c.args.state.now)) c.args.step.limit c.args.step.action.now.values c.loop-value.value-index c.value-item.result (map plain_map c.args.set.now.items) (map plain_map c.loop-value.set.items) (omega (arith, ap length c.values-value-items.ensures.value)) (c.value-item.is ∙ ap (λ l. get_or l c.loop-value.value-index c.value-item.result) c.values-value-items.ensures.value) c.loop-value.invariant.items lt)

pub maps::advance_owners-returns-in_err-put_owner-clause-gathers : goal.maps::advance_owners-returns-in_err-put_owner-clause-gathers
maps::advance_owners-returns-in_err-put_owner-clause-gathers t c =
    let same = ap (λ x. put_all (map_with c.args.first.now c.value-item.result x (items_of (first_part (plain_map c.args.state.now)))) (map plain_map c.loop-value.set.items)) c.in_ok-tree.ensures.0 in
    exit_over _ c.from_residual-in_err-put_owner.result _ c.from_residual-in_err-put_owner.ensures.1 c.in_err-put_owner.ensures.gathers (λ lt.
    lot_over (map_after c.args.body.parameter.now (form_of c.args.body.expr.now) c.args.step.env.now c.args.step.action.now c.args.first.now (plain_map c.args.state.now)) c.args.step.limit c.args.step.action.now.values c.loop-value.value-index c.value-item.result (map plain_map c.args.set.now.items) (map plain_map c.loop-value.set.items) (omega (arith, ap length c.values-value-items.ensures.value)) (c.value-item.is ∙ ap (λ l. get_or l c.loop-value.value-index c.value-item.result) c.values-value-items.ensures.value) c.loop-value.invariant.items
    (omega (arith, ap size_all same, lt, c.loop-value.invariant.budget)))

pub maps::advance_owners-loop-value-preserved : goal.maps::advance_owners-loop-value-preserved
maps::advance_owners-loop-value-preserved t c =
    record {
      items = lots_more (map_after c.args.body.parameter.now (form_of c.args.body.expr.now) c.args.step.env.now c.args.step.action.now c.args.first.now (plain_map c.args.state.now)) c.args.step.action.now.values c.loop-value.value-index c.value-item.result (map plain_map c.args.set.now.items) (map plain_map c.loop-value.set.items) (map plain_map c.put_owner.new.set.items) (omega (arith, ap length c.values-value-items.ensures.value)) (c.value-item.is ∙ ap (λ l. get_or l c.loop-value.value-index c.value-item.result) c.values-value-items.ensures.value) c.loop-value.invariant.items
          (c.in_ok-put_owner.ensures.gathers ∙ ap (λ x. put_all (map_with c.args.first.now c.value-item.result x (items_of (first_part (plain_map c.args.state.now)))) (map plain_map c.loop-value.set.items)) c.in_ok-tree.ensures.0);
      within = omega (arith, c.put_owner.ensures.within, c.loop-value.invariant.budget);
      budget = c.put_owner.ensures.budget ∙ c.loop-value.invariant.budget;
    }

pub maps::advance_owner-or_first-requires : goal.maps::advance_owner-or_first-requires
maps::advance_owner-or_first-requires t c =
    map_keys c.args.state.now c.args.state.now.entries refl c.requires.held.beside.ascending

pub maps::advance_owner-advance-requires : goal.maps::advance_owner-advance-requires
maps::advance_owner-advance-requires t c =
    let found = c.or_first.ensures in (
      omega arith,
      subst (Ready (form_of c.args.body.expr.now) c.bind.new.self) (sym found)
          (start_ready c.args.state.now c.args.state.now.entries refl c.args.body.parameter.now (form_of c.args.body.expr.now) c.args.step.env.now c.bind.new.self c.args.first.now c.args.value.now c.bind.ensures c.requires.ready c.requires.held),
    )

pub maps::advance_owner-returns-then-not-sees : goal.maps::advance_owner-returns-then-not-sees
maps::advance_owner-returns-then-not-sees t c =
    let y = form_of c.args.body.expr.now in
    let p = c.args.body.parameter.now in
    let e = c.args.step.env.now in
    let found = or_initial c.args.first.now (tree_at c.args.value.now dead (items_of (first_part (plain_map c.args.state.now)))) in
    let out = unseen_dead y p e c.args.step.action.now c.requires.ready.named c.args.value.now (λ s. true≢false (sym (c.sees.ensures.1 s) ∙ c.if-not-sees.true)) found in
    let same = sym (moved_is_dead y (bind p (Some c.args.value.now) e) found c.args.step.action.now out) in
    dead_owner c.args.step.limit c.args.first.now c.args.value.now (begun_tree p y e c.args.step.action.now c.args.first.now (plain_map c.args.state.now) c.args.value.now) (items_of (first_part (plain_map c.args.state.now))) c.dead_knot.result (sym same) c.args.step.positive c.args.step.bounded c.dead_knot.ensures

pub maps::advance_owner-returns : goal.maps::advance_owner-returns
maps::advance_owner-returns t c =
    let found = c.or_first.ensures in
    let same = ap (λ g. moved (form_of c.args.body.expr.now) g c.or_first.result.now c.args.step.action.now) c.bind.ensures ∙ ap (λ z. moved (form_of c.args.body.expr.now) (bind c.args.body.parameter.now (Some c.args.value.now) c.args.step.env.now) z c.args.step.action.now) found in
    owner_made c.args.step.limit c.larger.result c.args.first.now c.args.value.now (begun_tree c.args.body.parameter.now (form_of c.args.body.expr.now) c.args.step.env.now c.args.step.action.now c.args.first.now (plain_map c.args.state.now) c.args.value.now) (moved (form_of c.args.body.expr.now) c.bind.new.self c.or_first.result.now c.args.step.action.now) (items_of (first_part (plain_map c.args.state.now))) c.advance.result same
    (omega (arith, c.larger.ensures.first, c.args.step.positive)) c.larger.ensures.first (omega (arith, c.larger.ensures.second, c.size.ensures.value))
    (c.larger.ensures.bound 2000010 c.args.step.bounded (omega (arith, c.size.ensures.value, c.requires.ready.small))) c.advance.ensures
