use Rattle.std.proofs.Common.{◌≡◌, ◌≤◌, map, refl, sym, ap, ◌∙◌, arith}
use Rattle.ix_tree.specs.Plain.{items_of}
use Rattle.ix_tree.specs.PlainOf.{plain_map}
use Rattle.ix_tree.specs.Order.{first_part, tree_cmp}
use Rattle.ix_tree.specs.Size.{size_of}
use Rattle.ix_tree.proofs.Alternatives.{weight_of-list}
use Rattle.ix_step.specs.inside.MapsAfter.{with_tree}
use Rattle.ix_step.proofs.Gathered.{gathers_put, live_adds}
use Rattle.ix_step.proofs.Mapping.{with_tree_size, items_size}
use Rattle.ix_step.proofs.maps.put_owner.Goals as goal

pub put-requires : goal.put-requires
put-requires c =
    let xs = items_of (first_part (plain_map c.args.state.now)) in
    let e : size_of (plain_map c.in_ok-map.map) ≡ size_of (with_tree c.args.first.now c.args.value c.args.tree xs) = ap size_of c.in_ok-map.ensures in
    let h : size_of (plain_map c.args.state.now) ≤ 1000000 = c.requires.held.1.small in
    omega (arith, e, h, with_tree_size c.args.first.now c.args.value c.args.tree xs, items_size c.args.state.now, c.requires.small)

pub returns-clause-gathers : goal.returns-clause-gathers
returns-clause-gathers c =
    live_adds c.args.set.now.budget c.args.tree (with_tree c.args.first.now c.args.value c.args.tree (items_of (first_part (plain_map c.args.state.now))))
    (map plain_map c.args.set.now.items) (plain_map c.in_ok-map.map) (map plain_map c.put.new.set.items) c.put.result
    (sym c.is_dead.ensures ∙ c.if-is_dead.false) c.in_ok-map.ensures
    (gathers_put plain_map (λ m k. tree_cmp (plain_map m) (plain_map k)) (λ m k. refl) c.args.set.now c.put.new.set.items c.in_ok-map.map c.put.result c.put.ensures.put)

pub returns-clause-within : goal.returns-clause-within
returns-clause-within c = omega (arith, weight_of-list plain_map c.put.new.set.items, c.put.ensures.within, c.put.ensures.budget)
