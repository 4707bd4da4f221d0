-- The moved tree of `y @ z`, and of its left side.
use Rattle.std.proofs.Common.{◌<◌, sym, ap, ◌∙◌, subst, arith}
use Rattle.ix_expr.specs.inside.FormOf.{form_of}
use Rattle.ix_tree.specs.Plain.{couple as couple_of}
use Rattle.ix_tree.specs.Size.{size_of}
use Rattle.ix_can.specs.Nodes.{settled}
use Rattle.ix_expr.specs.Tests.{in_alphabet}
use Rattle.ix_can.specs.May.{may, moves_within}
use Rattle.ix_can.specs.inside.Moved.{moved, moved_inside}
use Rattle.ix_step.specs.inside.Makes.{Makes}
use Rattle.ix_step.proofs.Exits.{exit_over}
use Rattle.ix_step.proofs.TwoSides.{right_refuses, left_refuses, neither_has, both_moved, left_above, right_above, met_moves, met_stops, side_moves, side_stops, none_inside, some_inside, told_outside, told_inside, as_it_was}
use Rattle.ix_step.proofs.+advance.Goals as goal

pub coupling::advance_couple-returns-then-refuses : goal.coupling::advance_couple-returns-then-refuses
coupling::advance_couple-returns-then-refuses t c =
    let z = form_of c.args.z.now in
    let e = c.args.step.env.now in
    let a = c.args.step.action.now in
    let stops = met_stops z e a c.args.right.now c.meets-met.result.inside c.meets-met.result.goes_on c.meets-met.ensures.inside c.meets-met.ensures.goes_on (sym c.refuses.ensures ∙ c.if-refuses.true) in
    subst (λ x. Makes c.args.step.limit x c.dead_knot.result)
    (sym (right_refuses (form_of c.args.y.now) z e a c.args.left.now c.args.right.now stops)) c.dead_knot.ensures

pub coupling::advance_couple-returns-in_err-left : goal.coupling::advance_couple-returns-in_err-left
coupling::advance_couple-returns-in_err-left t c =
    let z = form_of c.args.z.now in
    let e = c.args.step.env.now in
    let a = c.args.step.action.now in
    let right = met_moves z e a c.args.right.now c.meets-met.result.inside c.meets-met.result.goes_on c.meets-met.ensures.inside c.meets-met.ensures.goes_on (sym c.refuses.ensures ∙ c.if-refuses.false) in
    exit_over _ c.from_residual.result _ c.from_residual.ensures.1 c.in_err-left.ensures (λ lt.
    left_above (form_of c.args.y.now) z e a c.args.left.now c.args.right.now c.args.step.limit c.args.step.positive right lt)

pub coupling::advance_couple-returns-then-refuses-2 : goal.coupling::advance_couple-returns-then-refuses-2
coupling::advance_couple-returns-then-refuses-2 t c =
    let y = form_of c.args.y.now in
    let e = c.args.step.env.now in
    let a = c.args.step.action.now in
    let stops = side_stops y e a c.args.left.now c.in_ok-left.left.inside c.in_ok-left.left.tree c.in_ok-left.ensures.0 c.in_ok-left.ensures.1 (sym c.refuses-2.ensures ∙ c.if-refuses-2.true) in
    subst (λ x. Makes c.args.step.limit x c.dead_knot-then-refuses-2.result)
    (sym (left_refuses y (form_of c.args.z.now) e a c.args.left.now c.args.right.now stops)) c.dead_knot-then-refuses-2.ensures

pub coupling::advance_couple-returns-then-is_foreign : goal.coupling::advance_couple-returns-then-is_foreign
coupling::advance_couple-returns-then-is_foreign t c =
    let y = form_of c.args.y.now in
    let z = form_of c.args.z.now in
    let e = c.args.step.env.now in
    let a = c.args.step.action.now in
    let none = none_inside (in_alphabet y e a) (in_alphabet z e a) c.in_ok-left.left.inside c.meets-met.result.inside c.in_ok-left.ensures.0 c.meets-met.ensures.inside (sym c.is_foreign.ensures ∙ c.if-is_foreign.true) in
    subst (λ x. Makes c.args.step.limit x c.dead_knot-then-is_foreign.result)
    (sym (neither_has y z e a c.args.left.now c.args.right.now none)) c.dead_knot-then-is_foreign.ensures

pub coupling::advance_couple-returns-in_err-right : goal.coupling::advance_couple-returns-in_err-right
coupling::advance_couple-returns-in_err-right t c =
    let y = form_of c.args.y.now in
    let z = form_of c.args.z.now in
    let e = c.args.step.env.now in
    let a = c.args.step.action.now in
    let right = met_moves z e a c.args.right.now c.meets-met.result.inside c.meets-met.result.goes_on c.meets-met.ensures.inside c.meets-met.ensures.goes_on (sym c.refuses.ensures ∙ c.if-refuses.false) in
    let left = side_moves y e a c.args.left.now c.in_ok-left.left.inside c.in_ok-left.left.tree c.in_ok-left.ensures.0 c.in_ok-left.ensures.1 (sym c.refuses-2.ensures ∙ c.if-refuses-2.false) in
    let some = some_inside (in_alphabet y e a) (in_alphabet z e a) c.in_ok-left.left.inside c.meets-met.result.inside c.in_ok-left.ensures.0 c.meets-met.ensures.inside (sym c.is_foreign.ensures ∙ c.if-is_foreign.false) in
    exit_over _ c.from_residual-in_err-right.result _ c.from_residual-in_err-right.ensures.1 c.in_err-right.ensures (λ lt.
    right_above y z e a c.args.left.now c.args.right.now c.args.step.limit c.args.step.positive some left right
    (subst (λ i. c.args.step.limit < size_of (moved_inside i (moved z e c.args.right.now a) c.args.right.now)) c.meets-met.ensures.inside lt))

pub coupling::advance_couple-advance_met-requires : goal.coupling::advance_couple-advance_met-requires
coupling::advance_couple-advance_met-requires t c =
    let z = form_of c.args.z.now in
    let e = c.args.step.env.now in
    let a = c.args.step.action.now in
    let right = met_moves z e a c.args.right.now c.meets-met.result.inside c.meets-met.result.goes_on c.meets-met.ensures.inside c.meets-met.ensures.goes_on (sym c.refuses.ensures ∙ c.if-refuses.false) in (
      omega arith,
      (c.requires.second, ap (λ i. moves_within i (may z e c.args.right.now a)) c.meets-met.ensures.inside ∙ right),
    )

pub coupling::advance_couple-returns : goal.coupling::advance_couple-returns
coupling::advance_couple-returns t c =
    let y = form_of c.args.y.now in
    let z = form_of c.args.z.now in
    let e = c.args.step.env.now in
    let a = c.args.step.action.now in
    let right = met_moves z e a c.args.right.now c.meets-met.result.inside c.meets-met.result.goes_on c.meets-met.ensures.inside c.meets-met.ensures.goes_on (sym c.refuses.ensures ∙ c.if-refuses.false) in
    let left = side_moves y e a c.args.left.now c.in_ok-left.left.inside c.in_ok-left.left.tree c.in_ok-left.ensures.0 c.in_ok-left.ensures.1 (sym c.refuses-2.ensures ∙ c.if-refuses-2.false) in
    let some = some_inside (in_alphabet y e a) (in_alphabet z e a) c.in_ok-left.left.inside c.meets-met.result.inside c.in_ok-left.ensures.0 c.meets-met.ensures.inside (sym c.is_foreign.ensures ∙ c.if-is_foreign.false) in
    let second = c.in_ok-right.ensures.0 ∙ ap (λ i. moved_inside i (moved z e c.args.right.now a) c.args.right.now) c.meets-met.ensures.inside in
    subst (λ x. Makes c.args.step.limit x c.settled_within.result)
    (ap (λ v. settled (couple_of v c.in_ok-right.right)) c.in_ok-left.ensures.1
    ∙ ap (λ v. settled (couple_of (moved_inside (in_alphabet y e a) (moved y e c.args.left.now a) c.args.left.now) v)) second
    ∙ sym (both_moved y z e a c.args.left.now c.args.right.now some left right)) c.settled_within.ensures

pub coupling::advance_side-returns-then-not-contains : goal.coupling::advance_side-returns-then-not-contains
coupling::advance_side-returns-then-not-contains t c =
    let x = form_of c.args.expr.now in
    let e = c.args.step.env.now in
    let a = c.args.step.action.now in
    let outside = sym c.contains.ensures.test ∙ c.if-not-contains.true in
    as_it_was c.args.step.limit (in_alphabet x e a) (moved x e c.args.tree.now a) c.args.tree.now c.unmoved.result outside c.requires.small c.unmoved.ensures

pub coupling::advance_side-returns-then-is_outside : goal.coupling::advance_side-returns-then-is_outside
coupling::advance_side-returns-then-is_outside t c =
    let x = form_of c.args.expr.now in
    let e = c.args.step.env.now in
    let a = c.args.step.action.now in
    let outside = told_outside x e a c.args.tree.now c.in_ok-moved.moved (sym c.is_outside.ensures ∙ c.if-is_outside.true) in
    as_it_was c.args.step.limit (in_alphabet x e a) (moved x e c.args.tree.now a) c.args.tree.now c.unmoved-then-is_outside.result outside c.requires.small c.unmoved-then-is_outside.ensures

pub coupling::advance_side-returns : goal.coupling::advance_side-returns
coupling::advance_side-returns t c =
    let x = form_of c.args.expr.now in
    let e = c.args.step.env.now in
    let a = c.args.step.action.now in
    let inside = told_inside x e a c.args.tree.now c.in_ok-moved.moved c.in_ok-moved.ensures.0 (sym c.is_outside.ensures ∙ c.if-is_outside.false) in
    let size = ap size_of c.in_ok-moved.ensures.0 in (
      sym inside,
      c.in_ok-moved.ensures.0 ∙ ap (λ i. moved_inside i (moved x e c.args.tree.now a) c.args.tree.now) (sym inside),
      omega (arith, size, c.in_ok-moved.ensures.1, c.args.step.bounded),
    )
