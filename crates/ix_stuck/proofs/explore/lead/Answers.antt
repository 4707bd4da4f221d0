use Rattle.std.proofs.Common.{◌≡◌, ◌+◌, ◌≤◌, List, refl, sym, ap, ◌∙◌, subst, arith}
use Rattle.ix_stuck.specs.declared.graph.State.{State}
use Rattle.ix_stuck.specs.declared.graph.Edge.{Edge}
use Rattle.ix_stuck.specs.inside.Graphs.{At, IsEdge}
use Rattle.ix_stuck.specs.inside.Ruled.{HoldsUpTo, form}
use Rattle.ix_stuck.proofs.Places.{among, each_at, at_left, at_same}
use Rattle.ix_stuck.proofs.Steps.{led_next, more_edge, still_within}
use Rattle.ix_stuck.proofs.explore.lead.Goals as goal

pub place-requires-clause-led : goal.place-requires-clause-led
place-requires-clause-led c =
    let r = c.args.rules in
    let j = c.requires.joins in
    led_next (form r) r.moves.now r.limits.nodes r.start.now j.source.tree j.action c.args.next
    (each_at c.requires.holds.led j.at_source) (among r.moves.now c.args.origin.by j.action j.by_action) j.tree j.live j.small

pub returns-clause-led : goal.returns-clause-led
returns-clause-led c =
    let r = c.args.rules in
    let i = c.args.origin.from in
    let k = c.args.origin.by in
    let j = c.requires.joins in
    let states = c.place.new.graph.states.items in
    let edges = c.place.new.graph.edges.items in
    let stands = c.in_ok-to.ensures.stands in
    let e : Edge = record { from = i; by = k; to = c.in_ok-to.to } in
    let there : At states i j.source = subst (λ (ss : List State). At ss i j.source) (sym c.place.ensures.more.is) (at_left c.place.ensures.more.more j.at_source) in
    let near : stands.state.depth ≤ j.source.depth + 1 =
    let source : c.index.result.now ≡ j.source = at_same (record { within = there.within; is = c.index.ensures }) there in
    let target : c.index-2.result.now ≡ stands.state = at_same (record { within = stands.at.within; is = c.index-2.ensures }) stands.at in
    let low : c.index.result.now.depth ≡ j.source.depth = ap (λ (s : State). s.depth) source in
    let high : c.index-2.result.now.depth ≡ stands.state.depth = ap (λ (s : State). s.depth) target in
    omega (arith, low, high, c.saturating_add-near.ensures, c.if-index-near.false) in
    let is : IsEdge (form r) r.moves.now states e = record {
      source = j.source;
      action = j.action;
      target = stands.state;
      at_source = there;
      by_action = j.by_action;
      at_target = stands.at;
      tree = stands.tree ∙ j.tree;
      near = near;
    } in
    subst (λ (es : List Edge). HoldsUpTo r states es i (k + 1)) (sym c.in_ok-push.ensures.items)
    (more_edge (form r) r.moves.now r.limits.nodes r.start.now states edges i k c.place.ensures.holds e is refl refl)

pub returns-clause-within : goal.returns-clause-within
returns-clause-within c = still_within c.args.origin.from c.requires.within c.place.ensures.more
