use Rattle.std.proofs.Common.{List, sym, subst}
use Rattle.ix_stuck.specs.declared.graph.State.{State}
use Rattle.ix_stuck.specs.inside.Ruled.{HoldsUpTo, form}
use Rattle.ix_stuck.proofs.Steps.{more_state}
use Rattle.ix_stuck.proofs.explore.place.Goals as goal

pub returns-clause-holds : goal.returns-clause-holds
returns-clause-holds c =
    let r = c.args.rules in
    let i = c.args.origin.from in
    let k = c.args.origin.by in
    let edges = c.args.graph.now.edges.items in
    subst (λ (ss : List State). HoldsUpTo r ss edges i k) (sym c.in_ok-push.ensures.items)
    (more_state (form r) r.moves.now r.limits.nodes r.start.now c.args.graph.now.states.items edges i k c.requires.holds _ c.requires.within c.requires.led)
