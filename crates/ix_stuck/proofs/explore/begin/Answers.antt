use Rattle.std.proofs.Common.{List, [], ◌∷◌, ◌++◌, refl, sym, ap, ◌∙◌, subst}
use Rattle.ix_stuck.specs.declared.graph.State.{State}
use Rattle.ix_stuck.specs.declared.graph.Edge.{Edge}
use Rattle.ix_stuck.specs.inside.Ruled.{HoldsUpTo, form}
use Rattle.ix_stuck.proofs.Steps.{begun_graph}
use Rattle.ix_stuck.proofs.explore.begin.Goals as goal

pub returns-clause-begun : goal.returns-clause-begun
returns-clause-begun c =
    let r = c.args.rules in
    let s : State = record { tree = c.in_ok-start.start; depth = 0; from = 0; by = 0 } in
    subst (λ (ss : List State). HoldsUpTo r ss c.new-2.result.items 0 0) (sym (c.in_ok-push.ensures.items ∙ ap (λ (w : List State). w ++ s ∷ []) c.new.ensures.items))
    (subst (λ (es : List Edge). HoldsUpTo r (s ∷ []) es 0 0) (sym c.new-2.ensures.items)
    (begun_graph (form r) r.moves.now r.limits.nodes r.start.now s c.in_ok-start.ensures refl c.requires.live c.requires.small))
