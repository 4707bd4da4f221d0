use Rattle.std.proofs.Common.{◌≡◌, ◌<◌, ◌-◌, true, List, Bool, length, get_or, sym, ap, ◌∙◌, subst, arith}
use Rattle.std.proofs.lemmas.List.{length-set, get_or_default}
use Rattle.ix_stuck.specs.declared.graph.Edge.{Edge}
use Rattle.ix_stuck.specs.inside.Graphs.{At}
use Rattle.ix_stuck.specs.inside.Marks.{mark_at, AreMarked}
use Rattle.ix_stuck.specs.inside.Ruled.{form}
use Rattle.ix_stuck.proofs.Places.{each_at}
use Rattle.ix_stuck.proofs.Spreading.{one_more}
use Rattle.ix_stuck.proofs.finish.spread.Goals as goal

pub loop-index-preserved-then-not-is_marked : goal.loop-index-preserved-then-not-is_marked
loop-index-preserved-then-not-is_marked c =
    let x = form c.args.rules in
    let moves = c.args.rules.moves.now in
    let edges = c.args.edges.now in
    let marks = c.loop-index.marks.items in
    let j = c.loop-index.index - 1 in
    let e : Edge = get_or edges j (record { from = 0; by = 0; to = 0 }) in
    let within : j < length edges = omega (arith, c.loop-index.auto.index) in
    let at : At edges j e = record { within = within; is = get_or_default edges j (record { from = 0; by = 0; to = 0 }) e within } in
    let m : mark_at marks e.to ≡ true = sym (ap (λ (w : List Bool). mark_at w e.to) c.deref.ensures.value) ∙ sym c.is_marked.ensures ∙ c.if-is_marked.true in (
      ap length c.mark.ensures ∙ length-set marks e.from true ∙ c.loop-index.invariant.0,
      subst (AreMarked x moves c.args.states.now) (sym c.mark.ensures) (one_more x moves c.args.states.now e marks (each_at c.requires.edges at) c.loop-index.invariant.1 m),
    )
