use Rattle.std.proofs.Common.{◌≡◌, ◌↔◌, ℕ, ◌+◌, ◌<◌, Bool, true, false, List, length, take, get_or, set, sym, ap, ◌∙◌, subst, arith}
use Rattle.std.proofs.lemmas.List.{take_more, take_all, length-set, length-replicate}
use Rattle.ix_stuck.specs.declared.graph.Edge.{Edge}
use Rattle.ix_stuck.specs.inside.Coming.{IsUsed}
use Rattle.ix_stuck.specs.inside.Marks.{mark_at}
use Rattle.ix_stuck.proofs.Used.{none_used, used_more}
use Rattle.ix_stuck.proofs.gone.used.Goals as goal

pub loop-edge-init : goal.loop-edge-init
loop-edge-init c = (
  ap length c.in_ok-marks.ensures ∙ length-replicate c.args.count false,
  none_used c.in_ok-marks.marks.items c.args.count c.in_ok-marks.ensures,
)

pub loop-edge-preserved : goal.loop-edge-preserved
loop-edge-preserved c =
    let i = c.loop-edge.edge-index in
    let edges = c.args.edges.now in
    let marks = c.loop-edge.marks.items in
    let e : Edge = get_or edges i (record { from = 0; by = 0; to = 0 }) in
    let within : i < length edges = omega arith in (
      ap length c.mark.ensures ∙ length-set marks e.by true ∙ c.loop-edge.invariant.0,
      subst (λ (w : List Bool). (k : ℕ) → k < c.args.count → (mark_at w k ≡ true) ↔ IsUsed (take (i + 1) edges) k) (sym c.mark.ensures)
          (subst (λ (es : List Edge). (k : ℕ) → k < c.args.count → (mark_at (set marks e.by true) k ≡ true) ↔ IsUsed es k) (sym (take_more edges i (record { from = 0; by = 0; to = 0 }) within))
          (used_more marks (take i edges) e c.args.count c.loop-edge.invariant.0 c.loop-edge.invariant.1)),
    )

pub returns : goal.returns
returns c =
    subst (λ (es : List Edge). (k : ℕ) → k < c.args.count → (mark_at c.loop-edge.marks.items k ≡ true) ↔ IsUsed es k)
    (take_all c.loop-edge.edge-index c.args.edges.now (omega arith)) c.loop-edge.invariant.1
