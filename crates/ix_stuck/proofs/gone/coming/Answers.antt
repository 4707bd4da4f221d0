use Rattle.std.proofs.Common.{◌≡◌, ◌<◌, length, ◌+◌, sym, ap, ◌∙◌, subst, true≢false, arith}
use Rattle.ix_stuck.specs.inside.Graphs.{At}
use Rattle.ix_stuck.specs.inside.Marks.{mark_at}
use Rattle.ix_stuck.proofs.Used.{ComingTo, none_yet, one_coming, not_coming}
use Rattle.ix_stuck.proofs.gone.coming.Goals.{then-is_marked+in_ok-push, else-is_marked}
use Rattle.ix_stuck.proofs.gone.coming.Goals as goal

pub loop-by-init : goal.loop-by-init
loop-by-init c = none_yet c.args.moves.now c.args.edges.now c.new-coming.result.items c.new-coming.ensures.items

pub loop-by-preserved : goal.loop-by-preserved
loop-by-preserved c =
    let n = c.loop-by.by in
    let moves = c.args.moves.now in
    let edges = c.args.edges.now in
    let so_far = c.loop-by.coming.items in
    let a = c.index-moves-by.result in
    let within : n < length moves = omega arith in
    let at : At moves n a = record { within = within; is = c.index-moves-by.is } in
    let told = c.in_ok-marks.ensures n within in
    let asked : c.is_marked.result ≡ mark_at c.in_ok-marks.marks.items n = c.is_marked.ensures ∙ ap (λ m. mark_at m n) c.deref.ensures.value in
    elim c.if-is_marked.branch [
      | then-is_marked+in_ok-push w ↦ subst (ComingTo moves edges (n + 1)) (sym (ap (λ v. v.items) w.coming-is ∙ w.in_ok-push.ensures.items))
          (one_coming moves edges n so_far a c.loop-by.invariant at (told.0 (sym asked ∙ w.if-is_marked.true)))
      | else-is_marked w ↦ subst (ComingTo moves edges (n + 1)) (sym (ap (λ v. v.items) w.coming-is))
          (not_coming moves edges n so_far a c.loop-by.invariant at (λ used. true≢false (sym (told.1 used) ∙ sym asked ∙ w.if-is_marked.false)))
    ]

pub returns : goal.returns
returns c = record {
  only = c.loop-by.invariant.only;
  all = λ k a at used. let within = at.within in c.loop-by.invariant.all k a (omega (arith, within)) at used;
}
