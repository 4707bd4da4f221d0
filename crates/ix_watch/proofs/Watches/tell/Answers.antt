use Rattle.std.proofs.Common.{◌≡◌, true, false, sym, ap, subst, ◌∙◌, arith, add-one, length, Some}
use Rattle.std.specs.List.{slice_get}
use Rattle.ix_values.specs.Order.{text_eq}
use Rattle.ix_watch.specs.inside.Kept.{watch_of}
use Rattle.ix_watch.specs.inside.Watches.{marked}
use Rattle.ix_watch.proofs.WatchLemmas.{length-told_upto, told_upto, told_upto-true, told_upto-false, told_upto-length}
use Rattle.ix_watch.proofs.Watches.tell.Goals as goal
use Rattle.ix_watch.proofs.Watches.tell.Goals.{then-eq, else-eq}

pub entry-requires : goal.entry-requires
entry-requires c = omega (arith, ap length c.loop-index.invariant, length-told_upto c.args.name.now c.loop-index.index c.args.self.now)

pub loop-index-preserved : goal.loop-index-preserved
loop-index-preserved c =
    let name = c.args.name.now in
    let index = c.loop-index.index in
    let watch = watch_of (c.entry.result.0.now, c.entry.result.1.now) in
    let there : slice_get (told_upto name index c.args.self.now) index ≡ Some watch =
    subst (λ ws. slice_get ws index ≡ Some watch) c.loop-index.invariant c.entry.ensures in
    let next = ap (λ n. told_upto name n c.args.self.now) (sym (add-one index)) in
    elim c.if-eq.branch [
      | then-eq w ↦
          let same : text_eq name watch.name ≡ true = sym c.eq.ensures.value ∙ w.if-eq.true in
          w.self-is ∙ w.mark.ensures ∙ ap (λ ws. marked ws index watch.now watch.now) c.loop-index.invariant
          ∙ told_upto-true name index c.args.self.now watch there same ∙ next
      | else-eq w ↦
          let other : text_eq name watch.name ≡ false = sym c.eq.ensures.value ∙ w.if-eq.false in
          w.self-is ∙ c.loop-index.invariant ∙ told_upto-false name index c.args.self.now watch there other ∙ next
    ]

pub returns : goal.returns
returns c =
    let all : c.loop-index.index ≡ length c.args.self.now = omega arith in
    c.loop-index.invariant ∙ ap (λ n. told_upto c.args.name.now n c.args.self.now) all ∙ told_upto-length c.args.name.now c.args.self.now
