use Rattle.std.proofs.Common.{max, sym, ap, ◌∙◌, arith}
use Rattle.std.proofs.lemmas.List.Sums.{fold_more}
use Rattle.ix_lint.specs.Counts.{named_frequency}
use Rattle.ix_lint.proofs.counts.greatest_frequency.Goals as goal

pub loop-place-preserved : goal.loop-place-preserved
loop-place-preserved c =
    let places = c.args.places.now in
    let name = c.args.name.now in
    let here = c.named_frequency.ensures ∙ ap (named_frequency places name) c.place-item.is in
    c.max-most.ensures
    ∙ (λ i. max (here i) (c.loop-place.invariant i))
    ∙ sym (fold_more (λ most s. max (named_frequency places name s) most) 0 places c.loop-place.place-index c.place-item.result (omega arith))
