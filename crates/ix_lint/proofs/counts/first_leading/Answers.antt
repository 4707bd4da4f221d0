use Rattle.ix_lint.specs.Counts.{is_leading}
use Rattle.std.proofs.Common.{◌∙◌, sym, arith}
use Rattle.ix_lint.proofs.Finds.{found_here, not_yet, none_found}
use Rattle.ix_lint.proofs.counts.first_leading.Goals as goal

pub returns-then-is_leading : goal.returns-then-is_leading
returns-then-is_leading c = sym (found_here (is_leading c.args.places.now c.args.name.now c.args.most) c.args.places.now c.loop-place.place-index c.place-item.result c.loop-place.invariant (omega arith) c.place-item.is (sym c.is_leading.ensures ∙ c.if-is_leading.true))

pub loop-place-preserved : goal.loop-place-preserved
loop-place-preserved c = not_yet (is_leading c.args.places.now c.args.name.now c.args.most) c.args.places.now c.loop-place.place-index c.place-item.result c.loop-place.invariant (omega arith) c.place-item.is (sym c.is_leading.ensures ∙ c.if-is_leading.false)

pub returns : goal.returns
returns c = sym (none_found (is_leading c.args.places.now c.args.name.now c.args.most) c.args.places.now c.loop-place.place-index c.loop-place.invariant (omega arith))
