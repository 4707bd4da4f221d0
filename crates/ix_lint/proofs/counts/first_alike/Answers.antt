use Rattle.ix_lint.specs.Counts.{is_like}
use Rattle.std.proofs.Common.{◌∙◌, sym, arith}
use Rattle.ix_lint.proofs.Finds.{found_here, not_yet, none_found}
use Rattle.ix_lint.proofs.counts.first_alike.Goals as goal

pub returns-then-are_alike : goal.returns-then-are_alike
returns-then-are_alike c = sym (found_here (is_like c.args.atom.now) c.args.places.now c.loop-place.place-index c.place-item.result c.loop-place.invariant (omega arith) c.place-item.is (sym c.are_alike.ensures ∙ c.if-are_alike.true))

pub loop-place-preserved : goal.loop-place-preserved
loop-place-preserved c = not_yet (is_like c.args.atom.now) c.args.places.now c.loop-place.place-index c.place-item.result c.loop-place.invariant (omega arith) c.place-item.is (sym c.are_alike.ensures ∙ c.if-are_alike.false)

pub returns : goal.returns
returns c = sym (none_found (is_like c.args.atom.now) c.args.places.now c.loop-place.place-index c.loop-place.invariant (omega arith))
