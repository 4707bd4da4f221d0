use Rattle.std.proofs.Common.{refl, sym, ◌∙◌, true≢false}
use Rattle.std.proofs.lemmas.Slice.Eq.{bytes_eq-Decides}
use Rattle.ix_next.proofs.ListLemmas.{member_at, member_next}
use Rattle.ix_next.proofs.list.stands_in.Goals as goal

pub returns-then-eq : goal.returns-then-eq
returns-then-eq c = (
  (λ yes. member_at (λ l. l.now) c.args.line.now c.args.lines.now c.loop-other.other-index _
      c.loop-other-test.true ((bytes_eq-Decides _ c.args.line.now).0 (sym c.if-eq.ensures))),
  (λ member. refl),
)

pub loop-other-preserved : goal.loop-other-preserved
loop-other-preserved c =
    member_next (λ l. l.now) c.args.line.now c.args.lines.now c.loop-other.other-index _
    c.loop-other-test.true c.loop-other.invariant
    (λ same. true≢false (sym ((bytes_eq-Decides _ c.args.line.now).1 (sym same)) ∙ sym c.if-eq.ensures))
