use Rattle.std.proofs.Common.{sym, ◌∙◌}
use Rattle.ix_journal.proofs.KindLemmas.{foreign_without_header, foreign_without_gate, is_unopened}
use Rattle.ix_journal.proofs.header.header_of.Goals as goal
use Rattle.ix_journal.proofs.header.header_of.Goals.{else-bytes-gate-via-then-bytes-gate+else-bytes-gate-2}
use Rattle.ix_journal.proofs.header.header_of.Goals.{else-bytes-gate-via-else-bytes-gate}

pub returns-in_default-header_text : goal.returns-in_default-header_text
returns-in_default-header_text c =
    foreign_without_header _ _ _ c.in-Some.ensures.cases.0 c.if-head-eq0.false
    (sym c.is_empty.ensures ∙ c.if-is_empty.false) c.in_default-header_text.ensures

pub returns-then-bytes-gate-2 : goal.returns-then-bytes-gate-2
returns-then-bytes-gate-2 c =
    is_unopened _ _ _ c.in-Some.ensures.cases.0 c.if-head-eq0.false
    (sym c.is_empty.ensures ∙ c.if-is_empty.false) _ c.in-Some-header_text.ensures
    c.if-head.false c.if-bytes-gate.true c.if-bytes-gate-2.true

pub returns : goal.returns
returns c =
    foreign_without_gate _ _ _ c.in-Some.ensures.cases.0 c.if-head-eq0.false
    (sym c.is_empty.ensures ∙ c.if-is_empty.false) _ c.in-Some-header_text.ensures c.if-head.false
    (λ other known. elim c.else-bytes-gate.branch [
      | else-bytes-gate-via-then-bytes-gate+else-bytes-gate-2 w ↦ known.1 w.if-bytes-gate-2.false
      | else-bytes-gate-via-else-bytes-gate w ↦ w.if-bytes-gate.false known.0
    ])
