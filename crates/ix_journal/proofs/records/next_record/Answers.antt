use Rattle.ix_journal.proofs.RecordTexts.{no_record, no_text, not_next}
use Rattle.ix_journal.proofs.records.next_record.Goals as goal

pub returns-in_err-text : goal.returns-in_err-text
returns-in_err-text c = rw c.from_residual.ensures (λ entry follows w. no_text c.args.bytes.now c.in_err-text.ensures entry w)

pub returns-in_err-entry : goal.returns-in_err-entry
returns-in_err-entry c =
    rw c.from_residual-in_err-entry.ensures
    (λ entry follows w. no_record c.args.bytes.now c.in_ok-text.text.now c.in_ok-text.ensures c.in_err-entry.ensures entry w)

pub returns-in_err-left : goal.returns-in_err-left
returns-in_err-left c =
    rw c.from_residual-in_err-left.ensures
    (not_next c.args.bytes.now c.in_ok-text.text.now c.in_ok-text.ensures c.args.marks.now c.in_ok-entry.entry
    c.in_ok-entry.ensures c.in_err-left.ensures)
