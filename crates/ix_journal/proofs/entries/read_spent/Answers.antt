use Rattle.ix_journal.proofs.EntryReads.{no_ticket, no_action}
use Rattle.ix_journal.proofs.entries.read_spent.Goals as goal

pub returns-in_err-ticket : goal.returns-in_err-ticket
returns-in_err-ticket c =
    rw c.from_residual.ensures
    (no_ticket c.args.word.now c.args.later.now c.requires.plain c.requires.no_boot c.requires.no_renewal
    c.in_err-ticket.ensures)

pub returns-in-Err : goal.returns-in-Err
returns-in-Err c =
    no_action c.args.word.now c.args.later.now c.requires.plain c.requires.no_boot c.requires.no_renewal
    c.in-Err.ensures.no_action
