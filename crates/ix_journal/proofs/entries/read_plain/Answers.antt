use Rattle.ix_journal.proofs.EntryReads.{no_plain}
use Rattle.ix_journal.proofs.entries.read_plain.Goals as goal

pub returns-in-Err : goal.returns-in-Err
returns-in-Err c = no_plain c.args.text.now c.requires c.in-Err.ensures.no_action
