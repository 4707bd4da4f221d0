use Rattle.std.proofs.Common.{◌≡◌, codes, rules}
use Rattle.ix_journal.proofs.EntryReads.{no_boot}
use Rattle.ix_journal.proofs.entries.read_two.Goals as goal

pub returns-in-None : goal.returns-in-None
returns-in-None c =
    let is : c.args.word.now ≡ codes "boot" = search rules in
    no_boot c.args.word.now c.args.later.now c.requires is c.in-None.ensures
