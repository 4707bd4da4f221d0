-- The records of the actions so far.
use Rattle.std.proofs.Common.{◌≡◌, ◌++◌, map, take}
use Rattle.std.specs.Prelude.{All}
use Rattle.ix_values.specs.Texts.{IsAction}
use Rattle.ix_journal.specs.Format.{open_records}
use Rattle.ix_journal.specs.declared.entries.Entry.TheVariants as entry
use Rattle.ix_journal.proofs.writing.append_carried.Given as goal

abbrev pub invariant-loop-action : goal.invariant-loop-action
invariant-loop-action l =
    (l.bytes.items ≡ l.initial.bytes.items ++ open_records (map entry.Plain (take l.action-index l.carried)))
    × All IsAction (take l.action-index l.carried)
