-- What a record that is written says, and the version of a header that is.
use Rattle.std.specs.Prelude.{ℕ, ◌≤◌, ◌^◌, ⊤}
use Rattle.ix_journal.specs.declared.entries.Entry.{Entry}
use Rattle.ix_journal.specs.declared.entries.Entry.TheVariants as entry
use Rattle.ix_journal.specs.declared.writing.Record.{Record}
use Rattle.ix_journal.specs.declared.writing.Record.TheVariants as written
use Rattle.ix_journal.specs.declared.writing.Version.{Version}
use Rattle.ix_journal.specs.declared.writing.Version.TheVariants as version

-- what it says
abbrev pub entry_written : Record → Entry
entry_written (written.Renewed actions boots) = entry.Renewed actions boots
entry_written (written.Boot number) = entry.Boot number
entry_written (written.Spent ticket action) = entry.Spent ticket action.now
entry_written (written.Plain action) = entry.Plain action.now

-- the numbers of a renewal fit
abbrev pub CanBeWritten : Record → Type 0
CanBeWritten (written.Renewed actions boots) = (actions ≤ 2 ^ 63) × (boots ≤ 2 ^ 63)
CanBeWritten (written.Boot number) = ⊤
CanBeWritten (written.Spent ticket action) = ⊤
CanBeWritten (written.Plain action) = ⊤

-- the digit of a version: 2 or 3
abbrev pub digit_of : Version → ℕ
digit_of version.Started = 50
digit_of version.Renewed = 51
