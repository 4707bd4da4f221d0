-- What a fault tells of the file that wasn't opened.
use Rattle.std.specs.Prelude.{◌≢◌, ◌⊎◌, List, ℕ, ⊤}
use Rattle.ix_journal.specs.Kinds.{IsForeign, IsUnopened}
use Rattle.ix_journal.specs.Recovery.{IsDamaged, IsFullOfBoots, IsMany}
use Rattle.ix_store.specs.declared.fault.OpenFault.{OpenFault}
use Rattle.ix_store.specs.declared.fault.OpenFault.TheVariants as fault
use Rattle.ix_store.specs.Opening.{IsReadyWith}

-- no journal; one of another text; or one of this text that is damaged, holds too many records, or
-- has no room for a boot
abbrev pub RefusesFileAs : List ℕ → List ℕ → OpenFault → Type 0
RefusesFileAs file text fault.NotJournal = IsForeign file
RefusesFileAs file text (fault.OtherExpression kept) =
    (IsUnopened file kept.items ⊎ IsReadyWith file kept.items) × (kept.items ≢ text)
RefusesFileAs file text (fault.Damaged at) = IsReadyWith file text × IsDamaged file at
RefusesFileAs file text fault.Many = IsReadyWith file text × (IsMany file ⊎ IsFullOfBoots file)
RefusesFileAs file text fault.Disk = ⊤
RefusesFileAs file text fault.Memory = ⊤

-- the fault tells nothing of the file: the disk failed, or memory ran out
abbrev pub TellsNothing : OpenFault → Type 0
TellsNothing fault.Disk = ⊤
TellsNothing fault.Memory = ⊤
TellsNothing _ = ⊥
