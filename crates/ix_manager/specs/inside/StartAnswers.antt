-- What starting a manager answers, and what a crash meanwhile may leave.
use Rattle.std.specs.Prelude.{◌≡◌, ◌≢◌, ◌⊎◌, ℕ, ◌+◌, List, ⊤}
use Rattle.std.specs.Prelude.{Result, Ok, Err}
use Rattle.ix_journal.specs.History.{PlainHistory, actions_of}
use Rattle.ix_expr.specs.CanonicalText.{canonical_text}
use Rattle.ix_expr.specs.Form.{Form}
use Rattle.ix_journal.specs.Kinds.{IsUnfinished, IsForeign}
use Rattle.ix_journal.specs.Recovery.{HoldsBoots, IsDamaged, IsFullOfBoots, IsMany, Recovers}
use Rattle.ix_journal.specs.declared.entries.Renewed.{Renewed}
use Rattle.ix_outside.specs.Crashes.{Stretch}
use Rattle.ix_outside.specs.Disk.{MakesFile, Stays}
use Rattle.ix_outside.specs.inside.DiskCalls.{LeavesOnly}
use Rattle.ix_store.specs.Opening.{IsReadyWith}
use Rattle.ix_manager.specs.declared.faults.StartFault.{StartFault}
use Rattle.ix_manager.specs.declared.faults.StartFault.TheVariants as fault
use Rattle.ix_manager.specs.Runs.{opening_of}
use Rattle.ix_manager.specs.Images.{IsOwn, IsStartable}
use Rattle.ix_manager.specs.Handled.{ManagerState}
use Rattle.ix_manager.specs.Starts.{HasText, IsHeavy, IsNoWord, OpensAs}

-- Why no run starts from the file, under a limit that the initial tree is within. The disk may
-- fail, and memory run out, over any file.
abbrev pub IsStartFault : Form → ℕ → List ℕ → StartFault → Type 0
IsStartFault x limit file (fault.Large l) = ⊥
IsStartFault x limit file fault.Disk = ⊤
IsStartFault x limit file fault.Foreign = IsForeign file
IsStartFault x limit file (fault.Other kept) =
    HasText file kept.items × (kept.items ≢ canonical_text x)
IsStartFault x limit file (fault.Damaged at) =
    IsReadyWith file (canonical_text x) × IsDamaged file at
IsStartFault x limit file fault.Many =
    IsReadyWith file (canonical_text x) × (IsMany file ⊎ IsFullOfBoots file)
IsStartFault x limit file (fault.Word number) =
    (history : PlainHistory) × OpensAs x file history
    × IsNoWord x limit (actions_of history) number
IsStartFault x limit file (fault.Heavy number l) =
    (history : PlainHistory) × OpensAs x file history
    × IsHeavy x limit (actions_of history) number × (l ≡ limit)
IsStartFault x limit file fault.Memory = ⊤

-- what a start answers by the file, under a limit that the initial tree is within
abbrev pub StartsFrom : Form → ℕ → List ℕ → Result ManagerState StartFault → Type 0
StartsFrom x limit file (Ok m) =
    IsStartable (opening_of x limit m.machine.history m.machine.renewed m.machine.boot) file
StartsFrom x limit file (Err why) = IsStartFault x limit file why

-- only a start that answers Ok, or whose disk failed, records a boot
abbrev pub MayRecord : Result ManagerState StartFault → Type 0
MayRecord (Ok m) = ⊤
MayRecord (Err fault.Disk) = ⊤
MayRecord (Err _) = ⊥

-- What a crash since a start began may leave, by its answer and by the file as it read then: an
-- image that might have been left before, or one that recovers the same and holds as many boots,
-- or one more where it may record one; and where the file is unfinished or has the expression's
-- text, one that the expression may open. Where no run starts from the file, it stays, and nothing
-- else may be left than before.
pub record StartLeaves (x : Form) (limit : ℕ) (file : List ℕ)
    (result : Result ManagerState StartFault) (stretch : Stretch) : Type 0 where
  pub recovers : (history : PlainHistory) → Recovers file history
      → LeavesOnly (λ image. stretch.was.now image ⊎ Recovers image history) stretch
  pub boots : (renewed : Renewed) (boots : ℕ) → HoldsBoots file renewed boots → LeavesOnly
      (λ image. stretch.was.now image ⊎ HoldsBoots image renewed boots
      ⊎ (MayRecord result × HoldsBoots image renewed (boots + 1)))
      stretch
  pub own : IsUnfinished file ⊎ HasText file (canonical_text x)
      → LeavesOnly (λ image. stretch.was.now image ⊎ IsOwn x image) stretch
  pub refused : ((history : PlainHistory) (renewed : Renewed) (boot : ℕ)
      → ¬ IsStartable (opening_of x limit history renewed boot) file)
      → MakesFile Stays stretch.before.disk stretch.after.disk
      × LeavesOnly stretch.was.now stretch
