-- What making a renewed journal leaves, and what it counts.
use Rattle.std.specs.Prelude.{◌≡◌, ◌≢◌, ◌⊎◌, ℕ, List, [], Option, Result, Ok, Err, ⊤}
use Rattle.ix_outside.specs.Counts.{Rose}
use Rattle.ix_outside.specs.Crashes.{LeavesTheFile}
use Rattle.ix_outside.specs.Disk.{Disk}
use Rattle.ix_store.specs.declared.making.RenewFault.{RenewFault}
use Rattle.ix_store.specs.declared.making.RenewFault.TheVariants as fault
use Rattle.ix_store.specs.declared.fault.OpenFault.{OpenFault}
use Rattle.ix_store.specs.declared.fault.OpenFault.TheVariants as open_fault
use Rattle.ix_store.specs.inside.Steps.{IsBegun}

-- unfinished, unopened, or a journal of the text without records; or the whole renewed one
abbrev pub IsRenewing : List ℕ → List ℕ → List ℕ → Type 0
IsRenewing text whole image = IsBegun text image ⊎ (image ≡ whole)

-- what a fault tells of the file: that it has a byte
abbrev pub TellsFile : List ℕ → RenewFault → Type 0
TellsFile file fault.There = file ≢ []
TellsFile file fault.Disk = ⊤
TellsFile file fault.Memory = ⊤

-- just the file may be left behind, unless the disk failed or memory ran out
abbrev pub SettlesRenewal : {T : Type 0} → Result T RenewFault → Option Disk → (List ℕ → Type 0)
    → Type 0
SettlesRenewal (Ok done) disk now = LeavesTheFile disk now
SettlesRenewal (Err fault.There) disk now = LeavesTheFile disk now
SettlesRenewal (Err fault.Disk) disk now = ⊤
SettlesRenewal (Err fault.Memory) disk now = ⊤

-- a fault of the disk was counted; where all went well, none was
abbrev pub CountsRenewal : {T : Type 0} → Result T RenewFault → ℕ → ℕ → Type 0
CountsRenewal (Ok done) before now = now ≡ before
CountsRenewal (Err why) before now = why ≡ fault.Disk → Rose before now

-- what the fault of a call that tells nothing of the file is to a renewal
abbrev pub renew_fault : OpenFault → RenewFault
renew_fault open_fault.Disk = fault.Disk
renew_fault _ = fault.Memory
