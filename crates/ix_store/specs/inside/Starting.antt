-- What a start leaves on the disk, and what it counts.
use Rattle.std.specs.Prelude.{◌≡◌, ◌⊎◌, ℕ, List, [], ◌∷◌, ◌++◌, Option, Result, Ok, Err}
use Rattle.ix_journal.specs.declared.entries.Entry.{Entry}
use Rattle.ix_outside.specs.Counts.{Rose}
use Rattle.ix_outside.specs.Crashes.{LeavesTheFile, Stretch}
use Rattle.ix_outside.specs.Disk.{Disk, MakesFile, Stays}
use Rattle.ix_outside.specs.inside.DiskCalls.{LeavesOnly}
use Rattle.ix_journal.specs.declared.TheConstants.{CLOSED, OPEN}
use Rattle.ix_journal.specs.Format.{header}
use Rattle.ix_journal.specs.Recovery.{KeepsRecords}
use Rattle.ix_store.specs.declared.fault.OpenFault.{OpenFault}
use Rattle.ix_store.specs.declared.fault.OpenFault.TheVariants as fault
use Rattle.ix_store.specs.Opening.{IsNew}
use Rattle.ix_store.specs.inside.Opens.{IsOwnFile}
use Rattle.ix_store.specs.inside.Refusals.{TellsNothing}

-- What a crash during the start with this text may have left, where the file read so at its begin:
-- an image that might have been left before, or one that keeps the records that the file keeps, so
-- that it recovers the same history and holds as many boots; and if the file was unfinished or had
-- this text, it is so too. A file that isn't to be made anew stays.
pub record LeavesOnStart (text file : List ℕ) (stretch : Stretch) : Type 0 where
  pub keeps : (entries : List Entry) → KeepsRecords file entries
      → LeavesOnly (λ image. stretch.was.now image ⊎ KeepsRecords image entries) stretch
  pub own : IsOwnFile file text
      → LeavesOnly (λ image. stretch.was.now image ⊎ IsOwnFile image text) stretch
  pub stays : ¬ IsNew file text → MakesFile Stays stretch.before.disk stretch.after.disk
      × LeavesOnly stretch.was.now stretch

-- the bytes of a journal of this text that was made anew: an open gate, its header of version 2, a
-- closed gate
abbrev pub new_journal : List ℕ → List ℕ
new_journal text = OPEN ∷ header 50 text ++ CLOSED ∷ []

-- a file that is to be made anew has these bytes then
abbrev pub MakesNew : List ℕ → List ℕ → List ℕ → Type 0
MakesNew text old new = IsNew old text → new ≡ new_journal text

-- just the file may be left behind, unless the disk failed or memory ran out
abbrev pub SettlesOpening : {T : Type 0} → Result T OpenFault → Option Disk → (List ℕ → Type 0)
    → Type 0
SettlesOpening (Ok opened) disk now = LeavesTheFile disk now
SettlesOpening (Err why) disk now = ¬ TellsNothing why → LeavesTheFile disk now

-- a fault of the disk was counted; where all went well, none was
abbrev pub CountsOpening : {T : Type 0} → Result T OpenFault → ℕ → ℕ → Type 0
CountsOpening (Ok opened) before now = now ≡ before
CountsOpening (Err why) before now = why ≡ fault.Disk → Rose before now
