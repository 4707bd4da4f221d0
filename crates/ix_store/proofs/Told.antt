-- What a site whose disk is told tells of its file.
use Rattle.std.proofs.Common.{◌≡◌, ℕ, List, Option, None, Some, Result, Ok, Err, subst, refl}
use Rattle.ix_outside.specs.Crashes.{LeavesTheFile}
use Rattle.ix_outside.specs.Disk.{Disk, OfFile, MakesFile, Writes, Cuts}
use Rattle.ix_outside.specs.inside.DiskCalls.{KeepsOpened}
use Rattle.ix_outside.proofs.Passing.{KeepsOpened-makes}

-- where the disk is told, what holds of its file
pub of_told : (P : List ℕ → Type 0) (disk : Option Disk) (told : Disk) → disk ≡ Some told
    → OfFile P disk → P told.file
of_told P disk told is holds = subst (OfFile P) is holds

-- what holds of the file of each disk that may be told
pub to_told : (P : List ℕ → Type 0) (disk : Option Disk)
    → ((told : Disk) → disk ≡ Some told → P told.file) → OfFile P disk
to_told P None holds = tt
to_told P (Some told) holds = holds told refl

-- the disk that is told after a call, and its file
pub record Made (R : List ℕ → List ℕ → Type 0) (old : Disk) (new : Option Disk) : Type 0 where
  pub disk : Disk
  pub told : new ≡ Some disk
  pub makes : R old.file disk.file

made_some : (R : List ℕ → List ℕ → Type 0) (old : Disk) (new : Option Disk)
    → MakesFile R (Some old) new → Made R old new
made_some R old None makes = absurd makes
made_some R old (Some disk) makes = record { disk = disk; told = refl; makes = makes.0 }

pub made : (R : List ℕ → List ℕ → Type 0) (old new : Option Disk) (told : Disk)
    → old ≡ Some told → MakesFile R old new → Made R told new
made R old new told is makes =
    let P : Option Disk → Type 0 = λ disk. MakesFile R disk new in
    made_some R told new (subst P is makes)

-- the disk that was told before a call, and its file
pub record Came (R : List ℕ → List ℕ → Type 0) (old : Option Disk) (new : Disk) : Type 0 where
  pub disk : Disk
  pub told : old ≡ Some disk
  pub makes : R disk.file new.file

came_some : (R : List ℕ → List ℕ → Type 0) (old : Option Disk) (new : Disk)
    → MakesFile R old (Some new) → Came R old new
came_some R None new makes = absurd (let e : Some new ≡ None = makes in cc)
came_some R (Some disk) new makes = record { disk = disk; told = refl; makes = makes.0 }

pub came : (R : List ℕ → List ℕ → Type 0) (old new : Option Disk) (told : Disk)
    → new ≡ Some told → MakesFile R old new → Came R old told
came R old new told is makes = came_some R old told (subst (MakesFile R old) is makes)

-- a step that follows from another of the file as it was
pub makes_weaken : (R S : List ℕ → List ℕ → Type 0) (old new : Option Disk)
    → ((told : Disk) → old ≡ Some told → (file : List ℕ) → R told.file file → S told.file file)
    → MakesFile R old new → MakesFile S old new
makes_weaken R S None new leads makes = makes
makes_weaken R S (Some old) None leads makes = makes
makes_weaken R S (Some old) (Some new) leads makes = (leads old refl new.file makes.0, makes.1)

pub stays_none : (disk : Option Disk) → MakesFile (λ before after. after ≡ before) disk disk
stays_none None = refl
stays_none (Some disk) = (refl, refl)

-- a write and a cut keep what was attached
pub writes_keep : {T E : Type 0} (at : ℕ) (bytes : List ℕ) (result : Result T E)
    (old new : Option Disk) → Writes at bytes result old new → KeepsOpened old new
writes_keep at bytes (Ok done) old new makes = KeepsOpened-makes _ old new makes
writes_keep at bytes (Err fault) old new makes = KeepsOpened-makes _ old new makes

pub cuts_keep : {T E : Type 0} (count : ℕ) (result : Result T E) (old new : Option Disk)
    → Cuts count result old new → KeepsOpened old new
cuts_keep count (Ok done) old new makes = KeepsOpened-makes _ old new makes
cuts_keep count (Err fault) old new makes = KeepsOpened-makes _ old new makes

-- where only the file may be left, an image is that file
pub just : (disk : Option Disk) (told : Disk) (now : List ℕ → Type 0) → disk ≡ Some told
    → LeavesTheFile disk now → (image : List ℕ) → now image → image ≡ told.file
just disk told now is settles image here =
    let Only : List ℕ → Type 0 = λ file.
    (image : List ℕ) → (now image → image ≡ file) × (image ≡ file → now image) in
    (of_told Only disk told is settles image).0 here
