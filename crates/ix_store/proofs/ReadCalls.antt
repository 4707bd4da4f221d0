-- Calls that only read, one after another.
use Rattle.std.proofs.Common.{◌≡◌, ℕ, true, List, Option, None, Some, ◌∙◌, sym, subst}
use Rattle.ix_outside.specs.Crashes.{Crashes, AreLawful, OneCall, LeavesTheFile, LeavesTheSame}
use Rattle.ix_outside.specs.Disk.{Disk, OfFile, MakesFile, Stays}
use Rattle.ix_outside.specs.SiteState.{SiteState, OnlyDisk}
use Rattle.ix_outside.proofs.Passing.{DiskCalls-none, DiskCalls-join, KeepsOpened-makes}
use Rattle.ix_outside.specs.inside.DiskCalls.{span}
use Rattle.ix_store.specs.inside.Reading.{OnlyReads}
use Rattle.ix_store.proofs.Calls.{one, first_call, calls_more}
use Rattle.ix_store.proofs.Told.{of_told, to_told, came, just, stays_none}

-- what is made of a file that stayed is made of it
pub stays_then : (R : List ℕ → List ℕ → Type 0) (a b c : Option Disk) → MakesFile Stays a b
    → MakesFile R b c → MakesFile R a c
stays_then R None b c first second =
    let P : Option Disk → Type 0 = λ disk. MakesFile R disk c in subst P first second
stays_then R (Some a) None c first second = absurd first
stays_then R (Some a) (Some b) None first second = absurd second
stays_then R (Some a) (Some b) (Some c) first second =
    (subst (λ file. R file c.file) first.0 second.0, second.1 ∙ first.1)

pub stays_join : (a b c : Option Disk) → MakesFile Stays a b → MakesFile Stays b c
    → MakesFile Stays a c
stays_join a b c first second = stays_then Stays a b c first second

-- no call
pub reads_none : (now : SiteState) (crashes : Crashes) → AreLawful now crashes
    → OnlyReads (span now now crashes crashes)
reads_none now crashes lawful = record {
  calls = DiskCalls-none now crashes lawful;
  stays = stays_none now.disk;
  now = λ image. ((λ here. here), λ here. here);
  images = λ image left. (lawful.left_now image).0 left;
}

-- one call
pub reads_one : (old new : SiteState) (was is : Crashes) → AreLawful old was
    → old.attached ≡ true → new.attached ≡ true → OneCall (span old new was is) → OnlyDisk old new
    → MakesFile Stays old.disk new.disk → LeavesTheSame was.now is.now → OnlyReads (span old new was is)
reads_one old new was is lawful before after call rest stays same = record {
  calls = one old new was is before after call rest
      (KeepsOpened-makes Stays old.disk new.disk stays);
  stays = stays;
  now = same;
  images = first_call was.now old new was is lawful call (λ image here. here)
      (λ image here. (same image).0 here);
}

-- two stretches
pub reads_join : (old mid new : SiteState) (was then is : Crashes) → AreLawful new is
    → OnlyReads (span old mid was then) → OnlyReads (span mid new then is) → OnlyReads (span old new was is)
reads_join old mid new was then is lawful first second = record {
  calls = DiskCalls-join old mid new was then is lawful first.calls second.calls;
  stays = stays_join old.disk mid.disk new.disk first.stays second.stays;
  now = λ image. (
    (λ here. (first.now image).0 ((second.now image).0 here)),
    λ here. (second.now image).1 ((first.now image).1 here),
  );
  images = calls_more was.now old mid was then first.calls first.images new is second.calls
      (λ image left. (first.now image).0 (second.images image left));
}

-- where just the file might be left, just the file may be left
pub reads_settled : (old new : SiteState) (was is : Crashes) → OnlyReads (span old new was is)
    → LeavesTheFile old.disk was.now → LeavesTheFile new.disk is.now
reads_settled old new was is reads settled =
    let Only : List ℕ → Type 0 = λ file.
    (image : List ℕ) → (is.now image → image ≡ file) × (image ≡ file → is.now image) in
    let Was : List ℕ → Type 0 = λ file.
    (image : List ℕ) → (was.now image → image ≡ file) × (image ≡ file → was.now image) in
    to_told Only new.disk (λ told there image.
    let before = came Stays old.disk new.disk told there reads.stays in (
      (λ here. just old.disk before.disk was.now before.told settled image
          ((reads.now image).0 here) ∙ sym before.makes),
      λ same. (reads.now image).1
          ((of_told Was old.disk before.disk before.told settled image).1 (same ∙ before.makes)),
    ))

-- what holds of the file holds of it still, and what holds of it then held before
pub stays_of : (P : List ℕ → Type 0) (old new : Option Disk) → MakesFile Stays old new
    → OfFile P old → OfFile P new
stays_of P None new stays holds =
    let Q : Option Disk → Type 0 = OfFile P in subst Q (sym stays) tt
stays_of P (Some old) None stays holds = absurd stays
stays_of P (Some old) (Some new) stays holds = subst P (sym stays.0) holds

pub stayed_of : (P : List ℕ → Type 0) (old new : Option Disk) → MakesFile Stays old new
    → OfFile P new → OfFile P old
stayed_of P None new stays holds = tt
stayed_of P (Some old) None stays holds = absurd stays
stayed_of P (Some old) (Some new) stays holds = subst P stays.0 holds
