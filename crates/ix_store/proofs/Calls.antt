-- One call of the disk more.
use Rattle.std.proofs.Common.{◌≡◌, ℕ, true, List, Option, Some, Result, Ok, Err}
use Rattle.std.proofs.Common.{inl, inr, sym, ◌∙◌, subst}
use Rattle.ix_outside.specs.Crashes.{Crashes, AreLawful, OneCall, LeavesBy, LeavesTheFile, Settles}
use Rattle.ix_outside.specs.Disk.{Disk, OfFile, MakesFile, Stays, Torn}
use Rattle.ix_outside.specs.SiteState.{SiteState, OnlyDisk}
use Rattle.ix_outside.specs.inside.DiskCalls.{DiskCalls, LeavesOnly, KeepsOpened, span}
use Rattle.ix_outside.proofs.Passing.{DiskCalls-one, DiskCalls-join, LeavesOnly-call}
use Rattle.ix_outside.proofs.Passing.{LeavesOnly-join}
use Rattle.ix_outside.proofs.Passing.{LeavesOnly-none, Passes-none}
use Rattle.ix_store.specs.inside.Steps.{MaybeTorn}
use Rattle.ix_store.proofs.Told.{of_told, made, just}

-- a call that answers with a file attached, as before
pub one : (old new : SiteState) (was is : Crashes) → old.attached ≡ true → new.attached ≡ true
    → OneCall (span old new was is) → OnlyDisk old new → KeepsOpened old.disk new.disk
    → DiskCalls (span old new was is)
one old new was is before after call rest opened =
    DiskCalls-one old new was is call rest (after ∙ sym before) opened

-- one call more
pub more : (old mid new : SiteState) (was then is : Crashes) → AreLawful new is
    → old.attached ≡ true → DiskCalls (span old mid was then) → new.attached ≡ true
    → OneCall (span mid new then is) → OnlyDisk mid new → KeepsOpened mid.disk new.disk
    → DiskCalls (span old new was is)
more old mid new was then is lawful before calls after call rest opened =
    DiskCalls-join old mid new was then is lawful calls
    (one mid new then is (calls.attached ∙ before) after call rest opened)

-- what may be left behind a write is as before, or torn
pub torn_now : {T E : Type 0} (at count : ℕ) (result : Result T E) (was is : List ℕ → Type 0)
    → LeavesBy (Torn at count) result was is → (image : List ℕ) → is image
    → MaybeTorn at count was image
torn_now at count (Ok done) was is leaves image now = inr ((leaves image).0 now)
torn_now at count (Err fault) was is leaves image now = inr (leaves.0 image now)

-- what holds of what might have been left before a sync holds of what may be left behind it
pub sync_now : {T E : Type 0} (P : List ℕ → Type 0) (result : Result T E) (disk : Disk)
    (old new : Option Disk) (was is : List ℕ → Type 0) → old ≡ Some disk → OfFile was old
    → MakesFile Stays old new → Settles result new was is → ((image : List ℕ) → was image → P image)
    → (image : List ℕ) → is image → P image
sync_now P (Ok done) disk old new was is told file stays settles has image now =
    let after = made Stays old new disk told stays in
    let same = just new after.disk is after.told settles image now ∙ after.makes in
    has image (subst was (sym same) (of_told was old disk told file))
sync_now P (Err fault) disk old new was is told file stays settles has image now =
    has image ((settles image).0 now)

-- before and after the first call
pub first_call : (P : List ℕ → Type 0) (old new : SiteState) (was is : Crashes) → AreLawful old was
    → OneCall (span old new was is) → ((image : List ℕ) → was.now image → P image)
    → ((image : List ℕ) → is.now image → P image) → LeavesOnly P (span old new was is)
first_call P old new was is lawful call before behind =
    LeavesOnly-call P old old new was was is lawful (Passes-none old was)
    (LeavesOnly-none P old was lawful before) call behind

module _ (P : List ℕ → Type 0) (old mid : SiteState) (was then : Crashes)
    (calls : DiskCalls (span old mid was then)) (so_far : LeavesOnly P (span old mid was then)) where
  -- what each image since the begin has, each image now has
  pub now_has : AreLawful mid then → (image : List ℕ) → then.now image → P image
  now_has lawful image now =
      let here = (lawful.left_now image).1 now in
      so_far image (lawful.left_earlier old.tick mid.tick image calls.passes.left.later here)

  -- and behind one call more
  pub call_more : (new : SiteState) (is : Crashes) → AreLawful mid then → OneCall (span mid new then is)
      → ((image : List ℕ) → is.now image → P image) → LeavesOnly P (span old new was is)
  call_more new is lawful call behind =
      LeavesOnly-call P old mid new was then is lawful calls.passes so_far call behind

  -- and behind calls of which each leaves what has it
  pub calls_more : (new : SiteState) (is : Crashes) → DiskCalls (span mid new then is)
      → LeavesOnly P (span mid new then is) → LeavesOnly P (span old new was is)
  calls_more new is calls' next =
      LeavesOnly-join P old mid new was then is so_far calls'.passes.left calls.passes.left.later next

-- where just the file might have been left, and then it is written in this range
pub torn_has : (P : List ℕ → Type 0) (at count : ℕ) (disk : Option Disk) (told : Disk)
    (was : List ℕ → Type 0) → disk ≡ Some told → LeavesTheFile disk was
    → ((image : List ℕ) → was image → P image)
    → ((image : List ℕ) → Torn at count told.file image → P image)
    → (image : List ℕ) → MaybeTorn at count was image → P image
torn_has P at count disk told was is settled before torn image (inl now) = before image now
torn_has P at count disk told was is settled before torn image (inr (old, now, step)) =
    let same = just disk told was is settled old now in
    torn image (subst (λ (f : List ℕ). Torn at count f image) same step)
