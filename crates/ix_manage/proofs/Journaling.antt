-- What an event makes of the journal.
use Rattle.std.proofs.Common.{◌≡◌, ◌⊎◌, inl, inr, ℕ, ◌≤◌, List, length}
use Rattle.std.proofs.Common.{Option, None, IsSome, true≢false, Result, Ok, Err, OnOk, OnErr, refl, sym, ◌∙◌, subst}
use Rattle.ix_journal.specs.Recovery.{HoldsBoots}
use Rattle.ix_outside.specs.Counts.{Rose}
use Rattle.ix_outside.specs.Crashes.{Crashes, AreLawful, Elapses, Passes}
use Rattle.ix_outside.specs.Disk.{Disk}
use Rattle.ix_outside.specs.SiteState.{SiteState}
use Rattle.ix_outside.specs.declared.event.Event.{Event}
use Rattle.ix_outside.specs.inside.DiskCalls.{KeepsOpened, span}
use Rattle.ix_proto.specs.declared.reply.Reply.{Reply}
use Rattle.ix_script.specs.lemmas.OtherDisk.{lawful_without_sends}
use Rattle.ix_script.specs.inside.WithoutSends.{without_sends}
use Rattle.ix_manager.specs.Handled.{ManagerState, TakesEvent}
use Rattle.ix_manager.specs.Images.{EndsAs, Keeps, with_failed}
use Rattle.ix_manager.specs.Runs.{Ending}
use Rattle.ix_manager.specs.declared.faults.Go.{Go}
use Rattle.ix_manager.specs.declared.faults.Go.TheVariants.{More, Stopped}
use Rattle.ix_manager.specs.declared.faults.Stop.{Stop}
use Rattle.ix_manager.specs.declared.faults.Stop.TheVariants.{Disk as DiskFault}
use Rattle.ix_manager.specs.inside.OverSite.{EndsBy, FitsSite, FitsWith}
use Rattle.ix_manager.specs.inside.Acknowledging.{SendsMore}
use Rattle.ix_manager.specs.inside.Saving.{SavesRun, UnlessFailed, WhereFailed}
use Rattle.ix_manager.proofs.Changing.{steps_renewed}
use Rattle.ix_manager.proofs.GrowingLemmas.{steps_grow}
use Rattle.ix_manager.proofs.LaterLemmas.{steps_boot}
use Rattle.ix_manager.proofs.SavingLemmas.{kept_told}
use Rattle.ix_manage.specs.inside.ReplayProgress.{disk_alone}

unless : (result : Result Go Stop) (ending : Ending) (P : Type 0) → EndsBy result ending → OnOk result P → UnlessFailed ending P
unless (Ok More) ending P is p = let Q : Ending → Type 0 = λ e. UnlessFailed e P in subst Q (sym is) p
unless (Ok Stopped) ending P is p = let Q : Ending → Type 0 = λ e. UnlessFailed e P in subst Q (sym is) p
unless (Err DiskFault) ending P is p = let Q : Ending → Type 0 = λ e. UnlessFailed e P in subst Q (sym is.1) tt

where_failing : (result : Result Go Stop) (ending : Ending) (P : Type 0) → EndsBy result ending → OnErr result P → WhereFailed ending P
where_failing (Ok More) ending P is p = let Q : Ending → Type 0 = λ e. WhereFailed e P in subst Q (sym is) tt
where_failing (Ok Stopped) ending P is p = let Q : Ending → Type 0 = λ e. WhereFailed e P in subst Q (sym is) tt
where_failing (Err DiskFault) ending P is p = let Q : Ending → Type 0 = λ e. WhereFailed e P in subst Q (sym is.1) p

ok_along : (result : Result Go Stop) (P Q : Type 0) → (P → Q) → OnOk result P → OnOk result Q
ok_along (Ok go) P Q to p = to p
ok_along (Err DiskFault) P Q to p = tt

-- a disk that may be told no more was told where it is
pub told_before : (old new : Option Disk) → KeepsOpened old new ⊎ (new ≡ None) → IsSome new → IsSome old
told_before old new (inl keeps) told = kept_told old new keeps told
told_before old new (inr untold) told =
    let P : Option Disk → Type 0 = λ disk. IsSome disk in
    let nothing : P None = subst P untold told in absurd (true≢false (sym nothing))

-- an event that was handled over a site's disk
pub event_saves : (old new : ManagerState) (event : Event) (bytes : List ℕ) (result : Result Go Stop)
    (ending : Ending) (answers : List (List Reply)) (before after : SiteState) (p q : Crashes)
    → EndsBy result ending → TakesEvent old event bytes answers new ending
    → (IsSome after.disk → (image : List ℕ) → q.left before.tick image
    → Keeps old.form (length old.machine.history) (with_failed ending new.machine.history) image)
    → (IsSome after.disk → (image : List ℕ) → q.left before.tick image → HoldsBoots image old.machine.renewed old.machine.boot)
    → (IsSome after.disk → (image : List ℕ) → q.now image → EndsAs ending new.machine.history image)
    → OnErr result (Rose before.counts.disk after.counts.disk) → OnOk result (FitsSite new after q)
    → Passes (span before after p q) → before.counts.disk ≤ after.counts.disk
    → KeepsOpened before.disk after.disk ⊎ (after.disk ≡ None) → SendsMore (span before after p q)
    → SavesRun ending old new (span before after p q)
event_saves old new event bytes result ending answers before after p q is takes keeps boots ends rose fits passes le opened sends =
    let grows = steps_grow takes.steps in record {
      passes = passes;
      sends = sends;
      count = le;
      told = told_before before.disk after.disk opened;
      rest = grows.0;
      grows = grows.1;
      renewed = steps_renewed takes.steps;
      boot = steps_boot takes.steps;
      keeps = keeps;
      boots = boots;
      ends = ends;
      fits = unless result ending _ is
          (ok_along result (FitsSite new after q) (FitsWith old.form new.machine new.store after q)
          (λ fit. subst (λ x. FitsWith x new.machine new.store after q) takes.form fit) fits);
      faults = where_failing result ending _ is rose;
    }

-- what a crash may leave of a disk agrees with what is told of it alone
pub alone_lawful : (site : SiteState) (crashes : Crashes) → AreLawful site crashes
    → AreLawful (disk_alone site) (without_sends crashes)
alone_lawful site crashes lawful =
    lawful_without_sends site (disk_alone site) crashes refl refl refl refl lawful

-- a store fits a site of which the same is told and may be left
pub fits_again : (m : ManagerState) (one two : SiteState) (p q : Crashes) → two.disk ≡ one.disk → q.now ≡ p.now
    → FitsSite m one p → FitsSite m two q
fits_again m one two p q disk now fits = record {
  works = fits.works;
  fits = record {
    count = fits.fits.count;
    images = λ d is image left. fits.fits.images d (sym disk ∙ is) image (cast now image left);
  };
  tickets = fits.tickets;
}
  where
    cast : {P Q : List ℕ → Type 0} → Q ≡ P → (image : List ℕ) → Q image → P image
    cast {P = P} {Q = Q} same image left = subst (λ (R : List ℕ → Type 0). R image) same left

pub ok_fits : (result : Result Go Stop) (m : ManagerState) (one two : SiteState) (p q : Crashes)
    → two.disk ≡ one.disk → q.now ≡ p.now
    → OnOk result (FitsSite m one p) → OnOk result (FitsSite m two q)
ok_fits result m one two p q disk now = ok_along result (FitsSite m one p) (FitsSite m two q) (fits_again m one two p q disk now)

pub passes_again : (one one' two two' : SiteState) (p q : Crashes) → one'.tick ≡ one.tick → two'.tick ≡ two.tick
    → Passes (span one two p q) → Passes (span one' two' p q)
passes_again one one' two two' p q first second passes = record {
  left = subst (λ t. Elapses t two'.tick p.left q.left) (sym first)
      (subst (λ t. Elapses one.tick t p.left q.left) (sym second) passes.left);
  left_since = subst (λ t. Elapses t two'.tick p.left_since q.left_since) (sym first)
      (subst (λ t. Elapses one.tick t p.left_since q.left_since) (sym second) passes.left_since);
}
