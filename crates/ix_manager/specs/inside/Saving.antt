-- What calls on a site make of the journal, and of what a crash may leave.
use Rattle.std.specs.Prelude.{◌≡◌, ◌⊎◌, ℕ, ◌<◌, ◌≤◌, List, ◌++◌, length}
use Rattle.std.specs.Prelude.{true, None, Some, IsSome, Result, Ok, Err, ⊤}
use Rattle.ix_values.specs.PlainAction.{PlainAction}
use Rattle.ix_values.specs.declared.tickets.Ticket.{Ticket}
use Rattle.ix_journal.specs.History.{PlainHistory}
use Rattle.ix_journal.specs.Recovery.{HoldsBoots}
use Rattle.ix_expr.specs.Form.{Form}
use Rattle.ix_lease.specs.declared.Slot.{Slot}
use Rattle.ix_lease.specs.declared.Slot.TheVariants.{Held}
use Rattle.ix_lease.specs.declared.Take.{Take}
use Rattle.ix_lease.specs.inside.Takes.{TakesSlot}
use Rattle.ix_outside.specs.Counts.{Rose}
use Rattle.ix_outside.specs.Crashes.{Crashes, Passes, LeavesTheSame, Stretch}
use Rattle.ix_outside.specs.SiteState.{SiteState}
use Rattle.ix_outside.specs.inside.DiskCalls.{DiskCalls, LeavesOnly}
use Rattle.ix_proto.specs.Requests.{confirm}
use Rattle.ix_proto.specs.declared.reply.Reply.{Reply}
use Rattle.ix_store.specs.Keeping.{Keeping}
use Rattle.ix_store.specs.inside.KeptBy.{kept}
use Rattle.ix_manager.specs.declared.journaled.Journaled.{Journaled}
use Rattle.ix_manager.specs.declared.faults.Stop.{Stop}
use Rattle.ix_manager.specs.declared.faults.Stop.TheVariants.{Disk}
use Rattle.ix_manager.specs.Runs.{Ending, going, stopped, failed}
use Rattle.ix_manager.specs.Images.{Keeps, with_failed, EndsAs}
use Rattle.ix_manager.specs.Handled.{ManagerState}
use Rattle.ix_manager.specs.Machine.{MachineState}
use Rattle.ix_manager.specs.inside.Acknowledging.{SendsMore}
use Rattle.ix_manager.specs.inside.Core.{Core}
use Rattle.ix_manager.specs.inside.Does.{Does}
use Rattle.ix_manager.specs.inside.OverSite.{FitsWith}

-- the journal is attached, and fits the site with the machine
pub record FitsJournal (j : Journaled) (site : SiteState) (crashes : Crashes) : Type 0 where
  pub attached : site.attached ≡ true
  pub fits : FitsWith j.machine.form j.machine.state (kept j.store) site crashes

-- unless a confirm failed, this holds
abbrev pub UnlessFailed : Ending → Type 0 → Type 0
UnlessFailed going P = P
UnlessFailed stopped P = P
UnlessFailed (failed a) P = ⊤

-- where a confirm failed, this holds
abbrev pub WhereFailed : Ending → Type 0 → Type 0
WhereFailed going P = ⊤
WhereFailed stopped P = ⊤
WhereFailed (failed a) P = P

-- Only sends were made: the disk is told as before or no more, what a crash now may leave stays,
-- and what else it may leave since they began is that too, beside what had been sent by then.
pub record OnlySends (stretch : Stretch) : Type 0 where
  pub count : stretch.after.counts.disk ≡ stretch.before.counts.disk
  pub disk : (stretch.after.disk ≡ stretch.before.disk) ⊎ (stretch.after.disk ≡ None)
  pub now : LeavesTheSame stretch.was.now stretch.is.now
  pub passes : Passes stretch
  pub images : LeavesOnly stretch.was.now stretch
  pub sends : SendsMore stretch

-- Over calls for a machine of the expression, which ended so: the history went on in this boot, and
-- each image keeps the actions of the one before, and no others than those of the new one and the
-- one whose confirm failed, and no boot more; what had been sent by each moment stands between.
-- Unless one did, the store as it is then fits.
pub record Saves (ending : Ending) (x : Form) (old new : MachineState) (store : Keeping)
    (stretch : Stretch) : Type 0 where
  pub passes : Passes stretch
  pub sends : SendsMore stretch
  pub count : stretch.before.counts.disk ≤ stretch.after.counts.disk
  pub told : IsSome stretch.after.disk → IsSome stretch.before.disk
  pub rest : PlainHistory
  pub grows : old.history ++ rest ≡ with_failed ending new.history
  pub renewed : new.renewed ≡ old.renewed
  pub boot : new.boot ≡ old.boot
  pub keeps : IsSome stretch.after.disk
      → LeavesOnly (Keeps x (length old.history) (with_failed ending new.history)) stretch
  pub boots : IsSome stretch.after.disk
      → LeavesOnly (λ image. HoldsBoots image old.renewed old.boot) stretch
  pub ends : IsSome stretch.after.disk
      → (image : List ℕ) → stretch.is.now image → EndsAs ending new.history image
  pub fits : UnlessFailed ending (FitsWith x new store stretch.after stretch.is)
  pub faults : WhereFailed ending
      (Rose stretch.before.counts.disk stretch.after.counts.disk)

-- of a machine with its journal
abbrev pub SavesJournal : Ending → Journaled → Journaled → Stretch → Type 0
SavesJournal ending old new stretch =
    Saves ending old.machine.form old.machine.state new.machine.state (kept new.store) stretch

-- of a manager
abbrev pub SavesRun : Ending → ManagerState → ManagerState → Stretch → Type 0
SavesRun ending old new stretch =
    Saves ending old.form old.machine new.machine new.store stretch

-- what the reservation of a ticket is found to be
abbrev pub Finds : Core → Ticket → Take → Type 0
Finds core ticket take =
    (slot : Slot) × TakesSlot core.state.slot ticket core.state.moment take slot

-- the open reservation's confirm made its step
abbrev pub Commits : Core → Ticket → Reply → Core → Type 0
Commits old ticket reply new = (a : PlainAction) (deadline : ℕ)
    → old.state.slot ≡ Held ticket a deadline → old.state.moment < deadline
    → Does old (confirm ticket) reply new

-- a confirm was answered by its step, or its append failed: then nothing of the machine changed
abbrev pub ConfirmEnds : Ticket → Result Reply Stop → Core → Core → Ending → Type 0
ConfirmEnds ticket (Ok reply) old new ending =
    Does old (confirm ticket) reply new × (ending ≡ going)
ConfirmEnds ticket (Err Disk) old new ending =
    (a : PlainAction) × (deadline : ℕ) × (old.state.slot ≡ Held ticket a deadline)
    × (old.state.moment < deadline) × (new ≡ old) × (ending ≡ failed (Some ticket, a))

-- a confirm was answered over a site
pub record ConfirmsOver (ticket : Ticket) (result : Result Reply Stop) (old new : Journaled)
    (stretch : Stretch) : Type 0 where
  pub ending : Ending
  pub confirms : ConfirmEnds ticket result old.machine new.machine ending
  pub saves : SavesJournal ending old new stretch
  pub calls : DiskCalls stretch
