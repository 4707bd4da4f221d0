-- A manager over a site: when it fits, and what an event makes of both.
use Rattle.std.specs.Prelude.{◌≡◌, ◌⊎◌, ◌<◌, ◌≤◌, ℕ, false, List, length}
use Rattle.std.specs.Prelude.{None, IsSome, Result, Ok, Err}
use Rattle.ix_values.specs.PlainAction.{PlainAction}
use Rattle.ix_values.specs.declared.tickets.Ticket.{Ticket}
use Rattle.ix_journal.specs.Entries.{CanSpend, renewed_of}
use Rattle.ix_journal.specs.History.{Spent}
use Rattle.ix_journal.specs.Recovery.{HoldsBoots}
use Rattle.ix_journal.specs.declared.entries.Marks.{Marks}
use Rattle.ix_expr.specs.CanonicalText.{canonical_text}
use Rattle.ix_expr.specs.Form.{Form}
use Rattle.ix_outside.specs.Crashes.{Crashes, Stretch}
use Rattle.ix_outside.specs.SiteState.{SiteState}
use Rattle.ix_outside.specs.inside.DiskCalls.{KeepsOpened, LeavesOnly}
use Rattle.ix_outside.specs.declared.event.Event.{Event}
use Rattle.ix_lease.specs.declared.Slot.TheVariants.{Held}
use Rattle.ix_store.specs.inside.Keeping.{FitsFile}
use Rattle.ix_store.specs.Keeping.{Keeping}
use Rattle.ix_manager.specs.declared.faults.Go.{Go}
use Rattle.ix_manager.specs.declared.faults.Go.TheVariants.{More, Stopped}
use Rattle.ix_manager.specs.declared.faults.Stop.{Stop}
use Rattle.ix_manager.specs.declared.faults.Stop.TheVariants.{Disk}
use Rattle.ix_manager.specs.Runs.{Ending, going, stopped, failed}
use Rattle.ix_manager.specs.Images.{Keeps, with_failed, EndsAs}
use Rattle.ix_manager.specs.Handled.{ManagerState, Handles}
use Rattle.ix_manager.specs.Machine.{MachineState}
use Rattle.ix_manager.specs.Wire.{all_replies}
use Rattle.ix_manager.specs.inside.Acknowledging.{Acknowledges, SendsMore}

-- The tickets of a machine go on behind those that are kept: its carried actions stand for what is
-- kept, it is in the boot that was kept last, which has a record in the file,
-- and its next number is above the last one spent in it. So is that of the ticket that is reserved,
-- which was granted in this boot.
pub record TicketsGoOn (marks : Marks) (s : MachineState) : Type 0 where
  pub renewed : s.renewed ≡ renewed_of marks
  pub boot : s.boot ≡ marks.boots
  pub begun : s.renewed.boots < s.boot
  pub number : marks.seq < s.number
  pub reserved : (ticket : Ticket) (a : PlainAction) (deadline : ℕ)
      → s.slot ≡ Held ticket a deadline → CanSpend marks ticket × (ticket.seq < s.number)

-- a store that hasn't failed fits the site with the expression's canonical text and the machine's
-- history, behind which its tickets go on
pub record FitsWith (x : Form) (s : MachineState) (store : Keeping)
    (site : SiteState) (crashes : Crashes) : Type 0 where
  pub works : store.failed ≡ false
  pub fits : FitsFile site crashes store (canonical_text x) s.history
  pub tickets : TicketsGoOn store.marks s

-- the manager's store fits the site with its expression and its machine
abbrev pub FitsSite : ManagerState → SiteState → Crashes → Type 0
FitsSite m site crashes = FitsWith m.form m.machine m.store site crashes

-- whether the run goes on after an answer
abbrev pub ending_after : Go → Ending
ending_after More = going
ending_after Stopped = stopped

-- how the run stands after an answer: a confirm that failed ended it, where the disk did
abbrev pub EndsBy : Result Go Stop → Ending → Type 0
EndsBy (Ok go) ending = ending ≡ ending_after go
EndsBy (Err Disk) ending = (spent : Spent) × (ending ≡ failed spent)

-- An event is handled over a site. Where the site still tells its disk, each image that a crash
-- since the call began may leave keeps all actions that were confirmed before, and no others than
-- those that are confirmed now and the one whose confirm failed, and holds just the boots up to the
-- machine's; and each that a crash now may leave is as the run ends. Where it still tells its sends
-- too, each image that a crash at some moment since the call began may have left keeps all that was
-- acknowledged by then.
pub record HandlesOver (old : ManagerState) (event : Event) (bytes : List ℕ)
    (result : Result Go Stop) (new : ManagerState) (stretch : Stretch) : Type 0 where
  pub ending : Ending
  pub answered : EndsBy result ending
  pub handles : Handles old event bytes ending new stretch.before.contents stretch.after.contents
  pub keeps : IsSome stretch.after.disk → LeavesOnly
      (Keeps old.form (length old.machine.history) (with_failed ending new.machine.history)) stretch
  pub boots : IsSome stretch.after.disk
      → LeavesOnly (λ image. HoldsBoots image old.machine.renewed old.machine.boot) stretch
  pub ends : IsSome stretch.after.disk
      → (image : List ℕ) → stretch.is.now image → EndsAs ending new.machine.history image
  pub acknowledges : Acknowledges old.form (length old.machine.history)
      (with_failed ending new.machine.history) old.machine.renewed (all_replies handles.answers)
      stretch
  pub sends : SendsMore stretch

-- Nothing changed but the counts of the disk and of sends, neither of which fell, the tick, and
-- what the site tells of its connections and its disk; what was attached stays, where it is still
-- told.
pub record OnlyServes (old new : SiteState) : Type 0 where
  pub disk : old.counts.disk ≤ new.counts.disk
  pub wire : new.counts.wire ≡ old.counts.wire
  pub send : old.counts.send ≤ new.counts.send
  pub attached : new.attached ≡ old.attached
  pub opened : KeepsOpened old.disk new.disk ⊎ (new.disk ≡ None)
  pub held : new.held ≡ old.held
