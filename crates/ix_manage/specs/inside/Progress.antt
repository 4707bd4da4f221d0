-- A run as far as it went: what it started from, what an event makes of it, what its journal keeps.
use Rattle.std.specs.Prelude.{◌≡◌, ◌≢◌, ◌⊎◌, Bool, true, false}
use Rattle.ix_journal.specs.History.{Spent}
use Rattle.ix_outside.specs.Crashes.{Stretch}
use Rattle.ix_outside.specs.declared.event.EventKind.{EventKind}
use Rattle.ix_outside.specs.declared.event.EventKind.TheVariants.{End}
use Rattle.ix_store.specs.Keeping.{Keeping}
use Rattle.ix_manager.specs.Handled.{ManagerState, started}
use Rattle.ix_manager.specs.Machine.{MachineState, start_of}
use Rattle.ix_manager.specs.Runs.{Ending, Opening, going, stopped, failed}
use Rattle.ix_manager.specs.inside.Saving.{Saves}
use Rattle.ix_manage.specs.declared.event_outcome.EventOutcome.{EventOutcome}
use Rattle.ix_manage.specs.declared.event_outcome.EventOutcome.TheVariants.{More, Done, Cut, Failed}

-- what a manager's run would start from as the manager stands
abbrev pub opening_at : ManagerState → Opening
opening_at m =
    record {
      form = m.form;
      limit = m.limit;
      history = m.machine.history;
      renewed = m.machine.renewed;
      boot = m.machine.boot;
    }

-- the manager was just started
abbrev pub IsStarted : ManagerState → Type 0
IsStarted m = m ≡ started (opening_at m) m.store

-- what became of a run by an event: a put failed; or none did, and the disk failed, or the event
-- was the end or brought `stop`; or else the run may go on
abbrev pub IsEventOutcome : Bool → Ending → EventKind → EventOutcome → Type 0
IsEventOutcome lost ending kind More = (lost ≡ false) × (ending ≡ going) × (kind ≢ End)
IsEventOutcome lost ending kind Done = (lost ≡ false) × ((kind ≡ End) ⊎ (ending ≡ stopped))
IsEventOutcome lost ending kind Cut = lost ≡ true
IsEventOutcome lost ending kind Failed =
    (lost ≡ false) × ((spent : Spent) × (ending ≡ failed spent))

-- over a stretch of calls the journal kept the history of a run that started from the opening, and
-- goes on or ended so in this state
abbrev pub SavesFrom : Opening → Ending → MachineState → Keeping → Stretch → Type 0
SavesFrom opening ending last store stretch =
    Saves ending opening.form
    (start_of opening.history opening.renewed opening.boot) last store stretch
