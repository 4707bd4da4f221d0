-- What answering makes over a site.
use Rattle.std.specs.Prelude.{◌≡◌, List, length, Result}
use Rattle.ix_expr.specs.Form.{Form}
use Rattle.ix_proto.specs.declared.reply.Reply.{Reply}
use Rattle.ix_store.specs.Keeping.{Keeping}
use Rattle.ix_store.specs.inside.KeptBy.{kept}
use Rattle.ix_manager.specs.declared.faults.Go.{Go}
use Rattle.ix_manager.specs.declared.faults.Stop.{Stop}
use Rattle.ix_manager.specs.declared.journaled.Journaled.{Journaled}
use Rattle.ix_manager.specs.Handled.{ManagerState}
use Rattle.ix_manager.specs.Images.{with_failed}
use Rattle.ix_manager.specs.Machine.{MachineState}
use Rattle.ix_manager.specs.Runs.{Ending, going}
use Rattle.ix_manager.specs.inside.Acknowledging.{Acknowledges}
use Rattle.ix_manager.specs.inside.Core.{Core}
use Rattle.ix_manager.specs.inside.OverSite.{EndsBy}
use Rattle.ix_manager.specs.inside.Saving.{Saves, SavesJournal}
use Rattle.ix_manager.specs.inside.WireState.{WireState, WireStretch, site_stretch}

-- Something was answered for a machine of the expression over a site: what was made, by how the run
-- ended and the replies; what the journal kept of it; and that whatever a crash left keeps what the
-- replies acknowledged by then.
pub record Over (Made : Ending → List Reply → Type 0) (result : Result Go Stop)
    (x : Form) (old new : MachineState) (store : Keeping)
    (wires : WireStretch) : Type 0 where
  pub ending : Ending
  pub replies : List Reply
  pub answered : EndsBy result ending
  pub made : Made ending replies
  pub saves : Saves ending x old new store (site_stretch wires)
  pub acknowledges : Acknowledges x (length old.history) (with_failed ending new.history)
      old.renewed replies (site_stretch wires)

-- by a machine with its journal
abbrev pub OverJournal :
    (Ending → List Reply → Core → Core → WireState → WireState → Type 0) → Result Go Stop
    → Journaled → Journaled → WireStretch → Type 0
OverJournal Made result old new wires =
    Over (λ ending replies. Made ending replies old.machine new.machine wires.before wires.after)
    result old.machine.form old.machine.state new.machine.state (kept new.store) wires

-- by a manager
abbrev pub OverRun :
    (Ending → List Reply → ManagerState → ManagerState → WireState → WireState → Type 0)
    → Result Go Stop → ManagerState → ManagerState → WireStretch → Type 0
OverRun Made result old new wires =
    Over (λ ending replies. Made ending replies old new wires.before wires.after) result
    old.form old.machine new.machine new.store wires

-- nothing happened
pub record Rests (old new : Journaled) (wires : WireStretch) : Type 0 where
  pub machine : new.machine ≡ old.machine
  pub wire : wires.after ≡ wires.before
  pub saves : SavesJournal going old new (site_stretch wires)
