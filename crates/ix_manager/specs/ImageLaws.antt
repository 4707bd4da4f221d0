-- Laws of the images that a run leaves: each can be started from.
use Rattle.std.specs.Prelude.{◌⊎◌, ℕ, List}
use Rattle.ix_journal.specs.History.{PlainHistory, actions_of}
use Rattle.ix_journal.specs.Recovery.{IsFullOfBoots}
use Rattle.ix_journal.specs.declared.entries.Renewed.{Renewed}
use Rattle.ix_expr.specs.Form.{Form}
use Rattle.ix_outside.specs.Contents.{GivenEvent}
use Rattle.ix_proto.specs.declared.reply.Reply.{Reply}
use Rattle.ix_manager.specs.Images.{EachPrefixIsWithin, IsStartable, Keeps, with_failed}
use Rattle.ix_manager.specs.Machine.{MachineState}
use Rattle.ix_manager.specs.Runs.{Opening, Ending, Run, opening_of}

-- from an opening of whose actions each prefix is within the limit, each prefix of every run's last
-- actions is, also with the action of a confirm that failed behind them
abbrev pub RunsStayWithin : Type 0
RunsStayWithin =
    (opening : Opening) (events : List GivenEvent) (answers : List (List (List Reply)))
    (last : MachineState) (ending : Ending)
    → EachPrefixIsWithin opening.form opening.limit (actions_of opening.history)
    → Run opening events answers last ending
    → EachPrefixIsWithin opening.form opening.limit (actions_of (with_failed ending last.history))

-- an image that keeps some of such a history's actions, the first ones, can be started from, and
-- gives these with their tickets; or a million of its records are boots
abbrev pub KeptImagesAreStartable : Type 0
KeptImagesAreStartable =
    (x : Form) (limit least : ℕ) (history : PlainHistory) (image : List ℕ)
    → EachPrefixIsWithin x limit (actions_of history) → (keeps : Keeps x least history image)
    → ((renewed : Renewed) × (boot : ℕ)
    × IsStartable (opening_of x limit keeps.kept renewed boot) image)
    ⊎ IsFullOfBoots image
