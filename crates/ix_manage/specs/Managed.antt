-- Laws of what followers are promised for: a manager's history, and the lines that it sent.
use Rattle.std.specs.Prelude.{◌≡◌, ◌++◌, ℕ, List, length, drop}
use Rattle.ix_words.specs.Each.{Each}
use Rattle.ix_values.specs.PlainAction.{Word}
use Rattle.ix_journal.specs.History.{actions_of}
use Rattle.ix_outside.specs.Contents.{GivenEvent}
use Rattle.ix_proto.specs.Replies.{reply_text}
use Rattle.ix_proto.specs.declared.reply.Reply.{Reply}
use Rattle.ix_follow.specs.Laws.{IsManaged, TellsOf}
use Rattle.ix_manager.specs.Images.{IsStartable}
use Rattle.ix_manager.specs.Later.{Later}
use Rattle.ix_manager.specs.Machine.{MachineState, word_of}
use Rattle.ix_manager.specs.Runs.{Ending, Opening, Run}

-- the history of a run from a file that can be started from is a manager's, as followers take it
abbrev pub HistoriesAreManaged : Type 0
HistoriesAreManaged =
    (opening : Opening) (image : List ℕ) (events : List GivenEvent)
    (answers : List (List (List Reply))) (last : MachineState) (ending : Ending)
    → IsStartable opening image → Run opening events answers last ending
    → IsManaged opening.form opening.limit (actions_of last.history)

-- the line of each reply that such a run sent tells of its history, and of each later one, as
-- followers take it: the actions that were confirmed before the journal's renewal, in place of the
-- carried ones, and those behind them
abbrev pub SentLinesTell : Type 0
SentLinesTell =
    (opening : Opening) (image : List ℕ) (events : List GivenEvent)
    (answers : List (List (List Reply))) (last later : MachineState) (ending : Ending)
    → IsStartable opening image → Run opening events answers last ending
    → Later opening.form last later
    → (before : Word) → length before ≡ opening.renewed.actions
    → let whole = before ++ drop opening.renewed.carried (word_of later) in
    Each (Each (Each (λ told. TellsOf whole (reply_text told)))) answers
