-- What taking one item of a piece makes, and what taking all bytes of an event makes.
use Rattle.std.specs.Prelude.{◌≡◌, ℕ, Bool, List, [], take, set}
use Rattle.std.specs.Prelude.{Option, Some, None, Result, Ok, Err}
use Rattle.ix_lines.specs.Items.{Item}
use Rattle.ix_lines.specs.Feeding.{UnfinishedLine, Feeds, completes, holds_after}
use Rattle.ix_proto.specs.declared.reply.Reply.{Reply}
use Rattle.ix_manager.specs.declared.answering.Taken.{Taken}
use Rattle.ix_manager.specs.declared.faults.Go.{Go}
use Rattle.ix_manager.specs.declared.faults.Stop.{Stop}
use Rattle.ix_manager.specs.declared.journaled.Journaled.{Journaled}
use Rattle.ix_manager.specs.Runs.{Ending, going, Steps}
use Rattle.ix_manager.specs.Wire.{all_replies}
use Rattle.ix_manager.specs.Handled.{ManagerState, held_at, has_ended}
use Rattle.ix_manager.specs.inside.Over.{OverJournal, Rests}
use Rattle.ix_manager.specs.inside.WireState.{WireState, WireStretch, SendsAll, AnswersItem}

-- the first item of a piece is taken and answered
pub record TakesOne (conn : ℕ) (held : UnfinishedLine) (piece : List ℕ) (used : ℕ)
    (result : Result Go Stop) (after_it : UnfinishedLine) (old new : Journaled)
    (wires : WireStretch) : Type 0 where
  pub item : Item
  pub feeds : Feeds held piece (Some item) used
  pub held_is : after_it ≡ holds_after held (take used piece)
  pub answers : OverJournal (AnswersItem conn item) result old new wires

-- the piece is taken to its end, and completes nothing
pub record TakesNone (held : UnfinishedLine) (piece : List ℕ) (after_it : UnfinishedLine)
    (old new : Journaled) (wires : WireStretch) : Type 0 where
  pub completes_none : completes held piece ≡ []
  pub held_is : after_it ≡ holds_after held piece
  pub rests : Rests old new wires

-- the first item of a piece is taken, if it completes one
abbrev pub TakesItem : ℕ → UnfinishedLine → List ℕ → Result (Option Taken) Stop → UnfinishedLine
    → Journaled → Journaled → WireStretch → Type 0
TakesItem conn held piece (Ok (Some taken)) after_it old new wires =
    TakesOne conn held piece taken.used (Ok taken.go) after_it old new wires
TakesItem conn held piece (Ok None) after_it old new wires =
    TakesNone held piece after_it old new wires
TakesItem conn held piece (Err stop) after_it old new wires =
    (used : ℕ) × TakesOne conn held piece used (Err stop) after_it old new wires

-- bytes of a connection are taken, and their replies are sent; the connection is then marked or not
pub record TakesBytes (conn : ℕ) (bytes : List ℕ) (ending : Ending) (replies : List Reply)
    (old new : ManagerState) (before after : WireState) : Type 0 where
  pub answers : List (List Reply)
  pub all : replies ≡ all_replies answers
  pub marked : Bool
  pub steps : Steps old.form old.limit old.machine (completes (held_at conn old.lines) bytes)
      answers new.machine ending
  pub sends : SendsAll conn replies before (record after { gone = marked })
  pub lines : ending ≡ going
      → new.lines ≡ set old.lines conn (holds_after (held_at conn old.lines) bytes)
  pub marks : new.marks ≡ set old.marks conn marked
  pub ended : new.ended ≡ has_ended ending
  pub form : new.form ≡ old.form
  pub limit : new.limit ≡ old.limit
