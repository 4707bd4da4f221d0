-- Laws of the states that come later: what is told of a ticket and of an entry stays true.
use Rattle.std.specs.Prelude.{◌≡◌, ℕ, ◌+◌, ◌≤◌, List, [], ◌∷◌, ◌++◌, length}
use Rattle.ix_values.specs.PlainAction.{PlainAction, Word}
use Rattle.ix_values.specs.declared.tickets.Ticket.{Ticket}
use Rattle.ix_journal.specs.History.{PlainHistory}
use Rattle.ix_journal.specs.Recovery.{HoldsBoots, Recovers}
use Rattle.ix_journal.specs.declared.entries.Renewed.{Renewed}
use Rattle.ix_expr.specs.Form.{Form}
use Rattle.ix_lines.specs.Items.{Item}
use Rattle.ix_outside.specs.Contents.{GivenEvent}
use Rattle.ix_proto.specs.Requests as request
use Rattle.ix_proto.specs.Requests.{PlainRequest}
use Rattle.ix_proto.specs.declared.reply.Outcome.TheVariants as became
use Rattle.ix_proto.specs.declared.reply.Reply.{Reply}
use Rattle.ix_proto.specs.declared.reply.Reply.TheVariants as reply
use Rattle.ix_manager.specs.Images.{IsStartable, with_failed}
use Rattle.ix_manager.specs.Later.{Later, MayKeep}
use Rattle.ix_manager.specs.Machine.{IsAbsent, MachineState, Step, ahead_of, start_of, word_of}
use Rattle.ix_manager.specs.Runs.{Ending, Opening, Run, Steps}

-- the reply tells that the ticket is over: its outcome is never, or it was cancelled, or it came
-- behind its deadline
abbrev pub TellsOver : PlainRequest → List Reply → Ticket → Type 0
TellsOver (request.outcome asked) (reply.Outcome became.Never ∷ []) ticket = asked ≡ ticket
TellsOver (request.cancel asked) (reply.Cancelled told ∷ []) ticket = asked ≡ ticket
TellsOver (request.cancel asked) (reply.Refused code number ∷ []) ticket =
    (code ≡ 31) × (asked ≡ ticket)
TellsOver (request.confirm asked) (reply.Refused code number ∷ []) ticket =
    (code ≡ 31) × (asked ≡ ticket)
TellsOver _ _ ticket = ⊥

-- once a reply in a run told that a ticket is over, no later state of that run, and of no run from
-- what a crash left of it, has it in its history
abbrev pub OverTicketsStayOver : Type 0
OverTicketsStayOver =
    (opening : Opening) (image : List ℕ) (s after later : MachineState) (limit : ℕ)
    (asked : PlainRequest) (replies : List Reply) (ticket : Ticket)
    → IsStartable opening image
    → Later opening.form (start_of opening.history opening.renewed opening.boot) s
    → Step opening.form limit s asked replies after → TellsOver asked replies ticket
    → Later opening.form after later → IsAbsent ticket later.history

-- the word's action of this number, counted from 1, where the carried ones stand for this
pub record IsEntryOf (renewed : Renewed) (word : Word) (number : ℕ) (a : PlainAction) : Type 0 where
  pub before : Word
  pub behind : Word
  pub split : word ≡ before ++ a ∷ behind
  pub place : number ≡ ahead_of renewed + length before + 1

-- an entry that was told is the same in the history of each later state
abbrev pub ToldEntriesStay : Type 0
ToldEntriesStay =
    (x : Form) (limit : ℕ) (s after later : MachineState) (number : ℕ) (a : PlainAction)
    → Step x limit s (request.log number) (reply.Entry number a ∷ []) after
    → Later x after later → IsEntryOf later.renewed (word_of later) number a

-- the last state of a run comes later than its first one
abbrev pub RunsGoOn : Type 0
RunsGoOn =
    (opening : Opening) (events : List GivenEvent) (answers : List (List (List Reply)))
    (last : MachineState) (ending : Ending)
    → Run opening events answers last ending
    → Later opening.form (start_of opening.history opening.renewed opening.boot) last

-- what is left of an event, as its images keep it, is what a crash may leave in some state of it: a
-- prefix of the history behind the event, also with a confirm that failed, that isn't shorter than
-- the history before it
abbrev pub CrashesComeLater : Type 0
CrashesComeLater =
    (x : Form) (limit : ℕ) (s after : MachineState) (items : List Item)
    (answers : List (List Reply)) (ending : Ending) (kept rest : PlainHistory)
    → Steps x limit s items answers after ending
    → kept ++ rest ≡ with_failed ending after.history → length s.history ≤ length kept
    → (at : MachineState) × Later x s at × MayKeep at kept × (at.renewed ≡ s.renewed)
    × (at.boot ≡ s.boot)

-- a start from an image that holds the boots of a state and recovers what a crash in it may leave
-- comes later than that state
abbrev pub StartsComeLater : Type 0
StartsComeLater =
    (opening : Opening) (image : List ℕ) (s : MachineState) (kept : PlainHistory)
    → IsStartable opening image → MayKeep s kept → Recovers image kept
    → HoldsBoots image s.renewed s.boot
    → Later opening.form s (start_of opening.history opening.renewed opening.boot)

-- what holds of the states that come later
abbrev pub LaterStatesAreThese : Type 0
LaterStatesAreThese = RunsGoOn × CrashesComeLater × StartsComeLater
