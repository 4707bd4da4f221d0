-- Runs from a journal, and runs from the one that a renewal made of it: they are answered alike.
use Rattle.std.specs.Prelude.{◌≡◌, ℕ, ◌+◌, ◌<◌, ◌≤◌, List, [], ◌∷◌, ◌++◌, length}
use Rattle.ix_values.specs.PlainAction.{PlainAction, Word}
use Rattle.ix_values.specs.declared.tickets.Ticket.{Ticket}
use Rattle.ix_journal.specs.Format.{renewed_journal}
use Rattle.ix_journal.specs.declared.entries.Renewed.{Renewed}
use Rattle.ix_expr.specs.CanonicalText.{canonical_text}
use Rattle.ix_expr.specs.FormFaults.{IsWellFormed}
use Rattle.ix_lines.specs.Items.{Item, line}
use Rattle.ix_lines.specs.Words.{words_of}
use Rattle.ix_outside.specs.Contents.{GivenEvent}
use Rattle.ix_proto.specs.Requests as request
use Rattle.ix_proto.specs.Requests.{PlainRequest, IsRequest, request_words}
use Rattle.ix_proto.specs.declared.reply.Outcome.TheVariants as became
use Rattle.ix_proto.specs.declared.reply.Reply.{Reply}
use Rattle.ix_proto.specs.declared.reply.Reply.TheVariants as reply
use Rattle.ix_manager.specs.Images.{IsStartable}
use Rattle.ix_manager.specs.Machine.{MachineState, ahead_of, count}
use Rattle.ix_manager.specs.Refusals as refused
use Rattle.ix_manager.specs.Runs.{Completes, Ending, Opening, Run, text_behind}
use Rattle.ix_engine.specs.Limits.{most_actions}
use Rattle.ix_renew.specs.Renewal.{IsRenewal}

-- a start from the journal in this file, and one from the journal that a renewal made of it, both
-- of a well-formed expression and with one limit
pub record StartBeside (file : List ℕ) (old new : Opening) : Type 0 where
  pub carried : Word
  pub actions : ℕ
  pub boots : ℕ
  pub renewal : IsRenewal old.form old.limit file carried actions boots
  pub formed : IsWellFormed old.form
  pub form : new.form ≡ old.form
  pub limit : new.limit ≡ old.limit
  pub starts : IsStartable old file
  pub starts_anew : IsStartable new
      (renewed_journal (canonical_text old.form) carried actions boots)

-- What the old one tells and the new one refuses, as it was left out: the action of a number up to
-- those that the carried ones stand for, and what became of a ticket of one of the boots before.
pub data OnlyOldTells (renewed : Renewed) : PlainRequest → List Reply → List Reply → Type 0 where
  entry : {number : ℕ} (a : PlainAction) → 0 < number → number ≤ renewed.actions
      → OnlyOldTells renewed (request.log number) (reply.Entry number a ∷ [])
      (refused.entry_left_out ∷ [])
  confirmed : {ticket : Ticket} (place : ℕ) → 0 < ticket.boot → ticket.boot ≤ renewed.boots
      → place ≤ renewed.actions
      → OnlyOldTells renewed (request.outcome ticket) (reply.Outcome (became.Confirmed place) ∷ [])
      (refused.ticket_left_out ∷ [])
  never : {ticket : Ticket} → 0 < ticket.boot → ticket.boot ≤ renewed.boots
      → OnlyOldTells renewed (request.outcome ticket) (reply.Outcome became.Never ∷ [])
      (refused.ticket_left_out ∷ [])

-- the replies of the old one and of the new one to an item: the same, but for what was left out
pub data AnswerAlike (renewed : Renewed) : Item → List Reply → List Reply → Type 0 where
  same : {item : Item} {replies : List Reply} → AnswerAlike renewed item replies replies
  left_out : {bytes : List ℕ} {asked : PlainRequest} {old new : List Reply}
      → IsRequest asked → words_of bytes ≡ request_words asked → OnlyOldTells renewed asked old new
      → AnswerAlike renewed (line bytes) old new

-- their replies to items in order, as many of them as are answered
pub data AnswerItemsAlike (renewed : Renewed)
    : List Item → List (List Reply) → List (List Reply) → Type 0 where
  none : {items : List Item} → AnswerItemsAlike renewed items [] []
  more : {item : Item} {items : List Item} {one two : List Reply} {old new : List (List Reply)}
      → AnswerAlike renewed item one two → AnswerItemsAlike renewed items old new
      → AnswerItemsAlike renewed (item ∷ items) (one ∷ old) (two ∷ new)

-- their replies to the items that each event completes
pub data AnswerEventsAlike (renewed : Renewed)
    : List GivenEvent → List (List (List Reply)) → List (List (List Reply)) → Type 0 where
  none : AnswerEventsAlike renewed [] [] []
  more : {events : List GivenEvent} {old new : List (List (List Reply))}
      (given : GivenEvent) (completed : List Item) (one two : List (List Reply))
      → AnswerEventsAlike renewed events old new
      → Completes (text_behind given.event.conn [] events) given completed
      → AnswerItemsAlike renewed completed one two
      → AnswerEventsAlike renewed (events ++ given ∷ []) (old ++ one ∷ []) (new ++ two ∷ [])

-- For each run from the old journal, behind which its history has fewer than a million actions,
-- there is one from the new journal over the same events, which ends in the same way, with the same
-- replies one by one, but for what was left out.
abbrev pub OldRunsAreMet : Type 0
OldRunsAreMet =
    (file : List ℕ) (old new : Opening) (events : List GivenEvent)
    (answers : List (List (List Reply))) (last : MachineState) (ending : Ending)
    → StartBeside file old new → Run old events answers last ending
    → length last.history < most_actions
    → (others : List (List (List Reply))) × (end : MachineState)
    × Run new events others end ending × AnswerEventsAlike new.renewed events answers others

-- and so the other way round: the same of each run from the new journal whose count leaves so much
-- room in the old one
abbrev pub NewRunsAreMet : Type 0
NewRunsAreMet =
    (file : List ℕ) (old new : Opening) (events : List GivenEvent)
    (others : List (List (List Reply))) (end : MachineState) (ending : Ending)
    → StartBeside file old new → Run new events others end ending
    → count end < ahead_of old.renewed + most_actions
    → (answers : List (List (List Reply))) × (last : MachineState)
    × Run old events answers last ending × AnswerEventsAlike new.renewed events answers others
    × (length last.history < most_actions)

-- so a renewal changes no answer of a run
abbrev pub RenewedRunsAnswerAlike : Type 0
RenewedRunsAnswerAlike = OldRunsAreMet × NewRunsAreMet
