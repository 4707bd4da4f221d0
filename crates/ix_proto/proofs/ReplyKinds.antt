-- Which replies begin with a word.
use Rattle.std.proofs.Common.{◌≡◌, ℕ, Bool, subst}
use Rattle.ix_values.specs.PlainAction.{PlainAction}
use Rattle.ix_values.specs.declared.tickets.Ticket.{Ticket}
use Rattle.ix_proto.specs.declared.reply.Outcome.{Outcome as Became}
use Rattle.ix_proto.specs.inside.ReplyParts.{kind_of}
use Rattle.ix_proto.specs.declared.reply.Reply.{Reply}
use Rattle.ix_proto.specs.declared.reply.Reply.TheVariants.{Granted, Confirmed, Cancelled, Outcome, May, Watching, Dropped, Changes, Change, Status, Entry, Stopping, Refused}
use Rattle.ix_proto.specs.declared.reply_read.Kind.TheVariants as kind

pub only_granted : (P : Reply → Type 0) → ((ticket : Ticket) → P (Granted ticket)) → (reply : Reply) → kind_of reply ≡ kind.Granted → P reply
only_granted P here (Granted ticket) e = here ticket
only_granted P here _ e = cc

pub only_confirmed : (P : Reply → Type 0) → ((count : ℕ) → P (Confirmed count)) → (reply : Reply) → kind_of reply ≡ kind.Confirmed → P reply
only_confirmed P here (Confirmed count) e = here count
only_confirmed P here _ e = cc

pub only_cancelled : (P : Reply → Type 0) → ((ticket : Ticket) → P (Cancelled ticket)) → (reply : Reply) → kind_of reply ≡ kind.Cancelled → P reply
only_cancelled P here (Cancelled ticket) e = here ticket
only_cancelled P here _ e = cc

pub only_outcome : (P : Reply → Type 0) → ((outcome : Became) → P (Outcome outcome)) → (reply : Reply) → kind_of reply ≡ kind.Outcome → P reply
only_outcome P here (Outcome outcome) e = here outcome
only_outcome P here _ e = cc

pub only_watching : (P : Reply → Type 0) → ((answer : Bool) → P (Watching answer)) → (reply : Reply) → kind_of reply ≡ kind.Watching → P reply
only_watching P here (Watching answer) e = here answer
only_watching P here _ e = cc

pub only_dropped : (P : Reply → Type 0) → P Dropped → (reply : Reply) → kind_of reply ≡ kind.Dropped → P reply
only_dropped P here Dropped e = here
only_dropped P here _ e = cc

pub only_changes : (P : Reply → Type 0) → ((count : ℕ) → P (Changes count)) → (reply : Reply) → kind_of reply ≡ kind.Changes → P reply
only_changes P here (Changes count) e = here count
only_changes P here _ e = cc

pub only_status : (P : Reply → Type 0) → ((complete : Bool) (count nodes : ℕ) → P (Status complete count nodes)) → (reply : Reply) → kind_of reply ≡ kind.Status → P reply
only_status P here (Status complete count nodes) e = here complete count nodes
only_status P here _ e = cc

pub only_entry : (P : Reply → Type 0) → ((place : ℕ) (action : PlainAction) → P (Entry place action)) → (reply : Reply) → kind_of reply ≡ kind.Entry → P reply
only_entry P here (Entry place action) e = here place action
only_entry P here _ e = cc

pub only_stopping : (P : Reply → Type 0) → P Stopping → (reply : Reply) → kind_of reply ≡ kind.Stopping → P reply
only_stopping P here Stopping e = here
only_stopping P here _ e = cc

pub only_refused : (P : Reply → Type 0) → ((code number : ℕ) → P (Refused code number)) → (reply : Reply) → kind_of reply ≡ kind.Refused → P reply
only_refused P here (Refused code number) e = here code number
only_refused P here _ e = cc

pub only_answer : (P : Reply → Type 0) (answer : Bool) → P (May answer) → ((action : PlainAction) → P (Change answer action))
    → (reply : Reply) → kind_of reply ≡ kind.Answer answer → P reply
only_answer P answer here change (May b) e = let same : answer ≡ b = cc in subst (λ z. P (May z)) same here
only_answer P answer here change (Change b action) e = let same : answer ≡ b = cc in subst (λ z. P (Change z action)) same (change action)
only_answer P answer here change _ e = cc
