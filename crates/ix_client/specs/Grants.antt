-- Grants, and what is made of what is heard of them.
use Rattle.std.specs.Prelude.{ℕ, ◌==◌, ◌&&◌, ◌||◌, Bool, if◌then◌else◌, Option, Some}
use Rattle.std.specs.Prelude.{Result, Ok, Err}
use Rattle.ix_values.specs.PlainAction.{PlainAction}
use Rattle.ix_values.specs.declared.tickets.Ticket.{Ticket}
use Rattle.ix_proto.specs.declared.reply.Outcome.TheVariants as became
use Rattle.ix_proto.specs.declared.reply.Reply.{Reply}
use Rattle.ix_proto.specs.declared.reply.Reply.TheVariants as reply
use Rattle.ix_client.specs.Grant.{Grant}
use Rattle.ix_client.specs.declared.grants.AskFault.{AskFault}
use Rattle.ix_client.specs.declared.grants.AskFault.TheVariants as fault
use Rattle.ix_client.specs.declared.grants.Cancel.{Cancel}
use Rattle.ix_client.specs.declared.grants.Cancel.TheVariants as cancel
use Rattle.ix_client.specs.declared.grants.Confirm.{Confirm}
use Rattle.ix_client.specs.declared.grants.Confirm.TheVariants as confirm
use Rattle.ix_client.specs.declared.grants.Settle.{Settle}
use Rattle.ix_client.specs.declared.grants.Settle.TheVariants as settle
use Rattle.ix_client.specs.declared.link.LinkFailed.{LinkFailed}

-- what is heard of a request: nothing, as the call failed; a line that is no reply; or a reply
abbrev pub Heard : Type 0
Heard = Result (Option Reply) LinkFailed

-- 20 to 23: the ask may be granted another time
abbrev pub is_refusal_of_ask : ℕ → Bool
is_refusal_of_ask code = (code == 20) || (code == 21) || (code == 22) || (code == 23)

abbrev pub same_ticket : Ticket → Ticket → Bool
same_ticket t u = (t.boot == u.boot) && (t.seq == u.seq)

-- of a refusal of an ask
abbrev pub refused_by : ℕ → AskFault
refused_by code =
    if is_refusal_of_ask code then fault.Refused code else
    if code == 90 then fault.Memory else fault.Odd

-- of an ask of an action
abbrev pub asked_by : PlainAction → Heard → Result Grant AskFault
asked_by a (Ok (Some (reply.Granted ticket))) = Ok (record { ticket = ticket; action = a })
asked_by a (Ok (Some (reply.Refused code number))) = Err (refused_by code)
asked_by a (Ok _) = Err fault.Odd
asked_by a (Err failed) = Err fault.Link

-- of a confirm of a grant
abbrev pub confirmed_by : Grant → Heard → Confirm
confirmed_by g (Ok (Some (reply.Confirmed count))) = confirm.Done count
confirmed_by g (Ok (Some (reply.Refused code number))) =
    if code == 31 then confirm.Expired else confirm.Unsure g
confirmed_by g _ = confirm.Unsure g

-- of a cancel of a grant
abbrev pub cancelled_by : Grant → Heard → Cancel
cancelled_by g (Ok (Some (reply.Cancelled ticket))) =
    if same_ticket ticket g.ticket then cancel.Done else cancel.Unsure g
cancelled_by g (Ok (Some (reply.Refused code number))) =
    if code == 31 then cancel.Expired else cancel.Unsure g
cancelled_by g _ = cancel.Unsure g

-- of the outcome of a grant's ticket
abbrev pub settled_by : Grant → Heard → Settle
settled_by g (Ok (Some (reply.Outcome (became.Confirmed place)))) = settle.Done place
settled_by g (Ok (Some (reply.Outcome became.Waiting))) = settle.Open g
settled_by g (Ok (Some (reply.Outcome became.Never))) = settle.Never
settled_by g (Ok (Some (reply.Refused code number))) =
    if code == 32 then settle.LeftOut else settle.Unsure g
settled_by g _ = settle.Unsure g
