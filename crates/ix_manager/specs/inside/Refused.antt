-- Why a request is refused whose action isn't prepared, and the reply that tells a refusal.
use Rattle.ix_engine.specs.declared.faults.PrepareFault.{PrepareFault}
use Rattle.ix_engine.specs.declared.faults.PrepareFault.TheVariants as prepare
use Rattle.ix_proto.specs.declared.reply.Reply.{Reply}
use Rattle.ix_proto.specs.declared.reply.Reply.TheVariants as reply
use Rattle.ix_manager.specs.Refusals as refused
use Rattle.ix_manager.specs.declared.refusals.Refusal.{Refusal}
use Rattle.ix_manager.specs.declared.refusals.Refusal.TheVariants as refusal

-- what is replied where a request is refused
abbrev pub reply_of : Refusal → Reply
reply_of (refusal.NoRequest code) = reply.Refused code 0
reply_of refusal.LineTooLong = reply.Refused 10 0
reply_of (refusal.Busy deadline) = refused.busy_until deadline
reply_of refusal.NotPermitted = refused.not_permitted
reply_of (refusal.Large limit) = refused.above limit
reply_of refusal.Full = refused.full
reply_of refusal.NoSuchTicket = refused.no_such_ticket
reply_of refusal.Expired = refused.expired
reply_of refusal.TicketLeftOut = refused.ticket_left_out
reply_of refusal.EntryLeftOut = refused.entry_left_out
reply_of refusal.TooManyWatches = refused.too_many_watches
reply_of refusal.NoSuchWatch = refused.no_such_watch
reply_of refusal.NoSuchEntry = refused.no_such_entry
reply_of refusal.Memory = refused.no_memory
reply_of refusal.Disk = refused.disk

-- why a request is refused whose action isn't prepared
abbrev pub refusal_of_fault : PrepareFault → Refusal
refusal_of_fault prepare.NotPartial = refusal.NotPermitted
refusal_of_fault prepare.Full = refusal.Full
refusal_of_fault (prepare.Over limit) = refusal.Large limit
refusal_of_fault prepare.Memory = refusal.Memory
