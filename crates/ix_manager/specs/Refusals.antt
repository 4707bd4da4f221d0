-- The refusals of requests that were read, by name: the code of each, and its number where it tells
-- one.
use Rattle.std.specs.Prelude.{ℕ}
use Rattle.ix_proto.specs.declared.reply.Reply.{Reply}
use Rattle.ix_proto.specs.declared.reply.Reply.TheVariants.{Refused}

-- another action is reserved, up to this deadline
abbrev pub busy_until : ℕ → Reply
busy_until deadline = Refused 20 deadline

-- the action may not come next
abbrev pub not_permitted : Reply
not_permitted = Refused 21 0

-- the state after the action would be above the limit of Size
abbrev pub above : ℕ → Reply
above limit = Refused 22 limit

-- the history has as many actions as it may have
abbrev pub full : Reply
full = Refused 23 0

-- no reservation has this ticket
abbrev pub no_such_ticket : Reply
no_such_ticket = Refused 30 0

-- the reservation of this ticket is over
abbrev pub expired : Reply
expired = Refused 31 0

-- whether an action was confirmed with the ticket is left out of the journal
abbrev pub ticket_left_out : Reply
ticket_left_out = Refused 32 0

-- the action of this number is left out of the journal
abbrev pub entry_left_out : Reply
entry_left_out = Refused 33 0

-- there are as many watches as there may be
abbrev pub too_many_watches : Reply
too_many_watches = Refused 40 0

-- no watch is of this name and this action
abbrev pub no_such_watch : Reply
no_such_watch = Refused 41 0

-- the history has no action of this number
abbrev pub no_such_entry : Reply
no_such_entry = Refused 42 0

-- memory ran out
abbrev pub no_memory : Reply
no_memory = Refused 90 0

-- the disk failed
abbrev pub disk : Reply
disk = Refused 91 0
