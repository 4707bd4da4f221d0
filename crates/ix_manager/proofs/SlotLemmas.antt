-- What a held slot tells.
use Rattle.std.proofs.Common.{◌≡◌, ℕ, Some}
use Rattle.ix_values.specs.PlainAction.{PlainAction}
use Rattle.ix_values.specs.declared.tickets.Ticket.{Ticket}
use Rattle.ix_lease.specs.declared.Slot.TheVariants.{Free, Held}

-- a free slot holds nothing
pub free_holds : {P : Type 0} (ticket : Ticket) (a : PlainAction) (deadline : ℕ) → Free ≡ Held ticket a deadline → P
free_holds ticket a deadline is = absurd (let no : Free ≡ Held ticket a deadline = is in cc)

pub same_ticket : {t u : Ticket} {a b : PlainAction} {d e : ℕ} → Held t a d ≡ Held u b e → t ≡ u
same_ticket is = cc

pub same_action : {t u : Ticket} {a b : PlainAction} {d e : ℕ} → Held t a d ≡ Held u b e → a ≡ b
same_action is = cc

pub some_ticket : {t u : Ticket} → Some t ≡ Some u → t ≡ u
some_ticket is = cc
