use Rattle.std.proofs.Common.{◌+◌, sym, ◌∙◌}
use Rattle.std.proofs.lemmas.List.{take_rest}
use Rattle.ix_values.proofs.TicketTexts.{no_ticket-none, no_ticket-boot, no_ticket-seq, ticket-of}
use Rattle.ix_values.proofs.tickets.Ticket.read.Goals as goal

pub returns-in_err-at : goal.returns-in_err-at
returns-in_err-at c = rw c.from_residual.ensures (no_ticket-none c.args.text.now (sym c.first_dash.ensures ∙ c.in_err-at.was))

pub returns-in_err-boot : goal.returns-in_err-boot
returns-in_err-boot c =
    rw c.from_residual-in_err-boot.ensures
    (no_ticket-boot c.args.text.now c.in_ok-at.at (sym c.first_dash.ensures ∙ c.in_ok-at.was) c.in_err-boot.ensures)

pub returns-in_err-seq : goal.returns-in_err-seq
returns-in_err-seq c =
    rw c.from_residual-in_err-seq.ensures
    (no_ticket-seq c.args.text.now c.in_ok-at.at (sym c.first_dash.ensures ∙ c.in_ok-at.was)
    (rw (sym (take_rest c.args.text.now (c.in_ok-at.at + 1))) c.in_err-seq.ensures))

pub returns : goal.returns
returns c = (
  record { boot = c.in_ok-boot.ensures.fits; seq = c.in_ok-seq.ensures.fits },
  ticket-of c.args.text.now c.in_ok-at.at c.in_ok-boot.boot c.in_ok-seq.seq (sym c.first_dash.ensures ∙ c.in_ok-at.was)
      c.in_ok-boot.ensures (rw (sym (take_rest c.args.text.now (c.in_ok-at.at + 1))) c.in_ok-seq.ensures),
)
