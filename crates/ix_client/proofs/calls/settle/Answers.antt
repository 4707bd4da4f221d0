use Rattle.std.proofs.Common.{subst, sym}
use Rattle.ix_proto.specs.Requests as request
use Rattle.ix_client.specs.Links.{IsLineOf}
use Rattle.ix_client.proofs.calls.settle.Goals as goal

pub returns : goal.returns
returns g c = record {
  heard = c.exchange.result;
  hears =
      c.exchange.ensures (request.outcome c.args.pending.ticket)
      (subst (IsLineOf (request.outcome c.args.pending.ticket)) (sym c.as_slice.ensures.value) (rw (← c.pending.view_is) c.outcome_line-line.ensures));
  is = c.settled.ensures;
}
