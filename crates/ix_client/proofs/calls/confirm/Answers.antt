use Rattle.std.proofs.Common.{subst, sym}
use Rattle.ix_proto.specs.Requests as request
use Rattle.ix_client.specs.Links.{IsLineOf}
use Rattle.ix_client.proofs.calls.confirm.Goals as goal

pub returns : goal.returns
returns g c = record {
  heard = c.exchange.result;
  hears =
      c.exchange.ensures (request.confirm c.args.granted.ticket)
      (subst (IsLineOf (request.confirm c.args.granted.ticket)) (sym c.as_slice.ensures.value) (rw (← c.granted.view_is) c.confirm_line-line.ensures));
  is = c.confirmed.ensures;
}
