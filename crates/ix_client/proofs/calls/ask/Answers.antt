use Rattle.std.proofs.Common.{subst, sym}
use Rattle.ix_proto.specs.Requests as request
use Rattle.ix_client.specs.Links.{IsLineOf}
use Rattle.ix_client.proofs.calls.ask.Goals as goal

pub returns : goal.returns
returns g c = record {
  heard = c.exchange.result;
  hears =
      c.exchange.ensures (request.ask c.args.action.now c.args.lease)
      (subst (IsLineOf (request.ask c.args.action.now c.args.lease)) (sym c.as_slice.ensures.value) c.ask_line-line.ensures);
  is = c.asked.ensures;
}
