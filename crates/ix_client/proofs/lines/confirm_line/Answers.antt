use Rattle.std.proofs.Common.{refl}
use Rattle.ix_proto.specs.Requests.{confirm}
use Rattle.ix_client.proofs.LineLemmas.{line_is}
use Rattle.ix_client.proofs.lines.confirm_line.Goals as goal

pub returns : goal.returns
returns c =
    let asked = confirm c.args.ticket in
    line_is asked c.request_line.result.items tt c.request_line.ensures.valid (c.request_line.ensures.text asked refl)
