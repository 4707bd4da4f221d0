use Rattle.std.proofs.Common.{refl, ◌∙◌}
use Rattle.ix_proto.specs.Requests.{ask}
use Rattle.ix_client.proofs.LineLemmas.{line_is}
use Rattle.ix_client.proofs.lines.ask_line.Goals as goal

pub returns : goal.returns
returns c =
    let asked = ask c.args.action.now c.args.lease in
    line_is asked c.request_line.result.items tt (c.write.ensures.valid, c.requires)
    (c.request_line.ensures.text asked (c.as_slice.ensures.value ∙ c.write.ensures.text, refl))
