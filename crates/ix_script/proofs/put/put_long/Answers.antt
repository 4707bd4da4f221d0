use Rattle.std.proofs.Common.{decimal, ap, ◌∙◌}
use Rattle.std.specs.Io.KnownBytes.{append_known}
use Rattle.ix_script.proofs.Puts.{first_part, second_part}
use Rattle.ix_script.proofs.put.put_long.Goals as goal

pub returns-in-Ok-clause-part : goal.returns-in-Ok-clause-part
returns-in-Ok-clause-part g c =
    let old = (g.K.Sink.state c.args.sink.now).written in
    let between = (g.K.Sink.state c.put.new.self).written in
    let new = (g.K.Sink.state c.put-in-Ok.new.self).written in
    second_part c.put-in-Ok.result old between new (decimal c.args.conn) c.args.bytes.now
    (c.in-Ok.ensures.whole
    ∙ ap (append_known old) (c.as_slice.ensures.value ∙ c.front_text-front.ensures))
    c.put-in-Ok.ensures.part

pub returns-in-Err-clause-part : goal.returns-in-Err-clause-part
returns-in-Err-clause-part g c =
    let old = (g.K.Sink.state c.args.sink.now).written in
    let new = (g.K.Sink.state c.put.new.self).written in
    first_part old new (decimal c.args.conn) c.args.bytes.now c.as_slice.result.now
    (c.as_slice.ensures.value ∙ c.front_text-front.ensures) c.in-Err.ensures.part
