use Rattle.std.proofs.Common.{[], ◌∷◌, ◌++◌}
use Rattle.std.specs.Prelude.{codes}
use Rattle.ix_manage.proofs.Fronts.{on_err, on_err_along, part_of_front, part_of_rest}
use Rattle.ix_manage.proofs.Tracing.{append_on, part_on}
use Rattle.ix_manage.proofs.last_line.put_other.Goals as goal

pub returns-in_err-put-clause-part : goal.returns-in_err-put-clause-part
returns-in_err-put-clause-part g c = on_err c.from_residual.result
    (part_of_front (g.K.Sink.state c.args.out.now).written (g.K.Sink.state c.put.new.self).written
    (codes "refused journal other ") (c.args.kept.now ++ 10 ∷ []) c.in_err-put.ensures.part)

pub returns-in_err-put-2-clause-part : goal.returns-in_err-put-2-clause-part
returns-in_err-put-2-clause-part g c = on_err c.from_residual-in_err-put-2.result
    (part_on (g.K.Sink.state c.args.out.now).written (g.K.Sink.state c.put.new.self).written (g.K.Sink.state c.put-2.new.self).written
    (codes "refused journal other ") c.args.kept.now (10 ∷ []) c.in_ok-put.ensures.whole c.in_err-put-2.ensures.part)

pub returns-clause-part : goal.returns-clause-part
returns-clause-part g c =
    let start = (g.K.Sink.state c.args.out.now).written in
    let one = (g.K.Sink.state c.put.new.self).written in
    let two = (g.K.Sink.state c.put-2.new.self).written in
    on_err_along c.put-3.result
    (λ part. part_of_rest start two (g.K.Sink.state c.put-3.new.self).written (codes "refused journal other " ++ c.args.kept.now) (10 ∷ [])
    (append_on start one two (codes "refused journal other ") c.args.kept.now c.in_ok-put.ensures.whole c.in_ok-put-2.ensures.whole) part)
    c.put-3.ensures.part
