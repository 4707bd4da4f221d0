use Rattle.std.proofs.Common.{◌∙◌, ap}
use Rattle.ix_generate.specs.Workload.{drawn, with_granted}
use Rattle.ix_manage.proofs.Working.{allowed_granted, full_refused, large_refused, unpermitted_refused}
use Rattle.ix_manage.proofs.work.ask_next.Goals as goal

pub returns-in-Ok-clause-asks : goal.returns-in-Ok-clause-asks
returns-in-Ok-clause-asks c =
    let old = c.args.workload.now in
    let draw = c.draw-action.ensures in
    allowed_granted c.args.engine.now old c.granted.new.self c.draw-action.result
    c.take.new.self.history draw.action c.in-Ok.ensures.allowed c.in-Ok.ensures.taken
    (c.granted.ensures (drawn old) draw.ask draw.action
    ∙ ap (λ workload. with_granted workload (drawn old)) draw.next)

pub returns-in-Err-NotPartial-clause-asks : goal.returns-in-Err-NotPartial-clause-asks
returns-in-Err-NotPartial-clause-asks c =
    let why = rw c.in-Err-NotPartial.field-0-is at c.in-Err-NotPartial.ensures.refused in
    unpermitted_refused c.args.engine.now c.args.workload.now c.draw-action.new.self
    c.draw-action.result c.take.new.self.history c.draw-action.ensures.action c.in-Err-NotPartial.ensures.kept
    c.draw-action.ensures.next why

pub returns-in-Err-Full-clause-asks : goal.returns-in-Err-Full-clause-asks
returns-in-Err-Full-clause-asks c =
    let why = rw c.in-Err-Full.field-0-is at c.in-Err-Full.ensures.refused in
    full_refused c.args.engine.now c.args.workload.now c.draw-action.new.self
    c.draw-action.result c.take.new.self.history c.draw-action.ensures.action c.in-Err-Full.ensures.kept
    c.draw-action.ensures.next why.1

pub returns-in-Err-Over-clause-asks : goal.returns-in-Err-Over-clause-asks
returns-in-Err-Over-clause-asks c =
    let why = rw c.in-Err-Over.field-0-is at c.in-Err-Over.ensures.refused in
    large_refused c.args.engine.now c.args.workload.now c.draw-action.new.self
    c.draw-action.result c.take.new.self.history c.draw-action.ensures.action c.in-Err-Over.ensures.kept
    c.draw-action.ensures.next why.3
