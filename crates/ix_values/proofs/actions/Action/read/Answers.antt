use Rattle.std.proofs.Common.{◌∙◌, ap, Some}
use Rattle.ix_values.specs.inside.Causes.{action_code}
use Rattle.ix_values.proofs.Stuck.{fault_name}
use Rattle.ix_values.proofs.ReadingSteps.{told, next_within, name_read, name_only, opened_front, name_fault}
use Rattle.ix_values.proofs.actions.Action.read.Goals as goal

pub returns-in-None : goal.returns-in-None
returns-in-None c = told c.args.text.now 1 0 c.fault.result c.fault.ensures (fault_name c.args.text.now c.in-None.ensures)

pub read_values-requires-clause-within : goal.read_values-requires-clause-within
read_values-requires-clause-within c =
    next_within c.args.text.now _ 40 c.byte_at.result c.byte_at.ensures (c.in-Some-eq40.is ∙ ap Some c.in-Some-eq40.field-0-test)

pub read_values-requires-clause-before : goal.read_values-requires-clause-before
read_values-requires-clause-before c =
    let read = name_read c.args.text.now c.in-Some.name c.bytes-at.result.now c.in-Some.ensures.0 c.bytes-at.ensures.value in
    opened_front c.args.text.now _ c.in-Some.name c.byte_at.result c.in-Some-eq40.field-0 c.new-action.result read c.byte_at.ensures c.in-Some-eq40.is c.in-Some-eq40.field-0-test c.new-action.ensures

pub returns-in-None-byte_at : goal.returns-in-None-byte_at
returns-in-None-byte_at c =
    let read = name_read c.args.text.now c.in-Some.name c.bytes-at.result.now c.in-Some.ensures.0 c.bytes-at.ensures.value in
    name_only c.args.text.now _ c.in-Some.name c.byte_at.result c.new-action.result read c.in-Some.ensures.1 c.byte_at.ensures c.in-None-byte_at.is c.new-action.ensures

pub returns-in-Some-byte_at : goal.returns-in-Some-byte_at
returns-in-Some-byte_at c =
    let read = name_read c.args.text.now c.in-Some.name c.bytes-at.result.now c.in-Some.ensures.0 c.bytes-at.ensures.value in
    told c.args.text.now _ _ c.fault-in-Some-byte_at.result c.fault-in-Some-byte_at.ensures
    (name_fault c.args.text.now _ c.in-Some.name c.byte_at.result c.in-Some-byte_at.byte (action_code c.cause_after_name.result) read c.in-Some.ensures.1 c.byte_at.ensures c.in-Some-byte_at.is c.in-Some-byte_at.byte-test.1 c.cause_after_name.ensures)
