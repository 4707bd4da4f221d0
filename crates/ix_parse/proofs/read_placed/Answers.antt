use Rattle.ix_parse.specs.Faults.{IsFirstFault}
use Rattle.ix_parse.specs.inside.Operands.{meaning_of}
use Rattle.ix_parse.proofs.Endings.{HasMeaning-places, HasMeaning-numbers, read_fault, read_ok}
use Rattle.ix_parse.proofs.read_placed.Goals as goal

pub returns-then-text-gt-MOST_BYTES-clause-fault : goal.returns-then-text-gt-MOST_BYTES-clause-fault
returns-then-text-gt-MOST_BYTES-clause-fault c = IsFirstFault.too_long c.if-text-gt-MOST_BYTES.true

pub checked-requires-clause-places : goal.checked-requires-clause-places
checked-requires-clause-places c = HasMeaning-places c.args.text.now (meaning_of c.in-Ok.operand) c.in-Ok.ensures

pub checked-requires-clause-numbers : goal.checked-requires-clause-numbers
checked-requires-clause-numbers c = HasMeaning-numbers c.args.text.now (meaning_of c.in-Ok.operand) c.in-Ok.ensures

pub returns-in-Ok-clause-fault : goal.returns-in-Ok-clause-fault
returns-in-Ok-clause-fault c = read_fault c.args.text.now (meaning_of c.in-Ok.operand) c.checked.result c.in-Ok.ensures c.checked.ensures

pub returns-in-Ok-clause-ok : goal.returns-in-Ok-clause-ok
returns-in-Ok-clause-ok c = read_ok c.args.text.now (meaning_of c.in-Ok.operand) c.checked.result c.in-Ok.ensures c.checked.ensures
