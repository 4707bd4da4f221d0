use Rattle.std.proofs.Common.{arith}
use Rattle.ix_values.proofs.ReadingSteps.{told}
use Rattle.ix_values.proofs.Stuck.{fault_trailing}
use Rattle.ix_values.proofs.reading.end.Goals as goal

pub returns-else-at-text : goal.returns-else-at-text
returns-else-at-text c =
    told c.args.text.now 5 c.args.at c.fault.result c.fault.ensures
    (fault_trailing c.args.text.now c.args.action c.args.at (omega arith) c.requires.before c.requires.valid c.requires.some)
