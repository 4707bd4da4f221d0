use Rattle.ix_lines.proofs.FirstFaults.{good_step}
use Rattle.ix_lines.proofs.line_faults.first_fault.Goals as goal

pub loop-rest-preserved : goal.loop-rest-preserved
loop-rest-preserved g c =
    let first = c.first_line-first in
    good_step _ c.args.bytes.now c.loop-rest.rest.now first.result.rest.now first.result.line.now
    first.ensures.lines c.loop-rest.invariant c.in_default.ensures.told first.ensures.place
