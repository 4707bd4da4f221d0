use Rattle.ix_lines.specs.TextLines.{lines_of}
use Rattle.ix_script.proofs.EventLists.{some_events}
use Rattle.ix_script.proofs.script.Script.read.Goals as goal

pub returns-in-None-clause-events : goal.returns-in-None-clause-events
returns-in-None-clause-events c = some_events 0 (lines_of c.args.bytes.now) c.in-None.ensures
