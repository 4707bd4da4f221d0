use Rattle.ix_script.proofs.CursorSteps.{closed_bare}
use Rattle.ix_script.proofs.cursor.Cursor.begin.Goals as goal

pub returns-else-begin_line-clause-begun : goal.returns-else-begin_line-clause-begun
returns-else-begin_line-clause-begun c = closed_bare c.args.self.now c.begin_line.new.self c.event.result c.event.ensures c.if-begin_line.ensures.begun.0
