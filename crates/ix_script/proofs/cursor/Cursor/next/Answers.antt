use Rattle.std.proofs.Common.{length}
use Rattle.ix_script.proofs.CursorSteps.{given_left}
use Rattle.ix_script.proofs.cursor.Cursor.next.Goals as goal

pub returns-in-Some-clause-fits : goal.returns-in-Some-clause-fits
returns-in-Some-clause-fits c = c.in-Some.ensures.begun.fits (length c.args.buf.now)

pub returns-in-None-clause-left : goal.returns-in-None-clause-left
returns-in-None-clause-left c =
    let give = c.give-count in
    given_left c.args.self.now c.begin.new.self give.new.self (length c.args.buf.now) give.result c.in-None.ensures.begun give.ensures.count give.ensures.open give.ensures.later
    give.ensures.moment give.ensures.conn
