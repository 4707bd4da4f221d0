use Rattle.std.proofs.Common.{sym, ◌∙◌}
use Rattle.ix_script.proofs.CursorSteps.{closed_step, open_step}
use Rattle.ix_script.proofs.EventLists.{first_good, later_good}
use Rattle.ix_script.proofs.cursor.Cursor.begin_line.Goals as goal

pub checked_line-line-requires : goal.checked_line-line-requires
checked_line-line-requires c = first_good c.first_line-first.ensures.lines c.args.self.now.valid

pub invariant_of-self : goal.invariant_of-self
invariant_of-self c = record { valid = later_good c.first_line-first.ensures.lines c.args.self.now.valid; in_range = c.checked_line-line.ensures.goes_on.fits }

pub invariant_of-self-2 : goal.invariant_of-self-2
invariant_of-self-2 c = record { valid = later_good c.first_line-first.ensures.lines c.args.self.now.valid; in_range = c.checked_line-line.ensures.goes_on.fits }

pub returns-then-is_close-clause-begun : goal.returns-then-is_close-clause-begun
returns-then-is_close-clause-begun c =
    let old = c.args.self.now in
    let first = c.first_line-first in
    let line = c.checked_line-line.result in (
      closed_step old.moment old.conn line.moment line.conn _ old.rest.now first.result.line.now first.result.rest.now line.text.now c.requires.idle first.ensures.lines c.checked_line-line.ensures
          (sym c.is_close.ensures ∙ c.if-is_close.true),
      c.requires.idle,
    )

pub returns-clause-begun : goal.returns-clause-begun
returns-clause-begun c =
    let old = c.args.self.now in
    let first = c.first_line-first in
    let line = c.checked_line-line.result in
    let step = open_step old.moment old.conn line.moment line.conn _ old.rest.now first.result.line.now first.result.rest.now line.text.now c.requires.idle first.ensures.lines c.checked_line-line.ensures
    _ c.open_text-open.ensures (sym c.is_close.ensures ∙ c.if-is_close.false) in
    record { same = step.0; some = step.1 }
