-- The actions of the lines so far.
use Rattle.std.proofs.Common.{length}
use Rattle.ix_words.specs.Each.{Each}
use Rattle.ix_values.specs.Faults.{IsActionText}
use Rattle.ix_lines.specs.TextLines.{lines_of}
use Rattle.ix_manage.proofs.Tracing.{StandBefore}
use Rattle.ix_manage.proofs.past.read_actions.Given as goal

abbrev pub invariant-loop-rest : goal.invariant-loop-rest
invariant-loop-rest l =
    Each IsActionText (lines_of l.rest) × StandBefore l.lines l.rest l.actions.items

abbrev pub decreases-loop-rest : goal.decreases-loop-rest
decreases-loop-rest l = length l.rest
