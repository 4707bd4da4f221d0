use Rattle.std.proofs.Common.{◌≡◌, ℕ, List, [], ◌++◌, length}
use Rattle.std.specs.Io.KnownBytes.{append_known}
use Rattle.ix_words.specs.Each.{Each}
use Rattle.ix_values.specs.Faults.{IsActionText}
use Rattle.ix_values.specs.PlainAction.{Word}
use Rattle.ix_outside.specs.SinkState.{OnlyPuts}
use Rattle.ix_lines.specs.TextLines.{lines_of}
use Rattle.ix_manage.specs.Trace.{TraceAnswers}
use Rattle.ix_manage.proofs.Tracing.{StandBefore}
use Rattle.ix_manage.proofs.trace.trace_lines.Given as goal

-- the actions before what is left are answered, and their answers put but for those that are held
abbrev pub invariant-loop-rest : goal.invariant-loop-rest
invariant-loop-rest g l =
    Each IsActionText (lines_of l.rest)
    × OnlyPuts (g.K.Sink.state l.fn.out) (g.K.Sink.state l.out)
    × (l.engine.form ≡ l.fn.engine.form)
    × (l.engine.limit ≡ l.fn.engine.limit)
    × ((front : Word) × StandBefore l.actions l.rest front
    × ((put : List ℕ) × TraceAnswers l.fn.engine.form l.fn.engine.limit [] front (put ++ l.held.items) l.engine.history
    × ((g.K.Sink.state l.out).written ≡ append_known (g.K.Sink.state l.fn.out).written put)))

abbrev pub decreases-loop-rest : goal.decreases-loop-rest
decreases-loop-rest g l = length l.rest
