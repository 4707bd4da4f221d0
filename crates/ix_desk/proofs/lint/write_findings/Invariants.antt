-- The lines of the findings so far.
use Rattle.std.proofs.Common.{◌≡◌, ◌++◌, take}
use Rattle.ix_desk.specs.LintLines.{lint_lines}
use Rattle.ix_desk.proofs.lint.write_findings.Given as goal

abbrev pub invariant-loop-finding : goal.invariant-loop-finding
invariant-loop-finding l = l.out.items ≡ l.initial.out.items ++ lint_lines l.places (take l.finding-index l.found)
