-- The lines of the candidates so far.
use Rattle.std.proofs.Common.{◌≡◌, take}
use Rattle.ix_desk.specs.MenuLines.{menu_lines}
use Rattle.ix_desk.proofs.menu.menu_lines.Given as goal

abbrev pub invariant-loop-candidate : goal.invariant-loop-candidate
invariant-loop-candidate l = l.lines.items ≡ menu_lines (take l.candidate-index l.menu)
