-- The items so far were answered; those of the rest are left.
use Rattle.std.proofs.Common.{◌≡◌, ◌+◌, ◌≤◌, length}
use Rattle.ix_lines.specs.Feeding.{completes, holds_after}
use Rattle.ix_manager.specs.inside.Clean.{IsClean}
use Rattle.ix_manager.specs.inside.WireState.{wired}
use Rattle.ix_manager.proofs.TakeLemmas.{Reaches}
use Rattle.ix_manager.proofs.answering.take_piece.Given as goal

abbrev pub invariant-items : goal.invariant-items
invariant-items g l =
    Reaches l.conn (completes l.fn.lines l.fn.piece.bytes.now) l.fn.journaled
    (wired l.fn.gone (g.S.Site.state l.fn.site)) (g.S.Site.crashes l.fn.site)
    (completes l.lines l.rest) l.journaled
    (wired l.gone (g.S.Site.state l.site)) (g.S.Site.crashes l.site)
    × (holds_after l.fn.lines l.fn.piece.bytes.now ≡ holds_after l.lines l.rest)
    × IsClean l.lines
    × (l.journaled.machine.state.number + length l.rest ≤ l.fn.journaled.machine.state.number + length l.fn.piece.bytes.now)

abbrev pub decreases-items : goal.decreases-items
decreases-items g l = length l.rest
