-- Whatever the changes that are left make, all of them make; and nothing but sends was made.
use Rattle.ix_manager.specs.inside.Core.{change_replies}
use Rattle.ix_manager.specs.inside.Saving.{OnlySends}
use Rattle.ix_manager.specs.inside.WireState.{WireState, wired, SendsAll}
use Rattle.ix_manager.proofs.sending.send_each.Given as goal
use Rattle.ix_outside.specs.Crashes.{stretch_of}

abbrev pub invariant-loop-action : goal.invariant-loop-action
invariant-loop-action g l = ((end : WireState)
    → SendsAll l.conn (change_replies l.action-iterator)
    (wired l.gone (g.S.Site.state l.site)) end
    → SendsAll l.conn (change_replies l.fn.changes)
    (wired l.fn.gone (g.S.Site.state l.fn.site)) end)
    × OnlySends (stretch_of g.S.Site.state g.S.Site.crashes l.fn.site l.site)
