use Rattle.std.proofs.Common.{sym, ◌∙◌}
use Rattle.ix_manager.proofs.Stepping.{seen, dropped_does, no_such_watch_does}
use Rattle.ix_manager.proofs.machine.Machine.drop_watch.Goals as goal
use Rattle.ix_manager.proofs.machine.Machine.drop_watch.Goals.{then-remove, else-remove}

pub returns : goal.returns
returns c =
    let i = c.self.inside in
    let name = c.args.name.now in
    let action = c.args.action.now in
    elim c.if-remove.branch [
      | then-remove w ↦
          seen _ _ _ _ _ _ c.self.view_is w.result-is
          (dropped_does i.engine i.tickets.items i.slot i.watches i.moment i.renewed i.boot i.number c.self.invariant.each c.remove.new.self name action c.len.ensures.distinct
          (sym c.remove.ensures.was_there ∙ w.if-remove.true) c.remove.ensures.others)
      | else-remove w ↦
          seen _ _ _ _ _ _ c.self.view_is (w.result-is ∙ w.refused.ensures)
          (no_such_watch_does i.engine i.tickets.items i.slot i.watches i.moment i.renewed i.boot i.number c.self.invariant.each c.remove.new.self name action
          (sym c.remove.ensures.was_there ∙ w.if-remove.false) c.remove.ensures.others)
    ]
