use Rattle.std.proofs.Common.{◌≡◌, Err, subst, ◌∙◌}
use Rattle.ix_watch.specs.declared.WatchFault.TheVariants.{Full, Memory}
use Rattle.ix_manager.specs.inside.Does.{WatchAnswers}
use Rattle.ix_manager.proofs.Stepping.{seen, watching_does, watches_full_does, watch_memory_does}
use Rattle.ix_manager.proofs.machine.Machine.watch.Goals as goal
use Rattle.ix_manager.proofs.machine.Machine.watch.Goals.{in-Ok, in-Err-Full, in-Err-Memory}

pub returns : goal.returns
returns c =
    let i = c.self.inside in
    let name = c.args.name in
    let action = c.args.action in
    let new = c.add_watch.new.watches in
    elim c.match-add_watch.branch [
      | in-Ok w ↦
          seen _ _ _ _ _ _ c.self.view_is w.result-is
          (watching_does i.engine i.tickets.items i.slot i.watches i.moment i.renewed i.boot i.number c.self.invariant.each new name action w.in-Ok.told w.in-Ok.ensures)
      | in-Err-Full w ↦
          let is : c.add_watch.result ≡ Err Full = cc in
          let facts = subst (λ r. WatchAnswers i.engine name action i.watches r new) is c.add_watch.ensures in
          seen _ _ _ _ _ _ c.self.view_is (w.result-is ∙ w.refused.ensures)
          (watches_full_does i.engine i.tickets.items i.slot i.watches i.moment i.renewed i.boot i.number c.self.invariant.each new name action facts.0 facts.1 facts.2)
      | in-Err-Memory w ↦
          let is : c.add_watch.result ≡ Err Memory = cc in
          let facts = subst (λ r. WatchAnswers i.engine name action i.watches r new) is c.add_watch.ensures in
          seen _ _ _ _ _ _ c.self.view_is (w.result-is ∙ w.refused-in-Err-Memory.ensures)
          (watch_memory_does i.engine i.tickets.items i.slot i.watches i.moment i.renewed i.boot i.number c.self.invariant.each new name action facts.0 facts.1)
    ]
