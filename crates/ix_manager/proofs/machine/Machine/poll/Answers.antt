use Rattle.std.proofs.Common.{refl, sym, ap, subst, ◌∙◌}
use Rattle.ix_manager.specs.inside.Core.{Core}
use Rattle.ix_manager.specs.inside.Does.{PollAnswers, Refreshes}
use Rattle.ix_manager.specs.declared.machine.Answer.{Answer}
use Rattle.ix_manager.specs.declared.machine.Answer.TheVariants as answer
use Rattle.ix_manager.proofs.Stepping.{core_of, seen, poll_memory_does, refreshes}
use Rattle.ix_manager.proofs.machine.Machine.poll.Goals as goal
use Rattle.ix_manager.proofs.machine.Machine.poll.Goals.{in-Ok, in-Err}

pub returns : goal.returns
returns c =
    let i = c.self.inside in
    let name = c.args.name in
    let watches = c.refresh.new.watches in
    let new = core_of i.engine i.tickets.items i.slot watches i.moment i.renewed i.boot i.number in
    elim c.match-refresh.branch [
      | in-Ok w ↦
          subst (λ (r : Answer). PollAnswers c.args.self.now name r new) (sym w.result-is) (
            refl,
            subst (λ (core : Core). Refreshes core name new) c.self.view_is
                (refreshes i.engine i.tickets.items i.slot i.watches i.moment i.renewed i.boot i.number c.self.invariant.each watches name c.refresh.ensures.kept w.in-Ok.ensures.noted),
          )
      | in-Err w ↦
          subst (λ (r : Answer). PollAnswers c.args.self.now name r new) (sym (w.result-is ∙ ap answer.One w.refused.ensures))
          (seen _ _ _ _ _ _ c.self.view_is refl
          (poll_memory_does i.engine i.tickets.items i.slot i.watches i.moment i.renewed i.boot i.number c.self.invariant.each watches name c.refresh.ensures.kept w.in-Err.ensures.asked))
    ]
