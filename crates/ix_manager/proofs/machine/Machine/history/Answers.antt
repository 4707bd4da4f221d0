use Rattle.std.proofs.Common.{sym, ◌∙◌, ap}
use Rattle.ix_manager.specs.Machine.{word_of}
use Rattle.ix_manager.specs.inside.Core.{Core}
use Rattle.ix_manager.proofs.Stepping.{words}
use Rattle.ix_manager.proofs.machine.Machine.history.Goals as goal

pub returns : goal.returns
returns c =
    let i = c.self.inside in
    c.history.ensures.value ∙ sym (words i.engine i.tickets.items i.slot i.watches i.moment i.renewed i.boot i.number c.self.invariant.each)
    ∙ ap (λ (core : Core). word_of core.state) c.self.view_is
