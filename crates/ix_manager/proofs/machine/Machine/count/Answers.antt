use Rattle.std.proofs.Common.{◌+◌, ℕ, length, sym, ◌∙◌, ap, ap₂}
use Rattle.ix_manager.specs.inside.Core.{Core}
use Rattle.ix_manager.proofs.Stepping.{counts}
use Rattle.ix_manager.proofs.machine.Machine.count.Goals as goal

pub returns-clause-value : goal.returns-clause-value
returns-clause-value c =
    let i = c.self.inside in
    let counted = counts i.engine i.tickets.items i.slot i.watches i.moment i.renewed i.boot i.number c.self.invariant.each in
    ap₂ (λ (m n : ℕ). m + n) c.ahead.ensures.value
    (ap length c.history.ensures.value ∙ sym counted ∙ ap (λ (core : Core). length core.state.history) c.self.view_is)
