use Rattle.std.proofs.Common.{◌∙◌, ap}
use Rattle.ix_values.specs.PlainAction.{PlainAction}
use Rattle.ix_generate.proofs.Noted.{below_ten, set_passes, some_passes}
use Rattle.ix_generate.proofs.Workload.granted.Goals as goal

pub invariant_of-self : goal.invariant_of-self
invariant_of-self c =
    let ask = c.requires in
    let values = c.values-values.ensures.value ∙ ap (λ (a : PlainAction). a.values) ask.2 in
    let small = below_ten ask.0 ask.1 c.values-values.result.now values c.index-values-1.result
    c.index-values-1.is c.number_behind-examination.result
    (λ letter number small text.
    c.number_behind-examination.ensures letter number small (c.bytes-2.ensures.value ∙ text)) in
    set_passes c.self.inside.calls c.from-patient.result c.then_some.result
    (rw c.then_some.ensures (some_passes _ c.number_behind-examination.result small))
    c.self.invariant
