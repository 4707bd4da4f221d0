use Rattle.std.proofs.Common.{◌<◌, [], ◌∷◌, None, length, ap, arith}
use Rattle.ix_expr.proofs.Slots.{IsPadded-push}
use Rattle.ix_why.proofs.bindings.Bindings.push.Goals as goal

pub invariant_of-self : goal.invariant_of-self
invariant_of-self c =
    let count = c.self.inside.count in
    let entries = c.self.inside.entries in
    let short : count < 8 = omega (arith, ap length c.self.view_is, c.self.invariant.0.counted, c.requires) in
    (IsPadded-push 8 (97 ∷ [], None) count entries (c.args.parameter.now, c.args.value.now) c.self.invariant.0 (omega arith) short, omega arith)
