use Rattle.std.proofs.Common.{◌<◌, [], ◌∷◌, None, length, take, ap, arith}
use Rattle.std.proofs.lemmas.List.{length-reverse}
use Rattle.ix_expr.proofs.Slots.{IsPadded-push}
use Rattle.ix_expr.proofs.env.Env.bind.Goals as goal

pub invariant_of-self : goal.invariant_of-self
invariant_of-self c =
    let count = c.self.inside.count in
    let entries = c.self.inside.entries in
    let short : count < 8 = omega (arith, ap length c.self.view_is, length-reverse (take count entries), c.self.invariant.0.counted, c.requires.room) in
    (IsPadded-push 8 (97 ∷ [], None) count entries (c.args.name, c.args.value) c.self.invariant.0 (omega arith) short, omega arith)
