use Rattle.std.proofs.Common.{ap, ◌∙◌, arith}
use Rattle.indexmap.specs.Layout.{length-set_value_at}
use Rattle.ix_watch.specs.inside.Watches.{marked}
use Rattle.ix_watch.proofs.EntryLemmas.{watches-set_value_at}
use Rattle.ix_watch.proofs.Watches.mark.Goals as goal

pub invariant_of-self : goal.invariant_of-self
invariant_of-self c = omega (arith, length-set_value_at c.self.inside.marks.entries c.args.index (record { told = c.args.told; holds = c.args.now }), c.self.invariant)

pub returns : goal.returns
returns c =
    watches-set_value_at c.self.inside.marks.entries c.args.index (record { told = c.args.told; holds = c.args.now })
    ∙ ap (λ ws. marked ws c.args.index c.args.told c.args.now) c.self.view_is
