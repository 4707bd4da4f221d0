use Rattle.std.proofs.Common.{◌∙◌, sym, inl, arith}
use Rattle.std.proofs.lemmas.Iterator.Consumers.{count_from_yields_List, YieldsList-from_first}
use Rattle.ix_watch.specs.inside.Watches.{changes_of}
use Rattle.ix_manager.proofs.SendSteps.{few_changes, count_replies}
use Rattle.ix_manager.proofs.sending.count_changes.Goals as goal

pub count-requires-clause-fits : goal.count-requires-clause-fits
count-requires-clause-fits c =
    let few = few_changes c.args.name.now c.args.machine.now.noted in
    inl (rw c.changes.ensures.changes (omega (arith, few, c.changes.ensures.few)))

pub overflow_cast-result : goal.overflow_cast-result
overflow_cast-result c =
    let few = few_changes c.args.name.now c.args.machine.now.noted in
    let count = count_from_yields_List c.changes.result c.count.result c.count.ensures.ran
    (YieldsList-from_first (λ change. (change.0.now, change.1)) (λ rest. rest) (changes_of c.args.name.now c.args.machine.now.noted) c.changes.ensures.changes) in
    omega (arith, few, count, c.changes.ensures.few)

pub returns : goal.returns
returns c =
    count_from_yields_List c.changes.result c.count.result c.count.ensures.ran
    (YieldsList-from_first (λ change. (change.0.now, change.1)) (λ rest. rest) (changes_of c.args.name.now c.args.machine.now.noted) c.changes.ensures.changes)
    ∙ sym (count_replies (changes_of c.args.name.now c.args.machine.now.noted))
