use Rattle.std.proofs.Common.{sym, ◌∙◌, arith}
use Rattle.ix_step.proofs.Gathered.{gathers_tree, ended_adds, open_adds, tree_weights}
use Rattle.ix_step.proofs.sets.put_open.Goals as goal

pub returns-then-is_ended-clause-gathers : goal.returns-then-is_ended-clause-gathers
returns-then-is_ended-clause-gathers c =
    ended_adds c.args.set.now.budget c.args.tree c.args.set.now.items (sym c.is_ended.ensures ∙ c.if-is_ended.true)

pub returns-clause-gathers : goal.returns-clause-gathers
returns-clause-gathers c =
    open_adds c.args.set.now.budget c.args.tree c.args.set.now.items c.put.new.set.items c.put.result
    (sym c.is_ended.ensures ∙ c.if-is_ended.false)
    (gathers_tree c.args.set.now c.put.new.set.items c.args.tree c.put.result c.put.ensures.put)

pub returns-clause-within : goal.returns-clause-within
returns-clause-within c = omega (arith, tree_weights c.put.new.set.items, c.put.ensures.within, c.put.ensures.budget)
