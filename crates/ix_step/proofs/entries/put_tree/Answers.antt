use Rattle.std.proofs.Common.{ap, arith}
use Rattle.ix_tree.specs.contracts.order.KnotPartialEq.TheImpl.{ghosts as tree_ghosts}
use Rattle.ix_tree.specs.Plain.{listed}
use Rattle.ix_tree.specs.Size.{size_of}
use Rattle.ix_step.proofs.EntriesPut.{entered}
use Rattle.ix_step.proofs.SameTrees.{same_trees}
use Rattle.ix_step.proofs.entries.put_tree.Goals as goal

pub returns-then-len-count-clause-entered : goal.returns-then-len-count-clause-entered
returns-then-len-count-clause-entered c trees values held same =
    let d = entered tree_ghosts.eq same_trees c.args.common.now trees values c.args.entries.now.items c.args.total c.args.value c.args.tree c.put.new.entries.items held same c.in_ok-put.ensures.list in
    (record { items = d.items; counted = d.kept (omega (arith, c.if-len-count.true, c.len.ensures, c.len-count.ensures)) }, c.requires.within)

pub returns-then-total-size-clause-entered : goal.returns-then-total-size-clause-entered
returns-then-total-size-clause-entered c trees values held same =
    let d = entered tree_ghosts.eq same_trees c.args.common.now trees values c.args.entries.now.items c.args.total c.args.value c.args.tree c.put.new.entries.items held same c.in_ok-put.ensures.list in
    let grown = d.grown (omega (arith, c.if-len-count.false, c.len.ensures, c.len-count.ensures)) in
    let size = ap (λ l. size_of (listed l)) d.items in
    λ e. omega (arith, grown, size, c.if-total-size.true, c.size-size.ensures.value)

pub returns-clause-entered : goal.returns-clause-entered
returns-clause-entered c trees values held same =
    let d = entered tree_ghosts.eq same_trees c.args.common.now trees values c.args.entries.now.items c.args.total c.args.value c.args.tree c.put.new.entries.items held same c.in_ok-put.ensures.list in
    let grown = d.grown (omega (arith, c.if-len-count.false, c.len.ensures, c.len-count.ensures)) in
    (record { items = d.items; counted = omega (arith, grown, c.size-size.ensures.value) }, c.if-total-size.false)
