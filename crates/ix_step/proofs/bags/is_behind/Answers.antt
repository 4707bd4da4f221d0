use Rattle.std.proofs.Common.{◌≡◌, ◌+◌, suc, true, get_or, arith}
use Rattle.std.specs.Ordering.{is_gt}
use Rattle.ix_tree.specs.Order.{tree_cmp}
use Rattle.ix_step.proofs.BagsPut.{put_behind, put_before}
use Rattle.ix_step.proofs.Rising.{below_first}
use Rattle.ix_step.proofs.bags.is_behind.Goals as goal

pub returns-then-place-items-clause-behind : goal.returns-then-place-items-clause-behind
returns-then-place-items-clause-behind c = λ is.
    let next : c.args.place + 1 ≡ suc c.args.place = omega arith in
    let above : is_gt (tree_cmp c.args.tree.now (get_or c.args.items.now (suc c.args.place) c.index-items-place.result)) ≡ true = cc in
    put_behind c.args.tree.now c.args.items.now c.args.place c.index-items-place.result c.requires.place
    (λ k below. below_first c.args.tree.now c.args.items.now c.requires.rising k (suc c.args.place) c.index-items-place.result (omega arith) (omega arith) above)

pub returns-then-place-items-clause-before : goal.returns-then-place-items-clause-before
returns-then-place-items-clause-before c = λ is.
    let next : c.args.place + 1 ≡ suc c.args.place = omega arith in
    put_before c.args.tree.now c.args.items.now c.args.place c.index-items-place.result (omega arith) cc
