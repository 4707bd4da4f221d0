use Rattle.ix_tree.proofs.Equal.{sizes_tell}
use Rattle.ix_tree.proofs.order.KnotPartialEq.eq.Goals as goal

pub returns-else-size : goal.returns-else-size
returns-else-size c =
    sizes_tell c.args.self.now c.args.other.now c.size.result c.size-2.result c.size.ensures.value c.size-2.ensures.value c.if-size.false
