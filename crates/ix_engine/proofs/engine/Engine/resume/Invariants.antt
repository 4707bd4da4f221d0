-- The tree is that of the actions so far, each of which is allowed.
use Rattle.std.proofs.Common.{◌≡◌, [], take}
use Rattle.ix_can.specs.TreeOf.{tree_of}
use Rattle.ix_engine.specs.Histories.{AreAllowed}
use Rattle.ix_engine.proofs.engine.Engine.resume.Given as goal

abbrev pub invariant-loop-index : goal.invariant-loop-index
invariant-loop-index l =
    (l.tree ≡ tree_of l.fn.self.form [] (take l.index l.fn.actions.items))
    × AreAllowed l.fn.self.form l.fn.self.limit (take l.index l.fn.actions.items)
