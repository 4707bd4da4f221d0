use Rattle.std.proofs.Common.{◌≡◌, vec_len}
use Rattle.ix_parse.specs.inside.StackMachine as machine
use Rattle.ix_parse.specs.inside.Stack.{stack_of}
use Rattle.ix_parse.specs.inside.Operands.{meaning_of}
use Rattle.ix_parse.proofs.stack.reduced.Given as goal

abbrev pub invariant-loop-left : goal.invariant-loop-left
invariant-loop-left l =
    machine.reduced l.lowest (stack_of l.fn.stack.items) (meaning_of l.fn.operand) ≡ machine.reduced l.lowest (stack_of l.stack.items) (meaning_of l.operand)

abbrev pub decreases-loop-left : goal.decreases-loop-left
decreases-loop-left l = vec_len l.stack
