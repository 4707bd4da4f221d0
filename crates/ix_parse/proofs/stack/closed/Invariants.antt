use Rattle.std.proofs.Common.{◌≡◌, vec_len}
use Rattle.ix_parse.specs.inside.StackMachine as machine
use Rattle.ix_parse.specs.inside.Stack.{stack_of}
use Rattle.ix_parse.specs.inside.Operands.{meaning_of}
use Rattle.ix_parse.proofs.stack.closed.Given as goal

abbrev pub invariant-loop-taking : goal.invariant-loop-taking
invariant-loop-taking l =
    machine.closed (stack_of l.fn.stack.items) (meaning_of l.fn.operand) ≡ machine.closed (stack_of l.stack.items) (meaning_of l.operand)

abbrev pub decreases-loop-taking : goal.decreases-loop-taking
decreases-loop-taking l = vec_len l.stack
