use Rattle.std.proofs.Common.{◌-◌, ◌∙◌, length, take, ap, sym}
use Rattle.ix_parse.specs.inside.Stack.{stack_of}
use Rattle.ix_parse.specs.inside.Operands.{meaning_of}
use Rattle.ix_parse.specs.inside.StackMachine as machine
use Rattle.ix_parse.proofs.Stacks.{closed-taking}
use Rattle.ix_parse.proofs.stack.closed.Goals as goal

pub loop-taking-preserved : goal.loop-taking-preserved
loop-taking-preserved c =
    let es = c.as_slice.result.now in
    let x = meaning_of c.loop-taking.operand in
    c.loop-taking.invariant
    ∙ ap (λ l. machine.closed (stack_of l) x) (sym c.as_slice.ensures.value)
    ∙ closed-taking es c.in-Some.taking x c.in-Some.ensures
    ∙ c.in_ok-operand.ensures (stack_of (take (length es - 1) es))
    ∙ ap (λ l. machine.closed (stack_of l) (meaning_of c.in_ok-operand.operand)) ((λ i. take (c.as_slice.ensures.len i - 1) (c.as_slice.ensures.value i)) ∙ sym c.pop.ensures.rest)
