use Rattle.std.proofs.Common.{◌∙◌, ap, sym}
use Rattle.ix_parse.specs.inside.Stack.{stack_of}
use Rattle.ix_parse.specs.Symbols.{Meaning}
use Rattle.ix_parse.specs.inside.StackMachine as machine
use Rattle.ix_parse.proofs.Stacks.{reduced-left}
use Rattle.ix_parse.proofs.stack.reduced.Goals as goal

pub loop-left-preserved : goal.loop-left-preserved
loop-left-preserved c =
    c.loop-left.invariant
    ∙ reduced-left c.args.lowest _ _ c.in-Some.left _ c.in-Some.ensures.0 c.in-Some.ensures.1
    ∙ ap (λ (x : Meaning). machine.reduced c.args.lowest (stack_of c.pop_left.new.stack.items) x) (sym c.in_ok-operand.ensures)
