use Rattle.std.proofs.Common.{◌≡◌, ◌++◌, take}
use Rattle.ix_expr.specs.CanonicalText.{more_arguments_text}
use Rattle.ix_text.proofs.write_arguments.Given as goal

abbrev pub invariant-loop-argument : goal.invariant-loop-argument
invariant-loop-argument l = l.out.items ≡ l.initial.out.items ++ more_arguments_text (take l.argument-index l.more)
