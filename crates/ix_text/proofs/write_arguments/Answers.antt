use Rattle.std.proofs.Common.{arith, rules, append_assoc}
use Rattle.ix_text.proofs.Arguments.{more-step}
use Rattle.ix_text.proofs.write_arguments.Goals as goal

pub loop-argument-preserved : goal.loop-argument-preserved
loop-argument-preserved c =
    rw (more-step c.args.more.now c.loop-argument.argument-index c.argument-item.result (omega arith) c.argument-item.is)
    (search (rules, append_assoc))
