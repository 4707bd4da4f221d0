use Rattle.ix_cli.specs.Commands.{simplify_command}
use Rattle.ix_cli.proofs.commands.simplify.Goals as goal

pub returns : goal.returns
unfolding simplify_command
returns c =
    c.of_expression.ensures
