use Rattle.ix_cli.specs.Commands.{lint_command}
use Rattle.ix_cli.proofs.commands.lint.Goals as goal

pub returns : goal.returns
unfolding lint_command
returns c =
    c.of_expression.ensures
