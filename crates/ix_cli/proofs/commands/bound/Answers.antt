use Rattle.ix_cli.specs.Commands.{bound_command}
use Rattle.ix_cli.proofs.commands.bound.Goals as goal

pub returns : goal.returns
unfolding bound_command
returns c =
    c.with.ensures _ _ c.number_word.ensures.rule c.of_expression-command.ensures
