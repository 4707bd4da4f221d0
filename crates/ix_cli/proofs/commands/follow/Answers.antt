use Rattle.ix_cli.specs.Commands.{follow_command}
use Rattle.ix_cli.proofs.commands.follow.Goals as goal

pub returns : goal.returns
unfolding follow_command
returns c =
    let one = c.with-command.ensures _ _ c.word.ensures.rule c.of_expression-command.ensures in
    c.with.ensures _ _ c.nodes_option.ensures.rule one
