use Rattle.ix_cli.specs.Commands.{why_command}
use Rattle.ix_cli.proofs.commands.why.Goals as goal

pub returns : goal.returns
unfolding why_command
returns c =
    let one = c.with-command.ensures _ _ c.word.ensures.rule c.of_expression-command.ensures in
    let two = c.with-command-2.ensures _ _ c.word-2.ensures.rule one in
    c.with.ensures _ _ c.nodes_option.ensures.rule two
