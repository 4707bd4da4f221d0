use Rattle.ix_cli.specs.Commands.{replay_command}
use Rattle.ix_cli.proofs.commands.replay.Goals as goal

pub returns : goal.returns
unfolding replay_command
returns c =
    let one = c.with-command.ensures _ _ c.word.ensures.rule c.of_expression-command.ensures in
    let two = c.with-command-2.ensures _ _ c.word-2.ensures.rule one in
    let three = c.with-command-3.ensures _ _ c.nodes_option.ensures.rule two in
    c.with.ensures _ _ c.turns_option.ensures.rule three
