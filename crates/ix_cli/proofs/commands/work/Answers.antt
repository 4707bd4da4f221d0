use Rattle.ix_cli.specs.Commands.{work_command}
use Rattle.ix_cli.proofs.commands.work.Goals as goal

pub returns : goal.returns
unfolding work_command
returns c =
    let one = c.with-command.ensures _ _ c.number_word.ensures.rule c.begun-command.ensures in
    let two = c.with-command-2.ensures _ _ c.number_word-2.ensures.rule one in
    c.with.ensures _ _ c.nodes_option.ensures.rule two
