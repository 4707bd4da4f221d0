use Rattle.ix_cli.specs.Commands.{next_command}
use Rattle.ix_cli.proofs.commands.next.Goals as goal

pub returns : goal.returns
unfolding next_command
returns c =
    let one = c.with-command.ensures _ _ c.word.ensures.rule c.of_expression-command.ensures in
    let two = c.with-command-2.ensures _ _ c.given_words.ensures.rule one in
    c.with.ensures _ _ c.nodes_option.ensures.rule two
