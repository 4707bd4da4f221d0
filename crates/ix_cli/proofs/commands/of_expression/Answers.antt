use Rattle.ix_cli.proofs.commands.of_expression.Goals as goal

pub returns : goal.returns
returns c = c.with.ensures _ _ c.word.ensures.rule c.begun-command.ensures
