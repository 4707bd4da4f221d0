use Rattle.std.proofs.Common.{◌∙◌}
use Rattle.ix_parse.proofs.Stacks.{levels_lem}
use Rattle.ix_parse.proofs.stack.levels.Goals as goal

pub returns : goal.returns
returns c = c.count_of.ensures ∙ levels_lem c.args.stack.now
