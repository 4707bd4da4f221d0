use Rattle.std.proofs.Common.{◌∙◌}
use Rattle.ix_parse.proofs.Stacks.{groups_lem}
use Rattle.ix_parse.proofs.stack.groups.Goals as goal

pub returns : goal.returns
returns c = c.count_of.ensures ∙ groups_lem c.args.stack.now
