use Rattle.std.proofs.Common.{length}
use Rattle.ix_lex.specs.inside.Items.{item_pieces}
use Rattle.ix_parse.specs.inside.Progress.{Progress}
use Rattle.ix_parse.specs.inside.Configs.{config_of}
use Rattle.ix_parse.specs.inside.Outcomes.{pending}
use Rattle.ix_parse.proofs.taking.read_operand.Given as goal

abbrev pub invariant-loop-ahead : goal.invariant-loop-ahead
invariant-loop-ahead l = Progress (item_pieces 0 l.fn.text) (pending l.ahead l.tokens) (config_of l.reading.reader) l.reading.nodes

abbrev pub decreases-loop-ahead : goal.decreases-loop-ahead
decreases-loop-ahead l = length (pending l.ahead l.tokens)
