use Rattle.std.proofs.Common.{◌+◌}
use Rattle.std.proofs.lemmas.List.{take_rest}
use Rattle.ix_lines.proofs.LineLists.{lines_of-one, lines_of-more}
use Rattle.ix_lines.proofs.text_lines.first_line.Goals as goal

pub returns-in-None-clause-lines : goal.returns-in-None-clause-lines
returns-in-None-clause-lines c = lines_of-one c.args.bytes.now c.requires c.in-None.ensures

pub returns-in-Some-clause-lines : goal.returns-in-Some-clause-lines
returns-in-Some-clause-lines c = rw (take_rest c.args.bytes.now (c.in-Some.at + 1)) (lines_of-more c.args.bytes.now c.in-Some.at c.in-Some.ensures)
