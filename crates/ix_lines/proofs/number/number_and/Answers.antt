use Rattle.std.proofs.Common.{◌+◌, arith}
use Rattle.ix_lines.proofs.NumberCuts.{no_front_number}
use Rattle.ix_lines.proofs.number.number_and.Goals as goal

pub returns-in_default-read_number : goal.returns-in_default-read_number
returns-in_default-read_number c =
    let split = c.split_word in
    no_front_number (c.args.greatest + 1) c.args.text.now split.result.0.now _ (omega arith)
    split.ensures.bytes split.ensures.plain c.in_default-read_number.ensures
