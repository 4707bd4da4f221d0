use Rattle.std.proofs.Common.{sym}
use Rattle.ix_parse.proofs.Classes.{named-letter}
use Rattle.ix_parse.proofs.step.word_mode.Goals as goal

pub of_text-requires : goal.of_text-requires
of_text-requires c =
    record { begins = named-letter c.args.word.now (sym c.in-Names.ensures); word = c.requires.word; short = c.requires.short }
