-- What a Slide keeps once a text that it lent is let go.
use Rattle.std.specs.Borrow.{Fml, MutBor}
use Rattle.std.specs.Io.BufRead.{Rests}
use Rattle.ix_journal.specs.Kept.{Kept}
use Rattle.ix_journal.specs.Slide.{Leaves}
use Rattle.ix_journal.specs.contracts.slide.Slide.{the_row}
use Rattle.ix_journal.specs.declared.slide.Slid.{Slid}

-- once a lent text is let go, this answer has left what is kept then
abbrev pub LeavesThen : MutBor Kept → Kept → Slid → Fml
LeavesThen slide old answer = Rests the_row slide (λ new. Leaves old answer new)
