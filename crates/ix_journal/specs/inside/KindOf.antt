-- The kind that the code's answer names.
use Rattle.ix_journal.specs.declared.header.Head.{Head}
use Rattle.ix_journal.specs.declared.header.Head.TheVariants.{Unfinished, Unopened, Foreign, Ready}
use Rattle.ix_journal.specs.Kinds.{Kind, unfinished, unopened, foreign, ready}

-- the kind that is told
abbrev pub kind_told : Head → Kind
kind_told Unfinished = unfinished
kind_told (Unopened text) = unopened text.now
kind_told Foreign = foreign
kind_told (Ready text gate) = ready text.now gate
