-- Why lines aren't a list of given values.
use Rattle.std.specs.Prelude.{ℕ, List, ⊤}
use Rattle.ix_next.specs.Lists.{HasBadLine}
use Rattle.ix_next.specs.declared.list.LineFault.{LineFault}
use Rattle.ix_next.specs.declared.list.LineFault.TheVariants.{Bad, Memory}

-- why the lines of the bytes are refused
abbrev pub RefusesList : List ℕ → LineFault → Type 0
RefusesList bytes (Bad code at) = HasBadLine bytes code at
RefusesList bytes Memory = ⊤
