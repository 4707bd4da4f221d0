-- Why a file of given values is refused.
use Rattle.std.specs.Prelude.{ℕ, List, ⊤}
use Rattle.ix_next.specs.Lists.{HasBadLine}
use Rattle.ix_outside.specs.Counts.{Rose}
use Rattle.ix_outside.specs.FilesState.{FilesState}
use Rattle.ix_manage.specs.Desk.{HasBadValues}
use Rattle.ix_manage.specs.declared.refusal.Refusal.{Refusal}
use Rattle.ix_manage.specs.declared.refusal.Refusal.TheVariants.{Bad, Lost, Memory}
use Rattle.ix_manage.specs.declared.refusal.Input.TheVariants.{Values}

-- why the bytes of a file are refused
abbrev pub RefusesBytes : List ℕ → Refusal → Type 0
RefusesBytes bytes (Bad Values code at) = HasBadLine bytes code at
RefusesBytes bytes Memory = ⊤
RefusesBytes bytes _ = ⊥

-- why the file of this name is refused
abbrev pub RefusesValues : FilesState → FilesState → List ℕ → Refusal → Type 0
RefusesValues old new name (Bad Values code at) = HasBadValues old.contents name code at
RefusesValues old new name (Lost Values) = Rose old.faults new.faults
RefusesValues old new name Memory = ⊤
RefusesValues old new name _ = ⊥
