-- What the code's store keeps.
use Rattle.ix_store.specs.declared.store.Store.{Store}
use Rattle.ix_store.specs.Keeping.{Keeping}

-- what is kept
abbrev pub kept : Store → Keeping
kept store = record {
  gate = store.gate;
  marks = store.marks;
  failed = store.failed;
}
