use Rattle.std.proofs.Common.{◌≡◌}
use Rattle.ix_journal.specs.inside.Answers.{standing}
use Rattle.ix_journal.specs.Answers.{at_gate}
use Rattle.ix_journal.proofs.Following.{FewFollowed}
use Rattle.ix_journal.proofs.scanning.follow.Given as goal

abbrev pub invariant-loop-item : goal.invariant-loop-item
invariant-loop-item l = record {
  progress : (goal.iterator-loop-item).can_next l.records × (goal.iterator-loop-item).is_finite l.records;
  place : standing l.records ≡ at_gate l.bytes l.records.gate l.records.marks;
  so_far : FewFollowed l.bytes l.first l.records.gate l.records.marks;
}
