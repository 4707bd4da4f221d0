use Rattle.std.proofs.Common.{◌≡◌}
use Rattle.ix_journal.specs.inside.Answers.{standing}
use Rattle.ix_journal.specs.Answers.{at_gate}
use Rattle.ix_renew.proofs.Reading.{ReadTo}
use Rattle.ix_renew.proofs.resting.read_records.Given as goal

abbrev pub invariant-loop-item : goal.invariant-loop-item
invariant-loop-item l = record {
  progress : (goal.iterator-loop-item).can_next l.records × (goal.iterator-loop-item).is_finite l.records;
  place : standing l.records ≡ at_gate l.journal l.records.gate l.records.marks;
  so_far : ReadTo l.journal l.first l.records.gate l.records.marks l.actions.items;
}
