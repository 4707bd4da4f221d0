use Rattle.std.proofs.Common.{ℕ, ◌+◌, List, refl, sym, subst}
use Rattle.std.proofs.lemmas.List.{take_rest}
use Rattle.ix_journal.specs.Records.{BeginsWithRecord}
use Rattle.ix_journal.proofs.RecordFronts.{gate_read}
use Rattle.ix_journal.proofs.records.RecordsIterator.next.Goals as goal

pub returns-in-None-clause-steps : goal.returns-in-None-clause-steps
returns-in-None-clause-steps c =
    let records = c.args.self.now in (
      refl,
      record {
        sound = c.if-self.false;
        open_there = gate_read _ _ _ records.within c.if-self-2.false;
        no_record = λ entry follows w. c.in-None.ensures entry follows
            (subst (λ (rest : List ℕ). BeginsWithRecord rest entry)
            (sym (take_rest records.bytes.now (records.gate + 1))) w);
      },
      refl,
    )
