use Rattle.ix_journal.specs.inside.Answers.{IsScanned}
use Rattle.ix_journal.specs.Recovery.{IsJournal}
use Rattle.ix_journal.proofs.scanning.scan.Goals as goal

pub returns-in-Unfinished : goal.returns-in-Unfinished
returns-in-Unfinished c = IsScanned.unfinished c.in-Unfinished.ensures

pub returns-in-Unopened : goal.returns-in-Unopened
returns-in-Unopened c = IsScanned.unopened _ c.in-Unopened.ensures

pub returns-in-Ok : goal.returns-in-Ok
returns-in-Ok c =
    let found = c.in-Ok.ensures in
    let journal : IsJournal c.args.bytes.now c.in-Ready.text.now found.entries c.in-Ok.gate =
    record { first = c.in-Ready.gate; ready = c.in-Ready.ensures; closes = found.closes } in
    rw (found.counted, found.booted) (IsScanned.ready _ found.entries _ journal)
