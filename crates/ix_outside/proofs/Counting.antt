-- How counts go on from one call to the next.
use Rattle.std.proofs.Common.{ℕ, ◌≤◌, arith}
use Rattle.ix_outside.specs.Counts.{Rose, Counts}
use Rattle.ix_outside.specs.SiteState.{SiteState, OnlyDisk, OnlyWire, OnlySend}
use Rattle.ix_outside.specs.inside.NoFewer.{NoFewerCalls}

-- what rose before has risen by now
pub Rose-later : (before then now : ℕ) → Rose before then → then ≤ now → Rose before now
Rose-later before then now rose le = omega arith

-- what rose since then has risen since before
pub Rose-earlier : (before then now : ℕ) → before ≤ then → Rose then now → Rose before now
Rose-earlier before then now le rose = omega arith

pub NoFewer-still : (now : Counts) → NoFewerCalls now now
NoFewer-still now = record { disk = omega arith; wire = omega arith; send = omega arith }

pub NoFewer-join : (before then now : Counts) → NoFewerCalls before then → NoFewerCalls then now → NoFewerCalls before now
NoFewer-join before then now first second = record { disk = omega arith; wire = omega arith; send = omega arith }

pub NoFewer-disk : (old new : SiteState) → OnlyDisk old new → NoFewerCalls old.counts new.counts
NoFewer-disk old new only =
    let wire = only.wire in
    let send = only.send in record { disk = only.disk; wire = omega arith; send = omega arith }

pub NoFewer-wire : (old new : SiteState) → OnlyWire old new → NoFewerCalls old.counts new.counts
NoFewer-wire old new only =
    let disk = only.disk in
    let send = only.send in record { disk = omega arith; wire = only.wire; send = omega arith }

pub NoFewer-send : (old new : SiteState) → OnlySend old new → NoFewerCalls old.counts new.counts
NoFewer-send old new only =
    let disk = only.disk in
    let wire = only.wire in record { disk = omega arith; wire = omega arith; send = only.send }
