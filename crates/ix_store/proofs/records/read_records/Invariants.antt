use Rattle.std.proofs.Common.{◌≡◌}
use Rattle.ix_outside.specs.Disk.{OfFile}
use Rattle.ix_store.specs.inside.Reading.{OnlyReads}
use Rattle.ix_store.proofs.Reading.{IsOnWay, Reached, steps_left}
use Rattle.ix_store.proofs.records.read_records.Given as goal
use Rattle.ix_outside.specs.Crashes.{stretch_of}

-- calls so far only read, none of them failed, and where the file is told, the Slide stands behind records of it that tell this history
abbrev pub invariant-records : goal.invariant-records
invariant-records g l = record {
  reads : OnlyReads (stretch_of g.S.Site.state g.S.Site.crashes l.fn.site l.site);
  way : IsOnWay l.first l.at l.history l.slide;
  counts : (g.S.Site.state l.site).counts.disk ≡ (g.S.Site.state l.fn.site).counts.disk;
  reached : OfFile (Reached l.first l.at l.history l.slide) (g.S.Site.state l.fn.site).disk;
}

abbrev pub decreases-records : goal.decreases-records
decreases-records g l = steps_left l.slide
