-- What proofs know of the real devices: their counts, and whether a file is attached.
use Rattle.std.specs.Prelude.{ℕ, Bool, None}
use Rattle.ix_outside.specs.Counts.{Counts, one_more}
use Rattle.ix_outside.specs.FilesState.{FilesState}
use Rattle.ix_outside.specs.Loans.{free}
use Rattle.ix_outside.specs.SinkState.{SinkState}
use Rattle.ix_outside.specs.SiteState.{SiteState}
use Rattle.ix_outside.specs.inside.NothingTold.{nothing_told}

-- files that tell none, of which so many loads failed
abbrev pub untold_files : ℕ → FilesState
untold_files faults = record { contents = None; faults = faults; held = free }

-- a sink that doesn't tell its bytes, of which so many puts failed
abbrev pub untold_sink : ℕ → SinkState
untold_sink faults = record { written = None; faults = faults; held = free }

-- the counts of a site, and whether a file is attached
pub record RealSiteState : Type 0 where
  pub counts : Counts
  pub attached : Bool

-- a site that tells nothing, with these counts
abbrev pub untold_site : RealSiteState → SiteState
untold_site site = record {
  counts = site.counts;
  attached = site.attached;
  tick = 0;
  contents = nothing_told;
  disk = None;
  held = free;
}

-- the count of a disk, and whether a file is attached
pub record DiskState : Type 0 where
  pub faults : ℕ
  pub attached : Bool

-- with one more failed call
abbrev pub with_fault : DiskState → DiskState
with_fault disk = record disk { faults = one_more disk.faults }

-- with one more failed call of the wire
abbrev pub with_wire_fault : RealSiteState → RealSiteState
with_wire_fault site =
    record site { counts = record site.counts { wire = one_more site.counts.wire } }

-- with one more failed send
abbrev pub with_send_fault : RealSiteState → RealSiteState
with_send_fault site =
    record site { counts = record site.counts { send = one_more site.counts.send } }
