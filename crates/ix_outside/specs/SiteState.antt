-- A site as contracts see it.
use Rattle.std.specs.Prelude.{◌≡◌, ◌⊎◌, ℕ, ◌≤◌, Bool, Option, None}
use Rattle.ix_outside.specs.Contents.{Contents}
use Rattle.ix_outside.specs.Counts.{Counts}
use Rattle.ix_outside.specs.Disk.{Disk}
use Rattle.ix_outside.specs.Loans.{Loans}

-- the counts of faults; whether a file is attached; the tick, which numbers the moments; what the
-- site tells of its connections, and of its disk; and the other objects that it was lent
pub record SiteState : Type 0 where
  pub counts : Counts
  pub attached : Bool
  pub tick : ℕ
  pub contents : Contents
  pub disk : Option Disk
  pub held : Loans

-- nothing changed but the disk, its count, which didn't fall, and whether a file is attached
pub record OnlyDisk (old new : SiteState) : Type 0 where
  pub disk : old.counts.disk ≤ new.counts.disk
  pub wire : new.counts.wire ≡ old.counts.wire
  pub send : new.counts.send ≡ old.counts.send
  pub contents : new.contents ≡ old.contents
  pub held : new.held ≡ old.held

-- nothing changed but the count of the wire, which didn't fall, and what the site tells of its
-- connections
pub record OnlyWire (old new : SiteState) : Type 0 where
  pub disk : new.counts.disk ≡ old.counts.disk
  pub wire : old.counts.wire ≤ new.counts.wire
  pub send : new.counts.send ≡ old.counts.send
  pub attached : new.attached ≡ old.attached
  pub file : new.disk ≡ old.disk
  pub held : new.held ≡ old.held

-- nothing changed but the count of sends, which didn't fall, and what the site tells of its
-- connections; and it may tell its disk no more
pub record OnlySend (old new : SiteState) : Type 0 where
  pub disk : new.counts.disk ≡ old.counts.disk
  pub wire : new.counts.wire ≡ old.counts.wire
  pub send : old.counts.send ≤ new.counts.send
  pub attached : new.attached ≡ old.attached
  pub file : (new.disk ≡ old.disk) ⊎ (new.disk ≡ None)
  pub held : new.held ≡ old.held
