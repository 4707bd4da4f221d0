-- A site over etcd as contracts see it.
use Rattle.std.specs.Prelude.{◌≡◌, Bool, true}
use Rattle.ix_outside.specs.SiteState.{SiteState}
use Rattle.ix_outside.specs.Counts.{one_more}
use Rattle.ix_real.specs.inside.Untold.{RealSiteState, untold_site}

-- the counts, and whether a file is attached; whether that is one of etcd; and whether it was seen
-- since the last event that nobody else attached it
pub record EtcdSiteState : Type 0 where
  pub site : RealSiteState
  pub keyed : Bool
  pub sure : Bool

-- a site that tells nothing
abbrev pub untold_etcd : EtcdSiteState → SiteState
untold_etcd etcd = untold_site etcd.site

-- with one more failed call of the disk
abbrev pub with_disk_fault : RealSiteState → RealSiteState
with_disk_fault site =
    record site { counts = record site.counts { disk = one_more site.counts.disk } }

-- a reply may go out: no file of etcd is attached, or it is sure
abbrev pub MayReply : EtcdSiteState → Type 0
MayReply etcd = etcd.keyed ≡ true → etcd.sure ≡ true
