-- What a run may touch of a site.
use Rattle.std.specs.Prelude.{◌≡◌, ◌≤◌}
use Rattle.ix_outside.specs.SiteState.{SiteState, OnlyDisk}
use Rattle.ix_cli.specs.Words.{Job, replay, serve, renew}

-- nothing changed but the counts, none of which fell, the tick, whether a file is attached, and
-- what the site tells of its connections and its disk
pub record OnlyCalls (old new : SiteState) : Type 0 where
  pub disk : old.counts.disk ≤ new.counts.disk
  pub wire : old.counts.wire ≤ new.counts.wire
  pub send : old.counts.send ≤ new.counts.send
  pub held : new.held ≡ old.held

-- what a job may touch: a replay and a renew the disk, a serve also the wire, and the others
-- nothing
abbrev pub Touches : Job → SiteState → SiteState → Type 0
Touches (replay expression journal script limit turns) before after = OnlyDisk before after
Touches (serve expression journal socket limit turns) before after = OnlyCalls before after
Touches (renew expression journal new limit) before after = OnlyDisk before after
Touches _ before after = after ≡ before
