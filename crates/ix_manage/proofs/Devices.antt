-- What a device is after one call and then another, and what a script's site was lent.
use Rattle.std.proofs.Common.{◌≡◌, ◌⊎◌, inl, inr, ℕ, ◌≤◌, List, Option, None, Some, refl, sym, ◌∙◌, subst, arith}
use Rattle.std.proofs.lemmas.Option.{none-some}
use Rattle.std.specs.Borrow.{GName}
use Rattle.ix_outside.specs.Loans.{Loans, lent, reads, unused_wire}
use Rattle.ix_outside.specs.SinkState.{SinkState, OnlyPuts}
use Rattle.ix_outside.specs.Disk.{Disk}
use Rattle.ix_outside.specs.SiteState.{SiteState, OnlyDisk, OnlyWire}
use Rattle.ix_outside.specs.inside.DiskCalls.{KeepsOpened}
use Rattle.ix_outside.proofs.Passing.{KeepsOpened-none, KeepsOpened-join}
use Rattle.ix_manager.specs.inside.OverSite.{OnlyServes}
use Rattle.ix_renew.proofs.Making.{disk_calls_then}
use Rattle.ix_manage.specs.Site.{OnlyCalls}
use Rattle.ix_manage.specs.inside.ServeProgress.{OnlyServed}
use Rattle.ix_manage.specs.inside.ReplayProgress.{OnlyPlays, OnlyUsesDisk, Player}

-- nothing was put
pub still : (sink : SinkState) → OnlyPuts sink sink
still sink = record { faults = omega arith; held = refl }

-- something was put, and then more
pub then : (old between new : SinkState)
    → OnlyPuts old between → OnlyPuts between new → OnlyPuts old new
then old between new first second = record {
  faults = omega (arith, first.faults, second.faults);
  held = second.held ∙ first.held;
}

untold : (one two : Option Disk) → one ≡ None → KeepsOpened one two → two ≡ None
untold None two is keeps = keeps
untold (Some disk) two is keeps = absurd (none-some disk (sym is))

-- what was attached stays where it is still told, and then again
opened_then : (old mid new : Option Disk) → KeepsOpened old mid ⊎ (mid ≡ None) → KeepsOpened mid new ⊎ (new ≡ None)
    → KeepsOpened old new ⊎ (new ≡ None)
opened_then old mid new (inl one) (inl two) = inl (KeepsOpened-join old mid new one two)
opened_then old mid new (inr none) (inl two) = inr (untold mid new none two)
opened_then old mid new one (inr none) = inr none

-- no call was made
pub calls_still : (site : SiteState) → OnlyCalls site site
calls_still site = record { disk = omega arith; wire = omega arith; send = omega arith; held = refl }

-- calls were made, and then more
pub calls_then : (old mid new : SiteState) → OnlyCalls old mid → OnlyCalls mid new → OnlyCalls old new
calls_then old mid new first second = record {
  disk = omega (arith, first.disk, second.disk);
  wire = omega (arith, first.wire, second.wire);
  send = omega (arith, first.send, second.send);
  held = second.held ∙ first.held;
}

-- calls of the disk alone are calls
pub calls_of_disk : (old new : SiteState) → OnlyDisk old new → OnlyCalls old new
calls_of_disk old new only = record {
  disk = only.disk;
  wire = omega (arith, only.wire);
  send = omega (arith, only.send);
  held = only.held;
}

-- no call was made
pub served_still : (site : SiteState) → OnlyServed site site
served_still site = record {
  calls = calls_still site;
  attached = refl;
  opened = inl (KeepsOpened-none site.disk);
}

-- calls were made, and then more
pub served_then : (old mid new : SiteState) → OnlyServed old mid → OnlyServed mid new → OnlyServed old new
served_then old mid new first second = record {
  calls = calls_then old mid new first.calls second.calls;
  attached = second.attached ∙ first.attached;
  opened = opened_then old.disk mid.disk new.disk first.opened second.opened;
}

-- a call of the wire
pub served_wire : (old new : SiteState) → OnlyWire old new → OnlyServed old new
served_wire old new only = record {
  calls = record {
    disk = omega (arith, only.disk);
    wire = only.wire;
    send = omega (arith, only.send);
    held = only.held;
  };
  attached = only.attached;
  opened = inl (subst (KeepsOpened old.disk) (sym only.file) (KeepsOpened-none old.disk));
}

-- an event was handled
pub served_event : (old new : SiteState) → OnlyServes old new → OnlyServed old new
served_event old new only = record {
  calls = record {
    disk = only.disk;
    wire = omega (arith, only.wire);
    send = only.send;
    held = only.held;
  };
  attached = only.attached;
  opened = only.opened;
}

-- no call was made
pub disk_calls_still : (site : SiteState) → OnlyDisk site site
disk_calls_still site = record { disk = omega arith; wire = refl; send = refl; contents = refl; held = refl }

-- no call of the disk was made
pub disk_still : (site : SiteState) → OnlyUsesDisk site site
disk_still site = record {
  rest = disk_calls_still site;
  attached = refl;
  opened = inl (KeepsOpened-none site.disk);
}

-- calls of the disk were made, and then more
pub disk_then : (old mid new : SiteState)
    → OnlyUsesDisk old mid → OnlyUsesDisk mid new → OnlyUsesDisk old new
disk_then old mid new first second = record {
  rest = disk_calls_then old mid new first.rest second.rest;
  attached = second.attached ∙ first.attached;
  opened = opened_then old.disk mid.disk new.disk first.opened second.opened;
}

-- a player is as it was
pub plays_still : (now : Player) → OnlyPlays now now
plays_still now = record { script = refl; puts = still now.sink; site = disk_still now.site }

-- it played, and then more
pub plays_then : (old between new : Player)
    → OnlyPlays old between → OnlyPlays between new → OnlyPlays old new
plays_then old between new first second = record {
  script = second.script ∙ first.script;
  puts = then old.sink between.sink new.sink first.puts second.puts;
  site = disk_then old.site between.site new.site first.site second.site;
}

-- what a script's site holds: its script, the site that it was lent but for its disk, and the sink
abbrev pub holds : List ℕ → GName → SiteState → GName → Loans → Loans → Loans
holds script name site sink_name sink rest =
    reads script (unused_wire site.counts.wire site.counts.send site.contents
    (lent name site.held (lent sink_name sink rest)))

module _ {script script' : List ℕ} {name name' sink_name sink_name' : GName}
    {old new : SiteState} {sink sink' rest rest' : Loans}
    (same : holds script' name' new sink_name' sink' rest'
    ≡ holds script name old sink_name sink rest)
  where
    -- of a site of which a script's site holds the same only the disk was called
    pub site_used : old.counts.disk ≤ new.counts.disk → new.attached ≡ old.attached
        → KeepsOpened old.disk new.disk ⊎ (new.disk ≡ None) → OnlyUsesDisk old new
    site_used disk attached opened =
        let wire : new.counts.wire ≡ old.counts.wire = cc in
        let send : new.counts.send ≡ old.counts.send = cc in
        let contents : new.contents ≡ old.contents = cc in
        let held : new.held ≡ old.held = cc in record {
          rest = record { disk = disk; wire = wire; send = send; contents = contents; held = held };
          attached = attached;
          opened = opened;
        }

-- the script of such a site stays, and what its sink holds
pub holds_same : {script script' : List ℕ} {name name' sink_name sink_name' : GName} (old new : SiteState)
    {sink sink' rest rest' : Loans}
    → holds script' name' new sink_name' sink' rest' ≡ holds script name old sink_name sink rest
    → (script' ≡ script) × (sink' ≡ sink)
holds_same old new same = (cc, cc)
