-- A site in memory as contracts see it, and what its calls make of it.
use Rattle.std.specs.Prelude.{ℕ, ◌+◌, ◌/◌, nat_le, if◌then◌else◌, Bool, true, false}
use Rattle.std.specs.Prelude.{List, [], ◌∷◌, ◌++◌, length, take, drop, max}
use Rattle.std.specs.Prelude.{Option, None, Some}
use Rattle.ix_outside.specs.Contents.{GivenEvent, SentBytes, Sends, Contents, with_gone}
use Rattle.ix_outside.specs.Counts.{Counts, one_more}
use Rattle.ix_outside.specs.Crashes.{Crashes}
use Rattle.ix_outside.specs.Disk.{Disk, Opened}
use Rattle.ix_outside.specs.Loans.{free}
use Rattle.ix_outside.specs.SiteState.{SiteState}
use Rattle.ix_outside.specs.inside.NothingTold.{nothing_told}
use Rattle.ix_memory.specs.PlanState.{PlanState, fresh_plan}
use Rattle.ix_memory.specs.Plan.{plan_after}
use Rattle.ix_memory.specs.inside.SentState.{no_sends}
use Rattle.ix_memory.specs.inside.CanCome.{last_moment}
use Rattle.ix_memory.specs.inside.Moments.{LeavesImage, LeftSince}
use Rattle.ix_memory.specs.inside.PastCalls.{PastCall}
use Rattle.ix_memory.specs.declared.past.Effect.{Effect}
use Rattle.ix_memory.specs.declared.past.Effect.TheVariants.{Kept, Wrote, Cut, Synced, Attached}

-- which calls fail; the events to come, the moment of the last one and the events given; the sends
-- and the names heard; the file, whether it is attached, and by which name; the calls that were
-- made, the last one first; whether the site still tells its contents; the length of the longest
-- buffer that was read into; and its counts of faults
pub record MemorySiteState : Type 0 where
  pub plan : PlanState
  pub coming : List GivenEvent
  pub last : ℕ
  pub given : List GivenEvent
  pub sends : Sends
  pub image : List ℕ
  pub attached : Bool
  pub name : List ℕ
  pub past : List PastCall
  pub told : Bool
  pub longest_read : ℕ
  pub counts : Counts

-- a site that was just made
abbrev pub fresh_site : List ℕ → List GivenEvent → ℕ → List ℕ → Option ℕ → MemorySiteState
fresh_site image events room fail fuse = record {
  plan = fresh_plan fail fuse room;
  coming = events;
  last = last_moment 0 events;
  given = [];
  sends = no_sends;
  image = image;
  attached = false;
  name = [];
  past = [];
  told = true;
  longest_read = 0;
  counts = record { disk = 0; wire = 0; send = 0 };
}

-- the events given and the sends, unless the site tells no contents
abbrev pub told_contents : Bool → List GivenEvent → Sends → Contents
told_contents true given sends =
    record { given = Some given; sends = Some sends; text = None; lost = None }
told_contents false given sends = nothing_told

-- what a call with this effect attached, or else what was attached before
abbrev pub opened_behind : Effect → Opened → Option Opened → Option Opened
opened_behind Attached opened before = Some opened
opened_behind Kept opened before = before
opened_behind (Wrote at count) opened before = before
opened_behind (Cut count) opened before = before
opened_behind Synced opened before = before

-- what was attached by these calls, under this name
abbrev pub opened_by : List ℕ → List PastCall → Option Opened
opened_by name [] = None
opened_by name (call ∷ calls) =
    opened_behind call.effect
    (record { name = name; tick = length (call ∷ calls); file = call.file }) (opened_by name calls)

-- where a file is attached, what these calls attached, under this name
abbrev pub opened_where : Bool → List ℕ → List PastCall → Option Opened
opened_where true name calls = opened_by name calls
opened_where false name calls = None

-- the file and what was attached, unless the site tells no contents
abbrev pub told_disk : Bool → List ℕ → Option Opened → Option Disk
told_disk true file opened = Some (record { file = file; opened = opened })
told_disk false file opened = None

-- the site as every contract of its trait sees it, each call a tick; it was lent nothing
abbrev pub state_of : MemorySiteState → SiteState
state_of site = record {
  counts = site.counts;
  attached = site.attached;
  tick = length site.past;
  contents = told_contents site.told site.given site.sends;
  disk = told_disk site.told site.image (opened_where site.attached site.name site.past);
  held = free;
}

-- what a crash may leave
abbrev pub crashes_of : MemorySiteState → Crashes
crashes_of site = record {
  now = LeavesImage site.past site.image;
  left = λ t image.
      (sent : List SentBytes)
      × LeftSince site.past site.image site.sends.sent t (record { image = image; sent = sent });
  left_since = LeftSince site.past site.image site.sends.sent;
}

-- after a call of this cost and effect
abbrev pub called : ℕ → Effect → MemorySiteState → MemorySiteState
called cost effect site = record site {
  plan = plan_after site.plan cost;
  past = record { effect = effect; file = site.image; sent = site.sends.sent } ∷ site.past;
}

-- after a read into a buffer of this length
abbrev pub read_into : ℕ → MemorySiteState → MemorySiteState
read_into size site =
    record (called 16 Kept site) { longest_read = max site.longest_read size }

-- with one more fault of the wire
abbrev pub wire_failed : MemorySiteState → MemorySiteState
wire_failed site = record site { counts = record site.counts { wire = one_more site.counts.wire } }

-- with one more fault of the disk
abbrev pub disk_failed : MemorySiteState → MemorySiteState
disk_failed site = record site { counts = record site.counts { disk = one_more site.counts.disk } }

-- with one more fault of `send`
abbrev pub send_failed : MemorySiteState → MemorySiteState
send_failed site = record site { counts = record site.counts { send = one_more site.counts.send } }

-- the first half of the bytes, rounded down
abbrev pub half_of : List ℕ → List ℕ
half_of bytes = take (length bytes / 2) bytes

-- what a send that fails leaves: no contents are told where there is no room for it, and else the
-- first half is sent
abbrev pub half_sent : Bool → ℕ → List ℕ → MemorySiteState → MemorySiteState
half_sent true conn bytes site = record site { told = false }
half_sent false conn bytes site = record site { sends = with_gone conn (half_of bytes) site.sends }

-- a file with these bytes written at a place, over what is there and past the end
abbrev pub written : ℕ → List ℕ → List ℕ → List ℕ
written at bytes image = take at image ++ (bytes ++ drop (at + length bytes) image)

-- what a write that fails leaves: the first half is written, unless there is no room for the call
-- or the place is beyond the end
abbrev pub half_written : Bool → ℕ → List ℕ → MemorySiteState → MemorySiteState
half_written true at bytes site = called (16 + length bytes) Kept site
half_written false at bytes site =
    if nat_le at (length site.image) then
    record (called (16 + length bytes) (Wrote at (length bytes)) site) {
      image = written at (half_of bytes) site.image;
    }
    else called (16 + length bytes) Kept site
