-- A replay as far as it went.
use Rattle.std.specs.Prelude.{◌≡◌, ◌⊎◌, Bool, true, false, ℕ, ◌+◌, ◌*◌, ◌^◌, ◌<◌, ◌≤◌, List, []}
use Rattle.std.specs.Prelude.{◌∷◌, ◌++◌}
use Rattle.std.specs.Prelude.{length, Option, None, Some, Result}
use Rattle.std.specs.Io.KnownBytes.{append_known}
use Rattle.ix_words.specs.Each.{Each}
use Rattle.ix_outside.specs.Contents.{Contents, GivenEvent}
use Rattle.ix_outside.specs.Counts.{Rose}
use Rattle.ix_outside.specs.Crashes.{Crashes, Stretch}
use Rattle.ix_outside.specs.SinkState.{SinkState, OnlyPuts}
use Rattle.ix_outside.specs.SiteState.{SiteState, OnlyDisk}
use Rattle.ix_outside.specs.inside.DiskCalls.{KeepsOpened}
use Rattle.ix_outside.specs.inside.NothingTold.{nothing_told}
use Rattle.ix_store.specs.Keeping.{Keeping}
use Rattle.ix_outside.specs.declared.event.Event.{Event}
use Rattle.ix_proto.specs.declared.reply.Reply.{Reply}
use Rattle.ix_manager.specs.Handled.{ManagerState, FitsEvent, Handles}
use Rattle.ix_manager.specs.Machine.{MachineState}
use Rattle.ix_manager.specs.RunLaws.{FollowsRun, given_event}
use Rattle.ix_manager.specs.Runs.{Ending, Opening, going}
use Rattle.ix_manager.specs.Wire.{run_text, unmarked}
use Rattle.ix_manager.specs.inside.OverSite.{FitsSite}
use Rattle.ix_manager.specs.inside.Saving.{SavesRun}
use Rattle.ix_script.specs.Events.{HasEvents}
use Rattle.ix_script.specs.inside.NextPiece.{IsNextPiece}
use Rattle.ix_script.specs.inside.Site.{playing}
use Rattle.ix_script.specs.inside.WithoutSends.{without_sends}
use Rattle.ix_script.specs.declared.site.ScriptSite.{ScriptSite}
use Rattle.ix_manage.specs.Session.{IsNoEnd, Session, history_line}
use Rattle.ix_manage.specs.Replay.{AreFirst, Plays, ReplayEnds}
use Rattle.ix_manage.specs.declared.early_end.EarlyEnd.{EarlyEnd}
use Rattle.ix_manage.specs.declared.event_outcome.EventOutcome.{EventOutcome}
use Rattle.ix_manage.specs.inside.Progress.{IsEventOutcome, SavesFrom, opening_at}
use Rattle.ix_manage.specs.inside.Leaves.{LeavesOutput}

-- a site's disk alone: nothing is told of its connections
abbrev pub disk_alone : SiteState → SiteState
disk_alone site = record site { contents = nothing_told }

-- between two states of a site
abbrev pub disk_stretch : {S : Type 0} → (S → SiteState) → (S → Crashes) → S → S → Stretch
disk_stretch site_state site_crashes old new = record {
  before = disk_alone (site_state old);
  after = disk_alone (site_state new);
  was = without_sends (site_crashes old);
  is = without_sends (site_crashes new);
}

-- the manager's store fits the disk of a site
abbrev pub FitsDisk : {S : Type 0} → (S → SiteState) → (S → Crashes) → ManagerState → S → Type 0
FitsDisk site_state site_crashes m site =
    FitsSite m (disk_alone (site_state site)) (without_sends (site_crashes site))

-- a script's site as it plays: the script, the events given so far, whether a put failed, and the
-- sink and the site that it was lent
pub record Player : Type 0 where
  pub script : List ℕ
  pub given : List GivenEvent
  pub failed : Bool
  pub sink : SinkState
  pub site : SiteState

abbrev pub player : {S K : Type 0} → (S → SiteState) → (K → SinkState) → ScriptSite S K → Player
player site_state sink_state it = record {
  script = (playing it).script;
  given = (playing it).given;
  failed = (playing it).sink_failed;
  sink = sink_state (playing it).sink;
  site = site_state (playing it).site;
}

-- what it tells
abbrev pub player_told : Player → Contents
player_told player = record {
  given = Some player.given;
  sends = None;
  text = player.sink.written;
  lost = Some player.failed;
}

-- it gave nothing yet, and no put failed
pub record IsAtStart (player : Player) : Type 0 where
  pub given : player.given ≡ []
  pub open_sink : player.failed ≡ false

-- only calls of the disk were made but `attach`; it may be told no more
pub record OnlyUsesDisk (old new : SiteState) : Type 0 where
  pub rest : OnlyDisk old new
  pub attached : new.attached ≡ old.attached
  pub opened : KeepsOpened old.disk new.disk ⊎ (new.disk ≡ None)

-- the script stays, and of the sink and the site what only puts and calls of the disk leave
pub record OnlyPlays (old new : Player) : Type 0 where
  pub script : new.script ≡ old.script
  pub puts : OnlyPuts old.sink new.sink
  pub site : OnlyUsesDisk old.site new.site

-- a manager may take a further event, and no reply of it is silent from the start
pub record IsBetween (m : ManagerState) (player : Player) : Type 0 where
  pub goes_on : m.ended ≡ false
  pub marks : m.marks ≡ unmarked
  pub tickets : m.machine.number < 2 ^ 63
  pub open_sink : player.failed ≡ false

-- the manager took the script's next event, its replies were put, and the journal kept its history
pub record PlaysEvent (old : ManagerState) (was : Player) (new : ManagerState) (now : Player)
    (stretch : Stretch) (outcome : EventOutcome) : Type 0 where
  pub event : Event
  pub piece : List ℕ
  pub ending : Ending
  pub given : now.given ≡ was.given ++ given_event event piece ∷ []
  pub next : IsNextPiece 4096 was.script was.given (given_event event piece)
  pub fits : FitsEvent event piece
  pub handled : Handles old event piece ending new
      (player_told (record was { given = now.given })) (player_told now)
  pub tickets : new.machine.number ≤ old.machine.number + length piece
  pub outcome_is : IsEventOutcome now.failed ending event.kind outcome
  pub fault : now.failed ≡ true → Rose was.sink.faults now.sink.faults
  pub saves : SavesRun ending old new stretch

-- a manager that took the events given so far, none of them the end, and put its replies behind
-- what was known before; it may go on
pub record HasPlayed (opening : Opening) (known : Option (List ℕ)) (m : ManagerState)
    (player : Player)
    (stretch : Stretch) : Type 0 where
  pub answers : List (List (List Reply))
  pub follows : FollowsRun opening player.given answers m
  pub marks : m.marks ≡ unmarked
  pub tickets : m.machine.number ≤ 1 + 4096 * length player.given
  pub open_sink : player.failed ≡ false
  pub first : (events : List GivenEvent) → HasEvents player.script events
      → AreFirst events player.given
  pub no_end : Each IsNoEnd player.given
  pub text : player.sink.written ≡ append_known known (run_text player.given answers)
  pub saves : SavesFrom opening going m.machine m.store stretch

-- how a replay of these bytes of a script may end that took these events and left the machine so
pub record ReplaysScript (opening : Opening) (turns : ℕ) (script : List ℕ)
    (taken : List GivenEvent) (last : MachineState) (stretch : Stretch)
    (status : ℕ) (whole part : List ℕ) (session : Option Session) : Type 0 where
  pub played : Session
  pub is : session ≡ Some played
  pub opening_is : played.opening ≡ opening
  pub taken_is : played.taken ≡ taken
  pub last_is : played.last ≡ last
  pub plays : (events : List GivenEvent) → HasEvents script events → Plays turns events played
  pub ends : ReplayEnds turns stretch.before.counts stretch.after.counts played status whole part
  pub store : Keeping
  pub saves : SavesFrom opening played.ending last store stretch

-- the same, whatever events were taken
abbrev pub ReplaysOn : Opening → ℕ → List ℕ → MachineState → Stretch
    → ℕ → List ℕ → List ℕ → Option Session → Type 0
ReplaysOn opening turns script last stretch status whole part session =
    (taken : List GivenEvent)
    × ReplaysScript opening turns script taken last stretch status whole part session

-- the line of the history was put
pub record PutsHistory (opening : Opening) (old new : SinkState) : Type 0 where
  pub put : new.written ≡ append_known old.written (history_line opening)
  pub rest : OnlyPuts old new

-- how taking the events of a script leaves the sink, where the line of the history was put before
abbrev pub TakesEvents : {T : Type 0} → ℕ → ManagerState → Player → ManagerState → Player → Stretch
    → Result T EarlyEnd → Type 0
TakesEvents turns old was new now stretch result =
    (start : SinkState) → PutsHistory (opening_at old) start was.sink
    → LeavesOutput (ReplaysScript (opening_at old) turns was.script now.given new.machine stretch)
    start now.sink result
