-- A script's site as contracts see it.
use Rattle.std.specs.Prelude.{ℕ, Bool, List}
use Rattle.std.specs.Borrow.{GName}
use Rattle.ix_outside.specs.Contents.{GivenEvent}
use Rattle.ix_script.specs.inside.Progress.{events_of, given_by}
use Rattle.ix_script.specs.declared.site.ScriptSite.{ScriptSite}

-- the script's bytes, the events given so far, the site and the sink that were lent, each with the
-- loan that it is, and whether a send found the sink failed
pub record ScriptSiteState (S K : Type 0) : Type 0 where
  pub script : List ℕ
  pub given : List GivenEvent
  pub site : S
  pub site_loan : GName
  pub sink : K
  pub sink_loan : GName
  pub sink_failed : Bool

-- a script's site as it plays
abbrev pub playing : {S K : Type 0} → ScriptSite S K → ScriptSiteState S K
playing it = record {
  script = it.cursor.bytes.now;
  given = given_by it.rooms.items (events_of it.cursor.bytes.now);
  site = it.site.now;
  site_loan = it.site.ghost_name;
  sink = it.sink.now;
  sink_loan = it.sink.ghost_name;
  sink_failed = it.sink_failed;
}
