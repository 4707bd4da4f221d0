-- Feeding the lines of a file to a follower.
use Rattle.std.specs.Prelude.{◌≡◌, ℕ, List, Option, None, Result, Ok, Err}
use Rattle.std.specs.Io.KnownBytes.{append_known}
use Rattle.ix_values.specs.PlainAction.{Word}
use Rattle.ix_expr.specs.Form.{Form}
use Rattle.ix_engine.specs.inside.Engine.{EngineState}
use Rattle.ix_lines.specs.TextLines.{lines_of}
use Rattle.ix_outside.specs.Counts.{Rose}
use Rattle.ix_outside.specs.FilesState.{FilesState}
use Rattle.ix_outside.specs.Sink.{AppendsPart}
use Rattle.ix_outside.specs.SinkState.{SinkState}
use Rattle.ix_outside.specs.SiteState.{SiteState}
use Rattle.ix_follow.specs.declared.answers.Fed.{Fed}
use Rattle.ix_follow.specs.declared.answers.FollowFault.{FollowFault}
use Rattle.ix_follow.specs.declared.answers.FollowFault.TheVariants as fault
use Rattle.ix_follow.specs.Following.{FollowsLine}
use Rattle.ix_manage.specs.Around.{around_of}
use Rattle.ix_manage.specs.Ends.{JobEnds}
use Rattle.ix_manage.specs.FollowLines.{FollowEnds, fed_line}
use Rattle.ix_manage.specs.Session.{Session}
use Rattle.ix_manage.specs.declared.job.FollowWords.{FollowWords}
use Rattle.ix_manage.specs.declared.refusal.Refusal.{Refusal}
use Rattle.ix_manage.specs.declared.refusal.Refusal.TheVariants.{Unfollowed, Memory}
use Rattle.ix_manage.specs.declared.early_end.EarlyEnd.{EarlyEnd}
use Rattle.ix_manage.specs.declared.early_end.EarlyEnd.TheVariants.{Refused, Words, OtherExpression}
use Rattle.ix_manage.specs.declared.early_end.EarlyEnd.TheVariants.{Output}
use Rattle.ix_manage.specs.inside.Jobs.{follow_of}

-- the refusal of a fault
abbrev pub refusal_of : FollowFault → Refusal
refusal_of (fault.Differs number) = Unfollowed 61 number
refusal_of (fault.NotPartial number) = Unfollowed 62 number
refusal_of (fault.Full number) = Unfollowed 63 number
refusal_of (fault.Over number limit) = Unfollowed 64 number
refusal_of fault.Memory = Memory

-- why the run ends where a line was refused
abbrev pub follow_end : FollowFault → EarlyEnd
follow_end why = Refused (refusal_of why)

-- a line was refused, and nothing was put; or the put of its answer failed
abbrev pub StopsFed : EngineState → List ℕ → Word → SinkState → SinkState → EarlyEnd → Type 0
StopsFed s bytes after old new (Refused refusal) =
    (why : FollowFault) × FollowsLine s.form s.limit s.history bytes (Err why) after
    × (refusal ≡ refusal_of why) × (new.written ≡ old.written)
StopsFed s bytes after old new (Words text) = ⊥
StopsFed s bytes after old new (OtherExpression kept) = ⊥
StopsFed s bytes after old new Output =
    (answer : Fed) × FollowsLine s.form s.limit s.history bytes (Ok answer) after
    × AppendsPart old.written (fed_line answer) new.written × Rose old.faults new.faults

-- a line was fed, and its answer put, or it stopped there
abbrev pub PutsFed : {T : Type 0} → EngineState → List ℕ → Word → SinkState → SinkState
    → Result T EarlyEnd → Type 0
PutsFed s bytes after old new (Ok done) =
    (answer : Fed) × FollowsLine s.form s.limit s.history bytes (Ok answer) after
    × (new.written ≡ append_known old.written (fed_line answer))
PutsFed s bytes after old new (Err stop) = StopsFed s bytes after old new stop

-- what `follow` may put for a form, a limit and the bytes of a file of lines, by the status
pub record FollowsLines (x : Form) (limit : ℕ) (bytes : List ℕ) (status : ℕ) (whole part : List ℕ)
    (session : Option Session) : Type 0 where
  pub ends : FollowEnds x limit (lines_of bytes) status whole part
  pub no_session : session ≡ None

-- how a follow may end, whatever the site, which it leaves as it is
abbrev pub FollowRuns : FilesState → FilesState → FollowWords
    → ℕ → List ℕ → List ℕ → Option Session → Type 0
FollowRuns files later names status whole part session = (site : SiteState)
    → JobEnds (around_of files later site site) (follow_of names) status whole part session
