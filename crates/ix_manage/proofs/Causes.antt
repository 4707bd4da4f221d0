-- What each status of a run is due to.
use Rattle.std.proofs.Common.{◌≡◌, ◌⊎◌, inl, inr, ℕ, ◌≤◌, ◌==◌, false, true≢false, List, Option, None, arith, refl, sym, ◌∙◌, ap, subst}
use Rattle.ix_cli.specs.Words.{Job, Names, trace, replay, serve, work, simplify, bound, follow, lint, renew}
use Rattle.ix_cli.specs.Words as job
use Rattle.ix_expr.specs.Form.{Form}
use Rattle.ix_outside.specs.Counts.{Counts}
use Rattle.ix_outside.specs.Files.{Listing}
use Rattle.ix_parse.specs.Symbols.{Meaning}
use Rattle.ix_outside.specs.Crashes.{Crashes}
use Rattle.ix_outside.specs.SiteState.{SiteState, OnlyDisk}
use Rattle.ix_outside.proofs.Counting.{Rose-earlier}
use Rattle.ix_values.specs.PlainAction.{Word}
use Rattle.ix_manage.specs.Around.{Around, DiskFailed, FilesFailed, WireFailed}
use Rattle.ix_manage.specs.Command.{NamesNoJournal, NamesNoSocket, journal_of, new_file_of, socket_of}
use Rattle.ix_manage.specs.Desk as desk
use Rattle.ix_manage.specs.Desk.{IsAnswered, Unread}
use Rattle.ix_manage.specs.Ends as how
use Rattle.ix_manage.specs.Ends.{EndsOver, JobEnds}
use Rattle.ix_manage.specs.FollowLines as fed
use Rattle.ix_manage.specs.FollowLines.{FollowEnds, FollowsTo}
use Rattle.ix_manage.specs.Puts.{LastLine, lost, put}
use Rattle.ix_manage.specs.Renewals.{HasLongJournal, NamesLongJournal}
use Rattle.ix_manage.specs.Replay as played
use Rattle.ix_manage.specs.Replay.{ReplayEnds}
use Rattle.ix_manage.specs.Serve as served
use Rattle.ix_manage.specs.Serve.{ServeEnds}
use Rattle.ix_manage.specs.Session.{Session, SessionEnds, disk_failed, lost_history, out_of_turns, over}
use Rattle.ix_manage.specs.Site.{OnlyCalls, Touches}
use Rattle.ix_manage.specs.Trace.{Traces, answered, lost_answer, short}
use Rattle.ix_manage.specs.Work.{Works, above, asked}
use Rattle.ix_manage.proofs.Devices.{calls_of_disk, calls_still, disk_calls_still}

-- how a session ends since earlier counts
session_ends_earlier : (turns : ℕ) (before mid after : Counts) (text : List ℕ) (session : Session) → before.disk ≤ mid.disk
    → {status : ℕ} {whole part : List ℕ}
    → SessionEnds turns mid after text session status whole part → SessionEnds turns before after text session status whole part
session_ends_earlier turns before mid after text session le (over is) = over is
session_ends_earlier turns before mid after text session le (out_of_turns all more last) = out_of_turns all more last
session_ends_earlier turns before mid after text session le (disk_failed fails rose last) =
    disk_failed fails (Rose-earlier before.disk mid.disk after.disk le rose) last
session_ends_earlier turns before mid after text session le (lost_history none) = lost_history none

pub replay_ends_earlier : (turns : ℕ) (before mid after : Counts) (session : Session) → before.disk ≤ mid.disk
    → {status : ℕ} {whole part : List ℕ}
    → ReplayEnds turns mid after session status whole part → ReplayEnds turns before after session status whole part
replay_ends_earlier turns before mid after session le (played.ends it) = played.ends (session_ends_earlier turns before mid after _ session le it)
replay_ends_earlier turns before mid after session le (played.lost_reply losing) = played.lost_reply losing

pub serve_ends_earlier : (turns : ℕ) (before mid after : Counts) (session : Session) → before.disk ≤ mid.disk → before.wire ≤ mid.wire
    → {status : ℕ} {whole part : List ℕ}
    → ServeEnds turns mid after session status whole part → ServeEnds turns before after session status whole part
serve_ends_earlier turns before mid after session le more (served.ends it) = served.ends (session_ends_earlier turns before mid after _ session le it)
serve_ends_earlier turns before mid after session le more (served.wire_failed few on rose last) =
    served.wire_failed few on (Rose-earlier before.wire mid.wire after.wire more rose) last

-- a file was lost or too long, and the disk and the wire failed, where the status says so
pub record AreDue (around : Around) (Long : Type 0) (status : ℕ) : Type 0 where
  pub file : status ≡ 4 → FilesFailed around ⊎ Long
  pub disk : status ≡ 5 → DiskFailed around
  pub wire : status ≡ 6 → WireFailed around

module _ (around : Around) (Long : Type 0) where
  of_none : (status : ℕ) → (status == 4) ≡ false → (status == 5) ≡ false → (status == 6) ≡ false → AreDue around Long status
  of_none status no_file no_disk no_wire = record {
    file = λ is. absurd (true≢false (sym (ap (λ n. n == 4) is) ∙ no_file));
    disk = λ is. absurd (true≢false (sym (ap (λ n. n == 5) is) ∙ no_disk));
    wire = λ is. absurd (true≢false (sym (ap (λ n. n == 6) is) ∙ no_wire));
  }

  of_ten : AreDue around Long 10
  of_ten = of_none 10 refl refl refl

  -- a last line, or one whose put failed
  of_last : {end status : ℕ} {before line whole part : List ℕ} → AreDue around Long end
      → LastLine end before line status whole part → AreDue around Long status
  of_last due put = due
  of_last due lost = of_ten

  of_traced : {x : Form} {limit status : ℕ} {actions : Word} {whole part : List ℕ}
      → Traces x limit actions status whole part → AreDue around Long status
  of_traced (answered answers verdict last) = of_last (of_none 0 refl refl refl) last
  of_traced (short rest front answers last) = of_last (of_none 9 refl refl refl) last
  of_traced (lost_answer rest front answers one) = of_ten

  of_fed : {x : Form} {limit end status : ℕ} {lines : List (List ℕ)} {text last whole part : List ℕ}
      → FollowsTo x limit lines end text last → LastLine end text last status whole part → AreDue around Long status
  of_fed (fed.answered follows verdict) last = of_last (of_none 0 refl refl refl) last
  of_fed (fed.refused rest fault code number split follows feeds has) last = of_last (of_none 11 refl refl refl) last
  of_fed (fed.short rest split follows feeds) last = of_last (of_none 9 refl refl refl) last

  of_followed : {x : Form} {limit status : ℕ} {lines : List (List ℕ)} {whole part : List ℕ}
      → FollowEnds x limit lines status whole part → AreDue around Long status
  of_followed (fed.ends to last) = of_fed to last
  of_followed (fed.lost_answer rest answer split follows feeds) = of_ten

  of_told : {files : Option Listing} {x : Meaning} {job : Job} {end : ℕ} {text : List ℕ}
      → IsAnswered files x job end text → AreDue around Long end
  of_told (desk.not_allowed code fault named reads stops coded) = of_none 11 refl refl refl
  of_told (desk.reasons a reads allowed valid same) = of_none 0 refl refl refl
  of_told (desk.many given reads allowed are more) = of_none 3 refl refl refl
  of_told (desk.menu given offered reads allowed are is verdict) = of_none 0 refl refl refl
  of_told (desk.many_moves given reads more) = of_none 3 refl refl refl
  of_told (desk.searched given answer reads is) = of_none 0 refl refl refl

  of_worked : {count seed limit status : ℕ} {whole part : List ℕ}
      → Works count seed limit status whole part → AreDue around Long status
  of_worked (above stands large last) = of_last (of_none 3 refl refl refl) last
  of_worked (asked stands small asks last) = of_last (of_none 0 refl refl refl) last

  of_disk : DiskFailed around → AreDue around Long 5
  of_disk rose = record {
    file = λ is. absurd (omega (arith, is));
    disk = λ is. rose;
    wire = λ is. absurd (omega (arith, is));
  }

  of_wire : WireFailed around → AreDue around Long 6
  of_wire rose = record {
    file = λ is. absurd (omega (arith, is));
    disk = λ is. absurd (omega (arith, is));
    wire = λ is. rose;
  }

  of_file : FilesFailed around → AreDue around Long 4
  of_file rose = record {
    file = λ is. inl rose;
    disk = λ is. absurd (omega (arith, is));
    wire = λ is. absurd (omega (arith, is));
  }

  of_long : Long → AreDue around Long 4
  of_long long = record {
    file = λ is. inr long;
    disk = λ is. absurd (omega (arith, is));
    wire = λ is. absurd (omega (arith, is));
  }

  of_session : {turns status : ℕ} {session : Session} {text whole part : List ℕ}
      → SessionEnds turns around.before.counts around.after.counts text session status whole part → AreDue around Long status
  of_session (over is) = of_none 0 refl refl refl
  of_session (out_of_turns all more last) = of_last (of_none 7 refl refl refl) last
  of_session (disk_failed fails rose last) = of_last (of_disk rose) last
  of_session (lost_history none) = of_ten

  of_unread : {job : Job} {end : ℕ} {text : List ℕ} → Unread around job end text → AreDue around Long end
  of_unread (desk.bad_actions named bad) = of_none 3 refl refl refl
  of_unread (desk.lost_actions named rose) = of_file rose
  of_unread (desk.bad_values named bad) = of_none 3 refl refl refl
  of_unread (desk.lost_values named rose) = of_file rose

  of_job : {job : Job} {status : ℕ} {whole part : List ℕ} {session : Option Session}
      → ((expression journal new : List ℕ) (limit : ℕ) → job ≡ renew expression journal new limit
      → HasLongJournal around.files journal → Long)
      → JobEnds around job status whole part session → AreDue around Long status
  of_job long (how.no_memory last) = of_last (of_none 9 refl refl refl) last
  of_job long (how.bad_text is bad rests last) = of_last (of_none 3 refl refl refl) last
  of_job long (how.lost_expression is rose rests last) = of_last (of_file rose) last
  of_job long (how.large is rest larger last) = of_last (of_none 3 refl refl refl) last
  of_job long (how.lost_disk keeps reads rose last) = of_last (of_disk rose) last
  of_job long (how.refused_journal why keeps starts refuses last) = of_last (of_none 8 refl refl refl) last
  of_job long (how.bad_actions starts bad rests last) = of_last (of_none 3 refl refl refl) last
  of_job long (how.lost_actions starts rose rests last) = of_last (of_file rose) last
  of_job long (how.traced starts reads traces) = of_traced traces
  of_job long (how.bad_script reads bad rests last) = of_last (of_none 3 refl refl refl) last
  of_job long (how.lost_script reads rose rests last) = of_last (of_file rose) last
  of_job long (how.replayed starts reads from plays (played.ends it)) = of_session it
  of_job long (how.replayed starts reads from plays (played.lost_reply losing)) = of_ten
  of_job long (how.no_wire starts rose last) = of_last (of_wire rose) last
  of_job long (how.served starts from takes (served.ends it)) = of_session it
  of_job long (how.served starts from takes (served.wire_failed few on rose last)) = of_last (of_wire rose) last
  of_job long (how.worked works) = of_worked works
  of_job long (how.simplified s reads becomes last) = of_last (of_none 0 refl refl refl) last
  of_job long (how.bounded answer reads is last) = of_last (of_none 0 refl refl refl) last
  of_job long (how.long_lines starts longer rests last) = of_last (of_none 3 refl refl refl) last
  of_job long (how.lost_lines starts rose rests last) = of_last (of_file rose) last
  of_job long (how.followed starts reads follows) = of_followed follows
  of_job long (how.linted reads last) = of_last (of_none 0 refl refl refl) last
  of_job long (how.unread named reads within unread last) = of_last (of_unread unread) last
  of_job long (how.told named reads within answer last) = of_last (of_told answer) last
  of_job long (how.lost_journal reads (inl rose) rests last) = of_last (of_file rose) last
  of_job long (how.lost_journal {expression = expression} {journal = journal} {new = new} {limit = limit} reads (inr longer) rests last) =
      of_last (of_long (long expression journal new limit refl longer)) last
  of_job long (how.unrenewed why starts reads refuses rests last) = of_last (of_none 8 refl refl refl) last
  of_job long (how.there starts reads has last) = of_last (of_none 8 refl refl refl) last
  of_job long (how.lost_new starts reads rose last) = of_last (of_disk rose) last
  of_job long (how.renewed carried starts reads is made last) = of_last (of_none 0 refl refl refl) last

-- what a job may touch, by what it has
touches_calls : (job : Job) (before after : SiteState) → Touches job before after → OnlyCalls before after
touches_calls (trace expression actions limit) before after same = subst (OnlyCalls before) (sym same) (calls_still before)
touches_calls (replay expression journal script limit turns) before after only = calls_of_disk before after only
touches_calls (serve expression journal socket limit turns) before after only = only
touches_calls (work count seed limit) before after same = subst (OnlyCalls before) (sym same) (calls_still before)
touches_calls (simplify expression) before after same = subst (OnlyCalls before) (sym same) (calls_still before)
touches_calls (bound expression count) before after same = subst (OnlyCalls before) (sym same) (calls_still before)
touches_calls (follow expression lines limit) before after same = subst (OnlyCalls before) (sym same) (calls_still before)
touches_calls (lint expression) before after same = subst (OnlyCalls before) (sym same) (calls_still before)
touches_calls (job.why expression actions action limit) before after same = subst (OnlyCalls before) (sym same) (calls_still before)
touches_calls (job.next expression actions values limit) before after same = subst (OnlyCalls before) (sym same) (calls_still before)
touches_calls (job.stuck expression values limit states) before after same = subst (OnlyCalls before) (sym same) (calls_still before)
touches_calls (renew expression journal new limit) before after only = calls_of_disk before after only

touches_disk : (job : Job) (before after : SiteState) → socket_of job ≡ None → Touches job before after → OnlyDisk before after
touches_disk (trace expression actions limit) before after none same = subst (OnlyDisk before) (sym same) (disk_calls_still before)
touches_disk (replay expression journal script limit turns) before after none only = only
touches_disk (serve expression journal socket limit turns) before after none only = cc
touches_disk (work count seed limit) before after none same = subst (OnlyDisk before) (sym same) (disk_calls_still before)
touches_disk (simplify expression) before after none same = subst (OnlyDisk before) (sym same) (disk_calls_still before)
touches_disk (bound expression count) before after none same = subst (OnlyDisk before) (sym same) (disk_calls_still before)
touches_disk (follow expression lines limit) before after none same = subst (OnlyDisk before) (sym same) (disk_calls_still before)
touches_disk (lint expression) before after none same = subst (OnlyDisk before) (sym same) (disk_calls_still before)
touches_disk (job.why expression actions action limit) before after none same = subst (OnlyDisk before) (sym same) (disk_calls_still before)
touches_disk (job.next expression actions values limit) before after none same = subst (OnlyDisk before) (sym same) (disk_calls_still before)
touches_disk (job.stuck expression values limit states) before after none same = subst (OnlyDisk before) (sym same) (disk_calls_still before)
touches_disk (renew expression journal new limit) before after none only = only

touches_nothing : (job : Job) (before after : SiteState) → (journal_of job ≡ None) × (new_file_of job ≡ None) → Touches job before after → after ≡ before
touches_nothing (trace expression actions limit) before after none same = same
touches_nothing (replay expression journal script limit turns) before after none only = let is = none.0 in cc
touches_nothing (serve expression journal socket limit turns) before after none only = let is = none.0 in cc
touches_nothing (work count seed limit) before after none same = same
touches_nothing (simplify expression) before after none same = same
touches_nothing (bound expression count) before after none same = same
touches_nothing (follow expression lines limit) before after none same = same
touches_nothing (lint expression) before after none same = same
touches_nothing (job.why expression actions action limit) before after none same = same
touches_nothing (job.next expression actions values limit) before after none same = same
touches_nothing (job.stuck expression values limit states) before after none same = same
touches_nothing (renew expression journal new limit) before after none only = let is = none.1 in cc

-- the same of a run
module _ (words : List (List ℕ)) (around : Around) (is : Crashes) where
  pub causes : {status : ℕ} {whole part : List ℕ} {session : Option Session}
      → EndsOver words around is status whole part session
      → AreDue around (NamesLongJournal words around.files) status
  causes (how.other_words none rests last) = of_last around _ (of_none around _ 2 refl refl refl) last
  causes (how.no_memory rests last) = of_last around _ (of_none around _ 9 refl refl refl) last
  causes (how.unfit job names unfit rests last) = of_last around _ (of_none around _ 2 refl refl refl) last
  causes (how.named names fit it) =
      of_job around (NamesLongJournal words around.files)
      (λ expression journal new limit same longer.
      (expression, journal, new, limit, subst (Names words) same names, longer))
      it.ends

  pub calls : {status : ℕ} {whole part : List ℕ} {session : Option Session}
      → EndsOver words around is status whole part session → OnlyCalls around.before around.after
  calls (how.other_words none rests _) = subst (OnlyCalls around.before) (sym rests) (calls_still around.before)
  calls (how.no_memory rests _) = subst (OnlyCalls around.before) (sym rests) (calls_still around.before)
  calls (how.unfit job names unfit rests _) = subst (OnlyCalls around.before) (sym rests) (calls_still around.before)
  calls (how.named {job = job} names fit it) = touches_calls job around.before around.after it.touches

  pub no_socket : {status : ℕ} {whole part : List ℕ} {session : Option Session} → NamesNoSocket words
      → EndsOver words around is status whole part session → OnlyDisk around.before around.after
  no_socket none (how.other_words others rests _) = subst (OnlyDisk around.before) (sym rests) (disk_calls_still around.before)
  no_socket none (how.no_memory rests _) = subst (OnlyDisk around.before) (sym rests) (disk_calls_still around.before)
  no_socket none (how.unfit job names unfit rests _) = subst (OnlyDisk around.before) (sym rests) (disk_calls_still around.before)
  no_socket none (how.named {job = job} names fit it) = touches_disk job around.before around.after (none job names) it.touches

  pub no_journal : {status : ℕ} {whole part : List ℕ} {session : Option Session} → NamesNoJournal words
      → EndsOver words around is status whole part session → around.after ≡ around.before
  no_journal none (how.other_words others rests _) = rests
  no_journal none (how.no_memory rests _) = rests
  no_journal none (how.unfit job names unfit rests _) = rests
  no_journal none (how.named {job = job} names fit it) = touches_nothing job around.before around.after (none job names) it.touches
