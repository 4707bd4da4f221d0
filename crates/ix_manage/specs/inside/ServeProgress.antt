-- A serve as far as it went.
use Rattle.std.specs.Prelude.{◌≡◌, ◌⊎◌, ℕ, ◌+◌, ◌*◌, ◌≤◌, Bool, false, true, List, [], ◌∷◌, ◌++◌}
use Rattle.std.specs.Prelude.{length, get_or, Option, None, Some, IsSome, Result, Ok, Err, codes}
use Rattle.ix_words.specs.Each.{Each}
use Rattle.ix_journal.specs.History.{PlainHistory}
use Rattle.ix_outside.specs.Contents.{Contents, GivenEvent, Sends, with_event}
use Rattle.ix_outside.specs.Counts.{Counts, Rose}
use Rattle.ix_outside.specs.Crashes.{Stretch}
use Rattle.ix_outside.specs.SiteState.{SiteState}
use Rattle.ix_outside.specs.inside.DiskCalls.{KeepsOpened}
use Rattle.ix_outside.specs.declared.event.Event.{Event}
use Rattle.ix_proto.specs.declared.reply.Reply.{Reply}
use Rattle.ix_store.specs.Keeping.{Keeping}
use Rattle.ix_manager.specs.Handled.{ManagerState, FitsEvent, Handles}
use Rattle.ix_manager.specs.Machine.{MachineState, start_of}
use Rattle.ix_manager.specs.RunLaws.{FollowsRun, given_event}
use Rattle.ix_manager.specs.Runs.{Ending, Opening, going}
use Rattle.ix_manager.specs.Images.{with_failed}
use Rattle.ix_manager.specs.Wire.{unmarked}
use Rattle.ix_manager.specs.inside.Serving.{ServesSince}
use Rattle.ix_manager.specs.inside.Saving.{SavesRun}
use Rattle.ix_manage.specs.ActionLines.{line}
use Rattle.ix_manage.specs.Puts.{LastLine}
use Rattle.ix_manage.specs.Serve.{ServeEnds}
use Rattle.ix_outside.specs.Contents.{with_heard}
use Rattle.ix_manage.specs.Session.{IsNoEnd, IsOver, Session, Takes, history_line}
use Rattle.ix_manage.specs.Site.{OnlyCalls}
use Rattle.ix_manage.specs.declared.early_end.EarlyEnd.{EarlyEnd}
use Rattle.ix_manage.specs.declared.early_end.EarlyEnd.TheVariants.{Refused, Words, OtherExpression}
use Rattle.ix_manage.specs.declared.early_end.EarlyEnd.TheVariants.{Output}
use Rattle.ix_manage.specs.declared.event_outcome.EventOutcome.{EventOutcome}
use Rattle.ix_manage.specs.declared.event_outcome.EventOutcome.TheVariants.{Cut}
use Rattle.ix_manage.specs.inside.Refusal.{refusal_line, refusal_status}
use Rattle.ix_manage.specs.inside.Progress.{IsEventOutcome, SavesFrom, opening_at}

-- nothing was attached since; what was stays so, but that the disk may be told no more
pub record OnlyServed (old new : SiteState) : Type 0 where
  pub calls : OnlyCalls old new
  pub attached : new.attached ≡ old.attached
  pub opened : KeepsOpened old.disk new.disk ⊎ (new.disk ≡ None)

-- These events were given since, and the replies to them are what was sent since; and what was
-- acknowledged since a tick in front of all of it is kept.
pub record SentFor (opening : Opening) (history : PlainHistory) (taken : List GivenEvent)
    (answers : List (List (List Reply))) (marks : List Bool) (stretch : Stretch) : Type 0 where
  pub given : (new : List GivenEvent) → stretch.after.contents.given ≡ Some new
      → (old : List GivenEvent) × (stretch.before.contents.given ≡ Some old) × (new ≡ old ++ taken)
  pub told : IsSome stretch.after.contents.sends → IsSome stretch.before.contents.sends
  pub since : (t : ℕ) (start : Sends)
      → ServesSince t opening.form
      (length opening.history) opening.history opening.renewed start [] [] unmarked
      stretch.before stretch.was
      → ServesSince t opening.form
      (length opening.history) history opening.renewed start taken answers marks
      stretch.after stretch.is
  pub whole : ¬ Rose stretch.before.counts.send stretch.after.counts.send → (marks ≡ unmarked)
      × ((old new : Sends) → stretch.before.contents.sends ≡ Some old
      → stretch.after.contents.sends ≡ Some new → new.gone ≡ old.gone)

-- a manager that took these events of a site, none of them the end, and sent its replies; it may go
-- on
pub record HasServed (opening : Opening) (taken : List GivenEvent) (m : ManagerState)
    (stretch : Stretch) : Type 0 where
  pub answers : List (List (List Reply))
  pub follows : FollowsRun opening taken answers m
  pub tickets : m.machine.number ≤ 1 + 4096 * length taken
  pub no_end : Each IsNoEnd taken
  pub sent : SentFor opening m.machine.history taken answers m.marks stretch
  pub saves : SavesFrom opening going m.machine m.store stretch

-- the manager took an event of the site, its replies were sent, and the journal kept its history
pub record TakesOver (old new : ManagerState) (stretch : Stretch) (outcome : EventOutcome) : Type
    0 where
  pub event : Event
  pub piece : List ℕ
  pub ending : Ending
  pub fits : FitsEvent event piece
  pub told : Contents
  pub told_is : told ≡ with_event event piece stretch.before.contents
  pub handled : Handles old event piece ending new told stretch.after.contents
  pub marked : (conn : ℕ)
      → get_or old.marks conn false ≡ false → get_or new.marks conn false ≡ true
      → Rose stretch.before.counts.send stretch.after.counts.send
  pub tickets : new.machine.number ≤ old.machine.number + length piece
  pub outcome_is : IsEventOutcome false ending event.kind outcome
  pub saves : SavesRun ending old new stretch
  pub since : (t : ℕ) (least : ℕ) (start : Sends) (taken : List GivenEvent)
      (answers : List (List (List Reply)))
      → ServesSince t old.form least old.machine.history old.machine.renewed start taken answers
      old.marks
      stretch.before stretch.was
      → ServesSince t old.form least
      (with_failed ending new.machine.history) old.machine.renewed start
      (taken ++ given_event event piece ∷ []) (answers ++ handled.answers ∷ []) new.marks
      stretch.after stretch.is

-- an event was taken, or none came since the wire failed
pub data ServesEvent (old new : ManagerState) (stretch : Stretch) : EventOutcome → Type 0 where
  unheard : new ≡ old → stretch.after.contents ≡ stretch.before.contents
      → Rose stretch.before.counts.wire stretch.after.counts.wire
      → SavesRun going old new stretch
      → ((t : ℕ) (least : ℕ) (start : Sends) (taken : List GivenEvent)
      (answers : List (List (List Reply)))
      → ServesSince t old.form least old.machine.history old.machine.renewed start taken answers
      old.marks
      stretch.before stretch.was
      → ServesSince t old.form least old.machine.history old.machine.renewed start taken answers
      old.marks
      stretch.after stretch.is)
      → ServesEvent old new stretch Cut
  took : {outcome : EventOutcome} → TakesOver old new stretch outcome
      → ServesEvent old new stretch outcome

-- a session from the opening that ended in this state, and whose history the journal keeps
pub record ServedSession (opening : Opening) (turns : ℕ) (last : MachineState) (stretch : Stretch)
    (session : Session) : Type 0 where
  pub opening_is : session.opening ≡ opening
  pub last_is : session.last ≡ last
  pub takes : Takes turns session
  pub store : Keeping
  pub saves : SavesFrom opening session.ending last store stretch

-- how a session ends by the answer of the loop that took its events
abbrev pub EndsTo : {T : Type 0} → ℕ → Counts → Counts → Session → Result T EarlyEnd → Type 0
EndsTo turns before after session (Ok done) = IsOver session
EndsTo turns before after session (Err (Refused refusal)) = (status : ℕ) (whole part : List ℕ)
    → LastLine (refusal_status refusal) (history_line session.opening)
    (refusal_line refusal) status whole part
    → ServeEnds turns before after session status whole part
EndsTo turns before after session (Err (Words text)) = ⊥
EndsTo turns before after session (Err (OtherExpression kept)) = ⊥
EndsTo turns before after session (Err Output) = ⊥

-- events were taken from the start on, until the session ended so
pub record ServesTo {T : Type 0} (turns : ℕ) (old new : ManagerState) (stretch : Stretch)
    (result : Result T EarlyEnd) : Type 0 where
  pub session : Session
  pub served : ServedSession (opening_at old) turns new.machine stretch session
  pub marks : List Bool
  pub sent : SentFor (opening_at old) (with_failed session.ending new.machine.history)
      session.taken session.answers marks stretch
  pub ends : EndsTo turns stretch.before.counts stretch.after.counts session result

-- a session's events were given since, its replies are what was sent since, behind listening to the
-- socket, and what was acknowledged since a tick in front of all of it is kept
pub record ServesFrom (socket : List ℕ) (session : Session) (stretch : Stretch) : Type 0 where
  pub given : (old new : List GivenEvent) → stretch.before.contents.given ≡ Some old
      → stretch.after.contents.given ≡ Some new → new ≡ old ++ session.taken
  pub marks : List Bool
  pub since : (t : ℕ) (start : Sends) → stretch.before.contents.sends ≡ Some start
      → ServesSince t session.opening.form (length session.opening.history) session.opening.history
      session.opening.renewed start [] [] unmarked stretch.before stretch.was
      → ServesSince t session.opening.form (length session.opening.history)
      (with_failed session.ending session.last.history) session.opening.renewed
      (with_heard socket start)
      session.taken session.answers marks stretch.after stretch.is
  pub whole : ¬ Rose stretch.before.counts.send stretch.after.counts.send → (old new : Sends)
      → stretch.before.contents.sends ≡ Some old → stretch.after.contents.sends ≡ Some new
      → new.gone ≡ old.gone

-- the socket couldn't be listened to; or a session came to be
pub data ServesOn (opening : Opening) (turns : ℕ) (socket : List ℕ) (last : MachineState)
    (stretch : Stretch) : ℕ → List ℕ → List ℕ → Option Session → Type 0 where
  unheard : {status : ℕ} {whole part : List ℕ} (store : Keeping)
      → stretch.after.contents ≡ stretch.before.contents
      → SavesFrom opening going
      (start_of opening.history opening.renewed opening.boot) store stretch
      → Rose stretch.before.counts.wire stretch.after.counts.wire
      → LastLine 6 [] (line (codes "refused wire")) status whole part
      → ServesOn opening turns socket last stretch status whole part None
  served : {session : Session} {status : ℕ} {whole part : List ℕ}
      → ServedSession opening turns last stretch session
      → ServesFrom socket session stretch
      → ServeEnds turns stretch.before.counts stretch.after.counts session status whole part
      → ServesOn opening turns socket last stretch status whole part (Some session)
