-- How a serve ends, by what its loop says.
use Rattle.std.proofs.Common.{◌≡◌, ◌⊎◌, inl, inr, ℕ, ◌≤◌, List, [], ◌∷◌, ◌++◌, length, append-nil, arith, Bool, Option, None, Some, IsSome}
use Rattle.std.proofs.Common.{Result, Ok, Err, refl, sym, ◌∙◌, ap, subst}
use Rattle.std.specs.Io.KnownBytes.{append_known}
use Rattle.std.specs.Option.{option_map}
use Rattle.std.proofs.lemmas.List.{length_push}
use Rattle.std.proofs.lemmas.Option.{none-some}
use Rattle.ix_journal.specs.declared.entries.Renewed.{Renewed}
use Rattle.ix_journal.specs.History.{PlainHistory}
use Rattle.ix_journal.specs.Recovery.{HoldsBoots}
use Rattle.ix_expr.specs.Form.{Form}
use Rattle.ix_outside.specs.Contents.{Contents, GivenEvent, Sends, SentBytes, with_name}
use Rattle.ix_outside.specs.Counts.{Rose}
use Rattle.ix_outside.specs.Crashes.{Crashes, AreLawful, IsSentByThen, LeavesTheSame, Left, OneCall, Stretch}
use Rattle.ix_outside.specs.Disk.{Disk, Opened}
use Rattle.ix_outside.specs.Files.{Listing}
use Rattle.ix_outside.specs.Sink.{AppendsPart}
use Rattle.ix_outside.specs.SinkState.{SinkState}
use Rattle.ix_outside.specs.SiteState.{SiteState, OnlyWire}
use Rattle.ix_outside.specs.inside.DiskCalls.{KeepsOpened, span}
use Rattle.ix_outside.proofs.Counting.{Rose-earlier}
use Rattle.ix_outside.proofs.Passing.{KeepsOpened-join, sent-nothing}
use Rattle.ix_proto.specs.declared.reply.Reply.{Reply}
use Rattle.ix_store.specs.Keeping.{Keeping}
use Rattle.ix_manager.specs.Acknowledged.{KeepsAcknowledged}
use Rattle.ix_manager.specs.Handled.{ManagerState}
use Rattle.ix_manager.specs.Images.{with_failed}
use Rattle.ix_manager.specs.Machine.{MachineState, start_of}
use Rattle.ix_manager.specs.Runs.{Opening, Run, begin as run_begins, going, opening_of}
use Rattle.ix_manager.specs.Wire.{SentReplies, Wire, begin, takes, unmarked}
use Rattle.ix_manager.specs.inside.Saving.{OnlySends, Saves}
use Rattle.ix_manager.specs.inside.Serving.{ServesSince}
use Rattle.ix_manager.proofs.AcknowledgedLemmas.{none_sent}
use Rattle.ix_manage.proofs.Replaying.{saves_begun}
use Rattle.ix_manager.proofs.SavingLemmas.{saves_join}
use Rattle.ix_manage.specs.Around.{around_of}
use Rattle.ix_manage.specs.Ends.{Ended, JobOver, no_wire, served as job_served}
use Rattle.ix_manage.specs.Journal.{session_of}
use Rattle.ix_manage.specs.Serve.{ServesWire, ends}
use Rattle.ix_outside.specs.Contents.{with_heard}
use Rattle.ix_manage.specs.Site.{OnlyCalls}
use Rattle.ix_manage.specs.Session.{Session, history_line, lost_history, over}
use Rattle.ix_manage.specs.Trace.{ReadsForm}
use Rattle.ix_manage.specs.declared.job.ServeWords.{ServeWords}
use Rattle.ix_manage.specs.declared.early_end.EarlyEnd.{EarlyEnd}
use Rattle.ix_manage.specs.declared.early_end.EarlyEnd.TheVariants.{OtherExpression, Output, Refused, Words}
use Rattle.ix_manage.specs.inside.Jobs.{serve_of}
use Rattle.ix_manage.specs.inside.Leaves.{LeavesOutput}
use Rattle.ix_manage.specs.inside.Opening.{EndsUnstarted, IsJobOf, StartsOver}
use Rattle.ix_manage.specs.inside.Playing.{ServesOver}
use Rattle.ix_manage.specs.inside.ServeProgress.{OnlyServed, SentFor, ServedSession, ServesFrom, ServesOn, ServesTo, served, unheard}
use Rattle.ix_manage.specs.inside.Progress.{IsStarted, SavesFrom}
use Rattle.ix_manage.specs.inside.Progress as stood
use Rattle.ix_manage.proofs.Causes.{serve_ends_earlier}
use Rattle.ix_manage.proofs.Devices.{calls_of_disk, calls_then}
use Rattle.ix_manage.proofs.Opening.{some_is}
use Rattle.ix_renew.proofs.Making.{kept_opened, opened_at}
use Rattle.ix_manage.proofs.Playing.{along_saves, opening_fresh, opening_from, session_on_journal}
use Rattle.ix_manage.proofs.ServeLemmas.{wire_only}
use Rattle.ix_manage.proofs.Stops.{ended_cut, ended_whole}
use Rattle.ix_manage.proofs.Tracing.{append_nothing}

-- sends that are told with one more name heard were told before
heard_before : (name : List ℕ) (known : Option Sends) (new : Sends) (old : Sends)
    → option_map (λ (sends : Sends). record sends { heard = sends.heard ++ name ∷ [] }) known ≡ Some new
    → known ≡ Some old → new ≡ with_heard name old
heard_before name None new old told before = cc
heard_before name (Some sends) new old told before =
    sym (some_is told) ∙ ap (with_heard name) (some_is before)

heard_told : (name : List ℕ) (known : Option Sends)
    → IsSome (option_map (λ (sends : Sends). record sends { heard = sends.heard ++ name ∷ [] }) known) → IsSome known
heard_told name None some = some
heard_told name (Some sends) some = refl

-- a wire without events carries no reply
no_replies : {before : Sends} {events : List GivenEvent} {answers : List (List (List Reply))} {marks : List Bool} {sent : SentReplies}
    → Wire before events answers marks sent → events ≡ [] → sent.replies ≡ []
no_replies begin none = refl
no_replies (takes {events = events} given last marked wire sends) none =
    let long = ap length none in let more = length_push events given in absurd (omega (arith, long, more))

-- no send carries a reply where there is none
carries_none : (sent : List SentBytes) (replies : List Reply) → length sent ≤ length replies → replies ≡ [] → sent ≡ []
carries_none [] replies few none = refl
carries_none (pair ∷ sent) replies few none = absurd (let count = ap length none in omega (arith, few, count))

-- a site that was listened to
module _ (socket : List ℕ) (a b : SiteState) (p q : Crashes) (heard : b.contents ≡ with_name socket a.contents)
    (lawful : AreLawful a p) (lawful' : AreLawful b q)
    (only : OnlyWire a b) (same : LeavesTheSame p.now q.now) (call : OneCall (span a b p q))
  where
    abbrev known : Option Sends
    known = option_map (λ (sends : Sends). record sends { heard = sends.heard ++ socket ∷ [] }) a.contents.sends

    sends_heard : b.contents.sends ≡ known
    sends_heard = ap (λ (k : Contents). k.sends) heard

    -- a `listen` sends nothing
    pub listen_only : OnlySends (span a b p q)
    listen_only = wire_only a b p q only same call
        (λ some. heard_told socket a.contents.sends (subst (λ (o : Option Sends). IsSome o) sends_heard some))
        (λ s s' told told'. ap (λ (sends : Sends). sends.sent) (heard_before socket a.contents.sends s' s (sym sends_heard ∙ told') told))

    module _ (x : Form) (last : MachineState) (store : Keeping) (saves : Saves going x last last store (span a b p q)) where
      abbrev h : PlainHistory
      h = last.history

      -- what was kept since a tick before it still is
      pub listen_since : (t : ℕ) (start : Sends) → a.contents.sends ≡ Some start
          → ServesSince t x (length h) h last.renewed start [] [] unmarked a p
          → ServesSince t x (length h) h last.renewed (with_heard socket start) [] [] unmarked b q
      listen_since t start told serves = record {
        began = let le = serves.began in let later = call.passes.left.later in omega arith;
        long = serves.long;
        wired = λ sends told'.
            let sends_are : sends ≡ with_heard socket start = heard_before socket a.contents.sends sends start (sym sends_heard ∙ told') told in
            let was = serves.wired start told in
            let none : was.0 ≡ [] = no_replies was.1 refl in (
              [],
              subst (λ s. Wire (with_heard socket start) [] [] unmarked (record { sends = s; replies = [] })) (sym sends_are) begin,
              λ disk left since. elim (call.passes.left_since.nothing_else t left serves.began since) [
                | inl earlier ↦
                    subst (λ replies. KeepsAcknowledged x (length h) h last.renewed replies start.sent left) none
                    (was.2 (subst (λ d. IsSome d) only.file disk) left earlier)
                | inr since_call ↦ record {
                  keeps = saves.keeps disk left.image (lawful'.since_left a.tick left since_call);
                  sent = [];
                  behind =
                      sent-nothing start.sent left.sent
                      (subst (λ (s : Sends). IsSentByThen start.sent s.sent left.sent) sends_are
                      (call.sent start sends told told' left since_call))
                      ∙ sym (append-nil start.sent);
                  carried = omega arith;
                  acknowledged = λ n acked. absurd (none_sent acked);
                }
              ],
            );
      }

-- a session of a site that was listened to before its events came
module _ (socket : List ℕ) (a b c : SiteState) (p q r : Crashes) (heard : b.contents ≡ with_name socket a.contents)
    (sends : b.counts.send ≡ a.counts.send) (opening : Opening)
    (listened : (t : ℕ) (start : Sends) → a.contents.sends ≡ Some start
    → ServesSince t opening.form (length opening.history) opening.history opening.renewed start [] [] unmarked a p
    → ServesSince t opening.form (length opening.history) opening.history opening.renewed (with_heard socket start) [] [] unmarked b q)
    (session : Session) (opening_is : session.opening ≡ opening) (last : MachineState) (last_is : session.last ≡ last)
    (marks : List Bool)
    (sent : SentFor opening (with_failed session.ending last.history) session.taken session.answers marks
    (record { before = b; after = c; was = q; is = r }))
  where
    given_heard : b.contents.given ≡ a.contents.given
    given_heard = ap (λ (k : Contents). k.given) heard

    abbrev Since : ℕ → Sends → Opening → MachineState → Type 0
    Since t start from state =
        ServesSince t from.form (length from.history) (with_failed session.ending state.history) from.renewed (with_heard socket start)
        session.taken session.answers marks c r

    pub serves_from : ServesFrom socket session (record { before = a; after = c; was = p; is = r })
    serves_from = record {
      given = λ old new told told'.
          let it = sent.given new told' in
          it.2 ∙ ap (λ (events : List GivenEvent). events ++ session.taken)
          (some_is (sym it.1 ∙ given_heard ∙ told));
      marks = marks;
      since = λ t start told serves.
          subst (λ (o : Opening). Since t start o session.last) (sym opening_is)
          (subst (λ (s : MachineState). Since t start opening s) (sym last_is)
          (sent.since t (with_heard socket start)
          (listened t start told
          (subst (λ (o : Opening). ServesSince t o.form (length o.history) o.history o.renewed start [] [] unmarked a p) opening_is serves))));
      whole = λ none old new told told'.
          let it = sent.whole (λ rose. none (subst (λ n. Rose n c.counts.send) sends rose)) in
          it.1 (with_heard socket old) new
          (ap (λ (k : Contents). k.sends) heard ∙ ap (option_map (λ (sends : Sends). record sends { heard = sends.heard ++ socket ∷ [] })) told) told';
    }

-- a manager that was just started listened, put the line of the history, and took events
module _ (turns : ℕ) (socket : List ℕ) (old new : ManagerState) (a b c : SiteState) (p q r : Crashes)
    (lawful : AreLawful c r)
    (fresh : IsStarted old) (listened : Saves going old.form old.machine old.machine old.store (span a b p q))
    (heard : b.contents ≡ with_name socket a.contents) (sends : b.counts.send ≡ a.counts.send)
    (since : (t : ℕ) (start : Sends) → a.contents.sends ≡ Some start
    → ServesSince t old.form (length old.machine.history) old.machine.history old.machine.renewed start [] [] unmarked a p
    → ServesSince t old.form (length old.machine.history) old.machine.history old.machine.renewed (with_heard socket start) [] [] unmarked b q)
    (start between : SinkState)
    (put : between.written ≡ append_known start.written (history_line (stood.opening_at old)))
    (disk : a.counts.disk ≤ b.counts.disk) (wire : a.counts.wire ≤ b.counts.wire)
  where
    abbrev over_all : Stretch
    over_all = record { before = a; after = c; was = p; is = r }

    abbrev May : ℕ → List ℕ → List ℕ → Option Session → Type 0
    May = ServesOn (stood.opening_at old) turns socket new.machine over_all

    from_listening : (session : Session)
        → ServedSession (stood.opening_at old) turns new.machine (record { before = b; after = c; was = q; is = r }) session
        → ServedSession (stood.opening_at old) turns new.machine over_all session
    from_listening session it = record {
      opening_is = it.opening_is;
      last_is = it.last_is;
      takes = it.takes;
      store = it.store;
      saves = saves_join session.ending old.form (start_of old.machine.history old.machine.renewed old.machine.boot) old.machine new.machine old.store it.store
          a b c p q r lawful (saves_begun old fresh listened)
          (subst (λ s. Saves session.ending old.form s new.machine it.store (span b c q r)) (sym (ap (λ (s : ManagerState). s.machine) fresh)) it.saves);
    }

    abbrev Mid : Stretch
    Mid = record { before = b; after = c; was = q; is = r }

    wire_of : {T : Type 0} (r' : Result T EarlyEnd) (it : ServesTo turns old new Mid r') → ServesFrom socket it.session over_all
    wire_of r' it =
        serves_from socket a b c p q r heard sends (stood.opening_at old) since it.session it.served.opening_is
        new.machine it.served.last_is it.marks it.sent

    line_of : (session : Session) → session.opening ≡ stood.opening_at old
        → between.written ≡ append_known start.written (history_line session.opening)
    line_of session is = put ∙ ap (λ (o : Opening). append_known start.written (history_line o)) (sym is)

    pub leaves_serving : {T : Type 0} (r' : Result T EarlyEnd)
        → ServesTo turns old new (record { before = b; after = c; was = q; is = r }) r'
        → LeavesOutput May start between r'
    leaves_serving (Ok value) it =
        ended_whole start between (history_line it.session.opening) (Some it.session)
        (served (from_listening it.session it.served) (wire_of (Ok value) it) (ends (over it.ends)))
        (line_of it.session it.served.opening_is)
    leaves_serving (Err (Refused refusal)) it = record {
      before = history_line it.session.opening;
      session = Some it.session;
      may = λ status whole part last.
          served (from_listening it.session it.served) (wire_of (Err (Refused refusal)) it)
          (serve_ends_earlier turns a.counts b.counts c.counts it.session disk wire (it.ends status whole part last));
      put = line_of it.session it.served.opening_is;
    }
    leaves_serving (Err (Words text)) it = absurd it.ends
    leaves_serving (Err (OtherExpression kept)) it = absurd it.ends
    leaves_serving (Err Output) it = absurd it.ends

-- the put of the history's line fails, before any event is taken
pub history_lost : (m : ManagerState) → IsStarted m → (turns : ℕ) (socket line : List ℕ) (a b : SiteState) (p q : Crashes)
    → Saves going m.form m.machine m.machine m.store (span a b p q)
    → b.contents ≡ with_name socket a.contents → b.counts.send ≡ a.counts.send
    → ((t : ℕ) (start : Sends) → a.contents.sends ≡ Some start
    → ServesSince t m.form (length m.machine.history) m.machine.history m.machine.renewed start [] [] unmarked a p
    → ServesSince t m.form (length m.machine.history) m.machine.history m.machine.renewed (with_heard socket start) [] [] unmarked b q)
    → (old new : SinkState) → line ≡ history_line (stood.opening_at m) → AppendsPart old.written line new.written
    → Rose old.faults new.faults
    → Ended (ServesOn (stood.opening_at m) turns socket m.machine (record { before = a; after = b; was = p; is = q })) 10 old new
history_lost m fresh turns socket line a b p q saves heard sends since old new same part rose =
    let played : Session = record { opening = stood.opening_at m; taken = []; answers = []; last = m.machine; ending = going } in
    ended_cut old new [] (history_line (stood.opening_at m)) (Some played)
    (served (record {
      opening_is = refl;
      last_is = refl;
      takes = record {
        run = subst (λ s. Run (stood.opening_at m) [] [] s going) (sym (ap (λ (s : ManagerState). s.machine) fresh)) run_begins;
        few = omega arith;
        before_the_end = λ before last is. absurd (let long = ap length is in let push = length_push before last in omega (arith, long, push));
      };
      store = m.store;
      saves = saves_begun m fresh saves;
    })
    (serves_from socket a b b p q q heard sends (stood.opening_at m) since played refl m.machine refl unmarked (record {
      given = λ new told. (new, told, sym (append-nil new));
      told = λ some. some;
      since = λ t start serves. serves;
      whole = λ none. (refl, λ one two told told'. ap (λ (s : Sends). s.gone) (sym (some_is (sym told ∙ told'))));
    }))
    (ends (lost_history refl)))
    (subst (λ known. AppendsPart known (history_line (stood.opening_at m)) new.written) (append_nothing old.written)
    (subst (λ t. AppendsPart old.written t new.written) same part))
    rose

module _ (x : Form) (names : ServeWords) (before : SiteState) where
  -- a serve whose expression is read
  job_served_by : (files : Option Listing) → ReadsForm files names.expression.now x
      → IsJobOf x names.limit names.journal.now files (serve_of names)
  job_served_by files reads = record {
    expression = names.expression.now;
    of_expression = refl;
    reads = reads;
    limit_is = refl;
    has_journal = refl;
    rest = tt;
  }

  -- no run was started
  pub unstarted_serves : (after : SiteState) (is : Crashes)
      → (status : ℕ) (whole part : List ℕ) (session : Option Session)
      → EndsUnstarted x names.limit names.journal.now before after is status whole part session
      → ServesOver x names before after is status whole part session
  unstarted_serves after is status whole part session it = λ files later reads.
      let job = job_served_by files.contents reads in
      subst (JobOver (around_of files later before after) (serve_of names) is status whole part) (sym it.none) (record {
        ends = it.ends files later (serve_of names) job;
        touches = calls_of_disk before after it.only;
        journal = it.on_journal files.contents (serve_of names) job;
        made = tt;
        wire = λ socket same. it.only.contents;
      })

  module _ (mid end : SiteState) (q r : Crashes) (lawful : AreLawful end r) (m : ManagerState)
      (start : StartsOver x names.limit names.journal.now before mid q m)
      (serves : OnlyServed mid end) (final : MachineState)
    where
      wire_before : before.counts.wire ≤ mid.counts.wire
      wire_before = let same = start.only.wire in omega (arith, same)

      touches : OnlyCalls before end
      touches = calls_then before mid end (calls_of_disk before mid start.only) serves.calls

      form : m.form ≡ x
      form = ap (λ (s : ManagerState). s.form) start.fresh

      along : KeepsOpened mid.disk end.disk ⊎ (end.disk ≡ None) → (now : Disk) (opened : Opened)
          → end.disk ≡ Some now → now.opened ≡ Some opened → opened.tick ≡ start.at.tick
      along (inl more) now opened told is =
          let kept = kept_opened start.at.disk end.disk (KeepsOpened-join start.at.disk mid.disk end.disk start.stays more) now told in
          let first = opened_at names.journal.now start.at.tick before.disk start.at.disk start.opened kept.0 kept.1 in
          ap (λ (o : Opened). o.tick) (some_is (sym is ∙ kept.2 ∙ first))
      along (inr untold) now opened told is = absurd (none-some now (sym untold ∙ told))

      -- the boot is kept before anything is sent
      boots_from : (session : Session) (store : Keeping) → session.opening ≡ opening_of x names.limit m.machine.history m.machine.renewed m.machine.boot
          → Saves session.ending x (start_of m.machine.history m.machine.renewed m.machine.boot) session.last store (span mid end q r)
          → (old : Sends) → before.contents.sends ≡ Some old → IsSome end.disk → (left : Left) → r.left_since start.at.tick left
          → (left.sent ≡ old.sent) ⊎ HoldsBoots left.image session.opening.renewed session.opening.boot
      boots_from session store opening_is saves old told some left left_since =
          elim (saves.passes.left_since.nothing_else start.at.tick left start.later left_since) [
            | inl earlier ↦
                let wired = (start.since old told).wired old (ap (λ (k : Contents). k.sends) start.only.contents ∙ told) in
                let was = wired.2 (saves.told some) left earlier in
                inl (was.behind
                ∙ ap (λ (sent : List SentBytes). old.sent ++ sent) (carries_none was.sent wired.0 was.carried (no_replies wired.1 refl))
                ∙ append-nil old.sent)
            | inr later ↦
                inr (subst (λ (o : Opening). HoldsBoots left.image o.renewed o.boot) (sym opening_is)
                (saves.boots some left.image (lawful.since_left mid.tick left later)))
          ]

      wire_from : (socket : List ℕ) (session : Session) (store : Keeping)
          → session.opening ≡ opening_of x names.limit m.machine.history m.machine.renewed m.machine.boot
          → Saves session.ending x (start_of m.machine.history m.machine.renewed m.machine.boot) session.last store (span mid end q r)
          → ServesFrom socket session (record { before = mid; after = end; was = q; is = r })
          → ServesWire socket session before end r
      wire_from socket session store opening_is saves wire = record {
        given = λ old new told told'. wire.given old new (ap (λ (k : Contents). k.given) start.only.contents ∙ told) told';
        sends = λ old new told told'.
            let mid_told = ap (λ (k : Contents). k.sends) start.only.contents ∙ told in
            let since = wire.since start.at.tick old mid_told
            (subst (λ (o : Opening). ServesSince start.at.tick o.form (length o.history) o.history o.renewed old [] [] unmarked mid q)
            (sym opening_is) (start.since old told)) in
            let wired = since.wired new told' in record {
              marks = wire.marks;
              replies = wired.0;
              wire = wired.1;
              keeps = λ now opened told_disk is left left_since.
                  wired.2 (subst (λ (o : Option Disk). IsSome o) (sym told_disk) refl) left
                  (subst (λ t. r.left_since t left) (along serves.opened now opened told_disk is) left_since);
              boots = λ now opened told_disk is left left_since.
                  boots_from session store opening_is saves old told (subst (λ (o : Option Disk). IsSome o) (sym told_disk) refl) left
                  (subst (λ t. r.left_since t left) (along serves.opened now opened told_disk is) left_since);
            };
        whole = λ none old new told told'.
            wire.whole (λ rose. none (subst (λ n. Rose n end.counts.send) start.only.send rose)) old new
            (ap (λ (k : Contents). k.sends) start.only.contents ∙ told) told';
      }

      -- a run was started, and maybe took events
      pub session_serves : (status : ℕ) (whole part : List ℕ) (session : Option Session)
          → ServesOn (stood.opening_at m) names.turns names.socket.now final
          (record { before = mid; after = end; was = q; is = r }) status whole part session
          → ServesOver x names before end r status whole part session
      session_serves status whole part session (unheard store contents saves rose last) = λ files now reads. record {
        ends = no_wire (record { reads = reads; small = start.small })
            (Rose-earlier before.counts.wire mid.counts.wire end.counts.wire wire_before rose) last;
        touches = touches;
        journal = session_on_journal x names.limit names.journal.now before mid end q r m start files.contents (serve_of names)
            (job_served_by files.contents reads) serves.opened None refl run_begins
            (λ some. along_saves x m.machine.history m.machine.renewed m.machine.boot (session_of (opening_of x names.limit m.machine.history m.machine.renewed m.machine.boot) None) store mid end q r lawful some
            (subst (λ y. Saves going y (start_of m.machine.history m.machine.renewed m.machine.boot) (start_of m.machine.history m.machine.renewed m.machine.boot) store (span mid end q r)) form saves));
        made = tt;
        wire = λ socket same. contents ∙ start.only.contents;
      }
      session_serves status whole part session (served {session = played} it wire how) = λ files now reads.
          let opening_is = it.opening_is ∙ opening_fresh x names.limit m start.fresh in
          let begun : MachineState = start_of m.machine.history m.machine.renewed m.machine.boot in
          let saves : Saves played.ending x begun played.last it.store (span mid end q r) =
          subst (λ (s : MachineState). Saves played.ending x begun s it.store (span mid end q r)) (sym it.last_is)
          (subst (λ y. Saves played.ending y begun final it.store (span mid end q r)) form it.saves) in record {
            ends = job_served (record { reads = reads; small = start.small })
                (opening_from x names.limit m start.fresh played it.opening_is) it.takes
                (serve_ends_earlier names.turns before.counts mid.counts end.counts played start.only.disk wire_before how);
            touches = touches;
            journal = session_on_journal x names.limit names.journal.now before mid end q r m start files.contents (serve_of names)
                (job_served_by files.contents reads) serves.opened (Some played) opening_is it.takes.run
                (λ some. along_saves x m.machine.history m.machine.renewed m.machine.boot played it.store mid end q r lawful some saves);
            made = tt;
            wire = λ socket same.
                subst (λ name. ServesWire name played before end r) (some_is same)
                (wire_from names.socket.now played it.store opening_is saves wire);
          }
