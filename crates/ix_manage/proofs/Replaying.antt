-- What one more event makes of a replay.
use Rattle.std.proofs.Common.{◌≡◌, ◌⊎◌, inl, inr, ℕ, zero, suc, ◌+◌, ◌<◌, ◌≤◌, Bool, true, false, true≢false, List, [], ◌∷◌, ◌++◌}
use Rattle.std.proofs.Common.{length, get_or, set, replicate, Option, None, Some, Result, refl, sym, ◌∙◌, ap, subst, arith}
use Rattle.std.specs.Io.KnownBytes.{append_known}
use Rattle.std.specs.Option.{option_map}
use Rattle.std.proofs.lemmas.List.{length-take-le, length_push, length-replicate, get_or-set_same, get_or-replicate, same_from_push}
use Rattle.ix_words.specs.Each.{Each, no_item, item}
use Rattle.ix_journal.specs.History.{PlainHistory}
use Rattle.ix_words.proofs.Each.{Each-append, Each-left}
use Rattle.ix_expr.specs.Form.{Form}
use Rattle.ix_lines.specs.Feeding.{UnfinishedLine}
use Rattle.ix_outside.specs.Contents.{GivenEvent, Contents, SendsWhole, SendsPart, piece_of, send_text}
use Rattle.ix_outside.specs.Counts.{Rose}
use Rattle.ix_outside.specs.SinkState.{SinkState, OnlyPuts}
use Rattle.ix_outside.specs.SiteState.{SiteState}
use Rattle.ix_outside.specs.Crashes.{Crashes, AreLawful, Stretch}
use Rattle.ix_manager.specs.inside.OverSite.{FitsSite, FitsWith}
use Rattle.ix_manager.specs.inside.Saving.{Saves, SavesRun, WhereFailed}
use Rattle.ix_manager.proofs.SavingLemmas.{saves_join, saves_none}
use Rattle.ix_outside.proofs.Counting.{Rose-earlier}
use Rattle.ix_outside.specs.Event.{FitsBuffer, KindFits}
use Rattle.ix_outside.specs.Sink.{AppendsPart}
use Rattle.ix_outside.specs.declared.event.Event.{Event}
use Rattle.ix_outside.specs.declared.event.EventKind.{EventKind}
use Rattle.ix_outside.specs.declared.event.EventKind.TheVariants.{Bytes, Closed, End}
use Rattle.ix_outside.specs.inside.DiskCalls.{span}
use Rattle.ix_proto.specs.declared.reply.Reply.{Reply}
use Rattle.ix_store.specs.Keeping.{Keeping}
use Rattle.ix_manager.specs.Machine.{MachineState, start_of}
use Rattle.ix_manager.specs.Runs.{Ending, Opening, going, stopped, Run, begin, Steps, none}
use Rattle.ix_manager.specs.Wire.{SendsInOrder, done, silent, sent, lost, reply_line, all_replies, replies_text, marks_after, run_text, unmarked}
use Rattle.ix_manager.specs.Handled.{ManagerState, Handles, FitsEvent, KindHas, completed_by, held_at}
use Rattle.ix_manager.specs.RunLaws.{FollowsRun, given_event}
use Rattle.ix_manager.proofs.RunLemmas.{run_lengths, started_follows, taken_goes_on, taken_follows}
use Rattle.ix_manager.proofs.SendLemmas.{silent_keeps, run_text_told}
use Rattle.ix_script.specs.Events.{HasEvents}
use Rattle.ix_script.specs.inside.NextPiece.{IsNextPiece}
use Rattle.ix_manage.specs.Ends.{Ended}
use Rattle.ix_manage.specs.Session.{Session, history_line, replay_text}
use Rattle.ix_manage.specs.Replay.{AreFirst, LosesReply, ReplayEnds, ends, loses, lost_reply, session_text}
use Rattle.ix_manage.specs.Session.{IsNoEnd, IsOver, over, out_of_turns, disk_failed, lost_history}
use Rattle.ix_manage.specs.inside.Leaves.{AwaitsLine, LeavesOutput}
use Rattle.ix_manage.specs.inside.Refusal.{refusal_line}
use Rattle.ix_manage.specs.inside.ReplayProgress.{IsAtStart, IsBetween, OnlyPlays, Player, PutsHistory, ReplaysOn, ReplaysScript}
use Rattle.ix_manage.specs.inside.ReplayProgress.{HasPlayed, PlaysEvent, disk_stretch, player_told}
use Rattle.ix_manage.specs.inside.Progress.{IsStarted, IsEventOutcome, SavesFrom, opening_at}
use Rattle.ix_manage.specs.declared.refusal.Refusal.TheVariants.{Disk, Turns}
use Rattle.ix_manage.specs.declared.early_end.EarlyEnd.{EarlyEnd}
use Rattle.ix_manage.specs.declared.event_outcome.EventOutcome.{EventOutcome}
use Rattle.ix_manage.specs.declared.event_outcome.EventOutcome.TheVariants.{More, Done, Cut, Failed}
use Rattle.ix_manage.proofs.ScriptFronts.{first_push}
use Rattle.ix_manage.proofs.Stops.{ended_cut, ended_whole}
use Rattle.ix_manage.proofs.Tracing.{append_nothing, append_twice}

-- a site that tells whether a send was lost tells it by the mark that the replies leave
lost_told : {conn : ℕ} {replies : List Reply} {marked : Bool} {before after : Contents}
    → SendsInOrder (λ reply. SendsWhole conn (reply_line reply)) (λ reply. SendsPart conn (reply_line reply)) replies false before marked after
    → before.lost ≡ Some false → after.lost ≡ Some marked
lost_told done opened = opened
lost_told (sent goes rest) opened = lost_told rest (goes.lost ∙ opened)
lost_told (lost part rest) opened =
    ap (λ (c : Contents). c.lost) (silent_keeps rest).0 ∙ part.lost ∙ ap (option_map (λ _. true)) opened

-- the events given stay, where they are told afterwards too
pub given_told : {conn : ℕ} {replies : List Reply} {was marked : Bool} {before after : Contents} {given : List GivenEvent}
    → SendsInOrder (λ reply. SendsWhole conn (reply_line reply)) (λ reply. SendsPart conn (reply_line reply)) replies was before marked after
    → after.given ≡ Some given → before.given ≡ Some given
given_told done told = told
given_told (silent rest) told = given_told rest told
given_told (sent goes rest) told = sym goes.given ∙ given_told rest told
given_told (lost part rest) told = elim part.given [
  | inl same ↦ sym same ∙ given_told rest told
  | inr isnt ↦ let first = given_told rest told in cc
]

set_same : {A : Type 0} (n i : ℕ) (a : A) → set (replicate n a) i a ≡ replicate n a
set_same zero i a = refl
set_same (suc n) zero a = refl
set_same (suc n) (suc i) a = ap (λ rest. a ∷ rest) (set_same n i a)

-- the marks stay where nothing is lost
pub marks_same : (kind : EventKind) (conn : ℕ) → marks_after kind conn false unmarked ≡ unmarked
marks_same (Bytes n) conn = set_same 64 conn false
marks_same Closed conn = set_same 64 conn false
marks_same End conn = set_same 64 conn false

-- closing completes nothing, and so answers nothing
no_steps : {x : Form} {limit : ℕ} {s after : MachineState} {answers : List (List Reply)} {ending : Ending} → Steps x limit s [] answers after ending → answers ≡ []
no_steps none = refl

pub no_answers : {x : Form} {limit : ℕ} {s after : MachineState} {answers : List (List Reply)} {ending : Ending} (kind : EventKind) (h : UnfinishedLine) (bytes : List ℕ)
    → Steps x limit s (completed_by kind h bytes) answers after ending → kind ≡ Closed → answers ≡ []
no_answers (Bytes n) h bytes steps closed = cc
no_answers Closed h bytes steps closed = no_steps steps
no_answers End h bytes steps closed = no_steps steps

pub nothing_sent : {S : Type 0} {whole front : Reply → S → S → Type 0} {replies : List Reply} {was marked : Bool} {s after : S}
    → SendsInOrder whole front replies was s marked after → replies ≡ [] → marked ≡ was
nothing_sent done nothing = refl
nothing_sent (silent rest) nothing = cc
nothing_sent (sent goes rest) nothing = cc
nothing_sent (lost part rest) nothing = cc

-- the mark that the replies to an event leave
pub new_mark : (kind : EventKind) (conn : ℕ) (marked : Bool) (marks : List Bool) → conn < length marks → (kind ≡ Closed → marked ≡ false)
    → get_or (marks_after kind conn marked marks) conn false ≡ marked
new_mark (Bytes n) conn marked marks within closed = get_or-set_same marks conn marked false within
new_mark Closed conn marked marks within closed = get_or-set_same marks conn false false within ∙ sym (closed refl)
new_mark End conn marked marks within closed = get_or-set_same marks conn marked false within

-- an event has at most 4,096 bytes
pub few_bytes : (kind : EventKind) (bytes : List ℕ) → KindHas kind bytes → length bytes ≤ 4096
few_bytes (Bytes n) bytes has = let count = has.0 in let most = has.1 in omega (arith, count, most)
few_bytes Closed bytes nothing = let long = ap length nothing in omega (arith, long)
few_bytes End bytes nothing = let long = ap length nothing in omega (arith, long)

-- the bytes of an event that fits a buffer of 4,096 bytes
pub piece_has : (kind : EventKind) (conn : ℕ) (buf : List ℕ) → length buf ≡ 4096 → KindFits (length buf) conn kind → KindHas kind (piece_of kind buf)
piece_has (Bytes n) conn buf long fits = (length-take-le n buf fits.1, let most = fits.1 in omega (arith, long, most))
piece_has Closed conn buf long fits = refl
piece_has End conn buf long fits = refl

-- replies of which one was lost: those before it, and those behind it
record LosesOne (conn : ℕ) (replies : List Reply) (before after : Option (List ℕ)) : Type 0 where
  pub sent_ones : List Reply
  pub lost_one : Reply
  pub silent_ones : List Reply
  pub replies_are : replies ≡ sent_ones ++ lost_one ∷ silent_ones
  pub part : AppendsPart (append_known before (replies_text conn sent_ones))
      (send_text conn (reply_line lost_one)) after

-- where replies leave an open connection marked, one of them was lost
loses_one : {conn : ℕ} {replies : List Reply} {marked : Bool} {before after : Contents}
    → SendsInOrder (λ reply. SendsWhole conn (reply_line reply)) (λ reply. SendsPart conn (reply_line reply)) replies false before marked after
    → marked ≡ true → LosesOne conn replies before.text after.text
loses_one done is = absurd (true≢false (sym is))
loses_one {conn = conn} (sent {reply = reply} {s = s} {after = after} goes rest) is =
    let more = loses_one rest is in
    let text : List ℕ = send_text conn (reply_line reply) in record {
      sent_ones = reply ∷ more.sent_ones;
      lost_one = more.lost_one;
      silent_ones = more.silent_ones;
      replies_are = ap (λ others. reply ∷ others) more.replies_are;
      part = subst (λ known. AppendsPart known (send_text conn (reply_line more.lost_one)) after.text)
          (ap (λ known. append_known known (replies_text conn more.sent_ones)) goes.text
          ∙ append_twice s.text text (replies_text conn more.sent_ones))
          more.part;
    }
loses_one {conn = conn} (lost {reply = reply} {replies = replies} {s = s} part rest) is =
    let told = part.text in record {
      sent_ones = [];
      lost_one = reply;
      silent_ones = replies;
      replies_are = refl;
      part = (
        told.0,
        told.1,
        ap (λ (c : Contents). c.text) (silent_keeps rest).0 ∙ told.2
            ∙ ap (λ known. append_known known told.0) (append_nothing s.text),
      );
    }

-- what a site tells before its manager sends the replies to an event that it just gave
abbrev told_before : Player → Player → Contents
told_before was now = player_told (record was { given = now.given })

-- an event that a manager took of a script's site, none of whose puts had failed
module _ (old new : ManagerState) (was now : Player) (event : Event) (piece : List ℕ) (ending : Ending)
    (handled : Handles old event piece ending new (told_before was now) (player_told now))
    (fits : FitsEvent event piece) (none_marked : old.marks ≡ unmarked) (open_sink : was.failed ≡ false)
  where
    open_before : get_or old.marks event.conn false ≡ false
    open_before = ap (λ marks. get_or marks event.conn false) none_marked ∙ get_or-replicate 64 event.conn false false fits.0

    within : event.conn < length old.marks
    within = subst (λ n. event.conn < n) (sym (ap length none_marked ∙ length-replicate 64 false)) fits.0

    sends : SendsInOrder (λ reply. SendsWhole event.conn (reply_line reply)) (λ reply. SendsPart event.conn (reply_line reply))
        (all_replies handled.answers) false (told_before was now) handled.sends.marked (player_told now)
    sends = subst (λ m. SendsInOrder (λ reply. SendsWhole event.conn (reply_line reply)) (λ reply. SendsPart event.conn (reply_line reply))
        (all_replies handled.answers) m (told_before was now) handled.sends.marked (player_told now)) open_before handled.sends.sends

    marked_is : handled.sends.marked ≡ now.failed
    marked_is = let told = lost_told sends (ap Some open_sink) in cc

    mark_is : get_or new.marks event.conn false ≡ now.failed
    mark_is =
        ap (λ marks. get_or marks event.conn false) handled.sends.marks
        ∙ new_mark event.kind event.conn handled.sends.marked old.marks within
        (λ closed. nothing_sent handled.sends.sends (ap all_replies (no_answers event.kind (held_at event.conn old.lines) piece handled.takes.steps closed)) ∙ open_before)
        ∙ marked_is

-- the script's next event was taken
pub event_taken : (room : ℕ) (old new : ManagerState) (was between now : Player) (buf passed : List ℕ) (event : Event) (ending : Ending) (outcome : EventOutcome) (stretch : Stretch)
    → room ≡ 4096 → between.given ≡ was.given ++ given_event event (piece_of event.kind buf) ∷ []
    → between.sink ≡ was.sink → between.failed ≡ was.failed → passed ≡ piece_of event.kind buf
    → FitsBuffer room event → length buf ≡ room
    → IsNextPiece room was.script was.given (given_event event (piece_of event.kind buf))
    → Handles old event passed ending new (player_told between) (player_told now)
    → new.machine.number ≤ old.machine.number + length passed
    → IsBetween old was → IsEventOutcome now.failed ending event.kind outcome
    → ((conn : ℕ) → get_or old.marks conn false ≡ false → get_or new.marks conn false ≡ true
    → Rose between.sink.faults now.sink.faults)
    → SavesRun ending old new stretch
    → PlaysEvent old was new now stretch outcome
event_taken room old new was between now buf passed event ending outcome stretch room_is given_is sink_is failed_is passed_is fits long next handled rises ready outcome_is rose saves =
    let told = given_told handled.sends.sends refl in
    let same : between.given ≡ now.given = cc in
    let piece : List ℕ = piece_of event.kind buf in
    let fits_event : FitsEvent event piece =
    (fits.0, piece_has event.kind event.conn buf (long ∙ room_is) (subst (λ n. KindFits n event.conn event.kind) (sym long) fits.1)) in
    let its : Handles old event piece ending new (told_before was now) (player_told now) =
    subst (λ p. Handles old event p ending new (told_before was now) (player_told now)) passed_is
    (subst (λ c. Handles old event passed ending new c (player_told now))
    (λ i. record { given = Some (same i); sends = None; text = SinkState.written (sink_is i); lost = Some (failed_is i) }) handled) in
    record {
      event = event;
      piece = piece;
      ending = ending;
      given = sym same ∙ given_is;
      next = subst (λ n. IsNextPiece n was.script was.given (given_event event piece)) room_is next;
      fits = fits_event;
      handled = its;
      tickets = subst (λ p. new.machine.number ≤ old.machine.number + length p) passed_is rises;
      outcome_is = outcome_is;
      fault = λ one_lost.
          subst (λ (s : SinkState). Rose s.faults now.sink.faults) sink_is
          (rose event.conn
          (open_before old new was now event piece ending its fits_event ready.marks ready.open_sink)
          (mark_is old new was now event piece ending its fits_event ready.marks ready.open_sink ∙ one_lost));
      saves = saves;
    }

-- what is kept from a manager on that was just started is kept from its opening on
pub saves_begun : (m : ManagerState) → IsStarted m → {ending : Ending} {last : MachineState} {store : Keeping}
    {a b : SiteState} {p q : Crashes} → Saves ending m.form m.machine last store (span a b p q)
    → Saves ending m.form (start_of m.machine.history m.machine.renewed m.machine.boot) last store (span a b p q)
saves_begun m fresh {ending = ending} {last = last} {store = store} {a = a} {b = b} {p = p} {q = q} saves =
    subst (λ s. Saves ending m.form s last store (span a b p q)) (ap (λ (s : ManagerState). s.machine) fresh) saves

-- the same where nothing was made of it
pub saves_resting : (m : ManagerState) → IsStarted m → {store : Keeping} {a b : SiteState} {p q : Crashes}
    → Saves going m.form m.machine m.machine store (span a b p q)
    → Saves going m.form (start_of m.machine.history m.machine.renewed m.machine.boot) (start_of m.machine.history m.machine.renewed m.machine.boot) store (span a b p q)
saves_resting m fresh {store = store} {a = a} {b = b} {p = p} {q = q} saves =
    subst (λ s. Saves going m.form s s store (span a b p q)) (ap (λ (s : ManagerState). s.machine) fresh) saves

-- a manager that was just started stands behind what was put before
pub stands_first : (m : ManagerState) (start : Player) (site : SiteState) (crashes : Crashes) → IsStarted m → IsAtStart start
    → AreLawful site crashes → FitsSite m site crashes
    → HasPlayed (opening_at m) start.sink.written m start (record { before = site; after = site; was = crashes; is = crashes })
stands_first m start site crashes fresh begins lawful fits =
    let nothing = sym begins.given in
    let first_ticket : m.machine.number ≡ 1 = ap (λ (s : ManagerState). s.machine.number) fresh in record {
      answers = [];
      follows = subst (λ given. FollowsRun (opening_at m) given [] m) nothing
          (subst (λ s. FollowsRun (opening_at m) [] [] s) (sym fresh) (started_follows (opening_at m) m.store));
      marks = ap (λ (s : ManagerState). s.marks) fresh;
      tickets = omega (arith, first_ticket);
      open_sink = begins.open_sink;
      first = λ events has. subst (AreFirst events) nothing refl;
      no_end = subst (Each IsNoEnd) nothing no_item;
      text = append_nothing start.sink.written ∙ ap (λ given. append_known start.sink.written (run_text given [])) nothing;
      saves = saves_begun m fresh (saves_none m.form m.machine m.store site crashes lawful fits);
    }

module _ {opening : Opening} {known : Option (List ℕ)} {m : ManagerState} {now : Player} {stretch : Stretch}
    (stands : HasPlayed opening known m now stretch) where
  -- the store fits what was made of the site
  pub stands_fits : FitsSite m stretch.after stretch.is
  stands_fits = subst (λ x. FitsWith x m.machine m.store stretch.after stretch.is) (sym stands.follows.form_is) stands.saves.fits

  -- a further event may be taken
  pub stands_between : length now.given < 1000000000 → IsBetween m now
  stands_between few = record {
    goes_on = stands.follows.not_ended;
    marks = stands.marks;
    tickets = let most = stands.tickets in omega (arith, few, most);
    open_sink = stands.open_sink;
  }

  -- what was put since the line of the history was
  text_behind_line : (start : SinkState) → known ≡ append_known start.written (history_line opening)
      → now.sink.written ≡ append_known start.written (replay_text opening now.given stands.answers)
  text_behind_line start line_put =
      stands.text ∙ ap (λ k. append_known k (run_text now.given stands.answers)) line_put
      ∙ append_twice start.written (history_line opening) (run_text now.given stands.answers)

  -- as many events as turns were taken
  pub out_of_turns_put : (turns : ℕ) → length now.given ≡ turns
      → (start : SinkState) → known ≡ append_known start.written (history_line opening)
      → AwaitsLine (ReplaysScript opening turns now.script now.given m.machine stretch) 7 (refusal_line Turns) start now.sink
  out_of_turns_put turns all start line_put =
      let played : Session = record { opening = opening; taken = now.given; answers = stands.answers; last = m.machine; ending = going } in record {
        before = session_text played;
        session = Some played;
        may = λ status whole part last_line. record {
          played = played;
          is = refl;
          opening_is = refl;
          taken_is = refl;
          last_is = refl;
          plays = λ events has. record {
            takes = record {
              run = stands.follows.run;
              few = omega (arith, all);
              before_the_end = λ before last is. Each-left before (last ∷ []) (subst (Each IsNoEnd) is stands.no_end);
            };
            first = stands.first events has;
          };
          ends = ends (out_of_turns all (stands.no_end, refl) last_line);
          store = m.store;
          saves = stands.saves;
        };
        put = text_behind_line start line_put;
      }

module _ {old new : ManagerState} {was now : Player} {outcome : EventOutcome} {a b c : SiteState} {p q r : Crashes}
    (took : PlaysEvent old was new now (record { before = b; after = c; was = q; is = r }) outcome)
    {opening : Opening} {known : Option (List ℕ)}
    (stands : HasPlayed opening known old was (record { before = a; after = b; was = p; is = q }))
    (lawful : AreLawful c r)
  where
    -- from the start on
    abbrev stretch : Stretch
    stretch = record { before = a; after = c; was = p; is = r }

    saved : SavesFrom opening took.ending new.machine new.store stretch
    saved = saves_join took.ending opening.form (start_of opening.history opening.renewed opening.boot) old.machine new.machine old.store new.store a b c p q r lawful
        stands.saves
        (subst (λ x. Saves took.ending x old.machine new.machine new.store (span b c q r)) stands.follows.form_is took.saves)

    abbrev given : GivenEvent
    given = given_event took.event took.piece

    abbrev answers : List (List (List Reply))
    answers = stands.answers ++ took.handled.answers ∷ []

    abbrev longer : List GivenEvent
    longer = was.given ++ given ∷ []

    abbrev played : Session
    played = record { opening = opening; taken = now.given; answers = answers; last = new.machine; ending = took.ending }

    first_of : (events : List GivenEvent) → HasEvents was.script events → AreFirst events now.given
    first_of events has = subst (AreFirst events) (sym took.given)
        (first_push events was.given given (stands.first events has) (took.next events has))

    marked_now : took.handled.sends.marked ≡ now.failed
    marked_now = marked_is old new was now took.event took.piece took.ending took.handled took.fits stands.marks stands.open_sink

    told_whole : now.failed ≡ false → now.sink.written ≡ append_known known (run_text now.given answers)
    told_whole none_lost =
        let opened = open_before old new was now took.event took.piece took.ending took.handled took.fits stands.marks stands.open_sink in
        let inside = within old new was now took.event took.piece took.ending took.handled took.fits stands.marks stands.open_sink in
        let mark = mark_is old new was now took.event took.piece took.ending took.handled took.fits stands.marks stands.open_sink in
        (run_text_told known was.given stands.answers old took.event took.piece took.ending new (told_before was now) (player_told now)
        took.handled (run_lengths stands.follows.run) inside opened stands.text).0 (mark ∙ none_lost)
        ∙ ap (λ taken. append_known known (run_text taken answers)) (sym took.given)

    -- it may go on
    pub outcome_more : outcome ≡ More → OnlyPlays was now → HasPlayed opening known new now stretch
    outcome_more same plays =
        let is = subst (IsEventOutcome now.failed took.ending took.event.kind) same took.outcome_is in
        let behind = sym took.given in record {
          answers = answers;
          follows = subst (λ taken. FollowsRun opening taken answers new) behind
              (taken_follows opening was.given stands.answers old took.event took.piece took.handled.answers new took.ending stands.follows took.fits took.handled.takes is.1);
          marks = took.handled.sends.marks ∙ (λ i. marks_after took.event.kind took.event.conn ((marked_now ∙ is.0) i) (stands.marks i)) ∙ marks_same took.event.kind took.event.conn;
          tickets =
              let few = few_bytes took.event.kind took.piece took.fits.1 in
              let long = ap length took.given ∙ length_push was.given given in
              let least = stands.tickets in
              let rises = took.tickets in omega (arith, few, long, least, rises);
          open_sink = is.0;
          first = λ events has. first_of events (subst (λ script. HasEvents script events) plays.script has);
          no_end = subst (Each IsNoEnd) behind (Each-append stands.no_end (item is.2 no_item));
          text = told_whole is.0;
          saves = subst (λ e. SavesFrom opening e new.machine new.store stretch) is.1 saved;
        }

    module _ (turns : ℕ) (few : length now.given ≤ turns) (start : SinkState)
        (line_put : known ≡ append_known start.written (history_line opening))
      where
        replays : {status : ℕ} {whole part : List ℕ} → ReplayEnds turns a.counts c.counts played status whole part
            → ReplaysScript opening turns was.script now.given new.machine stretch status whole part (Some played)
        replays how = record {
          played = played;
          is = refl;
          opening_is = refl;
          taken_is = refl;
          last_is = refl;
          plays = λ events has. record {
            takes = record {
              run = subst (λ taken. Run opening taken answers new.machine took.ending) (sym took.given)
                  (taken_goes_on opening was.given stands.answers old took.event took.piece took.handled.answers new took.ending stands.follows took.fits took.handled.takes);
              few = few;
              before_the_end = λ before last is. subst (Each IsNoEnd) (same_from_push was.given before given last (sym took.given ∙ is)).0 stands.no_end;
            };
            first = first_of events has;
          };
          ends = how;
          store = new.store;
          saves = saved;
        }

        -- the event was the end or brought `stop`
        pub outcome_done : outcome ≡ Done → Ended (ReplaysScript opening turns was.script now.given new.machine stretch) 0 start now.sink
        outcome_done same =
            let is = subst (IsEventOutcome now.failed took.ending took.event.kind) same took.outcome_is in
            ended_whole start now.sink (session_text played) (Some played) (replays (ends (over (is_over is.1))))
            (told_whole is.0 ∙ ap (λ k. append_known k (run_text now.given answers)) line_put
            ∙ append_twice start.written (history_line opening) (run_text now.given answers))
          where
            is_over : (took.event.kind ≡ End) ⊎ (took.ending ≡ stopped) → IsOver played
            is_over (inl end) = inl (was.given, given, took.given, end)
            is_over (inr stops) = inr stops

        -- the disk failed
        pub outcome_failed : outcome ≡ Failed
            → AwaitsLine (ReplaysScript opening turns was.script now.given new.machine stretch) 5 (refusal_line Disk) start now.sink
        outcome_failed same =
            let is = subst (IsEventOutcome now.failed took.ending took.event.kind) same took.outcome_is in record {
              before = session_text played;
              session = Some played;
              may =
                  let P : Ending → Type 0 = λ e. WhereFailed e (Rose a.counts.disk c.counts.disk) in
                  let rose = subst P is.1.1 saved.faults in
                  λ status whole part last. replays (ends (disk_failed is.1.1 rose last));
              put = told_whole is.0 ∙ ap (λ k. append_known k (run_text now.given answers)) line_put
                  ∙ append_twice start.written (history_line opening) (run_text now.given answers);
            }

        -- a put failed
        pub outcome_cut : outcome ≡ Cut → start.faults ≤ was.sink.faults
            → Ended (ReplaysScript opening turns was.script now.given new.machine stretch) 10 start now.sink
        outcome_cut same le =
            let is : now.failed ≡ true = subst (IsEventOutcome now.failed took.ending took.event.kind) same took.outcome_is in
            let one = loses_one (sends old new was now took.event took.piece took.ending took.handled took.fits stands.marks stands.open_sink) (marked_now ∙ is) in
            let text : List ℕ = replay_text opening was.given stands.answers in
            let sent_text : List ℕ = replies_text took.event.conn one.sent_ones in
            ended_cut start now.sink (text ++ sent_text) (send_text took.event.conn (reply_line one.lost_one)) (Some played)
            (replays (lost_reply (subst (λ taken. LosesReply opening taken answers (text ++ sent_text) (send_text took.event.conn (reply_line one.lost_one)))
            (sym took.given)
            (loses was.given given stands.answers took.handled.answers one.sent_ones one.lost_one one.silent_ones one.replies_are))))
            (subst (λ k. AppendsPart k (send_text took.event.conn (reply_line one.lost_one)) now.sink.written)
            (ap (λ k. append_known k sent_text) (text_behind_line stands start line_put) ∙ append_twice start.written text sent_text)
            one.part)
            (Rose-earlier _ _ _ le (took.fault is))

pub taken_count : {old new : ManagerState} {was now : Player} {stretch : Stretch} {outcome : EventOutcome} → PlaysEvent old was new now stretch outcome
    → length now.given ≡ length was.given + 1
taken_count {was = was} took = ap length took.given ∙ length_push was.given (given_event took.event took.piece)

-- the put of the history's line fails, before any event is taken
pub history_lost : (m : ManagerState) → IsStarted m → (turns : ℕ) (script line : List ℕ) (old new : SinkState)
    (site : SiteState) (crashes : Crashes) → AreLawful site crashes → FitsSite m site crashes
    → line ≡ history_line (opening_at m) → AppendsPart old.written line new.written
    → Rose old.faults new.faults
    → Ended (ReplaysOn (opening_at m) turns script m.machine (record { before = site; after = site; was = crashes; is = crashes })) 10 old new
history_lost m fresh turns script line old new site crashes lawful fits same part rose =
    let opening : Opening = opening_at m in
    let played : Session = record { opening = opening; taken = []; answers = []; last = m.machine; ending = going } in
    ended_cut old new [] (history_line (opening_at m)) (Some played) (
      [],
      record {
        played = played;
        is = refl;
        opening_is = refl;
        taken_is = refl;
        last_is = refl;
        plays = λ events has. record {
          takes = record {
            run = subst (λ s. Run opening [] [] s going) (sym (ap (λ (s : ManagerState). s.machine) fresh)) begin;
            few = omega arith;
            before_the_end = λ before last is. absurd (let long = ap length is in let push = length_push before last in omega (arith, long, push));
          };
          first = refl;
        };
        ends = ends (lost_history refl);
        store = m.store;
        saves = saves_begun m fresh (saves_none m.form m.machine m.store site crashes lawful fits);
      },
    )
    (subst (λ known. AppendsPart known (history_line (opening_at m)) new.written) (append_nothing old.written)
    (subst (λ t. AppendsPart old.written t new.written) same part))
    rose

-- it is put
pub history_put : (opening : Opening) (line : List ℕ) (start between first : SinkState) → line ≡ history_line opening
    → between.written ≡ append_known start.written line → OnlyPuts start between → first ≡ between
    → PutsHistory opening start first
history_put opening line start between first same put rest first_is =
    subst (λ s. PutsHistory opening start s) (sym first_is)
    (record { put = put ∙ ap (append_known start.written) same; rest = rest })

-- whatever events were taken
pub replays_on : (opening : Opening) (turns : ℕ) (script passed : List ℕ) → script ≡ passed
    → (taken : List GivenEvent) (last : MachineState) (stretch : Stretch)
    (status : ℕ) (whole part : List ℕ) (session : Option Session)
    → ReplaysScript opening turns script taken last stretch status whole part session
    → ReplaysOn opening turns passed last stretch status whole part session
replays_on opening turns script passed same taken last stretch status whole part session it =
    (taken, subst (λ bytes. ReplaysScript opening turns bytes taken last stretch status whole part session) same it)

-- the sites and the sink at both ends, by other names
pub leaves_over : {S T : Type 0} (site_state : S → SiteState) (site_crashes : S → Crashes)
    (opening : Opening) (turns : ℕ) (script : List ℕ) (last : MachineState) (start : SinkState)
    {first first' now end : S} {sink final : SinkState} (r : Result T EarlyEnd)
    → LeavesOutput (ReplaysOn opening turns script last (disk_stretch site_state site_crashes first now)) start sink r
    → first ≡ first' → now ≡ end → sink ≡ final
    → LeavesOutput (ReplaysOn opening turns script last (disk_stretch site_state site_crashes first' end)) start final r
leaves_over site_state site_crashes opening turns script last start {first' = first'} {now = now} {end = end} {sink = sink} r it firsts lasts sinks =
    subst (λ s. LeavesOutput (ReplaysOn opening turns script last (disk_stretch site_state site_crashes first' end)) start s r) sinks
    (subst (λ s. LeavesOutput (ReplaysOn opening turns script last (disk_stretch site_state site_crashes first' s)) start sink r) lasts
    (subst (λ s. LeavesOutput (ReplaysOn opening turns script last (disk_stretch site_state site_crashes s now)) start sink r) firsts it))
