-- What one more event makes of a serve.
use Rattle.std.proofs.Common.{◌≡◌, ◌⊎◌, inl, inr, ℕ, ◌<◌, ◌≤◌, Bool, true, false, true≢false, List, [], ◌∷◌, ◌++◌}
use Rattle.std.proofs.Common.{length, get_or, Option, None, Some, IsSome, Ok, Err, append_assoc, append-nil, refl, sym, ◌∙◌, ap, subst, arith}
use Rattle.std.specs.Option.{option_map}
use Rattle.std.proofs.lemmas.List.{length_push, length-replicate, get_or-replicate, same_from_push}
use Rattle.ix_words.specs.Each.{Each, no_item, item}
use Rattle.ix_words.proofs.Each.{Each-append, Each-left}
use Rattle.ix_expr.specs.Form.{Form}
use Rattle.ix_outside.specs.Contents.{Contents, GivenEvent, Sends, SendsPart, SendsWhole, SentBytes, with_pair}
use Rattle.ix_outside.specs.Counts.{Rose}
use Rattle.ix_outside.specs.Crashes.{Crashes, AreLawful, IsSentByThen, LeavesTheSame, OneCall, Stretch}
use Rattle.ix_outside.specs.SiteState.{SiteState, OnlyWire}
use Rattle.ix_outside.proofs.Counting.{Rose-earlier, Rose-later}
use Rattle.ix_outside.proofs.Passing.{sent-nothing}
use Rattle.ix_outside.specs.declared.event.EventKind.TheVariants.{End}
use Rattle.ix_outside.specs.inside.DiskCalls.{span}
use Rattle.ix_proto.specs.declared.reply.Reply.{Reply}
use Rattle.ix_store.specs.Keeping.{Keeping}
use Rattle.ix_manager.specs.Handled.{ManagerState, held_at}
use Rattle.ix_manager.specs.RunLaws.{FollowsRun, given_event}
use Rattle.ix_manager.specs.Machine.{MachineState, start_of}
use Rattle.ix_manager.specs.Runs.{Ending, Opening, going, stopped}
use Rattle.ix_manager.specs.Wire.{SendsInOrder, all_replies, done, lost, marks_after, reply_line, sent, unmarked}
use Rattle.ix_manager.specs.inside.OverSite.{FitsSite, FitsWith}
use Rattle.ix_manager.specs.Images.{with_failed}
use Rattle.ix_manager.specs.inside.Acknowledging.{IsSentBetween, SendsMore}
use Rattle.ix_manager.specs.inside.Serving.{ServesSince}
use Rattle.ix_manager.proofs.AcknowledgedLemmas.{between_none}
use Rattle.ix_manager.specs.inside.Saving.{OnlySends, Saves, WhereFailed}
use Rattle.ix_manager.proofs.RunLemmas.{started_follows, taken_follows, taken_goes_on}
use Rattle.ix_manage.proofs.Replaying.{saves_begun}
use Rattle.ix_manager.proofs.SavingLemmas.{saves_join, saves_none, saves_sends}
use Rattle.ix_manager.proofs.SendLemmas.{untold_sends}
use Rattle.ix_manage.specs.Serve.{ends, wire_failed}
use Rattle.ix_manage.specs.Session.{IsNoEnd, IsOver, Session, disk_failed, out_of_turns}
use Rattle.ix_manage.specs.declared.refusal.Refusal.TheVariants.{Disk, Turns, Wire as WireRefusal}
use Rattle.ix_manage.specs.declared.early_end.EarlyEnd.TheVariants.{Refused}
use Rattle.ix_manage.specs.declared.event_outcome.EventOutcome.{EventOutcome}
use Rattle.ix_manage.specs.declared.event_outcome.EventOutcome.TheVariants.{More, Done, Cut, Failed}
use Rattle.ix_manage.specs.inside.ServeProgress.{SentFor, ServedSession, HasServed, ServesTo, ServesEvent, TakesOver, took, unheard}
use Rattle.ix_manage.specs.inside.Progress.{IsStarted, IsEventOutcome, SavesFrom, opening_at}
use Rattle.ix_manage.proofs.Opening.{some_is}
use Rattle.ix_manage.proofs.Replaying.{few_bytes, given_told, marks_same, new_mark, no_answers, nothing_sent}

-- sends that are told behind a call were told before it, and no more was sent
module _ (old new : SiteState) (was is : Crashes) (only : OnlyWire old new) (same : LeavesTheSame was.now is.now)
    (call : OneCall (span old new was is))
    (told : IsSome new.contents.sends → IsSome old.contents.sends)
    (sent_is : (s s' : Sends) → old.contents.sends ≡ Some s → new.contents.sends ≡ Some s' → s'.sent ≡ s.sent)
  where
    none_more : SendsMore (span old new was is)
    none_more = record {
      told = told;
      all = λ s s' known known'. subst (λ (sent : List SentBytes). IsSentBetween s.sent sent sent) (sym (sent_is s s' known known'))
          (between_none s.sent s.sent (omega arith));
      by_then = λ s s' known known' left since.
          let nothing = sent-nothing s.sent left.sent
          (subst (λ (sent : List SentBytes). IsSentByThen s.sent sent left.sent) (sent_is s s' known known') (call.sent s s' known known' left since)) in
          subst (λ (sent : List SentBytes). IsSentBetween s.sent s'.sent sent) (sym nothing)
          (subst (λ (sent : List SentBytes). IsSentBetween s.sent sent s.sent) (sym (sent_is s s' known known'))
          (between_none s.sent s.sent (omega arith)));
    }

    -- a call of the wire leaves the disk alone
    pub wire_only : OnlySends (span old new was is)
    wire_only = record {
      count = only.disk;
      disk = inl only.file;
      now = same;
      passes = call.passes;
      images = λ image left. elim (call.images image left) [ inl now ↦ now | inr now ↦ (same image).0 now ];
      sends = none_more;
    }

-- `next`, and a `listen` that failed
pub next_only : (old new : SiteState) (was is : Crashes) → OnlyWire old new → LeavesTheSame was.now is.now
    → OneCall (span old new was is) → new.contents.sends ≡ old.contents.sends → OnlySends (span old new was is)
next_only old new was is only same call sends = wire_only old new was is only same call
    (λ some. subst (λ (o : Option Sends). IsSome o) sends some)
    (λ s s' known known'. ap (λ (t : Sends). t.sent) (some_is (sym known' ∙ sends ∙ known)))

-- so the history is kept over it
pub wire_saves : (x : Form) (s : MachineState) (store : Keeping) (old new : SiteState) (was is : Crashes)
    → AreLawful old was → AreLawful new is → FitsWith x s store old was → OnlySends (span old new was is)
    → Saves going x s s store (span old new was is)
wire_saves x s store old new was is before lawful fits only =
    saves_sends going x s s store old old new was was is before lawful (saves_none x s store old was before fits) only

-- where replies leave an open connection unmarked, none of the sends answered Gone
gone_same : {conn : ℕ} {replies : List Reply} {marked : Bool} {before after : Contents}
    → SendsInOrder (λ reply. SendsWhole conn (reply_line reply)) (λ reply. SendsPart conn (reply_line reply)) replies false before marked after
    → marked ≡ false → (old new : Sends) → before.sends ≡ Some old → after.sends ≡ Some new → new.gone ≡ old.gone
gone_same done is old new told told' = ap (λ (s : Sends). s.gone) (sym (some_is (sym told ∙ told')))
gone_same {conn = conn} (sent {reply = reply} goes rest) is old new told told' =
    gone_same rest is (with_pair conn (reply_line reply) old) new
    (goes.sends ∙ ap (option_map (with_pair conn (reply_line reply))) told) told'
gone_same (lost part rest) is old new told told' = absurd (true≢false is)

-- events that are told with one more were told before
told_before : (known : Option (List GivenEvent)) (given : GivenEvent) (all : List GivenEvent)
    → option_map (λ events. events ++ given ∷ []) known ≡ Some all
    → (old : List GivenEvent) × (known ≡ Some old) × (all ≡ old ++ given ∷ [])
told_before None given all told = cc
told_before (Some old) given all told = (old, refl, cc)

-- what isn't told before isn't told afterwards
told_from : {A : Type 0} (known now : Option A) → (known ≡ None → now ≡ None) → IsSome now → IsSome known
told_from None now stays some =
    let P : Option _ → Type 0 = λ o. IsSome o in let none : P None = subst P (stays refl) some in none
told_from (Some old) now stays some = refl

-- sends that are told were told before
sends_before : (known now : Option Sends) (new : Sends) → (known ≡ None → now ≡ None) → now ≡ Some new
    → (old : Sends) × (known ≡ Some old)
sends_before None now new stays told = let none = stays refl in cc
sends_before (Some old) now new stays told = (old, refl)

-- a manager that was just started serves a site without events
pub serves_first : (m : ManagerState) (site : SiteState) (crashes : Crashes) → IsStarted m
    → AreLawful site crashes → FitsSite m site crashes
    → HasServed (opening_at m) [] m (record { before = site; after = site; was = crashes; is = crashes })
serves_first m site crashes fresh lawful fits =
    let marks : m.marks ≡ unmarked = ap (λ (s : ManagerState). s.marks) fresh in
    let ticket : m.machine.number ≡ 1 = ap (λ (s : ManagerState). s.machine.number) fresh in record {
      answers = [];
      follows = subst (λ s. FollowsRun (opening_at m) [] [] s) (sym fresh) (started_follows (opening_at m) m.store);
      tickets = omega (arith, ticket);
      no_end = no_item;
      sent = record {
        given = λ new told. (new, told, sym (append-nil new));
        told = λ some. some;
        since = λ t start serves. subst (λ marks. ServesSince t m.form (length m.machine.history) m.machine.history m.machine.renewed start [] [] marks site crashes)
            (sym marks) serves;
        whole = λ none. (marks, λ old new told told'. gone_is old new (sym told ∙ told'));
      };
      saves = saves_begun m fresh (saves_none m.form m.machine m.store site crashes lawful fits);
    }
  where
    gone_is : (old new : Sends) → Some old ≡ Some new → new.gone ≡ old.gone
    gone_is old new same = let is : new ≡ old = cc in ap (λ (s : Sends). s.gone) is

module _ {opening : Opening} {taken : List GivenEvent} {m : ManagerState} {a b : SiteState} {p q : Crashes}
    (serves : HasServed opening taken m (record { before = a; after = b; was = p; is = q }))
  where
    -- the store fits what was made of the site
    pub serves_fits : FitsSite m b q
    serves_fits = subst (λ x. FitsWith x m.machine m.store b q) (sym serves.follows.form_is) serves.saves.fits

    -- the session so far
    abbrev pub so_far : Session
    so_far = record { opening = opening; taken = taken; answers = serves.answers; last = m.machine; ending = going }

    -- over calls of the wire more
    pub served_so_far : (turns : ℕ) → length taken ≤ turns
        → ServedSession opening turns m.machine (record { before = a; after = b; was = p; is = q }) so_far
    served_so_far turns few = record {
      opening_is = refl;
      last_is = refl;
      takes = record {
        run = serves.follows.run;
        few = few;
        before_the_end = λ before last is. Each-left before (last ∷ []) (subst (Each IsNoEnd) is serves.no_end);
      };
      store = m.store;
      saves = serves.saves;
    }

-- where none failed to come, an event was taken
pub taken_over : {old new : ManagerState} {stretch : Stretch} {outcome : EventOutcome} → ServesEvent old new stretch outcome
    → (outcome ≡ Cut → ⊥) → TakesOver old new stretch outcome
taken_over (unheard same contents rose saves since) not = absurd (not refl)
taken_over (took it) not = it

module _ {old new : ManagerState} {outcome : EventOutcome} {a b c : SiteState} {p q r : Crashes}
    (it : TakesOver old new (record { before = b; after = c; was = q; is = r }) outcome)
    {opening : Opening} {taken : List GivenEvent}
    (serves : HasServed opening taken old (record { before = a; after = b; was = p; is = q }))
    (lawful : AreLawful c r)
    (first : a.counts.send ≤ b.counts.send) (second : b.counts.send ≤ c.counts.send)
  where
    -- from the start on
    abbrev stretch : Stretch
    stretch = record { before = a; after = c; was = p; is = r }

    abbrev given : GivenEvent
    given = given_event it.event it.piece

    abbrev longer : List GivenEvent
    longer = taken ++ given ∷ []

    abbrev answers : List (List (List Reply))
    answers = serves.answers ++ it.handled.answers ∷ []

    abbrev pub played : Session
    played = record { opening = opening; taken = longer; answers = answers; last = new.machine; ending = it.ending }

    saved : SavesFrom opening it.ending new.machine new.store stretch
    saved = saves_join it.ending opening.form (start_of opening.history opening.renewed opening.boot) old.machine new.machine old.store new.store a b c p q r lawful
        serves.saves
        (subst (λ x. Saves it.ending x old.machine new.machine new.store (span b c q r)) serves.follows.form_is it.saves)

    -- the mark that the event's replies left, where the count of sends didn't rise
    none_marked : old.marks ≡ unmarked → ¬ Rose b.counts.send c.counts.send → it.handled.sends.marked ≡ false
    none_marked marks none = by_cases it.handled.sends.marked refl
      where
        opened : get_or old.marks it.event.conn false ≡ false
        opened = ap (λ marks. get_or marks it.event.conn false) marks ∙ get_or-replicate 64 it.event.conn false false it.fits.0

        within : it.event.conn < length old.marks
        within = subst (λ n. it.event.conn < n) (sym (ap length marks ∙ length-replicate 64 false)) it.fits.0

        mark_is : get_or new.marks it.event.conn false ≡ it.handled.sends.marked
        mark_is =
            ap (λ marks. get_or marks it.event.conn false) it.handled.sends.marks
            ∙ new_mark it.event.kind it.event.conn it.handled.sends.marked old.marks within
            (λ closed. nothing_sent it.handled.sends.sends (ap all_replies (no_answers it.event.kind (held_at it.event.conn old.lines) it.piece it.handled.takes.steps closed)) ∙ opened)

        by_cases : (marked : Bool) → it.handled.sends.marked ≡ marked → it.handled.sends.marked ≡ false
        by_cases true is = absurd (none (it.marked it.event.conn opened (mark_is ∙ is)))
        by_cases false is = is

    stays_untold : b.contents.sends ≡ None → c.contents.sends ≡ None
    stays_untold none = untold_sends it.event.conn it.handled.sends.sends (ap (λ (k : Contents). k.sends) it.told_is ∙ none)

    opened_sends : old.marks ≡ unmarked
        → SendsInOrder (λ reply. SendsWhole it.event.conn (reply_line reply)) (λ reply. SendsPart it.event.conn (reply_line reply))
        (all_replies it.handled.answers) false it.told it.handled.sends.marked c.contents
    opened_sends marks = subst (λ m. SendsInOrder (λ reply. SendsWhole it.event.conn (reply_line reply)) (λ reply. SendsPart it.event.conn (reply_line reply))
        (all_replies it.handled.answers) m it.told it.handled.sends.marked c.contents)
        (ap (λ marks. get_or marks it.event.conn false) marks ∙ get_or-replicate 64 it.event.conn false false it.fits.0)
        it.handled.sends.sends

    pub sent_now : SentFor opening (with_failed it.ending new.machine.history) longer answers new.marks stretch
    sent_now = record {
      given = λ all told.
          let mine = told_before b.contents.given given all
          (sym (ap (λ (k : Contents). k.given) it.told_is) ∙ given_told it.handled.sends.sends told) in
          let earlier = serves.sent.given mine.0 mine.1 in
          (earlier.0, earlier.1, mine.2 ∙ ap (λ events. events ++ given ∷ []) earlier.2 ∙ append_assoc earlier.0 taken (given ∷ []));
      told = λ some. serves.sent.told (told_from b.contents.sends c.contents.sends stays_untold some);
      since = λ t start begins.
          let least = length opening.history in
          subst (λ z. ServesSince t opening.form least (with_failed it.ending new.machine.history) z start longer answers new.marks c r) serves.saves.renewed
          (subst (λ x. ServesSince t x least (with_failed it.ending new.machine.history) old.machine.renewed start longer answers new.marks c r) serves.follows.form_is
          (it.since t least start taken serves.answers
          (subst (λ x. ServesSince t x least old.machine.history old.machine.renewed start taken serves.answers old.marks b q) (sym serves.follows.form_is)
          (subst (λ z. ServesSince t opening.form least old.machine.history z start taken serves.answers old.marks b q) (sym serves.saves.renewed)
          (serves.sent.since t start begins)))));
      whole = λ none.
          let earlier = serves.sent.whole (λ rose. none (Rose-later a.counts.send b.counts.send c.counts.send rose second)) in
          let marked = none_marked earlier.0 (λ rose. none (Rose-earlier a.counts.send b.counts.send c.counts.send first rose)) in (
            it.handled.sends.marks ∙ (λ i. marks_after it.event.kind it.event.conn (marked i) (earlier.0 i)) ∙ marks_same it.event.kind it.event.conn,
            λ start last told told'.
                let mine = sends_before b.contents.sends c.contents.sends last stays_untold told' in
                gone_same (opened_sends earlier.0) marked mine.0 last (ap (λ (k : Contents). k.sends) it.told_is ∙ mine.1) told'
                ∙ earlier.1 start mine.0 told mine.1,
          );
    }

    -- it may go on
    pub serves_more : outcome ≡ More → HasServed opening longer new stretch
    serves_more same =
        let is = subst (IsEventOutcome false it.ending it.event.kind) same it.outcome_is in record {
          answers = answers;
          follows = taken_follows opening taken serves.answers old it.event it.piece it.handled.answers new it.ending serves.follows it.fits it.handled.takes is.1;
          tickets =
              let few = few_bytes it.event.kind it.piece it.fits.1 in
              let long = length_push taken given in
              let least = serves.tickets in
              let rises = it.tickets in omega (arith, few, long, least, rises);
          no_end = Each-append serves.no_end (item is.2 no_item);
          sent = subst (λ e. SentFor opening (with_failed e new.machine.history) longer answers new.marks stretch) is.1 sent_now;
          saves = subst (λ e. SavesFrom opening e new.machine new.store stretch) is.1 saved;
        }

    -- the session so far
    pub served_played : (turns : ℕ) → length longer ≤ turns → ServedSession opening turns new.machine stretch played
    served_played turns few = record {
      opening_is = refl;
      last_is = refl;
      takes = record {
        run = taken_goes_on opening taken serves.answers old it.event it.piece it.handled.answers new it.ending serves.follows it.fits it.handled.takes;
        few = few;
        before_the_end = λ before last is. subst (Each IsNoEnd) (same_from_push taken before given last is).0 serves.no_end;
      };
      store = new.store;
      saves = saved;
    }

    module _ {T : Type 0} (turns : ℕ) (few : length longer ≤ turns) (start : ManagerState) (same_opening : opening ≡ opening_at start)
      where
        -- the event was the end or brought `stop`
        pub outcome_done : (value : T) → outcome ≡ Done → ServesTo turns start new stretch (Ok value)
        outcome_done value same = record {
          session = played;
          served = subst (λ o. ServedSession o turns new.machine stretch played) same_opening (served_played turns few);
          marks = new.marks;
          sent = subst (λ o. SentFor o (with_failed it.ending new.machine.history) longer answers new.marks stretch) same_opening sent_now;
          ends = is_over ((subst (IsEventOutcome false it.ending it.event.kind) same it.outcome_is).1);
        }
          where
            is_over : (it.event.kind ≡ End) ⊎ (it.ending ≡ stopped) → IsOver played
            is_over (inl end) = inl (taken, given, refl, end)
            is_over (inr stops) = inr stops

        -- the disk failed
        pub outcome_failed : outcome ≡ Failed → ServesTo {T = T} turns start new stretch (Err (Refused Disk))
        outcome_failed same = record {
          session = played;
          served = subst (λ o. ServedSession o turns new.machine stretch played) same_opening (served_played turns few);
          marks = new.marks;
          sent = subst (λ o. SentFor o (with_failed it.ending new.machine.history) longer answers new.marks stretch) same_opening sent_now;
          ends =
              let is = subst (IsEventOutcome false it.ending it.event.kind) same it.outcome_is in
              let P : Ending → Type 0 = λ e. WhereFailed e (Rose a.counts.disk c.counts.disk) in
              let rose = subst P is.1.1 saved.faults in
              λ status whole part last. ends (disk_failed is.1.1 rose last);
        }

-- nothing came since the wire failed
abbrev IsCut : ManagerState → ManagerState → SiteState → SiteState → Crashes → Crashes → Type 0
IsCut old new b c q r = (new ≡ old) × (c.contents ≡ b.contents) × Rose b.counts.wire c.counts.wire
    × Saves going old.form old.machine new.machine new.store (span b c q r)
    × ((t : ℕ) (least : ℕ) (start : Sends) (taken : List GivenEvent) (answers : List (List (List Reply)))
    → ServesSince t old.form least old.machine.history old.machine.renewed start taken answers old.marks b q
    → ServesSince t old.form least old.machine.history old.machine.renewed start taken answers old.marks c r)

-- where none came, no event was taken
module _ {old new : ManagerState} {b c : SiteState} {q r : Crashes} where
  pub cut_unheard : {outcome : EventOutcome} → ServesEvent old new (record { before = b; after = c; was = q; is = r }) outcome → outcome ≡ Cut
      → IsCut old new b c q r
  cut_unheard (unheard same contents rose saves since) is = (same, contents, rose, saves, since)
  cut_unheard (took it) is =
      let no : false ≡ true = subst (IsEventOutcome false it.ending it.event.kind) is it.outcome_is in absurd (true≢false (sym no))

-- where the wire failed, no further event came
module _ {old new : ManagerState} {a b c : SiteState} {p q r : Crashes}
    {opening : Opening} {taken : List GivenEvent}
    (serves : HasServed opening taken old (record { before = a; after = b; was = p; is = q }))
    (cut : IsCut old new b c q r)
    (lawful : AreLawful c r) (sends : b.counts.send ≤ c.counts.send) (wire : a.counts.wire ≤ b.counts.wire)
  where
    abbrev over_all : Stretch
    over_all = record { before = a; after = c; was = p; is = r }

    contents_are : c.contents ≡ b.contents
    contents_are = cut.1

    sent_still : SentFor opening old.machine.history taken serves.answers old.marks over_all
    sent_still = record {
      given = λ new told. serves.sent.given new (sym (ap (λ (k : Contents). k.given) contents_are) ∙ told);
      told = λ some. serves.sent.told (subst (λ (k : Contents). IsSome k.sends) contents_are some);
      since = λ t start begins.
          let least = length opening.history in
          subst (λ z. ServesSince t opening.form least old.machine.history z start taken serves.answers old.marks c r) serves.saves.renewed
          (subst (λ x. ServesSince t x least old.machine.history old.machine.renewed start taken serves.answers old.marks c r) serves.follows.form_is
          (cut.4 t least start taken serves.answers
          (subst (λ x. ServesSince t x least old.machine.history old.machine.renewed start taken serves.answers old.marks b q) (sym serves.follows.form_is)
          (subst (λ z. ServesSince t opening.form least old.machine.history z start taken serves.answers old.marks b q) (sym serves.saves.renewed)
          (serves.sent.since t start begins)))));
      whole = λ none.
          let earlier = serves.sent.whole (λ rose. none (Rose-later a.counts.send b.counts.send c.counts.send rose sends)) in
          (earlier.0, λ start last told told'. earlier.1 start last told (sym (ap (λ (k : Contents). k.sends) contents_are) ∙ told'));
    }

    pub outcome_cut : {T : Type 0} (turns : ℕ) → length taken < turns → (start : ManagerState) → opening ≡ opening_at start
        → ServesTo {T = T} turns start new over_all (Err (Refused WireRefusal))
    outcome_cut turns few start same_opening = record {
      session = so_far serves;
      served = subst (λ o. ServedSession o turns new.machine over_all (so_far serves)) same_opening (record {
        opening_is = refl;
        last_is = sym (ap (λ (s : ManagerState). s.machine) cut.0);
        takes = (served_so_far serves turns (omega (arith, few))).takes;
        store = new.store;
        saves = saves_join going opening.form (start_of opening.history opening.renewed opening.boot) old.machine new.machine old.store new.store a b c p q r lawful
            serves.saves
            (subst (λ x. Saves going x old.machine new.machine new.store (span b c q r)) serves.follows.form_is cut.3);
      });
      marks = old.marks;
      sent = subst (λ o. SentFor o new.machine.history taken serves.answers old.marks over_all) same_opening
          (subst (λ (s : ManagerState). SentFor opening s.machine.history taken serves.answers old.marks over_all) (sym cut.0) sent_still);
      ends = λ status whole part last. wire_failed few (serves.no_end, refl)
          (Rose-earlier a.counts.wire b.counts.wire c.counts.wire wire cut.2) last;
    }

-- as many events as turns were taken
pub turns_out : {T : Type 0} {opening : Opening} {taken : List GivenEvent} {m : ManagerState} {a b : SiteState} {p q : Crashes}
    (serves : HasServed opening taken m (record { before = a; after = b; was = p; is = q }))
    (turns : ℕ) → length taken ≡ turns → (start : ManagerState) → opening ≡ opening_at start
    → ServesTo {T = T} turns start m (record { before = a; after = b; was = p; is = q }) (Err (Refused Turns))
turns_out {taken = taken} {m = m} {a = a} {b = b} {p = p} {q = q} serves turns all start same_opening = record {
  session = so_far serves;
  served = subst (λ o. ServedSession o turns m.machine (record { before = a; after = b; was = p; is = q }) (so_far serves)) same_opening
      (served_so_far serves turns (omega (arith, all)));
  marks = m.marks;
  sent = subst (λ o. SentFor o m.machine.history taken serves.answers m.marks (record { before = a; after = b; was = p; is = q })) same_opening serves.sent;
  ends = λ status whole part last. ends (out_of_turns all (serves.no_end, refl) last);
}
