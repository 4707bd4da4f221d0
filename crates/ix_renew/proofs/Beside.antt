-- Two machines side by side, whose histories begin otherwise and go on alike: what the one does the other does too.
use Rattle.std.proofs.Common.{◌≡◌, ◌⊎◌, ◌↔◌, inl, inr, ℕ, ◌+◌, ◌-◌, ◌^◌, ◌<◌, min, Bool, true, false, not, List, [], ◌∷◌, ◌++◌, length, Some, append_assoc, append-nil, refl, sym, ap, subst, arith}
use Rattle.std.proofs.lemmas.List.{length-append}
use Rattle.ix_words.specs.Each.{Each, no_item, item}
use Rattle.ix_words.proofs.Each.{Each-append}
use Rattle.ix_values.specs.PlainAction.{PlainAction}
use Rattle.ix_values.specs.declared.tickets.Ticket.{Ticket}
use Rattle.ix_journal.specs.History.{PlainHistory, Spent}
use Rattle.ix_journal.specs.declared.entries.Renewed.{Renewed}
use Rattle.ix_expr.specs.Form.{Form}
use Rattle.ix_expr.specs.Meaning.{IsComplete}
use Rattle.ix_can.specs.TreeOf.{tree_size}
use Rattle.ix_engine.specs.Allowed.{IsAllowed, IsPermitted}
use Rattle.ix_lease.specs.declared.Slot.{Slot}
use Rattle.ix_lease.specs.declared.Slot.TheVariants.{Free, Held}
use Rattle.ix_lines.specs.Items.{Item, line, too_long}
use Rattle.ix_lines.specs.Words.{words_of}
use Rattle.ix_outside.specs.Contents.{GivenEvent}
use Rattle.ix_proto.specs.Requests as request
use Rattle.ix_proto.specs.Requests.{PlainRequest, IsRequest, request_words}
use Rattle.ix_proto.specs.declared.reply.Reply.{Reply}
use Rattle.ix_proto.specs.declared.reply.Reply.TheVariants as reply
use Rattle.ix_manager.specs.Machine as machine
use Rattle.ix_manager.specs.Machine.{MachineState, MachineWatch, Polls, Step, Tells, count, next_ticket, start_of, word_of}
use Rattle.ix_manager.specs.Refusals.{disk}
use Rattle.ix_manager.specs.Runs as runs
use Rattle.ix_manager.specs.Runs.{Completes, Ending, ItemStep, Run, Steps, going, opening_of, raised, text_behind}
use Rattle.ix_manager.proofs.Changing.{Changes, keeps, empties, grants, stores}
use Rattle.ix_manager.proofs.LaterLemmas.{later_grows, steps_later}
use Rattle.ix_manager.proofs.SlotLemmas.{free_holds, same_ticket, some_ticket}

-- a state whose history is what was confirmed since a start, behind the history of the start
abbrev pub placed : PlainHistory → Renewed → MachineState → MachineState
placed history renewed m = record m { history = history ++ m.history; renewed = renewed }

-- two starts: the history of each, and what its carried actions stand for
pub record Sides : Type 0 where
  pub form : Form
  pub limit : ℕ
  pub one : PlainHistory
  pub one_stands : Renewed
  pub two : PlainHistory
  pub two_stands : Renewed

abbrev pub here : Sides → MachineState → MachineState
here k m = placed k.one k.one_stands m

abbrev pub there : Sides → MachineState → MachineState
there k m = placed k.two k.two_stands m

-- an action may come next in both or in neither, and both are complete or neither is
pub record ActAlike (x : Form) (limit : ℕ) (s t : MachineState) : Type 0 where
  pub permitted : (a : PlainAction) → IsPermitted x (word_of s) a ↔ IsPermitted x (word_of t) a
  pub allowed : (a : PlainAction) → IsAllowed x limit (word_of s) a ↔ IsAllowed x limit (word_of t) a
  pub complete : IsComplete x [] (word_of s) ↔ IsComplete x [] (word_of t)
  pub size : tree_size x (word_of s) ≡ tree_size x (word_of t)
  pub next_size : (a : PlainAction) → tree_size x (word_of s ++ a ∷ []) ≡ tree_size x (word_of t ++ a ∷ [])
  pub room : length s.history < 1000000
  pub other_room : length t.history < 1000000
  pub counts : count s ≡ count t

pub swapped : {x : Form} {limit : ℕ} {s t : MachineState} → ActAlike x limit s t → ActAlike x limit t s
swapped acts = record {
  permitted = λ a. let both = acts.permitted a in (both.1, both.0);
  allowed = λ a. let both = acts.allowed a in (both.1, both.0);
  complete = (acts.complete.1, acts.complete.0);
  size = sym acts.size;
  next_size = λ a. sym (acts.next_size a);
  room = acts.other_room;
  other_room = acts.room;
  counts = sym acts.counts;
}

-- what holds of both or of neither is told alike
tells_both : {P Q : Type 0} → P ↔ Q → (b : Bool) → Tells P b → Tells Q b
tells_both both true p = both.0 p
tells_both both false none = λ q. none (both.1 q)

polls_both : {P Q : PlainAction → Type 0} {name : List ℕ} {watches after : List MachineWatch} {changes : List Reply}
    → ((a : PlainAction) → P a ↔ Q a) → Polls P name watches changes after → Polls Q name watches changes after
polls_both both machine.done = machine.done
polls_both both (machine.other differs rest) = machine.other differs (polls_both both rest)
polls_both both (machine.same {watch = watch} named tells rest) =
    machine.same named (tells_both (both watch.action) watch.told tells) (polls_both both rest)
polls_both both (machine.changed {watch = watch} named tells rest) =
    machine.changed named (tells_both (both watch.action) (not watch.told) tells) (polls_both both rest)

-- a step of the one, and the other's
pub record Moves (k : Sides) (Left : PlainRequest → List Reply → List Reply → Type 0) (m : MachineState) (asked : PlainRequest)
    (replies : List Reply) (after : MachineState) : Type 0 where
  pub next : MachineState
  pub is : after ≡ here k next
  pub others : List Reply
  pub step : Step k.form k.limit (there k m) asked others (there k next)
  pub changes : Changes m next
  pub alike : (replies ≡ others) ⊎ Left asked replies others

module _ (k : Sides) (Left : PlainRequest → List Reply → List Reply → Type 0) (m : MachineState) where
  -- nothing changes
  pub stays : (asked : PlainRequest) (replies others : List Reply) → (replies ≡ others) ⊎ Left asked replies others
      → Step k.form k.limit (there k m) asked others (there k m) → Moves k Left m asked replies (here k m)
  stays asked replies others alike step = record {
    next = m;
    is = refl;
    others = others;
    step = step;
    changes = keeps refl refl refl refl refl;
    alike = alike;
  }

  -- no reservation is left
  frees : (asked : PlainRequest) (replies : List Reply)
      → Step k.form k.limit (there k m) asked replies (record (there k m) { slot = Free })
      → Moves k Left m asked replies (record (here k m) { slot = Free })
  frees asked replies step = record {
    next = record m { slot = Free };
    is = refl;
    others = replies;
    step = step;
    changes = empties refl refl refl refl refl;
    alike = inl refl;
  }

  -- the watches change
  watches_move : (asked : PlainRequest) (replies : List Reply) (after : List MachineWatch)
      → Step k.form k.limit (there k m) asked replies (record (there k m) { watches = after })
      → Moves k Left m asked replies (record (here k m) { watches = after })
  watches_move asked replies after step = record {
    next = record m { watches = after };
    is = refl;
    others = replies;
    step = step;
    changes = keeps refl refl refl refl refl;
    alike = inl refl;
  }

  -- an action is confirmed
  confirm_moves : (ticket : Ticket) (a : PlainAction) (deadline : ℕ) → count (here k m) ≡ count (there k m)
      → m.slot ≡ Held ticket a deadline → m.moment < deadline
      → Moves k Left m (request.confirm ticket) (reply.Confirmed (count (here k m) + 1) ∷ [])
      (record (here k m) { history = (here k m).history ++ (Some ticket, a) ∷ []; slot = Free })
  confirm_moves ticket a deadline counts held before = record {
    next = record m { history = m.history ++ (Some ticket, a) ∷ []; slot = Free };
    is = λ i. record (here k m) { history = append_assoc k.one m.history ((Some ticket, a) ∷ []) i; slot = Free };
    others = reply.Confirmed (count (there k m) + 1) ∷ [];
    step = subst
        (λ (h : PlainHistory). Step k.form k.limit (there k m) (request.confirm ticket) (reply.Confirmed (count (there k m) + 1) ∷ [])
        (record (there k m) { history = h; slot = Free }))
        (append_assoc k.two m.history ((Some ticket, a) ∷ [])) (machine.confirmed a deadline held before);
    changes = stores ticket a deadline held before refl refl refl refl refl;
    alike = inl (ap (λ (n : ℕ). reply.Confirmed (n + 1) ∷ []) counts);
  }

  module _ (acts : ActAlike k.form k.limit (here k m) (there k m))
      (outcomes : (ticket : Ticket) (replies : List Reply) (after : MachineState)
      → Step k.form k.limit (here k m) (request.outcome ticket) replies after
      → Moves k Left m (request.outcome ticket) replies after)
      (logs : (number : ℕ) (replies : List Reply) (after : MachineState)
      → Step k.form k.limit (here k m) (request.log number) replies after
      → Moves k Left m (request.log number) replies after) where
    -- each step of the one is one of the other
    pub step_moves : {asked : PlainRequest} {replies : List Reply} {after : MachineState}
        → Step k.form k.limit (here k m) asked replies after → Moves k Left m asked replies after
    step_moves (machine.busy held ticket is before) = stays _ _ _ (inl refl) (machine.busy held ticket is before)
    step_moves (machine.not_permitted {a = a} shut none) =
        frees _ _ (machine.not_permitted shut (λ is. none ((acts.permitted a).1 is)))
    step_moves (machine.full shut may all) = let room = acts.room in absurd (omega (arith, room, all))
    step_moves (machine.large {a = a} shut may room over) =
        frees _ _ (machine.large shut ((acts.permitted a).0 may) acts.other_room (subst (λ (n : ℕ). k.limit < n) (acts.next_size a) over))
    step_moves (machine.granted {a = a} {lease = lease} shut is) = record {
      next = record m {
        slot = Held (next_ticket m) a (min (m.moment + lease) (2 ^ 64 - 1));
        number = m.number + 1;
      };
      is = refl;
      others = reply.Granted (next_ticket m) ∷ [];
      step = machine.granted shut ((acts.allowed a).0 is);
      changes = grants a _ refl refl refl refl refl;
      alike = inl refl;
    }
    step_moves (machine.ask_memory {a = a} shut may room) = frees _ _ (machine.ask_memory shut ((acts.permitted a).0 may) acts.other_room)
    step_moves (machine.confirmed {ticket = ticket} a deadline held before) = confirm_moves ticket a deadline acts.counts held before
    step_moves (machine.confirm_expired has shut) = stays _ _ _ (inl refl) (machine.confirm_expired has shut)
    step_moves (machine.confirm_no_such none) = stays _ _ _ (inl refl) (machine.confirm_no_such none)
    step_moves (machine.cancelled a deadline held before) = frees _ _ (machine.cancelled a deadline held before)
    step_moves (machine.cancel_expired has shut) = stays _ _ _ (inl refl) (machine.cancel_expired has shut)
    step_moves (machine.cancel_no_such none) = stays _ _ _ (inl refl) (machine.cancel_no_such none)
    step_moves (machine.outcome_confirmed {ticket = ticket} before behind a split place) =
        outcomes ticket _ _ (machine.outcome_confirmed before behind a split place)
    step_moves (machine.outcome_open {ticket = ticket} absent open_still) = outcomes ticket _ _ (machine.outcome_open absent open_still)
    step_moves (machine.outcome_no_such {ticket = ticket} absent shut none) = outcomes ticket _ _ (machine.outcome_no_such absent shut none)
    step_moves (machine.outcome_left_out {ticket = ticket} absent shut granted low) =
        outcomes ticket _ _ (machine.outcome_left_out absent shut granted low)
    step_moves (machine.outcome_never {ticket = ticket} absent shut granted above) =
        outcomes ticket _ _ (machine.outcome_never absent shut granted above)
    step_moves (machine.may {a = a} {answer = answer} tells) =
        stays _ _ _ (inl refl) (machine.may (tells_both (acts.permitted a) answer tells))
    step_moves (machine.watches_full none all) = stays _ _ _ (inl refl) (machine.watches_full none all)
    step_moves (machine.watches_new {a = a} {told = told} none few tells) =
        watches_move _ _ _ (machine.watches_new none few (tells_both (acts.allowed a) told tells))
    step_moves (machine.watches_again {a = a} {told = told} before behind watch split is tells) =
        watches_move _ _ _ (machine.watches_again before behind watch split is (tells_both (acts.allowed a) told tells))
    step_moves (machine.watch_memory few) = stays _ _ _ (inl refl) (machine.watch_memory few)
    step_moves (machine.dropped before behind watch split is) = watches_move _ _ _ (machine.dropped before behind watch split is)
    step_moves (machine.drop_no_such none) = stays _ _ _ (inl refl) (machine.drop_no_such none)
    step_moves (machine.polled polls) = watches_move _ _ _ (machine.polled (polls_both acts.allowed polls))
    step_moves (machine.poll_memory some) = stays _ _ _ (inl refl) (machine.poll_memory some)
    step_moves (machine.status {complete = complete} tells) =
        stays _ _ _
        (inl (λ i. reply.Status complete (acts.counts i) (acts.size i) ∷ []))
        (machine.status (tells_both acts.complete complete tells))
    step_moves (machine.entry {number = number} before behind split place above) =
        logs number _ _ (machine.entry before behind split place above)
    step_moves (machine.entry_left_out {number = number} low most) = logs number _ _ (machine.entry_left_out low most)
    step_moves (machine.no_such_entry {number = number} which) = logs number _ _ (machine.no_such_entry which)
    step_moves machine.stopping = stays _ _ _ (inl refl) machine.stopping

-- the pair's ticket is of a boot above these
abbrev pub IsAbove : ℕ → Spent → Type 0
IsAbove boots spent = (ticket : Ticket) → spent.0 ≡ Some ticket → boots < ticket.boot

-- the boot is above these, and so are those of the tickets that were spent and reserved since
pub record AreSince (boots boot : ℕ) (history : PlainHistory) (slot : Slot) : Type 0 where
  pub later : boots < boot
  pub spent : Each (IsAbove boots) history
  pub held : (ticket : Ticket) (a : PlainAction) (deadline : ℕ) → slot ≡ Held ticket a deadline → boots < ticket.boot

abbrev pub IsSince : ℕ → MachineState → Type 0
IsSince boots m = AreSince boots m.boot m.history m.slot

are_since : {boots boot boot' : ℕ} {history history' : PlainHistory} {slot slot' : Slot}
    → history' ≡ history → slot' ≡ slot → boot' ≡ boot → AreSince boots boot history slot → AreSince boots boot' history' slot'
are_since {boots = boots} {boot = boot} {boot' = boot'} {history = history} {history' = history'} {slot = slot} {slot' = slot'} h k b since =
    subst (λ (v : ℕ). AreSince boots v history' slot') (sym b)
    (subst (λ (v : PlainHistory). AreSince boots boot v slot') (sym h)
    (subst (λ (v : Slot). AreSince boots boot history v) (sym k) since))

since_changes : {boots : ℕ} {m n : MachineState} → Changes m n → IsSince boots m → IsSince boots n
since_changes (keeps h k b n d) since = are_since h k b since
since_changes (empties h k b n d) since =
    are_since h k b (record { later = since.later; spent = since.spent; held = λ ticket a deadline is. free_holds ticket a deadline is })
since_changes {boots = boots} {m = m} (grants a deadline h k b n d) since = are_since h k b (record {
  later = since.later;
  spent = since.spent;
  held = λ ticket c end is.
      let own : next_ticket m ≡ ticket = same_ticket is in
      subst (λ (t : Ticket). boots < t.boot) own since.later;
})
since_changes {boots = boots} (stores ticket a deadline held before h k b n d) since = are_since h k b (record {
  later = since.later;
  spent = Each-append since.spent
      (item (λ other is. subst (λ (t : Ticket). boots < t.boot) (some_ticket is) (since.held ticket a deadline held)) no_item);
  held = λ ticket a deadline is. free_holds ticket a deadline is;
})

pub record ItemMoves (k : Sides) (One : Item → List Reply → List Reply → Type 0) (m : MachineState) (it : Item) (replies : List Reply)
    (after : MachineState) (ending : Ending) : Type 0 where
  pub next : MachineState
  pub is : after ≡ here k next
  pub others : List Reply
  pub step : ItemStep k.form k.limit (there k m) it others (there k next) ending
  pub changes : Changes m next
  pub alike : One it replies others

pub record StepsMove (k : Sides) (Every : List Item → List (List Reply) → List (List Reply) → Type 0) (boots : ℕ) (m : MachineState)
    (its : List Item) (answers : List (List Reply)) (after : MachineState) (ending : Ending) : Type 0 where
  pub next : MachineState
  pub is : after ≡ here k next
  pub others : List (List Reply)
  pub steps : Steps k.form k.limit (there k m) its others (there k next) ending
  pub since : IsSince boots next
  pub alike : Every its answers others

pub record RunMoves (k : Sides) (Whole : List GivenEvent → List (List (List Reply)) → List (List (List Reply)) → Type 0) (boots boot : ℕ)
    (events : List GivenEvent) (answers : List (List (List Reply))) (last : MachineState) (ending : Ending) : Type 0 where
  pub next : MachineState
  pub is : last ≡ here k next
  pub others : List (List (List Reply))
  pub run : Run (opening_of k.form k.limit k.two k.two_stands boot) events others (there k next) ending
  pub since : IsSince boots next
  pub alike : Whole events answers others

module _ (k : Sides) (boots : ℕ) (Left : PlainRequest → List Reply → List Reply → Type 0)
    (One : Item → List Reply → List Reply → Type 0)
    (same : (it : Item) (replies : List Reply) → One it replies replies)
    (left : (bytes : List ℕ) (asked : PlainRequest) (replies others : List Reply) → IsRequest asked → words_of bytes ≡ request_words asked
    → Left asked replies others → One (line bytes) replies others) where
  -- the replies to a request's line
  line_alike : (bytes : List ℕ) (asked : PlainRequest) (replies others : List Reply) → IsRequest asked → words_of bytes ≡ request_words asked
      → (replies ≡ others) ⊎ Left asked replies others → One (line bytes) replies others
  line_alike bytes asked replies others valid words (inl is) =
      subst (λ (r : List Reply). One (line bytes) replies r) is (same (line bytes) replies)
  line_alike bytes asked replies others valid words (inr is) = left bytes asked replies others valid words is

  item_moves : {s after : MachineState} {it : Item} {replies : List Reply} {ending : Ending} (m : MachineState) → s ≡ here k m
      → ((asked : PlainRequest) (told : List Reply) (behind : MachineState) → Step k.form k.limit (here k m) asked told behind
      → Moves k Left m asked told behind)
      → ItemStep k.form k.limit s it replies after ending → ItemMoves k One m it replies after ending
  item_moves m is moves (runs.requested {bytes = bytes} asked {replies = replies} {after = after} valid words step) =
      let made = moves asked replies after (subst (λ (v : MachineState). Step k.form k.limit v asked replies after) is step) in record {
        next = made.next;
        is = made.is;
        others = made.others;
        step = runs.requested asked valid words made.step;
        changes = made.changes;
        alike = line_alike bytes asked replies made.others valid words made.alike;
      }
  item_moves m is moves (runs.refused {bytes = bytes} {code = code} fault) = record {
    next = m;
    is = is;
    others = reply.Refused code 0 ∷ [];
    step = runs.refused fault;
    changes = keeps refl refl refl refl refl;
    alike = same (line bytes) (reply.Refused code 0 ∷ []);
  }
  item_moves m is moves runs.over_long = record {
    next = m;
    is = is;
    others = reply.Refused 10 0 ∷ [];
    step = runs.over_long;
    changes = keeps refl refl refl refl refl;
    alike = same too_long (reply.Refused 10 0 ∷ []);
  }
  item_moves m is moves (runs.disk_failed {bytes = bytes} {ticket = ticket} {deadline = deadline} {a = a} valid words held before) = record {
    next = m;
    is = is;
    others = disk ∷ [];
    step = runs.disk_failed {ticket = ticket} {deadline = deadline} {a = a} valid words
        (subst (λ (v : MachineState). v.slot ≡ Held ticket a deadline) is held)
        (subst (λ (v : MachineState). v.moment < deadline) is before);
    changes = keeps refl refl refl refl refl;
    alike = same (line bytes) (disk ∷ []);
  }

  module _ (more_than bound : ℕ)
      (moves : (m : MachineState) → IsSince boots m → length (here k m).history + more_than < bound
      → (asked : PlainRequest) (told : List Reply) (behind : MachineState) → Step k.form k.limit (here k m) asked told behind
      → Moves k Left m asked told behind)
      (Every : List Item → List (List Reply) → List (List Reply) → Type 0)
      (none : (its : List Item) → Every its [] [])
      (more : (it : Item) (its : List Item) (one two : List Reply) (old new : List (List Reply)) → One it one two → Every its old new
      → Every (it ∷ its) (one ∷ old) (two ∷ new)) where
    -- there is as much room before
    room_before : (s after : MachineState) (its : List Item) (answers : List (List Reply)) (ending : Ending) (m : MachineState) → s ≡ here k m
        → Steps k.form k.limit s its answers after ending → length after.history + more_than < bound
        → length (here k m).history + more_than < bound
    room_before s after its answers ending m is steps room =
        let grows = later_grows (steps_later steps) in
        let long = ap length grows.1 in
        let parts = length-append s.history grows.0 in
        let same_long : length s.history ≡ length (here k m).history = ap (λ (v : MachineState). length v.history) is in
        omega (arith, long, parts, same_long, room)

    steps_move : {s after : MachineState} {its : List Item} {answers : List (List Reply)} {ending : Ending} (m : MachineState) → s ≡ here k m
        → IsSince boots m → length after.history + more_than < bound → Steps k.form k.limit s its answers after ending
        → StepsMove k Every boots m its answers after ending
    steps_move m is since room runs.none = record {
      next = m;
      is = is;
      others = [];
      steps = runs.none;
      since = since;
      alike = none [];
    }
    steps_move {s = s} {after = after} m is since room (runs.last {item = it} {others = its} {replies = replies} {ending = ending} step ends) =
        let enough = room_before s after (it ∷ its) (replies ∷ []) ending m is (runs.last step ends) room in
        let made = item_moves m is (moves m since enough) step in
        record {
          next = made.next;
          is = made.is;
          others = made.others ∷ [];
          steps = runs.last made.step ends;
          since = since_changes made.changes since;
          alike = more it its replies made.others [] [] made.alike (none its);
        }
    steps_move {s = s} {after = after} m is since room
        (runs.more {between = between} {item = it} {others = its} {replies = replies} {answers = answers} {ending = ending} step steps) =
        let enough = room_before s after (it ∷ its) (replies ∷ answers) ending m is (runs.more step steps) room in
        let made = item_moves m is (moves m since enough) step in
        let rest = steps_move made.next made.is (since_changes made.changes since) room steps in
        record {
          next = rest.next;
          is = rest.is;
          others = made.others ∷ rest.others;
          steps = runs.more made.step rest.steps;
          since = rest.since;
          alike = more it its replies made.others answers rest.others made.alike rest.alike;
        }

    module _ (boot : ℕ) (later : boots < boot)
        (Whole : List GivenEvent → List (List (List Reply)) → List (List (List Reply)) → Type 0)
        (nothing : Whole [] [] [])
        (further : (events : List GivenEvent) (old new : List (List (List Reply))) (given : GivenEvent) (completed : List Item)
        (one two : List (List Reply)) → Whole events old new → Completes (text_behind given.event.conn [] events) given completed
        → Every completed one two → Whole (events ++ given ∷ []) (old ++ one ∷ []) (new ++ two ∷ [])) where
      pub run_moves : {events : List GivenEvent} {answers : List (List (List Reply))} {last : MachineState} {ending : Ending}
          → length last.history + more_than < bound
          → Run (opening_of k.form k.limit k.one k.one_stands boot) events answers last ending
          → RunMoves k Whole boots boot events answers last ending
      run_moves room runs.begin = record {
        next = start_of [] k.one_stands boot;
        is = λ i. start_of (sym (append-nil k.one) i) k.one_stands boot;
        others = [];
        run = subst (λ (h : PlainHistory). Run (opening_of k.form k.limit k.two k.two_stands boot) [] [] (start_of h k.two_stands boot) going)
            (sym (append-nil k.two)) runs.begin;
        since = record { later = later; spent = no_item; held = λ ticket a deadline is. free_holds ticket a deadline is };
        alike = nothing;
      }
      run_moves {last = after} room
          (runs.takes {events = events} {answers = answers} {s = s} {ending = ending} given completed one run completes steps) =
          let grows = later_grows (steps_later steps) in
          let long = ap length grows.1 in
          let parts = length-append s.history grows.0 in
          let before = run_moves (omega (arith, long, parts, room)) run in
          let first = raised given.event.moment before.next in
          let made = steps_move first (ap (raised given.event.moment) before.is) before.since room steps in
          record {
            next = made.next;
            is = made.is;
            others = before.others ++ made.others ∷ [];
            run = runs.takes given completed made.others before.run completes made.steps;
            since = made.since;
            alike = further events answers before.others given completed one made.others before.alike completes made.alike;
          }
