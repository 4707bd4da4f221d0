-- The lines that a run sent tell of its history.
use Rattle.std.proofs.Common.{◌≡◌, ℕ, zero, suc, ◌+◌, ◌-◌, ◌<◌, ◌≤◌, ◌^◌, true, false, List, [], ◌∷◌, ◌++◌, length, drop, Some, refl, sym, ◌∙◌, ap, subst, arith}
use Rattle.std.specs.List.{slice_get}
use Rattle.std.specs.Prelude.{⊤, All}
use Rattle.std.proofs.lemmas.List.{length-drop, map-append}
use Rattle.std.proofs.lemmas.List.Elements.{All-head, All-tail}
use Rattle.ix_words.specs.Each.{Each, no_item, item}
use Rattle.ix_words.proofs.Each.{Each-append, Each-head, Each-right, Each-weaker}
use Rattle.ix_values.specs.PlainAction.{PlainAction, Word}
use Rattle.ix_values.specs.Texts.{IsAction}
use Rattle.ix_values.specs.declared.tickets.Ticket.{Ticket}
use Rattle.ix_journal.specs.Entries.{IsEntry as IsRecord, fresh, marks_of, pairs_of}
use Rattle.ix_journal.specs.History.{PlainHistory, Spent, actions_of}
use Rattle.ix_journal.specs.Recovery.{HoldsBoots, KeepsRecords, Recovers}
use Rattle.ix_journal.specs.inside.Counting.{AreSound}
use Rattle.ix_journal.specs.declared.entries.Renewed.{Renewed}
use Rattle.ix_journal.proofs.OrderLemmas.{sound-all, sound-fresh}
use Rattle.ix_journal.specs.Recovery as recovery
use Rattle.ix_journal.specs.declared.entries.Entry.{Entry as Record}
use Rattle.ix_journal.specs.declared.entries.Entry.TheVariants as record_of
use Rattle.ix_expr.specs.Form.{Form}
use Rattle.ix_lease.specs.declared.Slot.TheVariants.{Free, Held}
use Rattle.ix_lines.specs.Items.{Item}
use Rattle.ix_outside.specs.Contents.{GivenEvent}
use Rattle.ix_proto.specs.Replies.{TextsTellRepliesApart, reply_text}
use Rattle.ix_proto.specs.Requests.{PlainRequest, IsRequest}
use Rattle.ix_proto.specs.declared.reply.Reply.{Reply}
use Rattle.ix_proto.specs.declared.reply.Reply.TheVariants as reply
use Rattle.ix_follow.specs.Laws.{TellsOf}
use Rattle.ix_manager.specs.Later.{Later, MayKeep, answered, confirming, restarts, rises, stays, whole}
use Rattle.ix_manager.specs.LaterLaws.{IsEntryOf}
use Rattle.ix_manager.specs.Machine as machine
use Rattle.ix_manager.specs.Machine.{MachineState, MachineWatch, Polls, Step, start_of, word_of}
use Rattle.ix_manager.specs.Runs as runs
use Rattle.ix_manager.specs.Runs.{Ending, ItemStep, Opening, Run, Steps}
use Rattle.ix_manager.proofs.AnsweredLemmas.{run_renewed}
use Rattle.ix_manager.proofs.Changing.{steps_renewed}
use Rattle.ix_manager.proofs.GrowingLemmas.{Grows}
use Rattle.ix_manager.proofs.LaterLemmas.{entry_stays, later_grows, steps_later}
use Rattle.ix_manager.proofs.SlotLemmas.{free_holds}
use Rattle.ix_manage.specs.Managed.{SentLinesTell}

-- the actions of a state are some: those of its history, and the one that is reserved
record HasActions (s : MachineState) : Type 0 where
  pub kept : Each IsAction (word_of s)
  pub held : (ticket : Ticket) (a : PlainAction) (deadline : ℕ) → s.slot ≡ Held ticket a deadline → IsAction a

free_actions : (s : MachineState) → Each IsAction (word_of s) → s.slot ≡ Free → HasActions s
free_actions s kept free = record { kept = kept; held = λ ticket a deadline is. free_holds ticket a deadline (sym free ∙ is) }

confirmed_actions : (s : MachineState) (ticket : Ticket) (a : PlainAction) → Each IsAction (word_of s) → IsAction a
    → Each IsAction (actions_of (s.history ++ (Some ticket, a) ∷ []))
confirmed_actions s ticket a kept is =
    subst (Each IsAction) (sym (map-append (λ (spent : Spent). spent.1) s.history ((Some ticket, a) ∷ []))) (Each-append kept (item is no_item))

held_action : {ticket other : Ticket} {a b : PlainAction} {deadline later : ℕ} → Held ticket a deadline ≡ Held other b later → a ≡ b
held_action is = cc

step_actions : {x : Form} {limit : ℕ} {s after : MachineState} {asked : PlainRequest} {replies : List Reply}
    → IsRequest asked → Step x limit s asked replies after → HasActions s → HasActions after
step_actions {s = s} valid (machine.not_permitted shut isnt) has = free_actions (record s { slot = Free }) has.kept refl
step_actions {s = s} valid (machine.full shut is count) has = free_actions (record s { slot = Free }) has.kept refl
step_actions {s = s} valid (machine.large shut is free above) has = free_actions (record s { slot = Free }) has.kept refl
step_actions {s = s} valid (machine.ask_memory shut is free) has = free_actions (record s { slot = Free }) has.kept refl
step_actions {s = s} valid (machine.cancelled a deadline held before) has = free_actions (record s { slot = Free }) has.kept refl
step_actions valid (machine.granted shut allowed) has = record {
  kept = has.kept;
  held = λ ticket b deadline is. subst IsAction (held_action is) valid.0;
}
step_actions {s = s} valid (machine.confirmed {ticket = ticket} a deadline held before) has =
    free_actions (record s { history = s.history ++ (Some ticket, a) ∷ []; slot = Free })
    (confirmed_actions s ticket a has.kept (has.held ticket a deadline held)) refl
step_actions valid _ has = record { kept = has.kept; held = has.held }

item_actions : {x : Form} {limit : ℕ} {s after : MachineState} {it : Item} {replies : List Reply} {ending : Ending}
    → ItemStep x limit s it replies after ending → HasActions s → HasActions after
item_actions (runs.requested asked valid words step) has = step_actions valid step has
item_actions _ has = has

steps_actions : {x : Form} {limit : ℕ} {s after : MachineState} {its : List Item} {answers : List (List Reply)} {ending : Ending}
    → Steps x limit s its answers after ending → HasActions s → HasActions after
steps_actions runs.none has = has
steps_actions (runs.last step ends) has = item_actions step has
steps_actions (runs.more step steps) has = steps_actions steps (item_actions step has)

-- the actions of records are some
record_actions : (entries : List Record) → All IsRecord entries → Each IsAction (actions_of (pairs_of entries))
record_actions [] valid = no_item
record_actions (record_of.Renewed actions boots ∷ entries) valid = record_actions entries (All-tail IsRecord (record_of.Renewed actions boots) entries valid)
record_actions (record_of.Boot number ∷ entries) valid = record_actions entries (All-tail IsRecord (record_of.Boot number) entries valid)
record_actions (record_of.Spent ticket a ∷ entries) valid =
    item (All-head IsRecord (record_of.Spent ticket a) entries valid).1 (record_actions entries (All-tail IsRecord (record_of.Spent ticket a) entries valid))
record_actions (record_of.Plain a ∷ entries) valid =
    item (All-head IsRecord (record_of.Plain a) entries valid) (record_actions entries (All-tail IsRecord (record_of.Plain a) entries valid))

kept_actions : {image : List ℕ} {entries : List Record} → KeepsRecords image entries → Each IsAction (actions_of (pairs_of entries))
kept_actions (recovery.unfinished image is) = no_item
kept_actions (recovery.unopened image text is) = no_item
kept_actions (recovery.ready image text entries gate is) = record_actions entries is.closes.records.valid

recovered_actions : (image : List ℕ) (history : PlainHistory) → Recovers image history → Each IsAction (actions_of history)
recovered_actions image history is = subst (λ (h : PlainHistory). Each IsAction (actions_of h)) is.pairs (kept_actions is.keeps)

run_actions : {opening : Opening} {events : List GivenEvent} {answers : List (List (List Reply))} {final : MachineState} {ending : Ending}
    → Run opening events answers final ending → Each IsAction (actions_of opening.history) → HasActions final
run_actions runs.begin kept = free_actions _ kept refl
run_actions (runs.takes given completed told run completes steps) kept =
    let has = run_actions run kept in steps_actions steps (record { kept = has.kept; held = has.held })

-- a journal that holds boots carries no more actions than they stand for
holds_sound : {image : List ℕ} {entries : List Record} → KeepsRecords image entries → AreSound (marks_of entries)
holds_sound (recovery.unfinished image is) = sound-fresh
holds_sound (recovery.unopened image text is) = sound-fresh
holds_sound (recovery.ready image text entries gate is) = sound-all fresh entries sound-fresh is.closes.records.valid is.closes.records.order

carried_few : (image : List ℕ) (renewed : Renewed) (boots : ℕ) → HoldsBoots image renewed boots → renewed.carried ≤ renewed.actions
carried_few image renewed boots holds =
    let sound = holds_sound holds.keeps in subst (λ (r : Renewed). r.carried ≤ r.actions) holds.said sound.carried

-- a reply that is an entry tells the word's action of its number, which fits into 64 bits and isn't left out
abbrev TellsEntry : Renewed → Word → Reply → Type 0
TellsEntry renewed word (reply.Entry number a) = (number < 2 ^ 64) × (renewed.actions < number) × IsEntryOf renewed word number a
TellsEntry renewed word _ = ⊤

polls_tell : {allowed : PlainAction → Type 0} {name : List ℕ} {watches after : List MachineWatch} {changes : List Reply} (renewed : Renewed) (word : Word)
    → Polls allowed name watches changes after → Each (TellsEntry renewed word) changes
polls_tell renewed word machine.done = no_item
polls_tell renewed word (machine.other isnt polls) = polls_tell renewed word polls
polls_tell renewed word (machine.same is tells polls) = polls_tell renewed word polls
polls_tell renewed word (machine.changed is tells polls) = item tt (polls_tell renewed word polls)

step_tells : {x : Form} {limit : ℕ} {s after : MachineState} {asked : PlainRequest} {replies : List Reply}
    → IsRequest asked → Step x limit s asked replies after → Each (TellsEntry after.renewed (word_of after)) replies
step_tells valid (machine.entry before behind split place above) =
    item (valid, above, record { before = before; behind = behind; split = split; place = place }) no_item
step_tells {s = s} valid (machine.polled polls) = item tt (polls_tell s.renewed (word_of s) polls)
step_tells valid _ = item tt no_item

item_tells : {x : Form} {limit : ℕ} {s after : MachineState} {it : Item} {replies : List Reply} {ending : Ending}
    → ItemStep x limit s it replies after ending → Each (TellsEntry after.renewed (word_of after)) replies
item_tells (runs.requested asked valid words step) = step_tells valid step
item_tells _ = item tt no_item

-- what was told stays
entry_told_stays : (renewed : Renewed) (one two : PlainHistory) → Grows one two → (r : Reply) → TellsEntry renewed (actions_of one) r → TellsEntry renewed (actions_of two) r
entry_told_stays renewed one two grows (reply.Entry number a) tells = (tells.0, tells.1, entry_stays renewed one two number a grows tells.2)
entry_told_stays renewed one two grows _ tells = tt

told_stay : (renewed : Renewed) (one two : PlainHistory) → Grows one two → {replies : List Reply}
    → Each (TellsEntry renewed (actions_of one)) replies → Each (TellsEntry renewed (actions_of two)) replies
told_stay renewed one two grows each = Each-weaker (entry_told_stays renewed one two grows) each

steps_tell : {x : Form} {limit : ℕ} {s after : MachineState} {its : List Item} {answers : List (List Reply)} {ending : Ending}
    → Steps x limit s its answers after ending → Each (Each (TellsEntry after.renewed (word_of after))) answers
steps_tell runs.none = no_item
steps_tell (runs.last step ends) = item (item_tells step) no_item
steps_tell {after = after} (runs.more {between = between} {replies = replies} step steps) =
    item (told_stay after.renewed between.history after.history (later_grows (steps_later steps))
    (subst (λ (r : Renewed). Each (TellsEntry r (word_of between)) replies) (sym (steps_renewed steps)) (item_tells step))) (steps_tell steps)

run_tells : {opening : Opening} {events : List GivenEvent} {answers : List (List (List Reply))} {final : MachineState} {ending : Ending}
    → Run opening events answers final ending → Each (Each (Each (TellsEntry final.renewed (word_of final)))) answers
run_tells runs.begin = no_item
run_tells {final = final} (runs.takes {s = s} given completed told run completes steps) =
    Each-append
    (Each-weaker (λ answers each. Each-weaker (λ replies one. told_stay final.renewed s.history final.history (later_grows (steps_later steps))
    (subst (λ (r : Renewed). Each (TellsEntry r (word_of s)) replies) (sym (steps_renewed steps)) one)) each)
    (run_tells run))
    (item (steps_tell steps) no_item)

-- what stands behind a front
at_front : (before behind : Word) (a : PlainAction) → slice_get (before ++ a ∷ behind) (length before) ≡ Some a
at_front [] behind a = refl
at_front (b ∷ before) behind a = at_front before behind a

abbrev first_of : List ℕ → ℕ
first_of [] = 0
first_of (byte ∷ bytes) = byte

-- a text that begins with another byte than an entry's is none's
not_entry : {P : Type 0} (number : ℕ) (a : PlainAction) (text : List ℕ) (byte : ℕ) → reply_text (reply.Entry number a) ≡ text → first_of text ≡ byte
    → (101 ≡ byte → ⊥) → P
not_entry number a text byte is begins apart = absurd (apart (ap first_of is ∙ begins))

-- an item of the rest
at_behind : (front rest : Word) (n i : ℕ) (a : PlainAction) → n ≡ length front + i → slice_get rest i ≡ Some a
    → slice_get (front ++ rest) n ≡ Some a
at_behind [] rest n i a place is = subst (λ k. slice_get rest k ≡ Some a) (omega (arith, place)) is
at_behind (x ∷ front) rest zero i a place is = absurd (omega (arith, place))
at_behind (x ∷ front) rest (suc n) i a place is = at_behind front rest n i a (omega (arith, place)) is

-- without the first ones of a front
dropped : (front behind : Word) (a : PlainAction) (count : ℕ) → count ≤ length front
    → drop count (front ++ a ∷ behind) ≡ drop count front ++ a ∷ behind
dropped [] behind a zero few = refl
dropped [] behind a (suc count) few = absurd (omega (arith, few))
dropped (x ∷ front) behind a zero few = refl
dropped (x ∷ front) behind a (suc count) few = dropped front behind a count (omega (arith, few))

module _ (apart : TextsTellRepliesApart) (renewed : Renewed) (few : renewed.carried ≤ renewed.actions)
    (past : Word) (long : length past ≡ renewed.actions)
  where
    line_tells : (word : Word) → Each IsAction word → (r : Reply) → TellsEntry renewed word r
        → TellsOf (past ++ drop renewed.carried word) (reply_text r)
    line_tells word actions (reply.Entry n b) tells = λ number a is.
        let front = tells.2.before in
        let behind = tells.2.behind in
        let split = tells.2.split in
        let action : IsAction b = Each-head (Each-right front (b ∷ behind) (subst (Each IsAction) split actions)) in
        let same : reply.Entry number a ≡ reply.Entry n b = apart (reply.Entry number a) (reply.Entry n b) is.entry (tells.0, action) is.text in
        let numbers : number ≡ n = cc in
        let same_action : b ≡ a = cc in
        let place = tells.2.place in
        let above = tells.1 in
        let within : renewed.carried ≤ length front = omega (arith, place, above, few) in
        let count = length-drop renewed.carried front in
        let at : number - 1 ≡ length past + length (drop renewed.carried front) = omega (arith, numbers, place, above, few, long, count) in
        let rest : drop renewed.carried word ≡ drop renewed.carried front ++ b ∷ behind =
        ap (drop renewed.carried) split ∙ dropped front behind b renewed.carried within in
        subst (λ (w : Word). slice_get (past ++ w) (number - 1) ≡ Some a) (sym rest)
        (at_behind past (drop renewed.carried front ++ b ∷ behind) (number - 1) (length (drop renewed.carried front)) a at
        (subst (λ (c : PlainAction). slice_get (drop renewed.carried front ++ b ∷ behind) (length (drop renewed.carried front)) ≡ Some c) same_action
        (at_front (drop renewed.carried front) behind b)))
    line_tells word actions (reply.Granted ticket) tells = λ number a is. not_entry number a (reply_text (reply.Granted ticket)) 103 is.text refl (λ same. omega (arith, same))
    line_tells word actions (reply.Confirmed count) tells = λ number a is. not_entry number a (reply_text (reply.Confirmed count)) 99 is.text refl (λ same. omega (arith, same))
    line_tells word actions (reply.Cancelled ticket) tells = λ number a is. not_entry number a (reply_text (reply.Cancelled ticket)) 99 is.text refl (λ same. omega (arith, same))
    line_tells word actions (reply.Outcome outcome) tells = λ number a is. not_entry number a (reply_text (reply.Outcome outcome)) 111 is.text refl (λ same. omega (arith, same))
    line_tells word actions (reply.May true) tells = λ number a is. not_entry number a (reply_text (reply.May true)) 121 is.text refl (λ same. omega (arith, same))
    line_tells word actions (reply.May false) tells = λ number a is. not_entry number a (reply_text (reply.May false)) 110 is.text refl (λ same. omega (arith, same))
    line_tells word actions (reply.Watching answer) tells = λ number a is. not_entry number a (reply_text (reply.Watching answer)) 119 is.text refl (λ same. omega (arith, same))
    line_tells word actions reply.Dropped tells = λ number a is. not_entry number a (reply_text reply.Dropped) 100 is.text refl (λ same. omega (arith, same))
    line_tells word actions (reply.Changes count) tells = λ number a is. not_entry number a (reply_text (reply.Changes count)) 99 is.text refl (λ same. omega (arith, same))
    line_tells word actions (reply.Change true action) tells = λ number a is. not_entry number a (reply_text (reply.Change true action)) 121 is.text refl (λ same. omega (arith, same))
    line_tells word actions (reply.Change false action) tells = λ number a is. not_entry number a (reply_text (reply.Change false action)) 110 is.text refl (λ same. omega (arith, same))
    line_tells word actions (reply.Status complete count nodes) tells = λ number a is. not_entry number a (reply_text (reply.Status complete count nodes)) 115 is.text refl (λ same. omega (arith, same))
    line_tells word actions reply.Stopping tells = λ number a is. not_entry number a (reply_text reply.Stopping) 115 is.text refl (λ same. omega (arith, same))
    line_tells word actions (reply.Refused code number) tells = λ n a is. not_entry n a (reply_text (reply.Refused code number)) 114 is.text refl (λ same. omega (arith, same))

may_actions : {s : MachineState} {kept : PlainHistory} → HasActions s → MayKeep s kept → Each IsAction (actions_of kept)
may_actions has whole = has.kept
may_actions {s = s} has (confirming {ticket = ticket} {a = a} {deadline = deadline} held before) = confirmed_actions s ticket a has.kept (has.held ticket a deadline held)

later_actions : {x : Form} {s later : MachineState} → HasActions s → Later x s later → HasActions later
later_actions has stays = has
later_actions has (rises moment rest) = later_actions (record { kept = has.kept; held = has.held }) rest
later_actions has (answered step rest) = later_actions (item_actions step has) rest
later_actions {s = s} has (restarts {kept = kept} may rest) =
    later_actions (free_actions (start_of kept s.renewed (s.boot + 1)) (may_actions has may) refl) rest

pub sent_lines_tell : TextsTellRepliesApart → SentLinesTell
sent_lines_tell apart opening image events answers final later ending starts run comes before long =
    let has = later_actions (run_actions run (recovered_actions image opening.history starts.recovers)) comes in
    let few = carried_few image opening.renewed starts.boots starts.holds in
    let of_opening = run_renewed run in
    Each-weaker (λ event each. Each-weaker (λ replies one.
    Each-weaker (λ told tells. line_tells apart opening.renewed few before long (word_of later) has.kept told
    (subst (λ (r : Renewed). TellsEntry r (word_of later) told) of_opening
    (entry_told_stays final.renewed final.history later.history (later_grows comes) told tells))) one)
    each) (run_tells run)
