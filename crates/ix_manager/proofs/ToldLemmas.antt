-- What a run told of tickets and of entries stays.
use Rattle.ix_journal.specs.declared.entries.Renewed.{Renewed}
use Rattle.std.proofs.Common.{◌≡◌, ◌≢◌, ℕ, ◌+◌, ◌<◌, ◌≤◌, List, [], ◌∷◌, ◌++◌, length, Some, append_assoc, refl, sym, ◌∙◌, ap, subst, arith}
use Rattle.std.proofs.lemmas.List.{length-map, map-append}
use Rattle.std.specs.Prelude.{⊤}
use Rattle.ix_words.specs.Each.{Each, no_item, item}
use Rattle.ix_words.proofs.Each.{Each-append, Each-member}
use Rattle.ix_values.specs.Laws.{TextsTellTicketsApart}
use Rattle.ix_values.specs.PlainAction.{PlainAction}
use Rattle.ix_values.specs.declared.tickets.Ticket.{Ticket}
use Rattle.ix_journal.specs.History.{PlainHistory, Spent, actions_of}
use Rattle.ix_expr.specs.Form.{Form}
use Rattle.ix_lines.specs.Items.{Item}
use Rattle.ix_outside.specs.Contents.{GivenEvent}
use Rattle.ix_proto.specs.Requests as request
use Rattle.ix_proto.specs.Requests.{PlainRequest, IsRequest}
use Rattle.ix_proto.specs.declared.reply.Outcome.TheVariants as became
use Rattle.ix_proto.specs.declared.reply.Reply.{Reply}
use Rattle.ix_proto.specs.declared.reply.Reply.TheVariants as reply
use Rattle.ix_manager.specs.Images.{IsStartable, with_failed}
use Rattle.ix_manager.specs.Later.{restarts, stays}
use Rattle.ix_manager.specs.LaterLaws.{IsEntryOf, TellsOver}
use Rattle.ix_manager.specs.Machine as machine
use Rattle.ix_manager.specs.Machine.{IsAbsent, MachineState, MachineWatch, Polls, Step, start_of, count_of}
use Rattle.ix_manager.specs.Refusals.{disk}
use Rattle.ix_manager.specs.Runs.{Ending, ItemStep, Opening, Run, Steps, begin, failed, going, last, more, none, requested, stopped, takes}
use Rattle.ix_manager.specs.ToldLaws.{AcknowledgedEntriesAreKept, AcknowledgedOutcomesAreKept, HasTicketAt, HasToldOver, TicketsAreOfTheirBoot, ToldEntriesAreKept, ToldOutcomesStay, ToldTicketsStayOver}
use Rattle.ix_manager.proofs.AnsweredLemmas.{answered_request, run_boot, run_kept, runs_stand, run_renewed}
use Rattle.ix_manager.proofs.Changing.{item_changes}
use Rattle.ix_manager.proofs.GrowingLemmas.{Grows, grows_not}
use Rattle.ix_manager.proofs.LaterLemmas.{changes_boot, entry_stays, entry_told, later_grows, later_join, later_renewed}
use Rattle.ix_manager.proofs.RequestsApart.{IsAlone, cancels_alone, confirms_alone, logs_alone, outcomes_alone}
use Rattle.ix_manager.proofs.StartTickets.{start_well}
use Rattle.ix_manager.proofs.TicketLemmas.{IsOver, later_over, later_well, over_begins, stays_over, well_holds}

-- a reply that grants a ticket grants one of this boot
abbrev GrantsOf : ℕ → Reply → Type 0
GrantsOf boot (reply.Granted ticket) = ticket.boot ≡ boot
GrantsOf boot _ = ⊤

polls_grant : {boot : ℕ} {allowed : PlainAction → Type 0} {name : List ℕ} {watches after : List MachineWatch} {changes : List Reply}
    → Polls allowed name watches changes after → Each (GrantsOf boot) changes
polls_grant machine.done = no_item
polls_grant (machine.other isnt polls) = polls_grant polls
polls_grant (machine.same is tells polls) = polls_grant polls
polls_grant (machine.changed is tells polls) = item tt (polls_grant polls)

step_grants : {x : Form} {limit : ℕ} {s after : MachineState} {asked : PlainRequest} {replies : List Reply}
    → Step x limit s asked replies after → Each (GrantsOf s.boot) replies
step_grants (machine.granted shut allowed) = item refl no_item
step_grants (machine.polled polls) = item tt (polls_grant polls)
step_grants _ = item tt no_item

item_grants : {x : Form} {limit : ℕ} {s after : MachineState} {it : Item} {replies : List Reply} {ending : Ending}
    → ItemStep x limit s it replies after ending → Each (GrantsOf s.boot) replies
item_grants (requested asked valid words step) = step_grants step
item_grants _ = item tt no_item

steps_grant : {x : Form} {limit : ℕ} {s after : MachineState} {its : List Item} {answers : List (List Reply)} {ending : Ending}
    → Steps x limit s its answers after ending → Each (Each (GrantsOf s.boot)) answers
steps_grant none = no_item
steps_grant (last step ends) = item (item_grants step) no_item
steps_grant (more {answers = answers} step steps) =
    item (item_grants step)
    (subst (λ boot. Each (Each (GrantsOf boot)) answers) (changes_boot (item_changes step)) (steps_grant steps))

run_grants : {opening : Opening} {events : List GivenEvent} {answers : List (List (List Reply))} {final : MachineState} {ending : Ending}
    → Run opening events answers final ending → Each (Each (Each (GrantsOf opening.boot))) answers
run_grants begin = no_item
run_grants (takes given completed told run completes steps) =
    Each-append (run_grants run)
    (item (subst (λ boot. Each (Each (GrantsOf boot)) told) (run_boot run) (steps_grant steps)) no_item)

pub tickets_are_of_their_boot : TicketsAreOfTheirBoot
tickets_are_of_their_boot opening events answers final ending ticket run has =
    Each-member (Each-member (Each-member (run_grants run) has.2) has.3) has.4

-- a reply that tells so is no disk's refusal, and its request is alone with its words
over_apart : (asked : PlainRequest) (ticket : Ticket) → TellsOver asked (disk ∷ []) ticket → ⊥
over_apart (request.confirm t) ticket tells = let code = tells.0 in omega (arith, code)
over_apart (request.cancel t) ticket tells = let code = tells.0 in omega (arith, code)
over_apart _ ticket tells = tells

over_alone : TextsTellTicketsApart → (asked : PlainRequest) (replies : List Reply) (ticket : Ticket) → TellsOver asked replies ticket
    → IsRequest asked → IsAlone asked
over_alone apart (request.confirm t) replies ticket tells valid = confirms_alone apart t valid
over_alone apart (request.cancel t) replies ticket tells valid = cancels_alone apart t valid
over_alone apart (request.outcome t) replies ticket tells valid = outcomes_alone apart t valid
over_alone apart _ replies ticket tells valid = absurd tells

-- where a run told so, the ticket is over in the next boot that starts from what the run left
pub told_over : TextsTellTicketsApart → (opening : Opening) (image : List ℕ) {events : List GivenEvent} {answers : List (List (List Reply))}
    {final : MachineState} {ending : Ending} (ticket : Ticket)
    → IsStartable opening image → Run opening events answers final ending → HasToldOver ticket events answers
    → IsOver (start_of (with_failed ending final.history) opening.renewed (opening.boot + 1)) ticket
told_over apart opening image {final = final} {ending = ending} ticket starts run told =
    let asked = told.0 in
    let tells = told.2 in
    let st = runs_stand (over_alone apart asked told.1 ticket tells (answered_request told.3))
    (λ is. over_apart asked ticket (subst (λ rs. TellsOver asked rs ticket) is tells)) run told.3 in
    subst (λ (both : Renewed × ℕ). IsOver (start_of (with_failed ending final.history) both.0 (both.1 + 1)) ticket)
    (λ i. (st.renewed i, st.boot i)) (stays_over (later_join st.comes (restarts st.keeps stays))
    (over_begins st.step (well_holds st.before (later_well st.reached (start_well opening image starts))) tells))

pub told_tickets_stay_over : TextsTellTicketsApart → ToldTicketsStayOver
told_tickets_stay_over apart opening image events answers final ending ticket starts run told =
    (told_over apart opening image ticket starts run told).absent

-- a ticket that is over where a run starts isn't in its history
pub over_in_run : {opening : Opening} {events : List GivenEvent} {answers : List (List (List Reply))} {final : MachineState} {ending : Ending}
    (ticket : Ticket) → Run opening events answers final ending → IsOver (start_of opening.history opening.renewed opening.boot) ticket
    → IsAbsent ticket (with_failed ending final.history)
over_in_run ticket run over = let kept = run_kept run in later_over (later_join kept.1 (restarts kept.2 stays)) over

-- the reply to an `outcome` tells the place of a pair
abbrev TellsPlace : PlainRequest → List Reply → Renewed → PlainHistory → Type 0
TellsPlace (request.outcome ticket) (reply.Outcome (became.Confirmed number) ∷ []) renewed history =
    HasTicketAt renewed history number ticket
TellsPlace _ _ renewed history = ⊤

place_told : {x : Form} {limit : ℕ} {s after : MachineState} {asked : PlainRequest} {replies : List Reply}
    → Step x limit s asked replies after → TellsPlace asked replies after.renewed after.history
place_told (machine.outcome_confirmed before behind a split place) =
    record { before = before; action = a; behind = behind; split = split; place = place }
place_told _ = tt

place_stays : (renewed : Renewed) (one two : PlainHistory) (number : ℕ) (ticket : Ticket) → Grows one two
    → HasTicketAt renewed one number ticket → HasTicketAt renewed two number ticket
place_stays renewed one two number ticket grows is = record {
  before = is.before;
  action = is.action;
  behind = is.behind ++ grows.0;
  split =
      sym grows.1 ∙ ap (λ (w : PlainHistory). w ++ grows.0) is.split
      ∙ append_assoc is.before ((Some ticket, is.action) ∷ is.behind) grows.0;
  place = is.place;
}

-- a reply that isn't a refusal
outcome_apart : (number : ℕ) → reply.Outcome (became.Confirmed number) ∷ [] ≢ disk ∷ []
outcome_apart number = λ is. cc

entry_apart : (number : ℕ) (a : PlainAction) → reply.Entry number a ∷ [] ≢ disk ∷ []
entry_apart number a = λ is. cc

pub told_outcomes_stay : TextsTellTicketsApart → ToldOutcomesStay
told_outcomes_stay apart opening events answers final ending ticket number run has =
    let st = runs_stand (outcomes_alone apart ticket (answered_request has)) (outcome_apart number) run has in
    let same : st.behind.renewed ≡ opening.renewed = sym (later_renewed st.rest) ∙ run_renewed run in
    place_stays opening.renewed st.behind.history final.history number ticket (later_grows st.rest)
    (subst (λ (r : Renewed). HasTicketAt r st.behind.history number ticket) same (place_told st.step))

pub told_entries_are_kept : ToldEntriesAreKept
told_entries_are_kept opening events answers final ending number a run has =
    let st = runs_stand (logs_alone number (answered_request has)) (entry_apart number a) run has in
    let same : st.behind.renewed ≡ opening.renewed = sym (later_renewed st.rest) ∙ run_renewed run in
    entry_stays opening.renewed st.behind.history final.history number a (later_grows st.rest)
    (subst (λ (r : Renewed). IsEntryOf r (actions_of st.behind.history) number a) same (entry_told st.step))

-- an item of a list whose place is in a front of it is one of the front
in_front : {A : Type 0} (front rest before behind : List A) (a : A) → before ++ a ∷ behind ≡ front ++ rest → length before < length front
    → (others : List A) × (front ≡ before ++ a ∷ others)
in_front [] rest before behind a same short = absurd (omega (arith, short))
in_front (b ∷ front) rest [] behind a same short = (front, let first : b ≡ a = cc in ap (λ c. c ∷ front) first)
in_front (b ∷ front) rest (c ∷ before) behind a same short =
    let others : before ++ a ∷ behind ≡ front ++ rest = cc in
    let it = in_front front rest before behind a others (omega (arith, short)) in
    let first : b ≡ c = cc in (it.0, ap (λ d. d ∷ front) first ∙ ap (λ l. c ∷ l) it.1)

failed_grows : (ending : Ending) (history : PlainHistory) → Grows history (with_failed ending history)
failed_grows going history = grows_not history
failed_grows stopped history = grows_not history
failed_grows (failed spent) history = (spent ∷ [], refl)

entry_in_front : (renewed : Renewed) (kept rest all : PlainHistory) (number : ℕ) (a : PlainAction) → kept ++ rest ≡ all
    → number ≤ count_of renewed kept
    → IsEntryOf renewed (actions_of all) number a → IsEntryOf renewed (actions_of kept) number a
entry_in_front renewed kept rest all number a prefix within is =
    let parts : actions_of kept ++ actions_of rest ≡ actions_of all =
    sym (map-append (λ (spent : Spent). spent.1) kept rest) ∙ ap actions_of prefix in
    let long = length-map kept (λ (spent : Spent). spent.1) in
    let place = is.place in
    let it = in_front (actions_of kept) (actions_of rest) is.before is.behind a (sym is.split ∙ sym parts) (omega (arith, within, long, place)) in
    record { before = is.before; behind = it.0; split = it.1; place = place }

ticket_in_front : (renewed : Renewed) (kept rest all : PlainHistory) (number : ℕ) (ticket : Ticket) → kept ++ rest ≡ all
    → number ≤ count_of renewed kept
    → HasTicketAt renewed all number ticket → HasTicketAt renewed kept number ticket
ticket_in_front renewed kept rest all number ticket prefix within is =
    let place = is.place in
    let it = in_front kept rest is.before is.behind (Some ticket, is.action) (sym is.split ∙ sym prefix) (omega (arith, within, place)) in
    record { before = is.before; action = is.action; behind = it.0; split = it.1; place = place }

pub acknowledged_entries_are_kept : AcknowledgedEntriesAreKept
acknowledged_entries_are_kept opening events answers final ending number a least replies before left run has image acked =
    let all = with_failed ending final.history in
    entry_in_front opening.renewed image.keeps.kept image.keeps.rest all number a image.keeps.prefix (image.acknowledged number acked)
    (entry_stays opening.renewed final.history all number a (failed_grows ending final.history)
    (told_entries_are_kept opening events answers final ending number a run has))

pub acknowledged_outcomes_are_kept : TextsTellTicketsApart → AcknowledgedOutcomesAreKept
acknowledged_outcomes_are_kept apart opening events answers final ending ticket number least replies before left run has image acked =
    let all = with_failed ending final.history in
    ticket_in_front opening.renewed image.keeps.kept image.keeps.rest all number ticket image.keeps.prefix (image.acknowledged number acked)
    (place_stays opening.renewed final.history all number ticket (failed_grows ending final.history)
    (told_outcomes_stay apart opening events answers final ending ticket number run has))
