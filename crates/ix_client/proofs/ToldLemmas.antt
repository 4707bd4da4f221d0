-- Over a link that tells its manager: what the answers say of the manager's states.
use Rattle.std.proofs.Common.{◌≡◌, ◌≢◌, ◌⊎◌, inl, inr, ℕ, ◌==◌, true, false, List, [], ◌∷◌, ◌++◌, append_assoc, None, Some, Result, Ok, Err, refl, sym, ◌∙◌, ap, subst, arith, true≢false}
use Rattle.std.proofs.lemmas.Bool.Decides.{nat_tests}
use Rattle.ix_words.specs.Each.{Each, no_item, item}
use Rattle.ix_words.proofs.Each.{Each-append, Each-left, Each-right, Each-head, Each-weaker}
use Rattle.ix_values.specs.PlainAction.{PlainAction}
use Rattle.ix_values.specs.declared.tickets.Ticket.{Ticket}
use Rattle.ix_expr.specs.Form.{Form}
use Rattle.ix_journal.specs.History.{PlainHistory, Spent}
use Rattle.ix_lease.specs.declared.Slot.{Slot}
use Rattle.ix_lease.specs.declared.Slot.TheVariants.{Held}
use Rattle.ix_outside.specs.Counts.{Rose}
use Rattle.ix_proto.specs.Requests as request
use Rattle.ix_proto.specs.Requests.{PlainRequest}
use Rattle.ix_proto.specs.declared.reply.Outcome.TheVariants as became
use Rattle.ix_proto.specs.declared.reply.Reply.{Reply}
use Rattle.ix_proto.specs.declared.reply.Reply.TheVariants as reply
use Rattle.ix_manager.specs.Later.{Later}
use Rattle.ix_manager.specs.LaterLaws.{TellsOver}
use Rattle.ix_manager.specs.Machine.{IsAbsent, IsUngranted, MachineState, Step, ahead_of}
use Rattle.ix_manager.specs.Refusals.{disk}
use Rattle.ix_manager.proofs.LaterLemmas.{later_grows, later_renewed}
use Rattle.ix_manager.proofs.TicketLemmas.{later_over, next_absent, over_begins}
use Rattle.ix_client.specs.Grant.{Grant}
use Rattle.ix_client.specs.Grants.{Heard, asked_by, cancelled_by, confirmed_by, is_refusal_of_ask, refused_by, same_ticket, settled_by}
use Rattle.ix_client.specs.Hearing.{ComesOf, HasCause, Hears}
use Rattle.ix_client.specs.Laws.{AgreesWith, DoneIsPermanent, GrantsStand, IsHeardRefusal, IsPairOf, IsToldOver, NeverIsPermanent, StandsGranted, UnsureHasACause}
use Rattle.ix_client.specs.Links.{Answers, GoesOn, LinkState, TellsBy, Told, failed, stepped}
use Rattle.ix_client.specs.Sound.{IsSound, all_pairs, reserved}
use Rattle.ix_client.specs.declared.grants.AskFault.{AskFault}
use Rattle.ix_client.specs.declared.grants.AskFault.TheVariants as fault
use Rattle.ix_client.specs.declared.grants.Cancel.TheVariants as cancel
use Rattle.ix_client.specs.declared.grants.Confirm.TheVariants as confirm
use Rattle.ix_client.specs.declared.grants.Settle.TheVariants as settle
use Rattle.ix_client.proofs.CauseLemmas.{if_cases, refused_is, ticket_is_itself}
use Rattle.ix_client.proofs.Lasting.{later_sound, later_stands, sound_holds, step_stands}
use Rattle.ix_client.proofs.StepFacts.{KeepsPair, OfAsk, Reserves, StoresPair, step_facts}

-- what is told goes on
pub goes_on : {asked : PlainRequest} {heard : Heard} (old new : LinkState) (before after : Told) → IsToldOver old new before after
    → Hears asked heard old new → GoesOn (ComesOf asked heard) before after
goes_on {asked = asked} {heard = heard} old new before after over hears =
    subst (λ v. TellsBy (ComesOf asked heard) v (Some after)) over.before_is
    (subst (λ v. TellsBy (ComesOf asked heard) old.told v) over.after_is hears.told)

pub came : {asked : PlainRequest} {heard : Heard} (old new : LinkState) (before after : Told) → IsToldOver old new before after
    → Hears asked heard old new → ComesOf asked heard before.form before.limit before.machine after.machine
came old new before after over hears = let goes = goes_on old new before after over hears in goes.machine

-- a disk's failure is the reply to a confirm alone
ask_no_confirm : {P : Type 0} (a : PlainAction) (lease : ℕ) (ticket : Ticket) → request.ask a lease ≡ request.confirm ticket → P
ask_no_confirm a lease ticket is = absurd cc

cancel_no_confirm : {P : Type 0} (t ticket : Ticket) → request.cancel t ≡ request.confirm ticket → P
cancel_no_confirm t ticket is = absurd cc

outcome_no_confirm : {P : Type 0} (t ticket : Ticket) → request.outcome t ≡ request.confirm ticket → P
outcome_no_confirm t ticket is = absurd cc

confirmed_no_disk : {P : Type 0} (number : ℕ) → reply.Confirmed number ≡ disk → P
confirmed_no_disk number is = absurd cc

-- standing

pub stands_behind : (asked : PlainRequest) (heard : Heard) (x : Form) (limit : ℕ) (s u : MachineState) (g : Grant)
    → ComesOf asked heard x limit s u → StandsGranted g s → StandsGranted g u
stands_behind asked (Err fault) x limit s u g later stands = later_stands g later stands
stands_behind asked (Ok None) x limit s u g no_reply stands = absurd no_reply
stands_behind asked (Ok (Some first)) x limit s u g (stepped later step) stands = step_stands g step (later_stands g later stands)
stands_behind asked (Ok (Some first)) x limit s u g (failed is_confirm is_disk later) stands = later_stands g later stands

-- the grant of the next ticket
granted_stands : (s u : MachineState) (a : PlainAction) (ticket : Ticket) → IsSound s → Reserves s u a ticket
    → StandsGranted (record { ticket = ticket; action = a }) u
granted_stands s u a ticket sound reserves =
    let boots : ticket.boot ≡ s.boot = ap (λ (t : Ticket). t.boot) reserves.ticket_is in
    let seqs : ticket.seq ≡ s.number = ap (λ (t : Ticket). t.seq) reserves.ticket_is in
    let boot = reserves.boot in
    let number = reserves.number in
    let first = sound.boot in
    let second = sound.number in
    let pairs : all_pairs u ≡ s.history ++ (Some ticket, a) ∷ [] =
    ap (λ (v : Slot). u.history ++ reserved v) reserves.slot ∙ ap (λ (h : PlainHistory). h ++ (Some ticket, a) ∷ []) reserves.history in
    let absent : IsAbsent ticket s.history =
    subst (λ (t : Ticket). IsAbsent t s.history) (sym reserves.ticket_is)
    (Each-weaker (next_absent s.boot s.number) (Each-left s.history (reserved s.slot) sound.granted)) in
    record {
      boot = omega (arith, boots, first);
      number = omega (arith, seqs, second);
      granted = record {
        earlier = omega (arith, boots, boot);
        below = λ e. omega (arith, seqs, number);
      };
      agrees = subst (Each (AgreesWith (record { ticket = ticket; action = a }))) (sym pairs)
          (Each-append (Each-weaker (λ spent other is. absurd (other is)) absent) (item (λ is. refl) no_item));
    }

asked_stands : (a : PlainAction) (lease : ℕ) (g : Grant) (heard : Heard) (x : Form) (limit : ℕ) (s u : MachineState) → IsSound s
    → Ok g ≡ asked_by a heard → ComesOf (request.ask a lease) heard x limit s u → StandsGranted g u
asked_stands a lease g (Ok (Some (reply.Granted ticket))) x limit s u sound is (stepped {between = between} later step) =
    let made : g ≡ record { ticket = ticket; action = a } = same_grant is in
    let facts = step_facts step in
    subst (λ (v : Grant). StandsGranted v u) (sym made) (granted_stands between u a ticket (later_sound later sound) facts.told)
  where
    same_grant : {v w : Grant} → let left : Result Grant AskFault = Ok v in left ≡ Ok w → v ≡ w
    same_grant e = cc
asked_stands a lease g (Ok (Some (reply.Granted ticket))) x limit s u sound is (failed {ticket = other} is_confirm is_disk later) =
    ask_no_confirm a lease other is_confirm
asked_stands a lease g _ x limit s u sound is comes = absurd cc

pub confirm_back : (g back : Grant) (heard : Heard) → confirm.Unsure back ≡ confirmed_by g heard → back ≡ g
confirm_back g back (Ok (Some (reply.Confirmed number))) is = absurd cc
confirm_back g back (Ok (Some (reply.Refused code number))) is =
    elim (if_cases (code == 31) confirm.Expired (confirm.Unsure g) (confirm.Unsure back) is) [
      | inl holds ↦ let e = holds.1 in absurd cc
      | inr fails ↦ let e = fails.1 in cc
    ]
confirm_back g back _ is = cc

pub cancel_back : (g back : Grant) (heard : Heard) → cancel.Unsure back ≡ cancelled_by g heard → back ≡ g
cancel_back g back (Ok (Some (reply.Cancelled told))) is =
    elim (if_cases (same_ticket told g.ticket) cancel.Done (cancel.Unsure g) (cancel.Unsure back) is) [
      | inl holds ↦ let e = holds.1 in absurd cc
      | inr fails ↦ let e = fails.1 in cc
    ]
cancel_back g back (Ok (Some (reply.Refused code number))) is =
    elim (if_cases (code == 31) cancel.Expired (cancel.Unsure g) (cancel.Unsure back) is) [
      | inl holds ↦ let e = holds.1 in absurd cc
      | inr fails ↦ let e = fails.1 in cc
    ]
cancel_back g back _ is = cc

pub settle_back : (g back : Grant) (heard : Heard) → settle.Unsure back ≡ settled_by g heard → back ≡ g
settle_back g back (Ok (Some (reply.Outcome (became.Confirmed place)))) is = absurd cc
settle_back g back (Ok (Some (reply.Outcome became.Waiting))) is = absurd cc
settle_back g back (Ok (Some (reply.Outcome became.Never))) is = absurd cc
settle_back g back (Ok (Some (reply.Refused code number))) is =
    elim (if_cases (code == 32) settle.LeftOut (settle.Unsure g) (settle.Unsure back) is) [
      | inl holds ↦ let e = holds.1 in absurd cc
      | inr fails ↦ let e = fails.1 in cc
    ]
settle_back g back _ is = cc

pub settle_open : (g back : Grant) (heard : Heard) → settle.Open back ≡ settled_by g heard → back ≡ g
settle_open g back (Ok (Some (reply.Outcome became.Waiting))) is = cc
settle_open g back (Ok (Some (reply.Refused code number))) is =
    elim (if_cases (code == 32) settle.LeftOut (settle.Unsure g) (settle.Open back) is) [
      | inl holds ↦ let e = holds.1 in absurd cc
      | inr fails ↦ let e = fails.1 in absurd cc
    ]
settle_open g back _ is = absurd cc

pub grants_stand : GrantsStand
grants_stand old new before after over = (
  λ a lease g asks.
      asked_stands a lease g asks.heard before.form before.limit before.machine after.machine over.sound asks.is
      (came old new before after over asks.hears),
  λ g back stands by. elim by [
    | inl confirms ↦ both (confirm_back g back confirms.heard confirms.is)
        (stands_behind (request.confirm g.ticket) confirms.heard before.form before.limit before.machine after.machine g
        (came old new before after over confirms.hears) stands)
    | inr (inl cancels) ↦ both (cancel_back g back cancels.heard cancels.is)
        (stands_behind (request.cancel g.ticket) cancels.heard before.form before.limit before.machine after.machine g
        (came old new before after over cancels.hears) stands)
    | inr (inr (inl settles)) ↦ both (settle_back g back settles.heard settles.is)
        (stands_behind (request.outcome g.ticket) settles.heard before.form before.limit before.machine after.machine g
        (came old new before after over settles.hears) stands)
    | inr (inr (inr settles)) ↦ both (settle_open g back settles.heard settles.is)
        (stands_behind (request.outcome g.ticket) settles.heard before.form before.limit before.machine after.machine g
        (came old new before after over settles.hears) stands)
  ],
)
  where
    both : {g back : Grant} → back ≡ g → StandsGranted g after.machine → (back ≡ g) × StandsGranted back after.machine
    both same stands = (same, subst (λ (v : Grant). StandsGranted v after.machine) (sym same) stands)

-- done

pair_stays : {x : Form} {u later : MachineState} {number : ℕ} {spent : Spent} → Later x u later → IsPairOf u number spent → IsPairOf later number spent
pair_stays {u = u} {later = later} {spent = spent} rest is =
    let grows = later_grows rest in record {
      before = is.before;
      behind = is.behind ++ grows.0;
      split =
          sym grows.1 ∙ ap (λ (h : PlainHistory). h ++ grows.0) is.split
          ∙ append_assoc is.before (spent ∷ is.behind) grows.0;
      place = let at = is.place in omega (arith, at, ap ahead_of (later_renewed rest));
    }

-- a pair of a standing ticket has its action
stored_action : (g : Grant) (s : MachineState) (a : PlainAction) (deadline : ℕ) → StandsGranted g s → s.slot ≡ Held g.ticket a deadline → a ≡ g.action
stored_action g s a deadline stands held =
    let pairs : all_pairs s ≡ s.history ++ (Some g.ticket, a) ∷ [] = ap (λ (v : Slot). s.history ++ reserved v) held in
    Each-head (Each-right s.history ((Some g.ticket, a) ∷ []) (subst (Each (AgreesWith g)) pairs stands.agrees)) refl

kept_action : (g : Grant) (s : MachineState) (a : PlainAction) (before behind : PlainHistory) → StandsGranted g s
    → s.history ≡ before ++ (Some g.ticket, a) ∷ behind → a ≡ g.action
kept_action g s a before behind stands split =
    let kept = Each-left s.history (reserved s.slot) stands.agrees in
    Each-head (Each-right before ((Some g.ticket, a) ∷ behind) (subst (Each (AgreesWith g)) split kept)) refl

stored_pair : (g : Grant) (s u : MachineState) (number : ℕ) → StandsGranted g s → StoresPair s u g.ticket number → IsPairOf u number (Some g.ticket, g.action)
stored_pair g s u number stands stores = record {
  before = s.history;
  behind = [];
  split = stores.history ∙ ap (λ a. s.history ++ (Some g.ticket, a) ∷ []) (stored_action g s stores.action stores.deadline stands stores.held);
  place = let at = stores.place in omega (arith, at, ap ahead_of stores.renewed);
}

kept_pair : (g : Grant) (s u : MachineState) (number : ℕ) → StandsGranted g s → KeepsPair s u g.ticket number → IsPairOf u number (Some g.ticket, g.action)
kept_pair g s u number stands keeps = record {
  before = keeps.before;
  behind = keeps.behind;
  split =
      keeps.history ∙ keeps.split
      ∙ ap (λ a. keeps.before ++ (Some g.ticket, a) ∷ keeps.behind) (kept_action g s keeps.action keeps.before keeps.behind stands keeps.split);
  place = let at = keeps.place in omega (arith, at, ap ahead_of keeps.renewed);
}

done_confirm : (g : Grant) (number : ℕ) (heard : Heard) (x : Form) (limit : ℕ) (s u : MachineState) → StandsGranted g s
    → confirm.Done number ≡ confirmed_by g heard → ComesOf (request.confirm g.ticket) heard x limit s u → IsPairOf u number (Some g.ticket, g.action)
done_confirm g number (Ok (Some (reply.Confirmed told))) x limit s u stands is (stepped {between = between} later step) =
    let facts = step_facts step in
    let same : told ≡ number = same_number (sym is) in
    subst (λ n. IsPairOf u n (Some g.ticket, g.action)) same (stored_pair g between u told (later_stands g later stands) facts.told)
  where
    same_number : {m n : ℕ} → confirm.Done m ≡ confirm.Done n → m ≡ n
    same_number e = cc
done_confirm g number (Ok (Some (reply.Confirmed told))) x limit s u stands is (failed is_confirm is_disk later) = confirmed_no_disk told is_disk
done_confirm g number (Ok (Some (reply.Refused code other))) x limit s u stands is comes =
    elim (if_cases (code == 31) confirm.Expired (confirm.Unsure g) (confirm.Done number) is) [
      | inl holds ↦ let e = holds.1 in absurd cc
      | inr fails ↦ let e = fails.1 in absurd cc
    ]
done_confirm g number _ x limit s u stands is comes = absurd cc

done_settle : (g : Grant) (number : ℕ) (heard : Heard) (x : Form) (limit : ℕ) (s u : MachineState) → StandsGranted g s
    → settle.Done number ≡ settled_by g heard → ComesOf (request.outcome g.ticket) heard x limit s u → IsPairOf u number (Some g.ticket, g.action)
done_settle g number (Ok (Some (reply.Outcome (became.Confirmed told)))) x limit s u stands is (stepped {between = between} later step) =
    let facts = step_facts step in
    let same : told ≡ number = same_number (sym is) in
    subst (λ n. IsPairOf u n (Some g.ticket, g.action)) same (kept_pair g between u told (later_stands g later stands) facts.told)
  where
    same_number : {m n : ℕ} → settle.Done m ≡ settle.Done n → m ≡ n
    same_number e = cc
done_settle g number (Ok (Some (reply.Outcome (became.Confirmed told)))) x limit s u stands is (failed {ticket = other} is_confirm is_disk later) =
    outcome_no_confirm g.ticket other is_confirm
done_settle g number (Ok (Some (reply.Refused code other))) x limit s u stands is comes =
    elim (if_cases (code == 32) settle.LeftOut (settle.Unsure g) (settle.Done number) is) [
      | inl holds ↦ let e = holds.1 in absurd cc
      | inr fails ↦ let e = fails.1 in absurd cc
    ]
done_settle g number _ x limit s u stands is comes = absurd cc

pub done_is_permanent : DoneIsPermanent
done_is_permanent old new before after g number later over stands by rest = elim by [
  | inl confirms ↦
      pair_stays rest
      (done_confirm g number confirms.heard before.form before.limit before.machine after.machine stands confirms.is
      (came old new before after over confirms.hears))
  | inr settles ↦
      pair_stays rest
      (done_settle g number settles.heard before.form before.limit before.machine after.machine stands settles.is
      (came old new before after over settles.hears))
]

-- never

-- the step's reply tells that the ticket is over, so no later history has it
over_behind : (ticket : Ticket) (asked : PlainRequest) (first : Reply) (x y : Form) (limit : ℕ) (s u later : MachineState) → IsSound s
    → TellsOver asked (first ∷ []) ticket → ((replies : List Reply) (between : MachineState) → Step x limit between asked (first ∷ replies) u → replies ≡ [])
    → ((other : Ticket) → asked ≡ request.confirm other → first ≡ disk → ⊥)
    → Answers asked first x limit s u → Later y u later → IsAbsent ticket later.history
over_behind ticket asked first x y limit s u later sound tells alone no_disk (stepped {between = between} {others = others} before step) rest =
    let one : Step x limit between asked (first ∷ []) u = subst (λ replies. Step x limit between asked (first ∷ replies) u) (alone others between step) step in
    later_over rest (over_begins one (sound_holds between (later_sound before sound)) tells)
over_behind ticket asked first x y limit s u later sound tells alone no_disk (failed {ticket = other} is_confirm is_disk before) rest =
    absurd (no_disk other is_confirm is_disk)

one_confirm : (x : Form) (limit : ℕ) (s u : MachineState) (ticket : Ticket) (first : Reply) (replies : List Reply)
    → Step x limit s (request.confirm ticket) (first ∷ replies) u → replies ≡ []
one_confirm x limit s u ticket first replies step = let facts = step_facts step in facts.alone

one_cancel : (x : Form) (limit : ℕ) (s u : MachineState) (ticket : Ticket) (first : Reply) (replies : List Reply)
    → Step x limit s (request.cancel ticket) (first ∷ replies) u → replies ≡ []
one_cancel x limit s u ticket first replies step = let facts = step_facts step in facts.alone

one_outcome : (x : Form) (limit : ℕ) (s u : MachineState) (ticket : Ticket) (first : Reply) (replies : List Reply)
    → Step x limit s (request.outcome ticket) (first ∷ replies) u → replies ≡ []
one_outcome x limit s u ticket first replies step = let facts = step_facts step in facts.alone

refusal_no_disk : (code number : ℕ) → code ≡ 31 → reply.Refused code number ≡ disk → ⊥
refusal_no_disk code number is e = let same : code ≡ 91 = same_code e in omega (arith, is, same)
  where
    same_code : {c : ℕ} → reply.Refused c number ≡ disk → c ≡ 91
    same_code same = cc

code_is : (code : ℕ) → (code == 31) ≡ true → code ≡ 31
code_is code e = grind (arith, nat_tests)

never_settle : (g : Grant) (heard : Heard) (x y : Form) (limit : ℕ) (s u later : MachineState) → IsSound s
    → settle.Never ≡ settled_by g heard → ComesOf (request.outcome g.ticket) heard x limit s u → Later y u later → IsAbsent g.ticket later.history
never_settle g (Ok (Some (reply.Outcome became.Never))) x y limit s u later sound is comes rest =
    over_behind g.ticket (request.outcome g.ticket) (reply.Outcome became.Never) x y limit s u later sound refl
    (λ replies between step. one_outcome x limit between u g.ticket (reply.Outcome became.Never) replies step)
    (λ other e f. outcome_no_confirm g.ticket other e) comes rest
never_settle g (Ok (Some (reply.Refused code number))) x y limit s u later sound is comes rest =
    elim (if_cases (code == 32) settle.LeftOut (settle.Unsure g) settle.Never is) [
      | inl holds ↦ let e = holds.1 in absurd cc
      | inr fails ↦ let e = fails.1 in absurd cc
    ]
never_settle g _ x y limit s u later sound is comes rest = absurd cc

expired_confirm : (g : Grant) (heard : Heard) (x y : Form) (limit : ℕ) (s u later : MachineState) → IsSound s
    → confirm.Expired ≡ confirmed_by g heard → ComesOf (request.confirm g.ticket) heard x limit s u → Later y u later → IsAbsent g.ticket later.history
expired_confirm g (Ok (Some (reply.Refused code number))) x y limit s u later sound is comes rest =
    elim (if_cases (code == 31) confirm.Expired (confirm.Unsure g) confirm.Expired is) [
      | inl holds ↦
          over_behind g.ticket (request.confirm g.ticket) (reply.Refused code number) x y limit s u later sound (code_is code holds.0, refl)
          (λ replies between step. one_confirm x limit between u g.ticket (reply.Refused code number) replies step)
          (λ other e f. refusal_no_disk code number (code_is code holds.0) f) comes rest
      | inr fails ↦ let e = fails.1 in absurd cc
    ]
expired_confirm g _ x y limit s u later sound is comes rest = absurd cc

expired_cancel : (g : Grant) (heard : Heard) (x y : Form) (limit : ℕ) (s u later : MachineState) → IsSound s
    → cancel.Expired ≡ cancelled_by g heard → ComesOf (request.cancel g.ticket) heard x limit s u → Later y u later → IsAbsent g.ticket later.history
expired_cancel g (Ok (Some (reply.Refused code number))) x y limit s u later sound is comes rest =
    elim (if_cases (code == 31) cancel.Expired (cancel.Unsure g) cancel.Expired is) [
      | inl holds ↦
          over_behind g.ticket (request.cancel g.ticket) (reply.Refused code number) x y limit s u later sound (code_is code holds.0, refl)
          (λ replies between step. one_cancel x limit between u g.ticket (reply.Refused code number) replies step)
          (λ other e f. cancel_no_confirm g.ticket other e) comes rest
      | inr fails ↦ let e = fails.1 in absurd cc
    ]
expired_cancel g (Ok (Some (reply.Cancelled told))) x y limit s u later sound is comes rest =
    elim (if_cases (same_ticket told g.ticket) cancel.Done (cancel.Unsure g) cancel.Expired is) [
      | inl holds ↦ let e = holds.1 in absurd cc
      | inr fails ↦ let e = fails.1 in absurd cc
    ]
expired_cancel g _ x y limit s u later sound is comes rest = absurd cc

done_cancel : (g : Grant) (heard : Heard) (x y : Form) (limit : ℕ) (s u later : MachineState) → IsSound s
    → cancel.Done ≡ cancelled_by g heard → ComesOf (request.cancel g.ticket) heard x limit s u → Later y u later → IsAbsent g.ticket later.history
done_cancel g (Ok (Some (reply.Cancelled told))) x y limit s u later sound is comes rest =
    over_behind g.ticket (request.cancel g.ticket) (reply.Cancelled told) x y limit s u later sound refl
    (λ replies between step. one_cancel x limit between u g.ticket (reply.Cancelled told) replies step)
    (λ other e f. cancel_no_confirm g.ticket other e) comes rest
done_cancel g (Ok (Some (reply.Refused code number))) x y limit s u later sound is comes rest =
    elim (if_cases (code == 31) cancel.Expired (cancel.Unsure g) cancel.Done is) [
      | inl holds ↦ let e = holds.1 in absurd cc
      | inr fails ↦ let e = fails.1 in absurd cc
    ]
done_cancel g _ x y limit s u later sound is comes rest = absurd cc

pub never_is_permanent : NeverIsPermanent
never_is_permanent old new before after g later over by rest = elim by [
  | inl settles ↦
      never_settle g settles.heard before.form after.form before.limit before.machine after.machine later over.sound settles.is
      (came old new before after over settles.hears) rest
  | inr (inl confirms) ↦
      expired_confirm g confirms.heard before.form after.form before.limit before.machine after.machine later over.sound confirms.is
      (came old new before after over confirms.hears) rest
  | inr (inr (inl cancels)) ↦
      expired_cancel g cancels.heard before.form after.form before.limit before.machine after.machine later over.sound cancels.is
      (came old new before after over cancels.hears) rest
  | inr (inr (inr cancels)) ↦
      done_cancel g cancels.heard before.form after.form before.limit before.machine after.machine later over.sound cancels.is
      (came old new before after over cancels.hears) rest
]

-- unsure

ungranted_no_standing : (g : Grant) (s : MachineState) → StandsGranted g s → IsUngranted s.boot s.number g.ticket → ⊥
ungranted_no_standing g s stands (inl none) = let some = stands.boot in omega (arith, some, none)
ungranted_no_standing g s stands (inr (inl none)) = let some = stands.number in omega (arith, some, none)
ungranted_no_standing g s stands (inr (inr (inl later))) = let earlier = stands.granted.earlier in omega (arith, earlier, later)
ungranted_no_standing g s stands (inr (inr (inr above))) =
    let same = above.0 in let least = above.1 in let below = stands.granted.below same in omega (arith, least, below)

settled_unsure : (g back : Grant) (heard : Heard) (x : Form) (limit : ℕ) (s u : MachineState) (old new : LinkState) → StandsGranted g s
    → settle.Unsure back ≡ settled_by g heard → HasCause (request.outcome g.ticket) heard old new
    → ComesOf (request.outcome g.ticket) heard x limit s u → Rose old.faults new.faults
settled_unsure g back (Err fault) x limit s u old new stands is cause comes = cause
settled_unsure g back (Ok None) x limit s u old new stands is cause comes = absurd comes
settled_unsure g back (Ok (Some (reply.Outcome (became.Confirmed place)))) x limit s u old new stands is cause comes = absurd cc
settled_unsure g back (Ok (Some (reply.Outcome became.Waiting))) x limit s u old new stands is cause comes = absurd cc
settled_unsure g back (Ok (Some (reply.Outcome became.Never))) x limit s u old new stands is cause comes = absurd cc
settled_unsure g back (Ok (Some (reply.Refused code number))) x limit s u old new stands is cause (stepped {between = between} later step) =
    let facts = step_facts step in
    elim (if_cases (code == 32) settle.LeftOut (settle.Unsure g) (settle.Unsure back) is) [
      | inl holds ↦ let e = holds.1 in absurd cc
      | inr fails ↦ elim facts.told [
        | inl same ↦ absurd (let e : (code == 32) ≡ true = grind (arith, nat_tests) in true≢false (sym e ∙ fails.0))
        | inr ungranted ↦ absurd (ungranted_no_standing g between (later_stands g later stands) ungranted)
      ]
    ]
settled_unsure g back (Ok (Some first)) x limit s u old new stands is cause (stepped later step) = let facts = step_facts step in absurd facts.told
settled_unsure g back (Ok (Some first)) x limit s u old new stands is cause (failed {ticket = other} is_confirm is_disk later) =
    outcome_no_confirm g.ticket other is_confirm

not_code : (code : ℕ) → (code == 31) ≡ false → (code ≡ 31) ⊎ (code ≡ 30) → code ≡ 30
not_code code differs (inl same) = absurd (let e : (code == 31) ≡ true = grind (arith, nat_tests) in true≢false (sym e ∙ differs))
not_code code differs (inr same) = same

-- a refusal that doesn't tell that the ticket is over
other_refusal : (g back : Grant) (code number : ℕ) → confirm.Unsure back ≡ confirmed_by g (Ok (Some (reply.Refused code number)))
    → (code ≡ 31) ⊎ (code ≡ 30) → IsHeardRefusal (Ok (Some (reply.Refused code number)))
other_refusal g back code number is of =
    elim (if_cases (code == 31) confirm.Expired (confirm.Unsure g) (confirm.Unsure back) is) [
      | inl holds ↦ let e = holds.1 in absurd cc
      | inr fails ↦ (code, number, refl, inl (not_code code fails.0 of))
    ]

confirmed_unsure : (g back : Grant) (heard : Heard) (x : Form) (limit : ℕ) (s u : MachineState) (old new : LinkState)
    → confirm.Unsure back ≡ confirmed_by g heard → HasCause (request.confirm g.ticket) heard old new
    → ComesOf (request.confirm g.ticket) heard x limit s u → Rose old.faults new.faults ⊎ IsHeardRefusal heard
confirmed_unsure g back (Err fault) x limit s u old new is cause comes = inl cause
confirmed_unsure g back (Ok None) x limit s u old new is cause comes = absurd comes
confirmed_unsure g back (Ok (Some (reply.Confirmed number))) x limit s u old new is cause comes = absurd cc
confirmed_unsure g back (Ok (Some (reply.Refused code number))) x limit s u old new is cause (stepped later step) =
    let facts = step_facts step in inr (other_refusal g back code number is facts.told)
confirmed_unsure g back (Ok (Some first)) x limit s u old new is cause (stepped later step) = let facts = step_facts step in absurd facts.told
confirmed_unsure g back (Ok (Some first)) x limit s u old new is cause (failed is_confirm is_disk later) =
    inr (91, 0, ap (λ (r : Reply). let heard : Heard = Ok (Some r) in heard) is_disk, inr refl)

cancelled_unsure : (g back : Grant) (heard : Heard) (x : Form) (limit : ℕ) (s u : MachineState) (old new : LinkState)
    → cancel.Unsure back ≡ cancelled_by g heard → HasCause (request.cancel g.ticket) heard old new
    → ComesOf (request.cancel g.ticket) heard x limit s u → Rose old.faults new.faults ⊎ IsHeardRefusal heard
cancelled_unsure g back (Err fault) x limit s u old new is cause comes = inl cause
cancelled_unsure g back (Ok None) x limit s u old new is cause comes = absurd comes
cancelled_unsure g back (Ok (Some (reply.Cancelled told))) x limit s u old new is cause (stepped later step) =
    let facts = step_facts step in
    let own = ticket_is_itself told g.ticket facts.told in
    elim (if_cases (same_ticket told g.ticket) cancel.Done (cancel.Unsure g) (cancel.Unsure back) is) [
      | inl holds ↦ let e = holds.1 in absurd cc
      | inr fails ↦ absurd (true≢false (sym own ∙ fails.0))
    ]
cancelled_unsure g back (Ok (Some (reply.Refused code number))) x limit s u old new is cause (stepped later step) =
    let facts = step_facts step in
    elim (if_cases (code == 31) cancel.Expired (cancel.Unsure g) (cancel.Unsure back) is) [
      | inl holds ↦ let e = holds.1 in absurd cc
      | inr fails ↦ inr (code, number, refl, inl (not_code code fails.0 facts.told))
    ]
cancelled_unsure g back (Ok (Some first)) x limit s u old new is cause (stepped later step) = let facts = step_facts step in absurd facts.told
cancelled_unsure g back (Ok (Some first)) x limit s u old new is cause (failed {ticket = other} is_confirm is_disk later) =
    cancel_no_confirm g.ticket other is_confirm

-- an ask over a manager that is told

abbrev IsAnsweredAsk : PlainAction → ℕ → Result Grant AskFault → Form → ℕ → MachineState → MachineState → Type 0
IsAnsweredAsk a lease result x limit s u =
    (result ≢ Err fault.Odd)
    × ((between : MachineState) × (first : Reply) × Later x s between
    × Step x limit between (request.ask a lease) (first ∷ []) u × (result ≡ asked_by a (Ok (Some first))))

code_tests : (code : ℕ) → code ≡ 90 → (is_refusal_of_ask code ≡ false) × ((code == 90) ≡ true)
code_tests code is = rw is (refl, refl)

not_odd : (a : PlainAction) (s u : MachineState) (first : Reply) → OfAsk s u a first → asked_by a (Ok (Some first)) ≢ Err fault.Odd
not_odd a s u (reply.Granted ticket) of is = cc
not_odd a s u (reply.Refused code number) (inl refusal) is =
    let odd : refused_by code ≡ fault.Odd = cc in
    let e = sym (refused_is code refusal) ∙ odd in absurd (let no : fault.Refused code ≡ fault.Odd = e in cc)
not_odd a s u (reply.Refused code number) (inr memory) is =
    let odd : refused_by code ≡ fault.Odd = cc in
    let tests = code_tests code memory in
    let told : refused_by code ≡ fault.Memory = rw (tests.0, tests.1) refl in
    absurd (let no : fault.Memory ≡ fault.Odd = sym told ∙ odd in cc)
not_odd a s u _ of is = absurd of

asked_told : (a : PlainAction) (lease : ℕ) (result : Result Grant AskFault) (heard : Heard) (x : Form) (limit : ℕ) (s u : MachineState)
    → result ≡ asked_by a heard → result ≢ Err fault.Link → ComesOf (request.ask a lease) heard x limit s u → IsAnsweredAsk a lease result x limit s u
asked_told a lease result (Err why) x limit s u is no_link comes = absurd (no_link is)
asked_told a lease result (Ok None) x limit s u is no_link comes = absurd comes
asked_told a lease result (Ok (Some first)) x limit s u is no_link (stepped {between = between} {others = others} later step) =
    let facts = step_facts step in (
      λ odd. not_odd a between u first facts.told (sym is ∙ odd),
      (
        between,
        first,
        later,
        subst (λ replies. Step x limit between (request.ask a lease) (first ∷ replies) u) facts.alone step,
        is,
      ),
    )
asked_told a lease result (Ok (Some first)) x limit s u is no_link (failed {ticket = other} is_confirm is_disk later) =
    ask_no_confirm a lease other is_confirm

pub unsure_has_a_cause : UnsureHasACause
unsure_has_a_cause = record {
  settled = λ old new before after g back over stands settles.
      settled_unsure g back settles.heard before.form before.limit before.machine after.machine old new stands settles.is settles.hears.cause
      (came old new before after over settles.hears);
  confirmed = λ old new before after g back over confirms.
      confirmed_unsure g back confirms.heard before.form before.limit before.machine after.machine old new confirms.is confirms.hears.cause
      (came old new before after over confirms.hears);
  cancelled = λ old new before after g back over cancels.
      cancelled_unsure g back cancels.heard before.form before.limit before.machine after.machine old new cancels.is cancels.hears.cause
      (came old new before after over cancels.hears);
  asked = λ old new before after a lease result over asks no_link.
      asked_told a lease result asks.heard before.form before.limit before.machine after.machine asks.is no_link
      (came old new before after over asks.hears);
}
