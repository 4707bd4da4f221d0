-- Over a link that tells its manager: what a run that ended with `done`, or with a refusal, tells.
use Rattle.std.proofs.Common.{◌≡◌, ◌≢◌, ◌⊎◌, inl, inr, ℕ, ◌<◌, ◌≤◌, Option, None, Some, Result, Ok, Err, refl, sym, ◌∙◌, ap, subst, arith}
use Rattle.ix_values.specs.PlainAction.{PlainAction}
use Rattle.ix_values.specs.declared.tickets.Ticket.{Ticket}
use Rattle.ix_expr.specs.Form.{Form}
use Rattle.ix_proto.specs.Requests as request
use Rattle.ix_proto.specs.Requests.{PlainRequest}
use Rattle.ix_proto.specs.declared.reply.Reply.TheVariants as reply
use Rattle.ix_manager.specs.Later.{Later, stays, rises, answered, restarts}
use Rattle.ix_manager.specs.Machine.{MachineState}
use Rattle.ix_manager.proofs.Changing.{Changes, item_changes, keeps, empties, grants, stores}
use Rattle.ix_client.specs.Client.{GoesOnAfter, TakesTurn, TakesTurns, again, another, comes_to, done, ends, ends_with, left_out, never, none_left, unsure}
use Rattle.ix_client.specs.ClientLaws.{DoneRunsArePermanent, IsNewTicket}
use Rattle.ix_client.specs.Grant.{Grant}
use Rattle.ix_client.specs.Grants.{Heard, asked_by}
use Rattle.ix_client.specs.Hearing.{ComesOf, Confirms, Hears}
use Rattle.ix_client.specs.Laws.{IsPairOf, IsToldOver, StandsGranted}
use Rattle.ix_client.specs.Sound.{IsSound}
use Rattle.ix_client.specs.Links.{LinkState, TellsBy, Told, failed, stepped}
use Rattle.ix_client.specs.declared.ended.Ended.{Ended}
use Rattle.ix_client.specs.declared.ended.Ended.TheVariants as ended
use Rattle.ix_client.specs.declared.grants.AskFault.{AskFault}
use Rattle.ix_client.specs.declared.grants.AskFault.TheVariants as fault
use Rattle.ix_client.specs.declared.grants.Confirm.{Confirm}
use Rattle.ix_client.specs.declared.grants.Confirm.TheVariants as confirm
use Rattle.ix_client.specs.declared.turns.Turned.{Turned}
use Rattle.ix_client.specs.declared.turns.Turned.TheVariants as turned
use Rattle.ix_client.proofs.Lasting.{later_sound, step_sound}
use Rattle.ix_client.proofs.StepFacts.{Reserves, step_facts}
use Rattle.ix_client.proofs.ToldLemmas.{came, confirm_back, done_is_permanent, grants_stand, settle_back, settle_open, stands_behind}

-- a link that tells its manager told it before

told_before : (R : Form → ℕ → MachineState → MachineState → Type 0) (old new : Option Told) (after : Told) → TellsBy R old new → new ≡ Some after
    → (before : Told) × (old ≡ Some before)
told_before R None new after tells is = absurd (let no_one : None ≡ Some after = sym tells ∙ is in cc)
told_before R (Some before) new after tells is = (before, refl)

heard_before : (asked : PlainRequest) (heard : Heard) (s u : LinkState) (after : Told) → Hears asked heard s u → u.told ≡ Some after
    → (before : Told) × (s.told ≡ Some before)
heard_before asked heard s u after hears is = told_before (ComesOf asked heard) s.told u.told after hears.told is

turn_before : (g : Grant) (how : Turned) (s u : LinkState) (after : Told) → TakesTurn g how s u → u.told ≡ Some after → (before : Told) × (s.told ≡ Some before)
turn_before g how s u after (done number settles is) told = heard_before (request.outcome g.ticket) settles.heard s u after settles.hears told
turn_before g how s u after (never settles is) told = heard_before (request.outcome g.ticket) settles.heard s u after settles.hears told
turn_before g how s u after (left_out settles is) told = heard_before (request.outcome g.ticket) settles.heard s u after settles.hears told
turn_before g how s u after (again back confirmed t settles confirms is) told =
    let between = heard_before (request.confirm back.ticket) confirms.heard t u after confirms.hears told in
    heard_before (request.outcome g.ticket) settles.heard s t between.0 settles.hears between.1
turn_before g how s u after (unsure back settles is) told = heard_before (request.outcome g.ticket) settles.heard s u after settles.hears told

turns_before : {n : ℕ} {g : Grant} {how : Ended} {s u : LinkState} (after : Told) → TakesTurns n g how s u → u.told ≡ Some after → (before : Told) × (s.told ≡ Some before)
turns_before after none_left told = (after, told)
turns_before {g = g} {how = how} {s = s} {u = u} after (ends turn) told = turn_before g (turned.Over how) s u after turn told
turns_before {g = g} {s = s} after (another {back = back} {t = t} turn turns) told =
    let between = turns_before after turns told in turn_before g (turned.Unsure back) s t between.0 turn between.1

-- the manager is told here, and the grant stands
record Knows (g : Grant) (s : LinkState) : Type 0 where
  pub told : Told
  pub is : s.told ≡ Some told
  pub sound : IsSound told.machine
  pub stands : StandsGranted g told.machine

over_from : (g : Grant) (s u : LinkState) (after : Told) (knows : Knows g s) → u.told ≡ Some after → IsToldOver s u knows.told after
over_from g s u after knows is = record { before_is = knows.is; after_is = is; sound = knows.sound }

sound_behind : (asked : PlainRequest) (heard : Heard) (x : Form) (limit : ℕ) (s u : MachineState) → ComesOf asked heard x limit s u → IsSound s → IsSound u
sound_behind asked (Err why) x limit s u later sound = later_sound later sound
sound_behind asked (Ok None) x limit s u no_reply sound = absurd no_reply
sound_behind asked (Ok (Some first)) x limit s u (stepped later step) sound = step_sound step (later_sound later sound)
sound_behind asked (Ok (Some first)) x limit s u (failed is_confirm is_disk later) sound = later_sound later sound

-- behind one more call
knows_on : (g : Grant) (asked : PlainRequest) (heard : Heard) (s u : LinkState) (after : Told) → Hears asked heard s u → u.told ≡ Some after
    → Knows g s → Knows g u
knows_on g asked heard s u after hears is knows =
    let comes = came s u knows.told after (over_from g s u after knows is) hears in
    let before = knows.told in
    record {
      told = after;
      is = is;
      sound = sound_behind asked heard before.form before.limit before.machine after.machine comes knows.sound;
      stands = stands_behind asked heard before.form before.limit before.machine after.machine g comes knows.stands;
    }

over_unsure : (g back : Grant) (confirmed : Confirm) (s u : LinkState) → turned.Unsure back ≡ comes_to confirmed → Confirms g confirmed s u → back ≡ g
over_unsure g back (confirm.Done number) s u is confirms = absurd cc
over_unsure g back confirm.Expired s u is confirms = absurd cc
over_unsure g back (confirm.Unsure other) s u is confirms =
    let same : back ≡ other = cc in same ∙ confirm_back g other confirms.heard confirms.is

unsure_is : (g back : Grant) (s u : LinkState) → TakesTurn g (turned.Unsure back) s u → back ≡ g
unsure_is g back s u (done number settles is) = absurd cc
unsure_is g back s u (never settles is) = absurd cc
unsure_is g back s u (left_out settles is) = absurd cc
unsure_is g back s u (again other confirmed t settles confirms is) =
    over_unsure other back confirmed t u is confirms ∙ settle_open g other settles.heard settles.is
unsure_is g back s u (unsure other settles is) =
    let same : back ≡ other = cc in same ∙ settle_back g other settles.heard settles.is

turn_knows : (g : Grant) (how : Turned) (s u : LinkState) (after : Told) → TakesTurn g how s u → u.told ≡ Some after → Knows g s → Knows g u
turn_knows g how s u after (done number settles is) told knows = knows_on g (request.outcome g.ticket) settles.heard s u after settles.hears told knows
turn_knows g how s u after (never settles is) told knows = knows_on g (request.outcome g.ticket) settles.heard s u after settles.hears told knows
turn_knows g how s u after (left_out settles is) told knows = knows_on g (request.outcome g.ticket) settles.heard s u after settles.hears told knows
turn_knows g how s u after (unsure back settles is) told knows = knows_on g (request.outcome g.ticket) settles.heard s u after settles.hears told knows
turn_knows g how s u after (again back confirmed t settles confirms is) told knows =
    let between = heard_before (request.confirm back.ticket) confirms.heard t u after confirms.hears told in
    let there = knows_on g (request.outcome g.ticket) settles.heard s t between.0 settles.hears between.1 knows in
    knows_on g (request.confirm back.ticket) confirms.heard t u after confirms.hears told there

-- a confirm that ends a run with `done`
confirm_done : (g : Grant) (confirmed : Confirm) (number : ℕ) (s u : LinkState) (after : Told) (later : MachineState) → Confirms g confirmed s u
    → turned.Over (ended.Done number) ≡ comes_to confirmed → u.told ≡ Some after → Knows g s → Later after.form after.machine later
    → IsPairOf later number (Some g.ticket, g.action)
confirm_done g (confirm.Done other) number s u after later confirms is told knows rest =
    let same : number ≡ other = cc in
    subst (λ n. IsPairOf later n (Some g.ticket, g.action)) (sym same)
    (done_is_permanent s u knows.told after g other later (over_from g s u after knows told) knows.stands (inl confirms) rest)
confirm_done g confirm.Expired number s u after later confirms is told knows rest = absurd cc
confirm_done g (confirm.Unsure back) number s u after later confirms is told knows rest = absurd cc

turn_done : (g : Grant) (number : ℕ) (s u : LinkState) (after : Told) (later : MachineState) → TakesTurn g (turned.Over (ended.Done number)) s u
    → u.told ≡ Some after → Knows g s → Later after.form after.machine later → IsPairOf later number (Some g.ticket, g.action)
turn_done g number s u after later (done other settles is) told knows rest =
    let same : number ≡ other = cc in
    subst (λ n. IsPairOf later n (Some g.ticket, g.action)) (sym same)
    (done_is_permanent s u knows.told after g other later (over_from g s u after knows told) knows.stands (inr settles) rest)
turn_done g number s u after later (never settles is) told knows rest = absurd cc
turn_done g number s u after later (left_out settles is) told knows rest = absurd cc
turn_done g number s u after later (unsure back settles is) told knows rest = absurd cc
turn_done g number s u after later (again back confirmed t settles confirms is) told knows rest =
    let between = heard_before (request.confirm back.ticket) confirms.heard t u after confirms.hears told in
    let there = knows_on g (request.outcome g.ticket) settles.heard s t between.0 settles.hears between.1 knows in
    let same : back ≡ g = settle_open g back settles.heard settles.is in
    confirm_done g confirmed number t u after later (subst (λ (v : Grant). Confirms v confirmed t u) same confirms) is told there rest

turns_done : {n : ℕ} {g : Grant} {how : Ended} {s u : LinkState} (number : ℕ) (after : Told) (later : MachineState) → TakesTurns n g how s u
    → how ≡ ended.Done number → u.told ≡ Some after → Knows g s → Later after.form after.machine later
    → IsPairOf later number (Some g.ticket, g.action)
turns_done number after later none_left is told knows rest = absurd cc
turns_done {g = g} {how = how} {s = s} {u = u} number after later (ends turn) is told knows rest =
    turn_done g number s u after later (subst (λ (v : Ended). TakesTurn g (turned.Over v) s u) is turn) told knows rest
turns_done {g = g} {s = s} number after later (another {back = back} {t = t} turn turns) is told knows rest =
    let between = turns_before after turns told in
    let same : back ≡ g = unsure_is g back s t turn in
    let there = turn_knows g (turned.Unsure back) s t between.0 turn between.1 knows in
    subst (λ (v : Grant). IsPairOf later number (Some v.ticket, v.action)) same
    (turns_done number after later turns is told (subst (λ (v : Grant). Knows v t) (sym same) there) rest)

-- the ticket of the ask

abbrev AreNoFewer : MachineState → MachineState → Type 0
AreNoFewer s u = (s.boot < u.boot) ⊎ ((u.boot ≡ s.boot) × (s.number ≤ u.number))

no_fewer_join : (s t u : MachineState) → AreNoFewer s t → AreNoFewer t u → AreNoFewer s u
no_fewer_join s t u (inl first) (inl second) = inl (omega (arith, first, second))
no_fewer_join s t u (inl first) (inr second) = let same = second.0 in inl (omega (arith, first, same))
no_fewer_join s t u (inr first) (inl second) = let same = first.0 in inl (omega (arith, same, second))
no_fewer_join s t u (inr first) (inr second) = let f = first.1 in let g = second.1 in inr (second.0 ∙ first.0, omega (arith, f, g))

changes_no_fewer : {s u : MachineState} → Changes s u → AreNoFewer s u
changes_no_fewer (keeps h k b n m) = inr (b, omega (arith, n))
changes_no_fewer (empties h k b n m) = inr (b, omega (arith, n))
changes_no_fewer (grants a deadline h k b n m) = inr (b, omega (arith, n))
changes_no_fewer (stores ticket a deadline held before h k b n m) = inr (b, omega (arith, n))

later_no_fewer : {x : Form} {s later : MachineState} → Later x s later → AreNoFewer s later
later_no_fewer stays = inr (refl, omega arith)
later_no_fewer (rises moment rest) = later_no_fewer rest
later_no_fewer {s = s} {later = later} (answered {between = between} step rest) =
    no_fewer_join s between later (changes_no_fewer (item_changes step)) (later_no_fewer rest)
later_no_fewer {s = s} {later = later} (restarts {kept = kept} may rest) = elim (later_no_fewer rest) [
  | inl up ↦ inl (omega (arith, up))
  | inr same ↦ let boot = same.0 in inl (omega (arith, boot))
]

fresh_ticket : (s between : MachineState) (ticket : Ticket) → ticket.boot ≡ between.boot → ticket.seq ≡ between.number → AreNoFewer s between → IsNewTicket s ticket
fresh_ticket s between ticket boot seq (inl up) = inl (omega (arith, boot, up))
fresh_ticket s between ticket boot seq (inr same) = let number = same.1 in inr (boot ∙ same.0, omega (arith, seq, number))

asked_fresh : (a : PlainAction) (lease : ℕ) (g : Grant) (heard : Heard) (x : Form) (limit : ℕ) (s u : MachineState) → Ok g ≡ asked_by a heard
    → ComesOf (request.ask a lease) heard x limit s u → IsNewTicket s g.ticket × (g.action ≡ a)
asked_fresh a lease g (Ok (Some (reply.Granted ticket))) x limit s u is (stepped {between = between} later step) =
    let facts = step_facts step in
    let reserves : Reserves between u a ticket = facts.told in
    let made : g ≡ record { ticket = ticket; action = a } = same_grant is in
    let tickets : g.ticket ≡ ticket = ap (λ (v : Grant). v.ticket) made in (
      fresh_ticket s between g.ticket (ap (λ (t : Ticket). t.boot) (tickets ∙ reserves.ticket_is)) (ap (λ (t : Ticket). t.seq) (tickets ∙ reserves.ticket_is))
          (later_no_fewer later),
      ap (λ (v : Grant). v.action) made,
    )
  where
    same_grant : {v w : Grant} → let left : Result Grant AskFault = Ok v in left ≡ Ok w → v ≡ w
    same_grant e = cc
asked_fresh a lease g (Ok (Some (reply.Granted ticket))) x limit s u is (failed {ticket = other} is_confirm is_disk later) =
    absurd (let no_ask : request.ask a lease ≡ request.confirm other = is_confirm in cc)
asked_fresh a lease g _ x limit s u is comes = absurd cc

-- a run that ended with `done`

from_before : (first : Turned) (how : Ended) (s u : LinkState) (after : Told) → GoesOnAfter first how s u → u.told ≡ Some after → (before : Told) × (s.told ≡ Some before)
from_before (turned.Over over) how s u after goes told = (after, subst (λ (v : LinkState). v.told ≡ Some after) goes.1 told)
from_before (turned.Unsure g) how s u after turns told = turns_before after turns told

from_done : (g : Grant) (confirmed : Confirm) (number : ℕ) (s t u : LinkState) (after : Told) (later : MachineState) → Confirms g confirmed s t
    → GoesOnAfter (comes_to confirmed) (ended.Done number) t u → u.told ≡ Some after → Knows g s → Later after.form after.machine later
    → IsPairOf later number (Some g.ticket, g.action)
from_done g (confirm.Done other) number s t u after later confirms goes told knows rest =
    confirm_done g (confirm.Done other) number s t after later confirms (ap (λ (v : Ended). turned.Over v) goes.0)
    (subst (λ (v : LinkState). v.told ≡ Some after) goes.1 told) knows rest
from_done g confirm.Expired number s t u after later confirms goes told knows rest =
    absurd (let no_end : ended.Done number ≡ ended.Never = goes.0 in cc)
from_done g (confirm.Unsure back) number s t u after later confirms turns told knows rest =
    let between = turns_before after turns told in
    let there = knows_on g (request.confirm g.ticket) confirms.heard s t between.0 confirms.hears between.1 knows in
    let same : back ≡ g = confirm_back g back confirms.heard confirms.is in
    subst (λ (v : Grant). IsPairOf later number (Some v.ticket, v.action)) same
    (turns_done number after later turns refl told (subst (λ (v : Grant). Knows v t) (sym same) there) rest)

pub done_runs_are_permanent : DoneRunsArePermanent
done_runs_are_permanent old new before after a lease number over (Ok g, t, asks, (confirmed, v, confirms, goes)) later rest =
    let confirmed_told = from_before (comes_to confirmed) (ended.Done number) v new after goes over.after_is in
    let asked_told = heard_before (request.confirm g.ticket) confirms.heard t v confirmed_told.0 confirms.hears confirmed_told.1 in
    let first : IsToldOver old t before asked_told.0 = record { before_is = over.before_is; after_is = asked_told.1; sound = over.sound } in
    let comes = came old t before asked_told.0 first asks.hears in
    let middle : Told = asked_told.0 in
    let fresh = asked_fresh a lease g asks.heard before.form before.limit before.machine middle.machine asks.is comes in
    let knows : Knows g t = record {
      told = middle;
      is = asked_told.1;
      sound = sound_behind (request.ask a lease) asks.heard before.form before.limit before.machine middle.machine comes over.sound;
      stands = (grants_stand old t before middle first).0 a lease g asks;
    } in (
      g.ticket,
      fresh.0,
      subst (λ b. IsPairOf later number (Some g.ticket, b)) fresh.1
          (from_done g confirmed number t v new after later confirms goes over.after_is knows rest),
    )
done_runs_are_permanent old new before after a lease number over (Err why, t, asks, (is, same)) later rest = absurd (no_done why is)
  where
    no_done : (why : AskFault) → ended.Done number ≢ ends_with why
    no_done (fault.Refused code) e = cc
    no_done fault.Memory e = cc
    no_done fault.Odd e = cc
    no_done fault.Link e = cc
