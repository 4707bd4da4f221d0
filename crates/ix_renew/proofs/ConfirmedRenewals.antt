-- A ticket that was confirmed is never told to be over, also over renewals.
use Rattle.std.proofs.Common.{◌≡◌, ◌≢◌, ◌⊎◌, inl, inr, ℕ, ◌+◌, ◌<◌, ◌≤◌, List, [], ◌∷◌, ◌++◌, Some, None, append_assoc, refl, sym, ◌∙◌, ap, subst, arith}
use Rattle.ix_words.specs.Each.{Each, no_item, item}
use Rattle.ix_words.proofs.Each.{Each-append, Each-head, Each-right, Each-same}
use Rattle.ix_values.specs.PlainAction.{PlainAction, Word}
use Rattle.ix_values.specs.declared.tickets.Ticket.{Ticket}
use Rattle.ix_journal.specs.History.{PlainHistory, Spent}
use Rattle.ix_journal.specs.declared.entries.Renewed.{Renewed}
use Rattle.ix_expr.specs.Form.{Form}
use Rattle.ix_lease.specs.Slots.{HasTicket}
use Rattle.ix_lease.specs.declared.Slot.TheVariants.{Held}
use Rattle.ix_proto.specs.Requests.{PlainRequest}
use Rattle.ix_proto.specs.declared.reply.Reply.{Reply}
use Rattle.ix_manager.specs.Granted.{IsGranted, WasGranted}
use Rattle.ix_manager.specs.Later.{Later, stays, rises, answered, restarts}
use Rattle.ix_manager.specs.LaterLaws.{TellsOver}
use Rattle.ix_manager.specs.Machine.{IsAbsent, MachineState, Step, confirmed, confirm_expired, confirm_no_such, cancelled, cancel_expired, cancel_no_such, outcome_confirmed, outcome_never}
use Rattle.ix_manager.proofs.Changing.{item_changes}
use Rattle.ix_manager.proofs.GrowingLemmas.{Grows}
use Rattle.ix_manager.proofs.LaterLemmas.{changes_boot, later_grows, later_renewed}
use Rattle.ix_manager.proofs.SlotLemmas.{free_holds, some_ticket}
use Rattle.ix_manager.proofs.StartTickets.{start_well}
use Rattle.ix_manager.proofs.TicketLemmas.{IsWell, held_with, later_well, well_holds}
use Rattle.ix_renew.specs.LaterRenewals.{ConfirmedTicketsStayConfirmed, LaterRenewed, TellsConfirmed, goes_on, renews, start_renewed, without_tickets}

-- a pair of the history has the ticket
record IsKept (history : PlainHistory) (ticket : Ticket) : Type 0 where
  pub before : PlainHistory
  pub action : PlainAction
  pub behind : PlainHistory
  pub split : history ≡ before ++ (Some ticket, action) ∷ behind

-- the ticket is kept, or its boot is one of the journals before, of which none goes on
abbrev WasConfirmed : MachineState → Ticket → Type 0
WasConfirmed s ticket = IsKept s.history ticket ⊎ ((ticket.boot ≤ s.renewed.boots) × (s.renewed.boots < s.boot))

kept_grows : (one two : PlainHistory) (ticket : Ticket) → Grows one two → IsKept one ticket → IsKept two ticket
kept_grows one two ticket grows is = record {
  before = is.before;
  action = is.action;
  behind = is.behind ++ grows.0;
  split =
      sym grows.1 ∙ ap (λ (h : PlainHistory). h ++ grows.0) is.split
      ∙ append_assoc is.before ((Some ticket, is.action) ∷ is.behind) grows.0;
}

-- boots don't fall
boot_rises : {x : Form} {s later : MachineState} → Later x s later → s.boot ≤ later.boot
boot_rises stays = omega arith
boot_rises (rises moment rest) = boot_rises rest
boot_rises (answered step rest) =
    let same = changes_boot (item_changes step) in let more = boot_rises rest in omega (arith, same, more)
boot_rises (restarts may rest) = let more = boot_rises rest in omega (arith, more)

confirmed_later : {x : Form} {s later : MachineState} (ticket : Ticket) → Later x s later → WasConfirmed s ticket → WasConfirmed later ticket
confirmed_later {s = s} {later = later} ticket rest (inl is) = inl (kept_grows s.history later.history ticket (later_grows rest) is)
confirmed_later {s = s} ticket rest (inr before) =
    let boots = ap (λ (r : Renewed). r.boots) (later_renewed rest) in
    let more = boot_rises rest in
    let one = before.0 in
    let two = before.1 in
    inr (omega (arith, one, boots), omega (arith, two, boots, more))

-- what holds of each pair holds of the ticket's
pair_of : (G : Spent → Type 0) (history : PlainHistory) (ticket : Ticket) (is : IsKept history ticket) → Each G history → G (Some ticket, is.action)
pair_of G history ticket is each = Each-head (Each-right is.before ((Some ticket, is.action) ∷ is.behind) (Each-same is.split each))

not_absent : (history : PlainHistory) (ticket : Ticket) → IsKept history ticket → IsAbsent ticket history → ⊥
not_absent history ticket is absent = pair_of (λ (spent : Spent). spent.0 ≢ Some ticket) history ticket is absent refl

-- a ticket that was confirmed is of a boot so far
boot_so_far : (s : MachineState) (ticket : Ticket) → IsWell s → WasConfirmed s ticket → ticket.boot ≤ s.boot
boot_so_far s ticket well (inl is) = (pair_of (WasGranted s.boot s.number) s.history ticket is well.kept ticket refl).earlier
boot_so_far s ticket well (inr before) = let one = before.0 in let two = before.1 in omega (arith, one, two)

-- the carried actions have no tickets
carried_granted : (boot number : ℕ) (carried : Word) → Each (WasGranted boot number) (without_tickets carried)
carried_granted boot number [] = no_item
carried_granted boot number (a ∷ carried) =
    item (λ ticket is. absurd (let no : None ≡ Some ticket = is in cc)) (carried_granted boot number carried)

renewed_well : (s : MachineState) (kept : PlainHistory) (carried : Word) → IsWell (start_renewed s kept carried)
renewed_well s kept carried = record {
  kept = carried_granted (s.boot + 1) 1 carried;
  held = λ ticket a deadline is. free_holds ticket a deadline is;
}

-- what is kept of a ticket that was confirmed
record StaysConfirmed (s : MachineState) (ticket : Ticket) : Type 0 where
  pub well : IsWell s
  pub was : WasConfirmed s ticket

stays_confirmed : {x : Form} {s later : MachineState} (ticket : Ticket) → LaterRenewed x s later → StaysConfirmed s ticket → StaysConfirmed later ticket
stays_confirmed ticket (goes_on rest) is = record { well = later_well rest is.well; was = confirmed_later ticket rest is.was }
stays_confirmed ticket (renews {between = between} {kept = kept} {carried = carried} first may carries rest) is =
    let boot = boot_so_far between ticket (later_well first is.well) (confirmed_later ticket first is.was) in
    stays_confirmed ticket rest (record {
      well = renewed_well between kept carried;
      was = inr (boot, omega arith);
    })

-- a reservation isn't of a ticket that was confirmed
not_held : (s : MachineState) (ticket : Ticket) → StaysConfirmed s ticket → (a : PlainAction) (deadline : ℕ) → s.slot ≡ Held ticket a deadline → ⊥
not_held s ticket is a deadline held = by is.was
  where
    by : WasConfirmed s ticket → ⊥
    by (inl kept) = not_absent s.history ticket kept (is.well.held ticket a deadline held).absent
    by (inr before) =
        let boot = (is.well.held ticket a deadline held).boot_is in
        let one = before.0 in
        let two = before.1 in
        omega (arith, one, two, boot)

not_reserved : (s : MachineState) (ticket : Ticket) → StaysConfirmed s ticket → HasTicket s.slot ticket → ⊥
not_reserved s ticket is has = let it = held_with s.slot ticket has in not_held s ticket is it.0 it.1 it.2

not_never : (s : MachineState) (ticket : Ticket) → StaysConfirmed s ticket → IsAbsent ticket s.history → s.renewed.boots < ticket.boot → ⊥
not_never s ticket is absent above = by is.was
  where
    by : WasConfirmed s ticket → ⊥
    by (inl kept) = not_absent s.history ticket kept absent
    by (inr before) = let one = before.0 in omega (arith, one, above)

-- no reply tells that it is over
not_over : {x : Form} {limit : ℕ} {s after : MachineState} {asked : PlainRequest} {replies : List Reply} {ticket : Ticket}
    → Step x limit s asked replies after → StaysConfirmed s ticket → TellsOver asked replies ticket → ⊥
not_over {s = s} {ticket = ticket} (confirm_expired has shut) is tells =
    not_reserved s ticket is (subst (HasTicket s.slot) tells.1 has)
not_over {s = s} {ticket = ticket} (cancel_expired has shut) is tells =
    not_reserved s ticket is (subst (HasTicket s.slot) tells.1 has)
not_over {s = s} {ticket = ticket} (cancelled a deadline held before) is tells =
    not_held s ticket is a deadline (subst (λ (t : Ticket). s.slot ≡ Held t a deadline) tells held)
not_over (confirm_no_such none) is tells = let no = tells.0 in omega (arith, no)
not_over (cancel_no_such none) is tells = let no = tells.0 in omega (arith, no)
not_over {s = s} {ticket = ticket} (outcome_never absent shut ungranted above) is tells =
    not_never s ticket is (subst (λ (t : Ticket). IsAbsent t s.history) tells absent)
    (subst (λ (t : Ticket). s.renewed.boots < t.boot) tells above)
not_over _ is tells = tells

-- the pair of the reservation was granted
pair_granted : (s : MachineState) (ticket : Ticket) (a : PlainAction) (deadline : ℕ) → IsWell s → s.slot ≡ Held ticket a deadline
    → WasGranted s.boot s.number (Some ticket, a)
pair_granted s ticket a deadline well held = λ other is.
    subst (IsGranted s.boot s.number) (some_ticket is) (well_holds s well ticket a deadline held).granted

-- behind a reply that tells so the ticket was confirmed
confirmed_begins : {x : Form} {limit : ℕ} {s after : MachineState} {asked : PlainRequest} {replies : List Reply} {ticket : Ticket}
    → Step x limit s asked replies after → IsWell s → TellsConfirmed asked replies ticket → StaysConfirmed after ticket
confirmed_begins {s = s} (confirmed {ticket = asked} a deadline held before) well tells = record {
  well = record {
    kept = Each-append well.kept (item (pair_granted s asked a deadline well held) no_item);
    held = λ ticket a deadline is. free_holds ticket a deadline is;
  };
  was = inl (subst (IsKept (s.history ++ (Some asked, a) ∷ [])) tells (record { before = s.history; action = a; behind = []; split = refl }));
}
confirmed_begins {s = s} (outcome_confirmed {ticket = asked} before behind a split place) well tells = record {
  well = well;
  was = inl (subst (IsKept s.history) tells (record { before = before; action = a; behind = behind; split = split }));
}
confirmed_begins _ well tells = absurd tells

pub confirmed_tickets_stay_confirmed : ConfirmedTicketsStayConfirmed
confirmed_tickets_stay_confirmed opening image s after later last limit other asked again replies answers ticket starts reached step tells rest told over =
    let well = later_well reached (start_well opening image starts) in
    not_over told (stays_confirmed ticket rest (confirmed_begins step well tells)) over
