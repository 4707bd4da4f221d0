-- What a step does to the tickets: those that are kept were granted, the one that is reserved was granted last, and one
-- that is over stays over.
use Rattle.std.proofs.Common.{◌≡◌, ◌≢◌, inl, inr, ℕ, ◌+◌, ◌<◌, ◌≤◌, List, [], ◌∷◌, ◌++◌, Some, refl, sym, ap, subst, arith}
use Rattle.std.proofs.lemmas.Bool.{cases_lt}
use Rattle.ix_words.specs.Each.{Each, no_item, item}
use Rattle.ix_words.proofs.Each.{Each-append, Each-weaker}
use Rattle.ix_values.specs.PlainAction.{PlainAction}
use Rattle.ix_values.specs.declared.tickets.Ticket.{Ticket}
use Rattle.ix_journal.specs.History.{PlainHistory, Spent}
use Rattle.ix_journal.specs.declared.entries.Renewed.{Renewed}
use Rattle.ix_expr.specs.Form.{Form}
use Rattle.ix_lease.specs.Slots.{HasTicket, IsOpenAt}
use Rattle.ix_lease.specs.declared.Slot.{Slot}
use Rattle.ix_lease.specs.declared.Slot.TheVariants.{Free, Held}
use Rattle.ix_proto.specs.Requests.{PlainRequest}
use Rattle.ix_proto.specs.declared.reply.Reply.{Reply}
use Rattle.ix_manager.specs.Granted.{IsGranted, WasGranted}
use Rattle.ix_manager.specs.Later.{Later, MayKeep, whole, confirming, stays, rises, answered, restarts}
use Rattle.ix_manager.specs.LaterLaws.{TellsOver}
use Rattle.ix_manager.specs.Machine.{IsAbsent, MachineState, Step, next_ticket, start_of, confirm_expired, confirm_no_such, cancelled, cancel_expired, cancel_no_such, outcome_never}
use Rattle.ix_manager.specs.Runs.{raised}
use Rattle.ix_manager.proofs.Changing.{Changes, item_changes, keeps, empties, grants, stores}
use Rattle.ix_manager.proofs.SlotLemmas.{free_holds, same_ticket, some_ticket}

-- the ticket was granted last, and isn't kept
pub record IsLast (boot number : ℕ) (history : PlainHistory) (ticket : Ticket) : Type 0 where
  pub boot_is : ticket.boot ≡ boot
  pub seq_is : ticket.seq + 1 ≡ number
  pub absent : IsAbsent ticket history

-- each kept ticket was granted, and the reserved one was granted last
pub record AreWell (boot number : ℕ) (history : PlainHistory) (slot : Slot) : Type 0 where
  pub kept : Each (WasGranted boot number) history
  pub held : (ticket : Ticket) (a : PlainAction) (deadline : ℕ) → slot ≡ Held ticket a deadline → IsLast boot number history ticket

abbrev pub IsWell : MachineState → Type 0
IsWell s = AreWell s.boot s.number s.history s.slot

are_well : {boot boot' number number' : ℕ} {history history' : PlainHistory} {slot slot' : Slot}
    → boot' ≡ boot → number' ≡ number → history' ≡ history → slot' ≡ slot
    → AreWell boot number history slot → AreWell boot' number' history' slot'
are_well {boot = boot} {boot' = boot'} {number = number} {number' = number'} {history = history} {history' = history'} {slot = slot} {slot' = slot'} b n h k well =
    subst (λ v. AreWell v number' history' slot') (sym b)
    (subst (λ v. AreWell boot v history' slot') (sym n)
    (subst (λ v. AreWell boot number v slot') (sym h)
    (subst (λ v. AreWell boot number history v) (sym k) well)))

pub later_number : (boot number : ℕ) (spent : Spent) → WasGranted boot number spent → WasGranted boot (number + 1) spent
later_number boot number spent was = λ ticket is.
    let g = was ticket is in record {
      earlier = g.earlier;
      below = λ same. let below = g.below same in omega (arith, below);
    }

pub next_boot : (boot number : ℕ) (spent : Spent) → WasGranted boot number spent → WasGranted (boot + 1) 1 spent
next_boot boot number spent was = λ ticket is.
    let earlier = (was ticket is).earlier in record {
      earlier = omega (arith, earlier);
      below = λ same. absurd (omega (arith, earlier, same));
    }

-- the next ticket isn't kept
pub next_absent : (boot number : ℕ) (spent : Spent) → WasGranted boot number spent → spent.0 ≢ Some (record { boot = boot; seq = number })
next_absent boot number spent was = λ is.
    let below = (was (record { boot = boot; seq = number }) is).below refl in omega (arith, below)

-- the pair of the reserved ticket
pair_granted : (boot number : ℕ) (history : PlainHistory) (ticket : Ticket) (a : PlainAction) → IsLast boot number history ticket
    → WasGranted boot number (Some ticket, a)
pair_granted boot number history ticket a last = λ other is.
    subst (IsGranted boot number) (some_ticket is) (record {
      earlier = let same = last.boot_is in omega (arith, same);
      below = λ same. let seq = last.seq_is in omega (arith, seq);
    })

well_changes : {s u : MachineState} → Changes s u → IsWell s → IsWell u
well_changes (keeps h k b n m) well = are_well b n h k well
well_changes (empties h k b n m) well =
    are_well b n h k (record { kept = well.kept; held = λ ticket a deadline is. free_holds ticket a deadline is })
well_changes {s = s} (grants a deadline h k b n m) well = are_well b n h k (record {
  kept = Each-weaker (later_number s.boot s.number) well.kept;
  held = λ ticket c end is.
      subst (IsLast s.boot (s.number + 1) s.history) (same_ticket is) (record {
        boot_is = refl;
        seq_is = refl;
        absent = Each-weaker (next_absent s.boot s.number) well.kept;
      });
})
well_changes {s = s} (stores ticket a deadline held before h k b n m) well = are_well b n h k (record {
  kept = Each-append well.kept (item (pair_granted s.boot s.number s.history ticket a (well.held ticket a deadline held)) no_item);
  held = λ ticket a deadline is. free_holds ticket a deadline is;
})

-- each kept ticket is of an earlier boot behind a crash
kept_before : {s : MachineState} {kept : PlainHistory} → MayKeep s kept → IsWell s → Each (WasGranted s.boot s.number) kept
kept_before whole well = well.kept
kept_before {s = s} (confirming {ticket = ticket} {a = a} {deadline = deadline} held before) well =
    Each-append well.kept (item (pair_granted s.boot s.number s.history ticket a (well.held ticket a deadline held)) no_item)

well_starts : {s : MachineState} {kept : PlainHistory} → MayKeep s kept → IsWell s → IsWell (start_of kept s.renewed (s.boot + 1))
well_starts {s = s} may well = record {
  kept = Each-weaker (next_boot s.boot s.number) (kept_before may well);
  held = λ ticket a deadline is. free_holds ticket a deadline is;
}

pub later_well : {x : Form} {s later : MachineState} → Later x s later → IsWell s → IsWell later
later_well stays well = well
later_well (rises moment rest) well = later_well rest well
later_well (answered step rest) well = later_well rest (well_changes (item_changes step) well)
later_well (restarts may rest) well = later_well rest (well_starts may well)

-- the ticket was granted, isn't kept, and isn't that of an open reservation
pub record AreOver (boot number : ℕ) (history : PlainHistory) (slot : Slot) (moment : ℕ) (ticket : Ticket) : Type 0 where
  pub granted : IsGranted boot number ticket
  pub absent : IsAbsent ticket history
  pub shut : (a : PlainAction) (deadline : ℕ) → slot ≡ Held ticket a deadline → deadline ≤ moment

abbrev pub IsOver : MachineState → Ticket → Type 0
IsOver s = AreOver s.boot s.number s.history s.slot s.moment

are_over : {boot boot' number number' moment moment' : ℕ} {history history' : PlainHistory} {slot slot' : Slot} {ticket : Ticket}
    → boot' ≡ boot → number' ≡ number → history' ≡ history → slot' ≡ slot → moment' ≡ moment
    → AreOver boot number history slot moment ticket → AreOver boot' number' history' slot' moment' ticket
are_over {boot = boot} {boot' = boot'} {number = number} {number' = number'} {moment = moment} {moment' = moment'} {history = history} {history' = history'} {slot = slot} {slot' = slot'} {ticket = ticket} b n h k m over =
    subst (λ v. AreOver v number' history' slot' moment' ticket) (sym b)
    (subst (λ v. AreOver boot v history' slot' moment' ticket) (sym n)
    (subst (λ v. AreOver boot number v slot' moment' ticket) (sym h)
    (subst (λ v. AreOver boot number history v moment' ticket) (sym k)
    (subst (λ v. AreOver boot number history slot v ticket) (sym m) over))))

-- the pair of an open reservation isn't of a ticket that is over
other_pair : (s : MachineState) (ticket over : Ticket) (a : PlainAction) (deadline : ℕ) → s.slot ≡ Held ticket a deadline → s.moment < deadline
    → IsOver s over → IsAbsent over (s.history ++ (Some ticket, a) ∷ [])
other_pair s ticket over a deadline held before is =
    Each-append is.absent
    (item (λ same.
    let shut = is.shut a deadline (subst (λ t. s.slot ≡ Held t a deadline) (some_ticket same) held) in absurd (omega (arith, shut, before))) no_item)

over_changes : {s u : MachineState} {ticket : Ticket} → Changes s u → IsOver s ticket → IsOver u ticket
over_changes (keeps h k b n m) over = are_over b n h k m over
over_changes (empties h k b n m) over = are_over b n h k m (record {
  granted = over.granted;
  absent = over.absent;
  shut = λ a deadline is. free_holds _ a deadline is;
})
over_changes {s = s} {ticket = ticket} (grants a deadline h k b n m) over = are_over b n h k m (record {
  granted = record {
    earlier = over.granted.earlier;
    below = λ same. let below = over.granted.below same in omega (arith, below);
  };
  absent = over.absent;
  shut = λ c end is.
      let next : next_ticket s ≡ ticket = same_ticket is in
      let boots = ap (λ (t : Ticket). t.boot) next in
      let seqs : s.number ≡ ticket.seq = ap (λ (t : Ticket). t.seq) next in
      let below = over.granted.below (sym boots) in
      absurd (omega (arith, seqs, below));
})
over_changes {s = s} {ticket = ticket} (stores held a deadline is before h k b n m) over = are_over b n h k m (record {
  granted = over.granted;
  absent = other_pair s held ticket a deadline is before over;
  shut = λ a deadline is. free_holds _ a deadline is;
})

over_rises : (s : MachineState) (ticket : Ticket) (moment : ℕ) → IsOver s ticket → IsOver (raised moment s) ticket
over_rises s ticket moment over = record {
  granted = over.granted;
  absent = over.absent;
  shut = λ a deadline is. let shut = over.shut a deadline is in omega (arith, shut);
}

absent_kept : {s : MachineState} {kept : PlainHistory} {ticket : Ticket} → MayKeep s kept → IsOver s ticket → IsAbsent ticket kept
absent_kept whole over = over.absent
absent_kept {s = s} {ticket = over} (confirming {ticket = ticket} {a = a} {deadline = deadline} held before) is =
    other_pair s ticket over a deadline held before is

over_starts : {s : MachineState} {kept : PlainHistory} {ticket : Ticket} → MayKeep s kept → IsOver s ticket → IsOver (start_of kept s.renewed (s.boot + 1)) ticket
over_starts {s = s} may over = record {
  granted = let earlier = over.granted.earlier in record {
    earlier = omega (arith, earlier);
    below = λ same. absurd (omega (arith, earlier, same));
  };
  absent = absent_kept may over;
  shut = λ a deadline is. free_holds _ a deadline is;
}

pub stays_over : {x : Form} {s later : MachineState} {ticket : Ticket} → Later x s later → IsOver s ticket → IsOver later ticket
stays_over stays over = over
stays_over {s = s} {ticket = ticket} (rises moment rest) over = stays_over rest (over_rises s ticket moment over)
stays_over (answered step rest) over = stays_over rest (over_changes (item_changes step) over)
stays_over (restarts may rest) over = stays_over rest (over_starts may over)

pub later_over : {x : Form} {s later : MachineState} {ticket : Ticket} → Later x s later → IsOver s ticket → IsAbsent ticket later.history
later_over rest over = (stays_over rest over).absent

-- a slot with the ticket is held by it
pub held_with : (slot : Slot) (ticket : Ticket) → HasTicket slot ticket → (a : PlainAction) × (deadline : ℕ) × (slot ≡ Held ticket a deadline)
held_with Free ticket has = absurd has
held_with (Held held a deadline) ticket has = (a, deadline, ap (λ t. Held t a deadline) has)

pub open_until : (slot : Slot) (ticket : Ticket) (a : PlainAction) (deadline moment : ℕ) → slot ≡ Held ticket a deadline → moment < deadline → IsOpenAt slot moment
open_until slot ticket a deadline moment is before = subst (λ k. IsOpenAt k moment) (sym is) before

not_open : (slot : Slot) (ticket : Ticket) (a : PlainAction) (deadline moment : ℕ) → slot ≡ Held ticket a deadline → (IsOpenAt slot moment → ⊥) → deadline ≤ moment
not_open slot ticket a deadline moment is shut = elim (cases_lt moment deadline) [
  | inl before ↦ absurd (shut (open_until slot ticket a deadline moment is before))
  | inr behind ↦ behind
]

-- the ticket of a reservation was granted, and isn't kept
pub record IsReserved (boot number : ℕ) (history : PlainHistory) (ticket : Ticket) : Type 0 where
  pub granted : IsGranted boot number ticket
  pub absent : IsAbsent ticket history

abbrev pub HoldsReserved : MachineState → Type 0
HoldsReserved s = (ticket : Ticket) (a : PlainAction) (deadline : ℕ) → s.slot ≡ Held ticket a deadline → IsReserved s.boot s.number s.history ticket

pub well_holds : (s : MachineState) → IsWell s → HoldsReserved s
well_holds s well ticket a deadline is =
    let last = well.held ticket a deadline is in record {
      granted = record {
        earlier = let same = last.boot_is in omega (arith, same);
        below = λ same. let seq = last.seq_is in omega (arith, seq);
      };
      absent = last.absent;
    }

-- a reservation that isn't open any more
expired_over : (s : MachineState) (ticket : Ticket) → HoldsReserved s → HasTicket s.slot ticket → (IsOpenAt s.slot s.moment → ⊥) → IsOver s ticket
expired_over s ticket holds has shut =
    let it = held_with s.slot ticket has in
    let of = holds ticket it.0 it.1 it.2 in record {
      granted = of.granted;
      absent = of.absent;
      shut = λ a deadline is. not_open s.slot ticket a deadline s.moment is shut;
    }

cancelled_over : (s : MachineState) (ticket : Ticket) (a : PlainAction) (deadline : ℕ) → HoldsReserved s → s.slot ≡ Held ticket a deadline
    → IsOver (record s { slot = Free }) ticket
cancelled_over s ticket a deadline holds held =
    let of = holds ticket a deadline held in record {
      granted = of.granted;
      absent = of.absent;
      shut = λ a deadline is. free_holds _ a deadline is;
    }

has_held : (slot : Slot) (ticket : Ticket) (a : PlainAction) (deadline : ℕ) → slot ≡ Held ticket a deadline → HasTicket slot ticket
has_held slot ticket a deadline is = subst (λ k. HasTicket k ticket) (sym is) refl

-- behind a reply that tells so the ticket is over
pub over_begins : {x : Form} {limit : ℕ} {s after : MachineState} {asked : PlainRequest} {replies : List Reply} {ticket : Ticket}
    → Step x limit s asked replies after → HoldsReserved s → TellsOver asked replies ticket → IsOver after ticket
over_begins {s = s} (confirm_expired {ticket = asked} has shut) holds tells =
    subst (IsOver s) tells.1 (expired_over s asked holds has shut)
over_begins {s = s} (cancel_expired {ticket = asked} has shut) holds tells =
    subst (IsOver s) tells.1 (expired_over s asked holds has shut)
over_begins {s = s} (cancelled {ticket = asked} a deadline held before) holds tells =
    subst (IsOver (record s { slot = Free })) tells (cancelled_over s asked a deadline holds held)
over_begins (confirm_no_such none) holds tells = let no = tells.0 in absurd (omega (arith, no))
over_begins (cancel_no_such none) holds tells = let no = tells.0 in absurd (omega (arith, no))
over_begins {s = s} (outcome_never {ticket = asked} absent shut ungranted later) holds tells =
    subst (IsOver s) tells (record {
      granted = record {
        earlier = elim (cases_lt s.boot asked.boot) [
          | inl above ↦ absurd (ungranted (inr (inr (inl above))))
          | inr earlier ↦ earlier
        ];
        below = λ same. elim (cases_lt asked.seq s.number) [
          | inl below ↦ below
          | inr above ↦ absurd (ungranted (inr (inr (inr (same, above)))))
        ];
      };
      absent = absent;
      shut = λ a deadline is. not_open s.slot asked a deadline s.moment is (λ open_still. shut (open_still, has_held s.slot asked a deadline is));
    })
over_begins _ holds tells = absurd tells

-- a start over tickets of earlier boots
pub starts_well : (history : PlainHistory) (renewed : Renewed) (boot : ℕ)
    → Each (λ (spent : Spent). (ticket : Ticket) → spent.0 ≡ Some ticket → ticket.boot < boot) history
    → IsWell (start_of history renewed boot)
starts_well history renewed boot each = record {
  kept = Each-weaker (λ spent of. λ ticket is.
      let earlier = of ticket is in record {
        earlier = omega (arith, earlier);
        below = λ same. absurd (omega (arith, earlier, same));
      }) each;
  held = λ ticket a deadline is. free_holds ticket a deadline is;
}
