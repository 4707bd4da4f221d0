-- Facts of the boot, the next number and the pairs of a state that last.
use Rattle.std.proofs.Common.{◌≡◌, ℕ, ◌+◌, ◌<◌, List, [], ◌∷◌, ◌++◌, append-nil, Some, refl, sym, ◌∙◌, ap, subst, arith}
use Rattle.ix_words.specs.Each.{Each, no_item, item}
use Rattle.ix_words.proofs.Each.{Each-append, Each-left, Each-right, Each-head, Each-weaker}
use Rattle.ix_values.specs.PlainAction.{PlainAction}
use Rattle.ix_values.specs.declared.tickets.Ticket.{Ticket}
use Rattle.ix_expr.specs.Form.{Form}
use Rattle.ix_journal.specs.History.{PlainHistory, Spent}
use Rattle.ix_lease.specs.declared.Slot.{Slot}
use Rattle.ix_lease.specs.declared.Slot.TheVariants.{Free, Held}
use Rattle.ix_proto.specs.Requests.{PlainRequest}
use Rattle.ix_proto.specs.declared.reply.Reply.{Reply}
use Rattle.ix_manager.specs.Granted.{IsGranted, WasGranted}
use Rattle.ix_manager.specs.Later.{Later, MayKeep, whole, confirming, stays, rises, answered, restarts}
use Rattle.ix_manager.specs.Machine.{IsAbsent, MachineState, Step, next_ticket}
use Rattle.ix_manager.proofs.Changing.{Changes, item_changes, step_changes, keeps, empties, grants, stores}
use Rattle.ix_manager.proofs.SlotLemmas.{some_ticket}
use Rattle.ix_manager.proofs.TicketLemmas.{HoldsReserved, later_number, next_absent, next_boot}
use Rattle.ix_client.specs.Grant.{Grant}
use Rattle.ix_client.specs.Laws.{AgreesWith, SoundStatesLast, StandingGrantsLast, StandsGranted}
use Rattle.ix_client.specs.Sound.{AreApart, IsSound, all_pairs, reserved}

-- the pair of the next ticket
abbrev pub next_pair : ℕ → ℕ → PlainAction → Spent
next_pair boot number a = (Some (record { boot = boot; seq = number }), a)

-- a fact that a front keeps, that the pair of the next ticket may join, and that a new boot keeps
pub record IsLasting (P : ℕ → ℕ → PlainHistory → Type 0) : Type 0 where
  pub front : (boot number : ℕ) (xs ys : PlainHistory) → P boot number (xs ++ ys) → P boot number xs
  pub next : (boot number : ℕ) (xs : PlainHistory) (a : PlainAction) → P boot number xs
      → P boot (number + 1) (xs ++ next_pair boot number a ∷ [])
  pub boots : (boot number : ℕ) (xs : PlainHistory) → P boot number xs → P (boot + 1) 1 xs

module _ (P : ℕ → ℕ → PlainHistory → Type 0) (lasting : IsLasting P) where
  abbrev pub Of : MachineState → Type 0
  Of s = P s.boot s.number (all_pairs s)

  same : (boot boot' number number' : ℕ) (history history' : PlainHistory) (slot slot' : Slot)
      → boot' ≡ boot → number' ≡ number → history' ≡ history → slot' ≡ slot
      → P boot number (history ++ reserved slot) → P boot' number' (history' ++ reserved slot')
  same boot boot' number number' history history' slot slot' b n h k p =
      subst (λ v. P v number' (history' ++ reserved slot')) (sym b)
      (subst (λ v. P boot v (history' ++ reserved slot')) (sym n)
      (subst (λ v. P boot number (v ++ reserved slot')) (sym h)
      (subst (λ v. P boot number (history ++ reserved v)) (sym k) p)))

  -- with no reservation
  free : (boot number : ℕ) (history : PlainHistory) → P boot number history → P boot number (history ++ [])
  free boot number history p = subst (P boot number) (sym (append-nil history)) p

  -- with one
  with_pair : (s : MachineState) (ticket : Ticket) (a : PlainAction) (deadline : ℕ) → s.slot ≡ Held ticket a deadline → Of s
      → P s.boot s.number (s.history ++ (Some ticket, a) ∷ [])
  with_pair s ticket a deadline held of = subst (λ v. P s.boot s.number (s.history ++ reserved v)) held of

  changes_last : {s u : MachineState} → Changes s u → Of s → Of u
  changes_last {s = s} {u = u} (keeps h k b n m) of = same s.boot u.boot s.number u.number s.history u.history s.slot u.slot b n h k of
  changes_last {s = s} {u = u} (empties h k b n m) of =
      same s.boot u.boot s.number u.number s.history u.history Free u.slot b n h k
      (free s.boot s.number s.history (lasting.front s.boot s.number s.history (reserved s.slot) of))
  changes_last {s = s} {u = u} (grants a deadline h k b n m) of =
      same s.boot u.boot (s.number + 1) u.number s.history u.history (Held (next_ticket s) a deadline) u.slot b n h k
      (lasting.next s.boot s.number s.history a (lasting.front s.boot s.number s.history (reserved s.slot) of))
  changes_last {s = s} {u = u} (stores ticket a deadline held before h k b n m) of =
      same s.boot u.boot s.number u.number (s.history ++ (Some ticket, a) ∷ []) u.history Free u.slot b n h k
      (free s.boot s.number (s.history ++ (Some ticket, a) ∷ []) (with_pair s ticket a deadline held of))

  kept_last : {s : MachineState} {kept : PlainHistory} → MayKeep s kept → Of s → P s.boot s.number kept
  kept_last {s = s} whole of = lasting.front s.boot s.number s.history (reserved s.slot) of
  kept_last {s = s} (confirming {ticket = ticket} {a = a} {deadline = deadline} held before) of = with_pair s ticket a deadline held of

  pub step_last : {x : Form} {limit : ℕ} {s u : MachineState} {asked : PlainRequest} {replies : List Reply} → Step x limit s asked replies u → Of s → Of u
  step_last step of = changes_last (step_changes step) of

  pub later_last : {x : Form} {s later : MachineState} → Later x s later → Of s → Of later
  later_last stays of = of
  later_last (rises moment rest) of = later_last rest of
  later_last (answered step rest) of = later_last rest (changes_last (item_changes step) of)
  later_last {s = s} (restarts {kept = kept} may rest) of =
      later_last rest (free (s.boot + 1) 1 kept (lasting.boots s.boot s.number kept (kept_last may of)))

-- tickets apart

apart_front : (xs ys : PlainHistory) → AreApart (xs ++ ys) → AreApart xs
apart_front [] ys apart = tt
apart_front (spent ∷ xs) ys apart = (λ ticket is. Each-left xs ys (apart.0 ticket is), apart_front xs ys apart.1)

-- one more pair, whose ticket isn't there yet
apart_more : (xs : PlainHistory) (ticket : Ticket) (a : PlainAction) → IsAbsent ticket xs → AreApart xs → AreApart (xs ++ (Some ticket, a) ∷ [])
apart_more [] ticket a absent apart = (λ other is. no_item, tt)
apart_more (spent ∷ xs) ticket a (item other_ticket absent) apart = (
  λ other is. Each-append (apart.0 other is) (item (λ again. other_ticket (is ∙ sym again)) no_item),
  apart_more xs ticket a absent apart.1,
)

-- the ticket of the last pair isn't in front of it
last_absent : (xs : PlainHistory) (ticket : Ticket) (a : PlainAction) → AreApart (xs ++ (Some ticket, a) ∷ []) → IsAbsent ticket xs
last_absent [] ticket a apart = no_item
last_absent (spent ∷ xs) ticket a apart =
    item (λ is. Each-head (Each-right xs ((Some ticket, a) ∷ []) (apart.0 ticket is)) refl) (last_absent xs ticket a apart.1)

-- soundness

pub record AreSound (boot number : ℕ) (pairs : PlainHistory) : Type 0 where
  pub some_boot : 0 < boot
  pub some_number : 0 < number
  pub apart : AreApart pairs
  pub granted : Each (WasGranted boot number) pairs

next_granted : (boot number : ℕ) (a : PlainAction) → WasGranted boot (number + 1) (next_pair boot number a)
next_granted boot number a = λ ticket is.
    subst (IsGranted boot (number + 1)) (some_ticket is) (record { earlier = omega arith; below = λ e. omega arith })

sound_lasts : IsLasting AreSound
sound_lasts = record {
  front = λ boot number xs ys are. record {
    some_boot = are.some_boot;
    some_number = are.some_number;
    apart = apart_front xs ys are.apart;
    granted = Each-left xs ys are.granted;
  };
  next = λ boot number xs a are. record {
    some_boot = are.some_boot;
    some_number = let some = are.some_number in omega (arith, some);
    apart = apart_more xs (record { boot = boot; seq = number }) a (Each-weaker (next_absent boot number) are.granted) are.apart;
    granted = Each-append (Each-weaker (later_number boot number) are.granted) (item (next_granted boot number a) no_item);
  };
  boots = λ boot number xs are. record {
    some_boot = let some = are.some_boot in omega (arith, some);
    some_number = omega arith;
    apart = are.apart;
    granted = Each-weaker (next_boot boot number) are.granted;
  };
}

are_sound : (s : MachineState) → IsSound s → AreSound s.boot s.number (all_pairs s)
are_sound s is = record { some_boot = is.boot; some_number = is.number; apart = is.apart; granted = is.granted }

is_sound : (s : MachineState) → AreSound s.boot s.number (all_pairs s) → IsSound s
is_sound s are = record { boot = are.some_boot; number = are.some_number; apart = are.apart; granted = are.granted }

pub step_sound : {x : Form} {limit : ℕ} {s u : MachineState} {asked : PlainRequest} {replies : List Reply} → Step x limit s asked replies u → IsSound s → IsSound u
step_sound {s = s} {u = u} step is = is_sound u (step_last AreSound sound_lasts step (are_sound s is))

pub later_sound : {x : Form} {s later : MachineState} → Later x s later → IsSound s → IsSound later
later_sound {s = s} {later = later} rest is = is_sound later (later_last AreSound sound_lasts rest (are_sound s is))

pub sound_states_last : SoundStatesLast
sound_states_last = (λ x limit s u asked replies step is. step_sound step is, λ x s later rest is. later_sound rest is)

-- the reserved ticket of a sound state was granted, and isn't kept
pub sound_holds : (s : MachineState) → IsSound s → HoldsReserved s
sound_holds s is ticket a deadline held =
    let pairs : all_pairs s ≡ s.history ++ (Some ticket, a) ∷ [] = ap (λ (v : Slot). s.history ++ reserved v) held in
    let granted = subst (Each (WasGranted s.boot s.number)) pairs is.granted in
    record {
      granted = Each-head (Each-right s.history ((Some ticket, a) ∷ []) granted) ticket refl;
      absent = last_absent s.history ticket a (subst AreApart pairs is.apart);
    }

-- standing

pub record AreStanding (g : Grant) (boot number : ℕ) (pairs : PlainHistory) : Type 0 where
  pub granted : IsGranted boot number g.ticket
  pub agrees : Each (AgreesWith g) pairs

-- the next ticket isn't one that was granted
next_agrees : (g : Grant) (boot number : ℕ) (a : PlainAction) → IsGranted boot number g.ticket → AgreesWith g (next_pair boot number a)
next_agrees g boot number a granted is =
    let boots : boot ≡ g.ticket.boot = ap (λ (t : Ticket). t.boot) (some_ticket is) in
    let seqs : number ≡ g.ticket.seq = ap (λ (t : Ticket). t.seq) (some_ticket is) in
    let below = granted.below (sym boots) in
    absurd (omega (arith, seqs, below))

standing_lasts : (g : Grant) → IsLasting (AreStanding g)
standing_lasts g = record {
  front = λ boot number xs ys are. record { granted = are.granted; agrees = Each-left xs ys are.agrees };
  next = λ boot number xs a are. record {
    granted = record {
      earlier = are.granted.earlier;
      below = λ e. let below = are.granted.below e in omega (arith, below);
    };
    agrees = Each-append are.agrees (item (next_agrees g boot number a are.granted) no_item);
  };
  boots = λ boot number xs are. record {
    granted = let earlier = are.granted.earlier in record {
      earlier = omega (arith, earlier);
      below = λ e. absurd (omega (arith, earlier, e));
    };
    agrees = are.agrees;
  };
}

are_standing : (g : Grant) (s : MachineState) → StandsGranted g s → AreStanding g s.boot s.number (all_pairs s)
are_standing g s is = record { granted = is.granted; agrees = is.agrees }

is_standing : (g : Grant) (s u : MachineState) → StandsGranted g s → AreStanding g u.boot u.number (all_pairs u) → StandsGranted g u
is_standing g s u is are = record { boot = is.boot; number = is.number; granted = are.granted; agrees = are.agrees }

pub step_stands : {x : Form} {limit : ℕ} {s u : MachineState} {asked : PlainRequest} {replies : List Reply} (g : Grant) → Step x limit s asked replies u → StandsGranted g s → StandsGranted g u
step_stands {s = s} {u = u} g step is = is_standing g s u is (step_last (AreStanding g) (standing_lasts g) step (are_standing g s is))

pub later_stands : {x : Form} {s later : MachineState} (g : Grant) → Later x s later → StandsGranted g s → StandsGranted g later
later_stands {s = s} {later = later} g rest is =
    is_standing g s later is (later_last (AreStanding g) (standing_lasts g) rest (are_standing g s is))

pub standing_grants_last : StandingGrantsLast
standing_grants_last = (λ x limit s u asked replies g step is. step_stands g step is, λ x s later g rest is. later_stands g rest is)
