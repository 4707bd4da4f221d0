-- A state that passes the test is sound.
use Rattle.std.specs.Prelude.{◌≡◌, ℕ, ◌==◌, nat_le, nat_lt, ◌&&◌, ◌||◌, not, Bool, true, false}
use Rattle.std.specs.Prelude.{[], ◌∷◌, Option, None, Some}
use Rattle.std.specs.List.{list_all}
use Rattle.std.proofs.Common.{refl, ◌∙◌, ap, subst}
use Rattle.std.proofs.lemmas.Bool.{and_parts, and_from, or_cases, eq-eqb, leb-true, ltb-true}
use Rattle.std.proofs.lemmas.Bool.{not-true, both_ways}
use Rattle.std.proofs.Common.{inl, inr}
use Rattle.ix_words.specs.Each.{Each, no_item, item}
use Rattle.ix_values.specs.declared.tickets.Ticket.{Ticket}
use Rattle.ix_journal.specs.History.{PlainHistory, Spent}
use Rattle.ix_manager.specs.Granted.{IsGranted, WasGranted}
use Rattle.ix_manager.specs.Handled.{ManagerState}
use Rattle.ix_manager.specs.Machine.{IsAbsent, MachineState}
use Rattle.ix_client.specs.Grants.{same_ticket}
use Rattle.ix_client.specs.Sound.{AreApart, IsSound, IsSoundWhereTold, all_pairs}
use Rattle.ix_client.specs.inside.ManagerLinks.{ManagerLinkState, are_apart, is_absent, is_granted}
use Rattle.ix_client.specs.inside.ManagerLinks.{names_ticket, is_sound, link_state, told_by}
use Rattle.ix_client.specs.inside.ManagerLinks.{told_where}

same_is : (ticket : Ticket) → same_ticket ticket ticket ≡ true
same_is ticket =
    and_from (ticket.boot == ticket.boot) (ticket.seq == ticket.seq)
    (eq-eqb ticket.boot ticket.boot refl)
    (eq-eqb ticket.seq ticket.seq refl)

absent_is : (ticket : Ticket) (others : PlainHistory) → is_absent (Some ticket) others ≡ true
    → IsAbsent ticket others
absent_is ticket [] is = no_item
absent_is ticket (spent ∷ others) is =
    let both = and_parts (not (names_ticket ticket spent.0)) (is_absent (Some ticket) others) is in
    item
    (λ same. both_ways (names_ticket ticket spent.0) (not-true (names_ticket ticket spent.0) both.0)
    (ap (names_ticket ticket) same ∙ same_is ticket))
    (absent_is ticket others both.1)

apart_is : (pairs : PlainHistory) → are_apart pairs ≡ true → AreApart pairs
apart_is [] is = tt
apart_is (spent ∷ others) is =
    let both = and_parts (is_absent spent.0 others) (are_apart others) is in (
      λ ticket same. absent_is ticket others
          (subst (λ (o : Option Ticket). is_absent o others ≡ true) same both.0),
      apart_is others
          both.1,
    )

granted_is : (boot number : ℕ) (ticket : Ticket) → is_granted boot number (Some ticket) ≡ true
    → IsGranted boot number ticket
granted_is boot number ticket is =
    let later = not (ticket.boot == boot) || nat_lt ticket.seq number in
    let both = and_parts (nat_le ticket.boot boot) later is in
    record {
      earlier = leb-true ticket.boot boot both.0;
      below = λ same.
          elim (or_cases (not (ticket.boot == boot)) (nat_lt ticket.seq number) both.1) [
            | inl other ↦
                let apart = not-true (ticket.boot == boot) other in
                absurd (both_ways (ticket.boot == boot) apart (eq-eqb ticket.boot boot same))
            | inr below ↦ ltb-true ticket.seq number below
          ];
    }

each_is : (boot number : ℕ) (pairs : PlainHistory)
    → list_all (λ (spent : Spent). is_granted boot number spent.0) pairs ≡ true
    → Each (WasGranted boot number) pairs
each_is boot number [] is = no_item
each_is boot number (spent ∷ others) is =
    let both = and_parts (is_granted boot number spent.0)
    (list_all (λ (spent : Spent). is_granted boot number spent.0) others) is in
    item
    (λ ticket same. granted_is boot number ticket
    (subst (λ (o : Option Ticket). is_granted boot number o ≡ true) same both.0))
    (each_is boot number others both.1)

pub sound_is : (s : MachineState) → is_sound s ≡ true → IsSound s
sound_is s is =
    let both = and_parts (nat_lt 0 s.boot && nat_lt 0 s.number)
    (are_apart (all_pairs s)
    && list_all (λ (spent : Spent). is_granted s.boot s.number spent.0) (all_pairs s)) is in
    let numbers = and_parts (nat_lt 0 s.boot) (nat_lt 0 s.number) both.0 in
    let pairs = and_parts (are_apart (all_pairs s))
    (list_all (λ (spent : Spent). is_granted s.boot s.number spent.0) (all_pairs s)) both.1 in
    record {
      boot = ltb-true 0 s.boot numbers.0;
      number = ltb-true 0 s.number numbers.1;
      apart = apart_is (all_pairs s) pairs.0;
      granted = each_is s.boot s.number (all_pairs s) pairs.1;
    }

told_sound : (tells sound : Bool) (m : ManagerState) → (sound ≡ true → IsSound m.machine)
    → IsSoundWhereTold (told_where (tells && sound) (told_by m))
told_sound true true m is = is refl
told_sound true false m is = tt
told_sound false sound m is = tt

sound_of : (manager : Option ManagerState) (link : ManagerLinkState) → link.manager ≡ manager
    → IsSoundWhereTold (link_state (record link { manager = manager })).told
sound_of None link same = tt
sound_of (Some m) link same = told_sound link.site.told (is_sound m.machine) m (sound_is m.machine)

pub told_is_sound : (link : ManagerLinkState) → IsSoundWhereTold (link_state link).told
told_is_sound link = sound_of link.manager link refl
