-- A manager that fits its site is in a sound state, as its journal tells.
use Rattle.std.proofs.Common.{◌≡◌, ◌≢◌, inl, inr, ℕ, ◌+◌, ◌^◌, ◌<◌, ◌≤◌, ◌==◌, ◌&&◌, ◌||◌, not, nat_le, nat_lt, Bool, true, false, List, [], ◌∷◌, ◌++◌, length, Option, Some, None, refl, sym, ◌∙◌, ap, subst, append-nil, arith}
use Rattle.std.specs.List.{list_all}
use Rattle.std.proofs.lemmas.Bool.{and_from, and_parts, cases_eq, eqb-true, le-leb, lt-ltb, ne_eqb}
use Rattle.ix_words.specs.Each.{Each, no_item, item}
use Rattle.ix_words.proofs.Each.{Each-head, Each-tail, Each-weaker}
use Rattle.ix_values.specs.declared.tickets.Ticket.{Ticket}
use Rattle.ix_journal.specs.Entries.{CanSpend, InOrder, MayFollow, behind, fresh, marks_behind, marks_of, or_none}
use Rattle.ix_journal.specs.Entries.{renewed_of}
use Rattle.ix_journal.specs.declared.entries.Renewed.{Renewed}
use Rattle.ix_values.specs.PlainAction.{PlainAction}
use Rattle.ix_journal.specs.Entries as journal
use Rattle.ix_journal.specs.History.{PlainHistory, Spent}
use Rattle.ix_journal.specs.Recovery.{IsJournalWith}
use Rattle.ix_journal.specs.declared.entries.Entry.{Entry}
use Rattle.ix_journal.specs.declared.entries.Entry.TheVariants as entry
use Rattle.ix_journal.specs.declared.entries.Marks.{Marks}
use Rattle.ix_journal.proofs.OrderLemmas.{marks_of-more, order-more, pairs-append, sound-all, sound-fresh}
use Rattle.ix_expr.specs.CanonicalText.{canonical_text}
use Rattle.ix_lease.specs.declared.Slot.{Slot}
use Rattle.ix_lease.specs.declared.Slot.TheVariants.{Free, Held}
use Rattle.ix_memory.specs.inside.MemorySiteState.{MemorySiteState, crashes_of, opened_where, state_of, told_disk}
use Rattle.ix_memory.specs.lemmas.Lawful.{memory_is_lawful}
use Rattle.ix_outside.specs.Disk.{OfFile}
use Rattle.ix_manager.specs.Granted.{IsGranted, WasGranted}
use Rattle.ix_manager.specs.Handled.{ManagerState}
use Rattle.ix_manager.specs.Machine.{IsAbsent, MachineState, count}
use Rattle.ix_manager.specs.inside.OverSite.{FitsSite, TicketsGoOn}
use Rattle.ix_manager.proofs.SlotLemmas.{some_ticket}
use Rattle.ix_client.specs.Grants.{same_ticket}
use Rattle.ix_client.specs.Sound.{AreApart, IsSound, all_pairs, reserved}
use Rattle.ix_client.specs.inside.ManagerLinks.{are_apart, is_absent, is_granted, names_ticket, is_sound}

none_some : {P : Type 0} (ticket : Ticket) → None ≡ Some ticket → P
none_some ticket is = absurd (let no : None ≡ Some ticket = is in cc)

-- the pair's ticket comes behind these marks
abbrev IsBehind : Marks → Spent → Type 0
IsBehind marks spent = (ticket : Ticket) → spent.0 ≡ Some ticket
    → ((renewed_of marks).boots < ticket.boot) × (marks.boots ≤ ticket.boot)
    × (ticket.boot ≡ marks.boots → marks.seq < ticket.seq)

renewal_behind : (marks : Marks) (actions boots : ℕ) (spent : Spent) → MayFollow marks (entry.Renewed actions boots)
    → IsBehind (behind marks (entry.Renewed actions boots)) spent → IsBehind marks spent
renewal_behind marks actions boots spent follows is = λ ticket same.
    let later = (is ticket same).0 in (
      omega (arith, later, ap (λ r. (or_none r).boots) follows.0),
      omega (arith, later, follows.1),
      λ here. absurd (omega (arith, later, here, follows.1)),
    )

boot_behind : (marks : Marks) (number : ℕ) (spent : Spent) → IsBehind (behind marks (entry.Boot number)) spent → IsBehind marks spent
boot_behind marks number spent is = λ ticket same.
    let later = is ticket same in
    (later.0, omega (arith, later.1), λ here. absurd (omega (arith, later.1, here)))

spent_behind : (marks : Marks) (spent : Ticket) (action : PlainAction) (other : Spent) → CanSpend marks spent
    → IsBehind (behind marks (entry.Spent spent action)) other → IsBehind marks other
spent_behind marks spent action other can is = λ ticket same.
    let of = is ticket same in
    let first = can.2 in
    (of.0, of.1, λ here. let next = of.2 here in omega (arith, first, next))

all_behind : (marks : Marks) (entries : List Entry) → InOrder marks entries → Each (IsBehind marks) (journal.pairs_of entries)
all_behind marks [] order = no_item
all_behind marks (entry.Renewed actions boots ∷ entries) order =
    Each-weaker (λ other. renewal_behind marks actions boots other order.0)
    (all_behind (behind marks (entry.Renewed actions boots)) entries order.1)
all_behind marks (entry.Boot number ∷ entries) order =
    Each-weaker (boot_behind marks number) (all_behind (behind marks (entry.Boot number)) entries order.1)
all_behind marks (entry.Plain a ∷ entries) order =
    item (λ ticket same. none_some ticket same) (all_behind (behind marks (entry.Plain a)) entries order.1)
all_behind marks (entry.Spent spent a ∷ entries) order =
    item
    (λ ticket same.
    let is : spent ≡ ticket = some_ticket same in
    let boot = order.0.0 in
    let seq = order.0.2 in
    subst (λ (t : Ticket). ((renewed_of marks).boots < t.boot) × (marks.boots ≤ t.boot)
    × (t.boot ≡ marks.boots → marks.seq < t.seq)) is
    (order.0.1, omega (arith, boot), λ here. seq))
    (Each-weaker (λ other. spent_behind marks spent a other order.0)
    (all_behind (behind marks (entry.Spent spent a)) entries order.1))

-- no ticket of records in order stands in two of them
pub apart_in : (marks : Marks) (entries : List Entry) → InOrder marks entries → AreApart (journal.pairs_of entries)
apart_in marks [] order = tt
apart_in marks (entry.Renewed actions boots ∷ entries) order =
    apart_in (behind marks (entry.Renewed actions boots)) entries order.1
apart_in marks (entry.Boot number ∷ entries) order = apart_in (behind marks (entry.Boot number)) entries order.1
apart_in marks (entry.Plain a ∷ entries) order =
    (λ ticket same. none_some ticket same, apart_in (behind marks (entry.Plain a)) entries order.1)
apart_in marks (entry.Spent spent a ∷ entries) order =
    let later = behind marks (entry.Spent spent a) in (
      λ ticket same.
          Each-weaker
          (λ other is. λ equal.
          let next = (is ticket equal).2 in
          let first : spent.boot ≡ marks.boots = order.0.0 in
          let mine : spent ≡ ticket = some_ticket same in
          let boot = ap (λ (t : Ticket). t.boot) mine in
          let seq = ap (λ (t : Ticket). t.seq) mine in
          let above = next (sym boot ∙ first) in
          omega (arith, above, seq))
          (all_behind later entries order.1),
      apart_in later entries order.1,
    )

-- the marks behind records in order come behind those in front
marks_go_on : (marks : Marks) (entries : List Entry) → InOrder marks entries → 0 < marks.boots
    → (marks.boots ≤ (marks_behind marks entries).boots)
    × (marks.boots ≡ (marks_behind marks entries).boots → marks.seq ≤ (marks_behind marks entries).seq)
marks_go_on marks [] order some = (omega arith, λ same. omega arith)
marks_go_on marks (entry.Renewed actions boots ∷ entries) order some = absurd (omega (arith, some, order.0.1))
marks_go_on marks (entry.Boot number ∷ entries) order some =
    let rest = (marks_go_on (behind marks (entry.Boot number)) entries order.1 (omega arith)).0 in
    (omega (arith, rest), λ same. absurd (omega (arith, rest, same)))
marks_go_on marks (entry.Plain a ∷ entries) order some = marks_go_on (behind marks (entry.Plain a)) entries order.1 some
marks_go_on marks (entry.Spent spent a ∷ entries) order some =
    let rest = marks_go_on (behind marks (entry.Spent spent a)) entries order.1 some in
    let seq = order.0.2 in
    (rest.0, λ same. let next = rest.1 same in omega (arith, next, seq))

-- each ticket of records in order was granted
pub granted_in : (boot number : ℕ) (marks : Marks) (entries : List Entry) → InOrder marks entries
    → (marks_behind marks entries).boots ≡ boot → (marks_behind marks entries).seq < number
    → Each (WasGranted boot number) (journal.pairs_of entries)
granted_in boot number marks [] order is below = no_item
granted_in boot number marks (entry.Renewed actions boots ∷ entries) order is below =
    granted_in boot number (behind marks (entry.Renewed actions boots)) entries order.1 is below
granted_in boot number marks (entry.Boot n ∷ entries) order is below = granted_in boot number (behind marks (entry.Boot n)) entries order.1 is below
granted_in boot number marks (entry.Plain a ∷ entries) order is below =
    item (λ ticket same. none_some ticket same)
    (granted_in boot number (behind marks (entry.Plain a)) entries order.1 is below)
granted_in boot number marks (entry.Spent spent a ∷ entries) order is below =
    let later = behind marks (entry.Spent spent a) in
    let first = order.0.0 in
    let rest = marks_go_on later entries order.1 (omega (arith, first, order.0.1)) in
    let low = rest.0 in
    item
    (λ ticket same. subst (IsGranted boot number) (some_ticket same) (record {
      earlier = omega (arith, low, first, is);
      below = λ here. let most = rest.1 (omega (arith, first, is, here)) in omega (arith, most, below);
    }))
    (granted_in boot number later entries order.1 is below)

-- what the records of a journal tell of a state whose tickets go on behind them
sound_with : (s : MachineState) (entries : List Entry) (pairs : PlainHistory) → InOrder fresh entries
    → journal.pairs_of entries ≡ pairs → all_pairs s ≡ pairs → 0 < s.boot → 0 < s.number
    → (marks_of entries).boots ≡ s.boot → (marks_of entries).seq < s.number → IsSound s
sound_with s entries pairs order tells is boot number boots seq = record {
  boot = boot;
  number = number;
  apart = subst AreApart (tells ∙ sym is) (apart_in fresh entries order);
  granted = subst (Each (WasGranted s.boot s.number)) (tells ∙ sym is) (granted_in s.boot s.number fresh entries order boots seq);
}

by_slot : (s : MachineState) (slot : Slot) (entries : List Entry) (marks : Marks) → s.slot ≡ slot → InOrder fresh entries
    → journal.pairs_of entries ≡ s.history → marks_of entries ≡ marks → TicketsGoOn marks s → IsSound s
by_slot s Free entries marks is order tells marked on =
    let boots = ap (λ (m : Marks). m.boots) marked in
    let seqs = ap (λ (m : Marks). m.seq) marked in
    let boot = on.boot in
    let number = on.number in
    sound_with s entries s.history order tells
    (ap (λ slot. s.history ++ reserved slot) is ∙ append-nil s.history)
    (omega (arith, on.begun)) (omega (arith, number)) (omega (arith, boots, boot)) (omega (arith, seqs, number))
by_slot s (Held ticket a deadline) entries marks is order tells marked on =
    let boots = ap (λ (m : Marks). m.boots) marked in
    let seqs = ap (λ (m : Marks). m.seq) marked in
    let boot = on.boot in
    let number = on.number in
    let of = on.reserved ticket a deadline is in
    let can : CanSpend (marks_of entries) ticket = subst (λ (m : Marks). CanSpend m ticket) (sym marked) of.0 in
    let e = entry.Spent ticket a in
    let next = marks_of-more entries e in
    let next_boots = ap (λ (m : Marks). m.boots) next in
    let next_seq = ap (λ (m : Marks). m.seq) next in
    let below = of.1 in
    sound_with s (entries ++ e ∷ []) (s.history ++ (Some ticket, a) ∷ [])
    (order-more fresh entries e order can)
    (pairs-append entries (e ∷ []) ∙ ap (λ (h : PlainHistory). h ++ (Some ticket, a) ∷ []) tells)
    (ap (λ slot. s.history ++ reserved slot) is)
    (omega (arith, on.begun)) (omega (arith, number)) (omega (arith, next_boots, boots, boot)) (omega (arith, next_seq, below))

-- the file of a site that tells it may be left
pub file_left : (site : MemorySiteState) → site.told ≡ true → (crashes_of site).now site.image
file_left site told =
    let P : Bool → Type 0 = λ t. OfFile (crashes_of site).now (told_disk t site.image (opened_where site.attached site.name site.past)) in
    subst P told (memory_is_lawful site).file

-- the disk is told
pub disk_told : (site : MemorySiteState) → site.told ≡ true
    → (state_of site).disk ≡ Some (record { file = site.image; opened = opened_where site.attached site.name site.past })
disk_told site told = ap (λ t. told_disk t site.image (opened_where site.attached site.name site.past)) told

-- the file of a manager that fits its site is its journal
pub journal_of : (m : ManagerState) (site : MemorySiteState) → FitsSite m (state_of site) (crashes_of site) → site.told ≡ true
    → IsJournalWith site.image (canonical_text m.form) m.machine.history m.store.marks m.store.gate
journal_of m site fits told = fits.fits.images _ (disk_told site told) site.image (file_left site told)

pub fits_sound : (m : ManagerState) (site : MemorySiteState) → FitsSite m (state_of site) (crashes_of site) → site.told ≡ true → IsSound m.machine
fits_sound m site fits told =
    let of = journal_of m site fits told in
    by_slot m.machine m.machine.slot of.entries m.store.marks refl of.journal.closes.records.order of.pairs of.marked fits.tickets

-- the count of the history and the boot fit into 64 bits
pub fits_few : (m : ManagerState) (site : MemorySiteState) → FitsSite m (state_of site) (crashes_of site) → site.told ≡ true
    → (count m.machine ≤ 2 ^ 63 + 1000000) × (m.machine.boot ≤ 2 ^ 63 + 1000000)
fits_few m site fits told =
    let of = journal_of m site fits told in
    let records = of.journal.closes.records in
    let few = of.journal.closes.few in
    let actions = few.actions in
    let boots = few.boots in
    let sound = sound-all fresh of.entries sound-fresh records.valid records.order in
    let low = sound.boots in
    let least = sound.actions in
    let renewed : m.machine.renewed ≡ renewed_of (marks_of of.entries) =
    fits.tickets.renewed ∙ ap renewed_of (sym of.marked) in
    let marks = ap (λ (m : Marks). m.boots) of.marked in (
      omega (arith, actions, ap length of.pairs, least, ap (λ (r : Renewed). r.actions) renewed),
      omega (arith, boots, low, marks, fits.tickets.boot),
    )

-- the test of a sound state
absent_test : (ticket : Ticket) (others : PlainHistory) → IsAbsent ticket others → is_absent (Some ticket) others ≡ true
absent_test ticket [] is = refl
absent_test ticket (spent ∷ others) is =
    and_from (not (names_ticket ticket spent.0)) (is_absent (Some ticket) others) (other spent.0 (Each-head is)) (absent_test ticket others (Each-tail is))
  where
    no : (u : Ticket) (b : Bool) → same_ticket ticket u ≡ b → (Some u ≢ Some ticket) → not b ≡ true
    no u false is isnt = refl
    no u true is isnt =
        let both = and_parts (ticket.boot == u.boot) (ticket.seq == u.seq) is in
        let boots = eqb-true ticket.boot u.boot both.0 in
        let seqs = eqb-true ticket.seq u.seq both.1 in
        absurd (isnt (λ i. Some (record { boot = sym boots i; seq = sym seqs i })))

    other : (o : Option Ticket) → o ≢ Some ticket → not (names_ticket ticket o) ≡ true
    other None isnt = refl
    other (Some u) isnt = no u (same_ticket ticket u) refl isnt

apart_test : (pairs : PlainHistory) → AreApart pairs → are_apart pairs ≡ true
apart_test [] is = refl
apart_test (spent ∷ others) is = and_from (is_absent spent.0 others) (are_apart others) (first spent.0 is.0) (apart_test others is.1)
  where
    first : (o : Option Ticket) → ((ticket : Ticket) → o ≡ Some ticket → IsAbsent ticket others) → is_absent o others ≡ true
    first None absent = refl
    first (Some ticket) absent = absent_test ticket others (absent ticket refl)

granted_test : (boot number : ℕ) (o : Option Ticket) → ((ticket : Ticket) → o ≡ Some ticket → IsGranted boot number ticket) → is_granted boot number o ≡ true
granted_test boot number None was = refl
granted_test boot number (Some ticket) was =
    let of = was ticket refl in
    and_from (nat_le ticket.boot boot) (not (ticket.boot == boot) || nat_lt ticket.seq number) (le-leb ticket.boot boot of.earlier)
    (elim (cases_eq ticket.boot boot) [
      | inl same ↦ or_right (not (ticket.boot == boot)) (nat_lt ticket.seq number) (lt-ltb ticket.seq number (of.below same))
      | inr other ↦ or_left (ticket.boot == boot) (nat_lt ticket.seq number) (ne_eqb ticket.boot boot other)
    ])
  where
    or_right : (a b : Bool) → b ≡ true → (a || b) ≡ true
    or_right true b is = refl
    or_right false b is = is

    or_left : (a b : Bool) → a ≡ false → (not a || b) ≡ true
    or_left true b is = cc
    or_left false b is = refl

all_test : (boot number : ℕ) (pairs : PlainHistory) → Each (WasGranted boot number) pairs
    → list_all (λ (spent : Spent). is_granted boot number spent.0) pairs ≡ true
all_test boot number [] is = refl
all_test boot number (spent ∷ others) is =
    and_from (is_granted boot number spent.0) (list_all (λ (spent : Spent). is_granted boot number spent.0) others)
    (granted_test boot number spent.0 (Each-head is)) (all_test boot number others (Each-tail is))

pub sound_test : (s : MachineState) → IsSound s → is_sound s ≡ true
sound_test s is =
    and_from (nat_lt 0 s.boot && nat_lt 0 s.number)
    (are_apart (all_pairs s) && list_all (λ (spent : Spent). is_granted s.boot s.number spent.0) (all_pairs s))
    (and_from (nat_lt 0 s.boot) (nat_lt 0 s.number) (lt-ltb 0 s.boot is.boot) (lt-ltb 0 s.number is.number))
    (and_from (are_apart (all_pairs s)) (list_all (λ (spent : Spent). is_granted s.boot s.number spent.0) (all_pairs s))
    (apart_test (all_pairs s) is.apart) (all_test s.boot s.number (all_pairs s) is.granted))
