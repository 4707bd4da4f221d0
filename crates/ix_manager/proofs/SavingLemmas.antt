-- What calls on a site make of what a crash may leave, one after the other.
use Rattle.std.proofs.Common.{◌≡◌, ◌⊎◌, ℕ, ◌<◌, ◌≤◌, List, [], ◌∷◌, ◌++◌, length, append_assoc}
use Rattle.std.proofs.Common.{append-nil, Option, None, Some, IsSome, Result, true≢false, inl, inr}
use Rattle.std.proofs.Common.{refl, sym, ◌∙◌, ap, subst, arith}
use Rattle.std.proofs.lemmas.List.{length-append}
use Rattle.ix_values.specs.PlainAction.{PlainAction}
use Rattle.ix_values.specs.declared.tickets.Ticket.{Ticket}
use Rattle.ix_journal.specs.Entries.{CanSpend, behind, renewed_of}
use Rattle.ix_journal.specs.History.{PlainHistory}
use Rattle.ix_expr.specs.CanonicalText.{canonical_text}
use Rattle.ix_expr.specs.Form.{Form}
use Rattle.ix_journal.specs.Recovery as journal
use Rattle.ix_journal.specs.Recovery.{HoldsBoots, IsJournalWith, Recovers}
use Rattle.ix_journal.specs.declared.entries.Entry.TheVariants as entry
use Rattle.ix_journal.specs.declared.entries.Marks.{Marks}
use Rattle.ix_journal.specs.declared.entries.Renewed.{Renewed}
use Rattle.ix_lease.specs.declared.Slot.TheVariants.{Free, Held}
use Rattle.ix_outside.specs.Contents.{SendsBytes}
use Rattle.ix_outside.specs.Counts.{Rose}
use Rattle.ix_outside.specs.Crashes.{Crashes, AreLawful, OneCall, LeavesTheSame}
use Rattle.ix_outside.specs.Disk.{Disk}
use Rattle.ix_outside.specs.SiteState.{SiteState, OnlySend}
use Rattle.ix_outside.specs.inside.DiskCalls.{DiskCalls, KeepsOpened, LeavesOnly, span}
use Rattle.ix_outside.proofs.Counting.{Rose-later, Rose-earlier}
use Rattle.ix_outside.proofs.Passing.{Passes-none, Passes-join, LeavesOnly-none, LeavesOnly-join}
use Rattle.ix_store.specs.inside.Keeping.{FitsFile, IsWithOrWithout}
use Rattle.ix_store.specs.Keeping.{Keeping}
use Rattle.ix_manager.specs.declared.faults.Go.{Go}
use Rattle.ix_manager.specs.declared.faults.Go.TheVariants.{More, Stopped}
use Rattle.ix_manager.specs.Runs.{Ending, going, stopped, failed}
use Rattle.ix_manager.specs.Images as image
use Rattle.ix_manager.specs.Images.{IsOwn, Keeps, with_failed, EndsAs}
use Rattle.ix_manager.specs.Machine.{MachineState}
use Rattle.ix_manager.specs.inside.Does.{MayReserve}
use Rattle.ix_manager.specs.inside.OverSite.{FitsWith, TicketsGoOn, ending_after}
use Rattle.ix_manager.proofs.SlotLemmas.{free_holds, same_ticket}
use Rattle.ix_manager.proofs.AcknowledgedLemmas.{the_value, more_none, more_call, sent_told}
use Rattle.ix_manager.proofs.AcknowledgedLemmas.{sent_more, more_disk, more_join}
use Rattle.ix_manager.specs.inside.Saving.{UnlessFailed, WhereFailed, OnlySends, Saves}

-- a disk that is told as before, or no more, was told
pub still_told : (old new : Option Disk) → (new ≡ old) ⊎ (new ≡ None) → IsSome new → IsSome old
still_told old new (inl same) told = let P : Option Disk → Type 0 = λ disk. IsSome disk in subst P same told
still_told old new (inr none) told =
    let P : Option Disk → Type 0 = λ disk. IsSome disk in
    let untold : P None = subst P none told in absurd (true≢false (sym untold))

-- a disk whose attached file stays was told, where it is
pub kept_told : (old new : Option Disk) → KeepsOpened old new → IsSome new → IsSome old
kept_told None new keeps told = let P : Option Disk → Type 0 = λ disk. IsSome disk in subst P keeps told
kept_told (Some old) new keeps told = refl

-- a journal recovers its history
abbrev pub journal_recovers : (at text : List ℕ) (h : PlainHistory) (marks : Marks) (gate : ℕ)
    → IsJournalWith at text h marks gate → Recovers at h
journal_recovers at text h marks gate is = record {
  entries = is.entries;
  keeps = journal.ready at text is.entries gate is.journal;
  pairs = is.pairs;
}

-- and holds its boots
abbrev pub journal_holds : (at text : List ℕ) (h : PlainHistory) (marks : Marks) (gate : ℕ)
    → IsJournalWith at text h marks gate → HoldsBoots at (renewed_of marks) marks.boots
journal_holds at text h marks gate is = record {
  entries = is.entries;
  keeps = journal.ready at text is.entries gate is.journal;
  said = ap renewed_of is.marked;
  number = ap (λ (m : Marks). m.boots) is.marked;
}

-- the same with another spelling
pub holds_same : (at : List ℕ) (renewed renewed' : Renewed) (boots boots' : ℕ) → renewed' ≡ renewed → boots' ≡ boots
    → HoldsBoots at renewed boots → HoldsBoots at renewed' boots'
holds_same at renewed renewed' boots boots' r b =
    subst (λ (both : Renewed × ℕ). HoldsBoots at both.0 both.1) (λ i. (sym r i, sym b i))

-- a journal of the expression keeps its history, whatever follows that
abbrev pub journal_keeps : (x : Form) (least : ℕ) (h rest history : PlainHistory) (marks : Marks) (gate : ℕ) (at : List ℕ)
    → IsJournalWith at (canonical_text x) h marks gate → h ++ rest ≡ history → least ≤ length h → Keeps x least history at
journal_keeps x least h rest history marks gate at is same long = record {
  own = image.ready h marks gate is;
  kept = h;
  recovers = journal_recovers at (canonical_text x) h marks gate is;
  rest = rest;
  prefix = same;
  long = long;
}

-- of a longer history too
abbrev pub keeps_longer : (x : Form) (least : ℕ) (h more history : PlainHistory) (at : List ℕ)
    → h ++ more ≡ history → Keeps x least h at → Keeps x least history at
keeps_longer x least h more history at longer keeps = record {
  own = keeps.own;
  kept = keeps.kept;
  recovers = keeps.recovers;
  rest = keeps.rest ++ more;
  prefix = sym (append_assoc keeps.kept keeps.rest more) ∙ ap (λ (w : PlainHistory). w ++ more) keeps.prefix ∙ longer;
  long = keeps.long;
}

-- and of fewer actions
abbrev pub keeps_fewer : (x : Form) (least fewer : ℕ) (h : PlainHistory) (at : List ℕ) → fewer ≤ least
    → Keeps x least h at → Keeps x fewer h at
keeps_fewer x least fewer h at le keeps = record {
  own = keeps.own;
  kept = keeps.kept;
  recovers = keeps.recovers;
  rest = keeps.rest;
  prefix = keeps.prefix;
  long = let long = keeps.long in omega arith;
}

-- where a store fits, each image that a crash may leave now is a journal of the history
pub fits_images : (x : Form) (s : MachineState) (store : Keeping) (site : SiteState) (crashes : Crashes) → FitsWith x s store site crashes
    → IsSome site.disk → (at : List ℕ) → crashes.now at
    → IsJournalWith at (canonical_text x) s.history store.marks store.gate
fits_images x s store site crashes fits told = let disk = the_value site.disk told in
    fits.fits.images disk.0 disk.1

-- and holds the boots up to the machine's
fits_boots : (x : Form) (s : MachineState) (store : Keeping) (site : SiteState) (crashes : Crashes) → FitsWith x s store site crashes
    → IsSome site.disk → (at : List ℕ) → crashes.now at → HoldsBoots at s.renewed s.boot
fits_boots x s store site crashes fits told at now =
    holds_same at (renewed_of store.marks) s.renewed store.marks.boots s.boot fits.tickets.renewed fits.tickets.boot
    (journal_holds at (canonical_text x) s.history store.marks store.gate (fits_images x s store site crashes fits told at now))

-- the tickets of a machine that may have reserved the next one go on
reserved_on : (marks : Marks) (s after : MachineState) → MayReserve s after → TicketsGoOn marks s → TicketsGoOn marks after
reserved_on marks s after reserves on = record {
  renewed = reserves.renewed ∙ on.renewed;
  boot = reserves.boot ∙ on.boot;
  begun = subst (λ (both : Renewed × ℕ). both.0.boots < both.1) (λ i. (sym reserves.renewed i, sym reserves.boot i))
      on.begun;
  number = number;
  reserved = reserved;
}
  where
    number : marks.seq < after.number
    number = let below = on.number in elim reserves.slot [
      | inl stays ↦ let same = stays.1 in omega (arith, same, below)
      | inr (inl free) ↦ let same = free.1 in omega (arith, same, below)
      | inr (inr next) ↦ let more = next.3 in omega (arith, more, below)
    ]

    reserved : (ticket : Ticket) (a : PlainAction) (deadline : ℕ) → after.slot ≡ Held ticket a deadline
        → CanSpend marks ticket × (ticket.seq < after.number)
    reserved ticket a deadline is = elim reserves.slot [
      | inl stays ↦
          let was = on.reserved ticket a deadline (sym stays.0 ∙ is) in
          (was.0, subst (λ n. ticket.seq < n) (sym stays.1) was.1)
      | inr (inl free) ↦ free_holds ticket a deadline (sym free.0 ∙ is)
      | inr (inr next) ↦
          let below = on.number in
          let more = next.3 in
          let above : s.number < after.number = omega (arith, more) in
          subst (λ (t : Ticket). CanSpend marks t × (t.seq < after.number))
          (same_ticket (sym next.2 ∙ is))
          ((on.boot, subst (λ (r : Renewed). r.boots < s.boot) on.renewed on.begun, below), above)
    ]

-- and so do those of one that spent the reserved one
pub spent_on : (old new : Marks) (s : MachineState) (h : PlainHistory) (ticket : Ticket) (a : PlainAction) (deadline : ℕ)
    → s.slot ≡ Held ticket a deadline → new ≡ behind old (entry.Spent ticket a) → TicketsGoOn old s
    → TicketsGoOn new (record s { history = h; slot = Free })
spent_on old new s h ticket a deadline held is on = record {
  renewed = on.renewed ∙ sym (ap renewed_of is);
  boot = on.boot ∙ sym (ap (λ (m : Marks). m.boots) is);
  begun = on.begun;
  number = subst (λ n. n < s.number) (sym (ap (λ (m : Marks). m.seq) is)) (on.reserved ticket a deadline held).1;
  reserved = λ ticket a deadline free. free_holds ticket a deadline free;
}

-- nothing is reserved
pub reserves_none : (s : MachineState) → MayReserve s s
reserves_none s = record { renewed = refl; boot = refl; slot = inl (refl, refl) }

-- a store that fits goes on to fit where the history stays
pub fits_reserved : (x : Form) (s after : MachineState) (store : Keeping) (site : SiteState) (crashes : Crashes)
    → after.history ≡ s.history → MayReserve s after → FitsWith x s store site crashes → FitsWith x after store site crashes
fits_reserved x s after store site crashes same reserves fits = record {
  works = fits.works;
  fits = subst (λ (h : PlainHistory). FitsFile site crashes store (canonical_text x) h) (sym same) fits.fits;
  tickets = reserved_on store.marks s after reserves fits.tickets;
}

pub unless_failed : (e : Ending) {P Q : Type 0} → (P → Q) → UnlessFailed e P → UnlessFailed e Q
unless_failed going to p = to p
unless_failed stopped to p = to p
unless_failed (failed a) to p = tt

pub where_failed : (e : Ending) {P Q : Type 0} → (P → Q) → WhereFailed e P → WhereFailed e Q
where_failed going to p = tt
where_failed stopped to p = tt
where_failed (failed a) to p = to p

-- no call, where the store fits
pub saves_none : (x : Form) (s : MachineState) (store : Keeping) (site : SiteState) (crashes : Crashes) → AreLawful site crashes
    → FitsWith x s store site crashes → Saves going x s s store (span site site crashes crashes)
saves_none x s store site crashes lawful fits = record {
  passes = Passes-none site crashes;
  sends = more_none site crashes lawful;
  count = omega arith;
  told = λ told. told;
  rest = [];
  grows = append-nil s.history;
  renewed = refl;
  boot = refl;
  keeps = λ told. LeavesOnly-none (Keeps x (length s.history) s.history) site crashes lawful
      (λ at now. journal_keeps x (length s.history) s.history [] s.history store.marks store.gate at
      (fits_images x s store site crashes fits told at now) (append-nil s.history) (omega arith));
  boots = λ told. LeavesOnly-none (λ at. HoldsBoots at s.renewed s.boot) site crashes lawful (fits_boots x s store site crashes fits told);
  ends = λ told at now. journal_recovers at (canonical_text x) s.history store.marks store.gate
      (fits_images x s store site crashes fits told at now);
  fits = fits;
  faults = tt;
}

-- two stretches make one
pub saves_join : (e : Ending) (x : Form) (h mid new : MachineState) (one two : Keeping) (a b c : SiteState) (p q r : Crashes) → AreLawful c r
    → Saves going x h mid one (span a b p q) → Saves e x mid new two (span b c q r) → Saves e x h new two (span a c p r)
saves_join e x h mid new one two a b c p q r lawful first second = record {
  passes = Passes-join a b c p q r lawful first.passes second.passes;
  sends = more_join a b c p q r first.passes.left.later second.passes.left_since first.sends
      second.sends;
  count = let le = first.count in let le2 = second.count in omega arith;
  told = λ told. first.told (second.told told);
  rest = first.rest ++ second.rest;
  grows = sym (append_assoc h.history first.rest second.rest) ∙ ap (λ (w : PlainHistory). w ++ second.rest) first.grows ∙ second.grows;
  renewed = second.renewed ∙ first.renewed;
  boot = second.boot ∙ first.boot;
  keeps = λ told. LeavesOnly-join (Keeps x (length h.history) (with_failed e new.history)) a b c p q r
      (λ at left. keeps_longer x (length h.history) mid.history second.rest (with_failed e new.history) at second.grows
      (first.keeps (second.told told) at left))
      second.passes.left first.passes.left.later
      (λ at left. keeps_fewer x (length mid.history) (length h.history) (with_failed e new.history) at
      (shorter h.history first.rest mid.history first.grows) (second.keeps told at left));
  boots = λ told. LeavesOnly-join (λ at. HoldsBoots at h.renewed h.boot) a b c p q r (first.boots (second.told told))
      second.passes.left first.passes.left.later
      (λ at left. holds_same at mid.renewed h.renewed mid.boot h.boot (sym first.renewed) (sym first.boot)
      (second.boots told at left));
  ends = second.ends;
  fits = second.fits;
  faults = where_failed e (Rose-earlier a.counts.disk b.counts.disk c.counts.disk first.count) second.faults;
}
  where
    shorter : (h rest mid : PlainHistory) → h ++ rest ≡ mid → length h ≤ length mid
    shorter h rest mid same = let counts = sym (ap length same) ∙ length-append h rest in omega arith

-- of a state that has another spelling
pub saves_same : (e : Ending) (x : Form) (h new other : MachineState) (store : Keeping) (a b : SiteState) (p q : Crashes) → other ≡ new
    → Saves e x h new store (span a b p q) → Saves e x h other store (span a b p q)
saves_same e x h new other store a b p q same = subst (λ (s : MachineState). Saves e x h s store (span a b p q)) (sym same)

-- of a machine that may have reserved a ticket then
pub saves_reserved : (x : Form) (h mid new : MachineState) (store : Keeping) (a b : SiteState) (p q : Crashes)
    → new.history ≡ mid.history → MayReserve mid new → Saves going x h mid store (span a b p q) → Saves going x h new store (span a b p q)
saves_reserved x h mid new store a b p q same reserves saves = record {
  passes = saves.passes;
  sends = saves.sends;
  count = saves.count;
  told = saves.told;
  rest = saves.rest;
  grows = saves.grows ∙ sym same;
  renewed = reserves.renewed ∙ saves.renewed;
  boot = reserves.boot ∙ saves.boot;
  keeps = λ told at left. subst (λ (w : PlainHistory). Keeps x (length h.history) w at) (sym same) (saves.keeps told at left);
  boots = saves.boots;
  ends = λ told at now. subst (λ (w : PlainHistory). Recovers at w) (sym same) (saves.ends told at now);
  fits = fits_reserved x mid new store b q same reserves saves.fits;
  faults = tt;
}

-- `stop` may end the run
pub saves_after : (go : Go) (x : Form) (h new : MachineState) (store : Keeping) (a b : SiteState) (p q : Crashes)
    → Saves going x h new store (span a b p q) → Saves (ending_after go) x h new store (span a b p q)
saves_after More x h new store a b p q saves = saves
saves_after Stopped x h new store a b p q saves = record {
  passes = saves.passes;
  sends = saves.sends;
  count = saves.count;
  told = saves.told;
  rest = saves.rest;
  grows = saves.grows;
  renewed = saves.renewed;
  boot = saves.boot;
  keeps = saves.keeps;
  boots = saves.boots;
  ends = saves.ends;
  fits = saves.fits;
  faults = tt;
}

-- nothing is sent
pub only_none : (site : SiteState) (crashes : Crashes) → AreLawful site crashes → OnlySends (span site site crashes crashes)
only_none site crashes lawful = record {
  count = refl;
  disk = inl refl;
  now = λ at. (λ now. now, λ now. now);
  passes = Passes-none site crashes;
  images = LeavesOnly-none crashes.now site crashes lawful (λ at now. now);
  sends = more_none site crashes lawful;
}

-- one send
pub only_one : {T E : Type 0} (conn : ℕ) (bytes : List ℕ) (result : Result T E)
    (old new : SiteState) (was is : Crashes)
    → OnlySend old new → SendsBytes conn bytes result old.contents new.contents
    → LeavesTheSame was.now is.now → OneCall (span old new was is)
    → OnlySends (span old new was is)
only_one conn bytes result old new was is only contents same call = record {
  count = only.disk;
  disk = only.file;
  now = same;
  passes = call.passes;
  images = λ at left. elim (call.images at left) [ inl now ↦ now | inr now ↦ (same at).0 now ];
  sends = more_call old new was is call
      (sent_told conn bytes result old.contents new.contents contents)
      (λ s s' told told'. sent_more conn bytes result old.contents new.contents s s' contents told
      told');
}

-- sends and further ones
pub only_join : (a b c : SiteState) (p q r : Crashes) → AreLawful c r → OnlySends (span a b p q) → OnlySends (span b c q r) → OnlySends (span a c p r)
only_join a b c p q r lawful first second = record {
  count = second.count ∙ first.count;
  disk = elim second.disk [
    | inl same ↦ elim first.disk [ inl before ↦ inl (same ∙ before) | inr none ↦ inr (same ∙ none) ]
    | inr none ↦ inr none
  ];
  now = λ at. (λ now. (first.now at).0 ((second.now at).0 now), λ now. (second.now at).1 ((first.now at).1 now));
  passes = Passes-join a b c p q r lawful first.passes second.passes;
  images = LeavesOnly-join p.now a b c p q r first.images second.passes.left first.passes.left.later
      (λ at left. (first.now at).0 (second.images at left));
  sends = more_join a b c p q r first.passes.left.later second.passes.left_since first.sends
      second.sends;
}

-- where a store fits, it does after sends
pub fits_sends : (x : Form) (s : MachineState) (store : Keeping) (b c : SiteState) (q r : Crashes) → OnlySends (span b c q r)
    → FitsWith x s store b q → FitsWith x s store c r
fits_sends x s store b c q r only fits = record {
  works = fits.works;
  fits = record {
    count = fits.fits.count;
    images = λ disk is at now.
        let P : Option Disk → Type 0 = λ disk. IsSome disk in
        let told : IsSome c.disk = subst P (sym is) refl in
        fits_images x s store b q fits (still_told b.disk c.disk only.disk told) at ((only.now at).0 now);
  };
  tickets = fits.tickets;
}

-- sends behind calls
pub saves_sends : (e : Ending) (x : Form) (h new : MachineState) (store : Keeping) (a b c : SiteState) (p q r : Crashes)
    → AreLawful b q → AreLawful c r → Saves e x h new store (span a b p q) → OnlySends (span b c q r) → Saves e x h new store (span a c p r)
saves_sends e x h new store a b c p q r before lawful first only = record {
  passes = Passes-join a b c p q r lawful first.passes only.passes;
  sends = more_join a b c p q r first.passes.left.later only.passes.left_since first.sends only.sends;
  count = let le = first.count in let same = only.count in omega arith;
  told = λ told. first.told (still_told b.disk c.disk only.disk told);
  rest = first.rest;
  grows = first.grows;
  renewed = first.renewed;
  boot = first.boot;
  keeps = λ told.
      let keeps = first.keeps (still_told b.disk c.disk only.disk told) in
      LeavesOnly-join (Keeps x (length h.history) (with_failed e new.history)) a b c p q r keeps only.passes.left first.passes.left.later
      (λ at left. keeps at (before.left_earlier a.tick b.tick at first.passes.left.later ((before.left_now at).1 (only.images at left))));
  boots = λ told.
      let boots = first.boots (still_told b.disk c.disk only.disk told) in
      LeavesOnly-join (λ at. HoldsBoots at h.renewed h.boot) a b c p q r boots only.passes.left first.passes.left.later
      (λ at left. boots at (before.left_earlier a.tick b.tick at first.passes.left.later ((before.left_now at).1 (only.images at left))));
  ends = λ told at now. first.ends (still_told b.disk c.disk only.disk told) at ((only.now at).0 now);
  fits = unless_failed e (fits_sends x new store b c q r only) first.fits;
  faults = where_failed e (λ rose. Rose-later a.counts.disk b.counts.disk c.counts.disk rose (let same = only.count in omega arith)) first.faults;
}

-- an item was answered that left the journal alone
pub answered_saves : (go : Go) (x : Form) (h new : MachineState) (store : Keeping) (a b : SiteState) (p q : Crashes)
    → AreLawful a p → AreLawful b q → FitsWith x h store a p → new.history ≡ h.history → MayReserve h new → OnlySends (span a b p q)
    → Saves (ending_after go) x h new store (span a b p q)
answered_saves go x h new store a b p q before lawful fits same reserves only =
    saves_after go x h new store a b p q (saves_reserved x h h new store a b p q same reserves
    (saves_sends going x h h store a a b p p q before lawful (saves_none x h store a p before fits) only))

module _ (x : Form) (s : MachineState) (marks : Marks) (renewed : s.renewed ≡ renewed_of marks)
    (boot : s.boot ≡ marks.boots) (ticket : Ticket) (action : PlainAction)
    (new : Keeping) (a b : SiteState) (p q : Crashes)
    (lawful : AreLawful b q) (calls : DiskCalls (span a b p q))
    (images : (disk : Disk) → a.disk ≡ Some disk
    → LeavesOnly (IsWithOrWithout (canonical_text x) s.history marks (entry.Spent ticket action)) (span a b p q)) where
  -- the history with the action and its ticket behind it, and the state then
  abbrev longer_history : PlainHistory
  longer_history = s.history ++ (Some ticket, action) ∷ []

  abbrev pub confirmed_state : MachineState
  confirmed_state = record s { history = longer_history; slot = Free }

  abbrev spent : Marks
  spent = behind marks (entry.Spent ticket action)

  was_told : IsSome b.disk → IsSome a.disk
  was_told told = kept_told a.disk b.disk calls.opened told

  with_or_without : IsSome b.disk
      → LeavesOnly (IsWithOrWithout (canonical_text x) s.history marks (entry.Spent ticket action)) (span a b p q)
  with_or_without told = let disk = the_value a.disk (was_told told) in images disk.0 disk.1

  longer : length s.history ≤ length longer_history
  longer = let counts = length-append s.history ((Some ticket, action) ∷ []) in omega arith

  appended_keeps : IsSome b.disk → LeavesOnly (Keeps x (length s.history) longer_history) (span a b p q)
  appended_keeps told at left =
      let is = with_or_without told at left in
      let least = length s.history in
      elim is.1 [
        | inl without ↦ journal_keeps x least s.history ((Some ticket, action) ∷ []) longer_history marks is.0 at without refl (omega arith)
        | inr with_it ↦ journal_keeps x least longer_history [] longer_history spent is.0 at with_it (append-nil longer_history) longer
      ]

  appended_boots : IsSome b.disk → LeavesOnly (λ at. HoldsBoots at s.renewed s.boot) (span a b p q)
  appended_boots told at left =
      let is = with_or_without told at left in
      holds_same at (renewed_of marks) s.renewed marks.boots s.boot renewed boot (elim is.1 [
        | inl without ↦ journal_holds at (canonical_text x) s.history marks is.0 without
        | inr with_it ↦ journal_holds at (canonical_text x) longer_history spent is.0 with_it
      ])

  -- an action was appended
  pub appended_saves : FitsWith x confirmed_state new b q → Saves going x s confirmed_state new (span a b p q)
  appended_saves fits = record {
    passes = calls.passes;
    sends = more_disk a b p q calls;
    count = calls.rest.disk;
    told = was_told;
    rest = (Some ticket, action) ∷ [];
    grows = refl;
    renewed = refl;
    boot = refl;
    keeps = appended_keeps;
    boots = appended_boots;
    ends = λ told at now. journal_recovers at (canonical_text x) longer_history new.marks new.gate
        (fits_images x confirmed_state new b q fits told at now);
    fits = fits;
    faults = tt;
  }

  -- an append failed
  pub failed_saves : Rose a.counts.disk b.counts.disk → Saves (failed (Some ticket, action)) x s s new (span a b p q)
  failed_saves rose = record {
    passes = calls.passes;
    sends = more_disk a b p q calls;
    count = calls.rest.disk;
    told = was_told;
    rest = (Some ticket, action) ∷ [];
    grows = refl;
    renewed = refl;
    boot = refl;
    keeps = appended_keeps;
    boots = appended_boots;
    ends = λ told at now.
        let left = lawful.left_earlier a.tick b.tick at calls.passes.left.later ((lawful.left_now at).1 now) in
        let is = with_or_without told at left in
        elim is.1 [
          | inl without ↦ inl (journal_recovers at (canonical_text x) s.history marks is.0 without)
          | inr with_it ↦ inr (journal_recovers at (canonical_text x) longer_history spent is.0 with_it)
        ];
    fits = tt;
    faults = rose;
  }
