-- The laws, by induction over the run.
use Rattle.std.proofs.Common.{◌≡◌, ◌≢◌, inl, inr, ℕ, zero, suc, ◌+◌, ◌<◌, ◌==◌, Bool, true, false, if◌then◌else◌, List, [], ◌∷◌, ◌++◌, Option, None, Some, slice_get, refl, sym, ap, ◌∙◌, subst, ap₂, take, arith}
use Rattle.std.proofs.lemmas.Bool.{eqb-true}
use Rattle.std.proofs.lemmas.Option.{none-some}
use Rattle.std.specs.Int.{div_ceil}
use Rattle.ix_words.specs.Each.{Each, Member, here, there}
use Rattle.ix_words.proofs.Canon.{Member-same, Member-cases}
use Rattle.ix_blocks.specs.Register.{Register, Transaction, fits, changed, apply, image, put_blocks, delete_from, first_blocks}
use Rattle.ix_blocks.specs.declared.claim.Claim.{Claim}
use Rattle.ix_blocks.specs.Owners.{Sent, number, Answer, Change, OwnerState, outside, attaching, waits, owns, ended, Unsynced, Event, attaches, syncs, comes, hears, elsewhere, World, attach, sync, come, come_one, hear_one, happens, after_events, empty_store, world_after}
use Rattle.ix_blocks.specs.Laws.{last_owner, HasWritten, EarlierOwnersWriteNothing, SyncsAreOfTheLastOwner, EachWritesOnceInOrder, AttachesKeepTheFile, AnsweredWritesStand, SettledFilesStay, LooksTellWhoOwns, numbers_of, transactions_of, Descends}
use Rattle.ix_blocks.proofs.Changes.{guard, Leads, ByLast, made_last, newest_owner, first_highest, rest_below, one_below, among_written}
use Rattle.ix_blocks.proofs.Fine.{IsSync, IsAttach, Stands, Fine}
use Rattle.ix_blocks.proofs.Sending.{attach-fine, sync-fine}
use Rattle.ix_blocks.proofs.Coming.{spent, by_newest, by_last_owner, come-fine}
use Rattle.ix_blocks.proofs.Hearing.{hears-fine, hear-stands}

unwrapped : {A : Type 0} → A → Option A → A
unwrapped x None = x
unwrapped x (Some y) = y

pub got : {A : Type 0} (xs : List A) (which : ℕ) (x : A) → slice_get xs which ≡ Some x → Member x xs
unfolding unwrapped
got [] which x e = absurd (cc)
got (y ∷ xs) zero x e = Member-same xs (sym (ap (unwrapped x) e))
got (y ∷ xs) (suc which) x e = there (got xs which x e)

module _ (w : World) (fine : Fine w) where
  one-comes : (found : Option Sent) → ((s : Sent) → found ≡ Some s → Member s w.sent) → Fine (come_one w found)
  one-comes None h = fine
  one-comes (Some s) h = come-fine w fine s (h s refl) (fits s.transaction w.register) refl

  one-hears : (found : Option Answer) → ((a : Answer) → found ≡ Some a → Member a w.answers) → Fine (hear_one w found)
  one-hears None h = fine
  one-hears (Some a) h =
      let who = a.to.owner in
      let k = fine.answered a (h a refl) in
      hears-fine w fine who _ (hear-stands w fine who (w.standing who) a.to a.says k.0 refl k.1 (fine.standings who))

  raised-fine : Fine (happens w elsewhere)
  raised-fine =
      record {
        newest = omega (arith, fine.newest);
        leads = fine.leads;
        were_sent = fine.were_sent;
        head = fine.head;
        guards = fine.guards;
        kinds = λ s m. elim (fine.kinds s m) [
          | inl a ↦ inl (record { no_owner = a.no_owner; no_number = a.no_number; no_puts = a.no_puts; none_gone = a.none_gone; as_long = a.as_long })
          | inr y ↦ inr y
        ];
        one_attach = fine.one_attach;
        answered = fine.answered;
        standings = fine.standings;
        by_last = fine.by_last;
        in_order = fine.in_order;
        numbered = fine.numbered;
      }

  pub event-fine : (event : Event) → Fine (happens w event)
  event-fine (attaches who) = attach-fine w fine who (w.standing who) (fine.standings who)
  event-fine (syncs who pending) = sync-fine w fine who pending (w.standing who) (fine.standings who)
  event-fine (comes which) = one-comes (slice_get w.sent which) (λ s e. got w.sent which s e)
  event-fine (hears which) = one-hears (slice_get w.answers which) (λ a e. got w.answers which a e)
  event-fine elsewhere = raised-fine

run-fine : (events : List Event) (w : World) → Fine w → Fine (after_events events w)
run-fine [] w fine = fine
run-fine (event ∷ events) w fine = run-fine events (happens w event) (event-fine w fine event)

start-fine : (newest : ℕ) → Fine (empty_store newest)
start-fine newest =
    record {
      newest = omega arith;
      leads = refl;
      were_sent = λ c m. elim m [ ];
      head = inl refl;
      guards = λ s m. elim m [ ];
      kinds = λ s m. elim m [ ];
      one_attach = λ s t m. elim m [ ];
      answered = λ a m. elim m [ ];
      standings = λ who s m o. elim m [ ];
      by_last = tt;
      in_order = λ who. tt;
      numbered = λ who. tt;
    }

pub after-fine : (newest : ℕ) (events : List Event) → Fine (world_after newest events)
after-fine newest events = run-fine events (empty_store newest) (start-fine newest)

pub run-append : (before after : List Event) (w : World) → after_events (before ++ after) w ≡ after_events after (after_events before w)
run-append [] after w = refl
run-append (event ∷ before) after w = run-append before after (happens w event)

-- a transaction whose guard doesn't fit writes nothing
writes-nothing : (t : Transaction) (register : Register) → t.guard ≢ register.revision → apply t register ≡ register
writes-nothing t register n = chosen (fits t register) refl
  where
    chosen : (b : Bool) → fits t register ≡ b → (if b then changed t register else register) ≡ register
    chosen true e = absurd (n (eqb-true _ _ e))
    chosen false e = refl

-- this owner attached, and then another one
pub record IsOver (old : ℕ) (changes : List Change) : Type 0 where
  pub written : HasWritten old 0 changes
  pub past : last_owner changes ≢ Some old

module _ (w : World) (fine : Fine w) (old : ℕ) where
  over-silent : IsOver old w.changes → (s : Sent) → Member s w.sent → s.owner ≡ old → guard s ≢ w.register.revision
  over-silent over s m o e = elim (fine.kinds s m) [
    | inl a ↦
        let c = over.written.change in
        let k = fine.were_sent c over.written.among in
        spent w fine s m c over.written.among (fine.one_attach c.sent s k m (over.written.is_theirs ∙ sym o) over.written.has_number a.no_number) e
    | inr y ↦ over.past (by_last_owner w fine s m y e ∙ ap Some o)
  ]

  over-comes : IsOver old w.changes → (s : Sent) → Member s w.sent → (b : Bool) → fits s.transaction w.register ≡ b → IsOver old (come w s b).changes
  over-comes over s m false e = over
  over-comes over s m true e =
      record {
        written = record { change = over.written.change; among = there over.written.among; is_theirs = over.written.is_theirs; has_number = over.written.has_number };
        past = chosen (number s == 0);
      }
    where
      chosen : (b : Bool) → (if b then Some s.owner else last_owner w.changes) ≢ Some old
      chosen true f = over-silent over s m (ap (λ (o : Option ℕ). elim o [ None ↦ old | Some n ↦ n ]) f) (eqb-true _ _ e)
      chosen false f = over.past f

  over-one : IsOver old w.changes → (found : Option Sent) → ((s : Sent) → found ≡ Some s → Member s w.sent) → IsOver old (come_one w found).changes
  over-one over None h = over
  over-one over (Some s) h = over-comes over s (h s refl) (fits s.transaction w.register) refl

  over-heard : IsOver old w.changes → (found : Option Answer) → IsOver old (hear_one w found).changes
  over-heard over None = over
  over-heard over (Some a) = over

  over-attach : IsOver old w.changes → (who : ℕ) (standing : OwnerState) → IsOver old (attach w who standing).changes
  over-attach over who outside = over
  over-attach over who attaching = over
  over-attach over who (waits claim) = over
  over-attach over who (owns claim) = over
  over-attach over who ended = over

  over-sync : IsOver old w.changes → (who : ℕ) (pending : Unsynced) (standing : OwnerState) → IsOver old (sync w who pending standing).changes
  over-sync over who pending outside = over
  over-sync over who pending attaching = over
  over-sync over who pending (waits claim) = over
  over-sync over who pending (owns claim) = over
  over-sync over who pending ended = over

  over-event : IsOver old w.changes → (event : Event) → IsOver old (happens w event).changes
  over-event over (attaches who) = over-attach over who (w.standing who)
  over-event over (syncs who pending) = over-sync over who pending (w.standing who)
  over-event over (comes which) = over-one over (slice_get w.sent which) (λ s e. got w.sent which s e)
  over-event over (hears which) = over-heard over (slice_get w.answers which)
  over-event over elsewhere = over

pub over-run : (old : ℕ) (events : List Event) (w : World) → Fine w → IsOver old w.changes → IsOver old (after_events events w).changes
over-run old [] w fine over = over
over-run old (event ∷ events) w fine over = over-run old events (happens w event) (event-fine w fine event) (over-event w fine old over event)

some-once : {m n : ℕ} → Some m ≡ Some n → m ≡ n
some-once {m} e = ap (λ (o : Option ℕ). elim o [ None ↦ m | Some n ↦ n ]) e

pub earlier : EarlierOwnersWriteNothing
earlier newest before after old new written last differ s m o =
    let first : World = world_after newest before in
    let fine : Fine (world_after newest before) = after-fine newest before in
    let over : IsOver old (world_after newest before).changes = record { written = written; past = λ e. differ (some-once (sym e ∙ last)) } in
    let at : world_after newest (before ++ after) ≡ after_events after (world_after newest before) = run-append before after (empty_store newest) in
    let later : IsOver old (world_after newest (before ++ after)).changes = subst (λ (w : World). IsOver old w.changes) (sym at) (over-run old after (world_after newest before) fine over) in
    writes-nothing s.transaction _ (over-silent (world_after newest (before ++ after)) (after-fine newest (before ++ after)) old later s m o)

pub syncs_of_last : SyncsAreOfTheLastOwner
syncs_of_last newest events s m n other =
    let w : World = world_after newest events in
    let fine : Fine (world_after newest events) = after-fine newest events in
    writes-nothing s.transaction _ (λ e. elim (fine.kinds s m) [
      | inl a ↦ n a.no_number
      | inr y ↦ other (by_last_owner (world_after newest events) fine s m y e)
    ])

pub once : EachWritesOnceInOrder
once newest events who = ((after-fine newest events).in_order who, (after-fine newest events).numbered who)

-- an attach that fits puts the length that the head has, and no block
kept : (w : World) → Fine w → (s : Sent) → Member s w.sent → number s ≡ 0 → image (apply s.transaction w.register) ≡ image w.register
kept w fine s m z = elim (fine.kinds s m) [
  | inl a ↦ chosen a (fits s.transaction w.register) refl
  | inr y ↦ absurd (omega (arith, y.counted, z))
]
  where
    chosen : IsAttach w.register s → (b : Bool) → fits s.transaction w.register ≡ b → image (if b then changed s.transaction w.register else w.register) ≡ image w.register
    chosen a true e =
        let blocks : delete_from (put_blocks w.register.blocks s.transaction.puts) s.transaction.gone_from ≡ w.register.blocks =
        ap (λ g. delete_from (put_blocks w.register.blocks s.transaction.puts) g) a.none_gone ∙ ap (λ p. put_blocks w.register.blocks p) a.no_puts in
        ap₂ (λ n b. take n (first_blocks (div_ceil n 4096) b)) (a.as_long (eqb-true _ _ e)) blocks
    chosen a false e = refl

pub file_stays : AttachesKeepTheFile
file_stays newest events s m z = kept (world_after newest events) (after-fine newest events) s m z

module _ (w : World) (fine : Fine w) (who : ℕ) (claim : Claim) (h : Stands w.sent w.changes who (owns claim)) where
  has-written : HasWritten who claim.sequence w.changes
  has-written = record { change = h.1.base.change; among = h.1.base.among; is_theirs = h.1.base.theirs; has_number = h.2 }

  -- the newest change is theirs, and it is the last that they sent
  newest-is : (c : Change) (rest : List Change) → w.changes ≡ c ∷ rest → last_owner w.changes ≡ Some who → (c.sent.owner ≡ who) × (number c.sent ≡ claim.sequence)
  newest-is c rest e l =
      let own : c.sent.owner ≡ who = some-once (sym (newest_owner c rest (subst ByLast e fine.by_last)) ∙ sym (ap last_owner e) ∙ l) in
      let among : Member c w.changes = subst (Member c) (sym e) here in
      let low = h.0 c.sent (fine.were_sent c among) own in
      let d : Descends (numbers_of who (transactions_of (c ∷ rest))) = subst (λ cs. Descends (numbers_of who (transactions_of cs))) e (fine.in_order who) in
      let k : Each (λ m. m < number c.sent + 1) (numbers_of who (transactions_of (c ∷ rest))) = first_highest who c.sent (transactions_of rest) (number c.sent + 1) own (omega arith) d in
      let b : Member h.1.base.change (c ∷ rest) = subst (Member h.1.base.change) e h.1.base.among in
      let high = one_below who (number c.sent + 1) (transactions_of (c ∷ rest)) h.1.base.change.sent k (among_written (c ∷ rest) h.1.base.change b) h.1.base.theirs in
      (own, omega (arith, low, high, h.2))

  -- a sync that fits isn't theirs
  pub settled : last_owner w.changes ≡ Some who → (s : Sent) → Member s w.sent → IsSync w.changes s → guard s ≢ w.register.revision
  settled l s m y e =
      let k = by_newest w fine s m y e in
      let n = newest-is y.base.change k.0 k.1 l in
      let own : s.owner ≡ who = sym y.base.theirs ∙ n.0 in
      omega (arith, h.0 s m own, y.later, n.1)

  settled-file : last_owner w.changes ≡ Some who → (s : Sent) → Member s w.sent → image (apply s.transaction w.register) ≡ image w.register
  settled-file l s m = elim (fine.kinds s m) [
    | inl a ↦ kept w fine s m a.no_number
    | inr y ↦ ap image (writes-nothing s.transaction w.register (settled l s m y))
  ]

  at-last : w.register.revision ≡ claim.revision → last_owner w.changes ≡ Some who
  at-last e =
      let b = h.1.base in
      let k = made_last w.register.revision w.changes b.change fine.leads b.among (b.made ∙ sym e) in
      ap last_owner k.1 ∙ newest_owner b.change k.0 (subst ByLast k.1 fine.by_last) ∙ ap Some b.theirs

  pub last-at : (cs : List Change) → w.changes ≡ cs → last_owner w.changes ≡ Some who → w.register.revision ≡ claim.revision
  last-at [] e l = absurd (none-some who (sym (ap last_owner e) ∙ l))
  last-at (c ∷ rest) e l =
      let n = newest-is c rest e l in
      let b : Member h.1.base.change (c ∷ rest) = subst (Member h.1.base.change) e h.1.base.among in
      let d : Descends (numbers_of who (transactions_of (c ∷ rest))) = subst (λ cs. Descends (numbers_of who (transactions_of cs))) e (fine.in_order who) in
      let top : Leads w.register.revision (c ∷ rest) = subst (Leads w.register.revision) e fine.leads in
      sym top.0 ∙ elim (Member-cases b) [
        | inl f ↦ ap (λ (z : Change). z.revision) (sym f) ∙ h.1.base.made
        | inr m ↦ absurd (omega (arith, one_below who (number c.sent) (transactions_of rest) h.1.base.change.sent (rest_below who c.sent (transactions_of rest) n.0 d) (among_written rest h.1.base.change m) h.1.base.theirs, n.1, h.2))
      ]

pub stands-after : (newest : ℕ) (events : List Event) (who : ℕ) (claim : Claim) → (world_after newest events).standing who ≡ owns claim → Stands (world_after newest events).sent (world_after newest events).changes who (owns claim)
stands-after newest events who claim e = subst (Stands (world_after newest events).sent (world_after newest events).changes who) e ((after-fine newest events).standings who)

pub answered : AnsweredWritesStand
answered newest events who claim e = has-written (world_after newest events) (after-fine newest events) who claim (stands-after newest events who claim e)

pub settled_files : SettledFilesStay
settled_files newest events who claim e l s m = settled-file (world_after newest events) (after-fine newest events) who claim (stands-after newest events who claim e) l s m

pub looks_tell : LooksTellWhoOwns
looks_tell newest events who claim e =
    let h = stands-after newest events who claim e in
    let w : World = world_after newest events in
    (at-last (world_after newest events) (after-fine newest events) who claim h, last-at (world_after newest events) (after-fine newest events) who claim h (world_after newest events).changes refl)
