-- What the store has while a sync may come.
use Rattle.std.proofs.Common.{◌≡◌, ◌⊎◌, inl, inr, ℕ, ◌+◌, Bool, true, false, List, [], ◌∷◌, Option, None, Some, slice_get, refl, sym, ap, ◌∙◌, subst, arith}
use Rattle.std.proofs.lemmas.Bool.{eqb-true}
use Rattle.ix_words.specs.Each.{Member}
use Rattle.ix_words.proofs.Canon.{Member-cases}
use Rattle.ix_blocks.specs.declared.claim.Claim.{Claim}
use Rattle.ix_blocks.specs.Register.{Register, fits, changed, put_blocks, delete_from}
use Rattle.ix_blocks.specs.Owners.{Sent, number, Answer, Change, OwnerState, outside, attaching, waits, owns, ended, Event, attaches, syncs, comes, hears, elsewhere, World, sync_of, stands, attach, sync_next, sync, come, come_one, hear_one, happens, after_events, world_after}
use Rattle.ix_blocks.specs.Laws.{last_owner}
use Rattle.ix_blocks.specs.FileBlocks.{DiffersIn, brings, HoldsFile}
use Rattle.ix_blocks.specs.FileLaws.{NobodySyncs, HasSynced, EachMomentHasOneOfTwo}
use Rattle.ix_blocks.proofs.Changes.{guard}
use Rattle.ix_blocks.proofs.Fine.{IsAttach, Stands, Fine}
use Rattle.ix_blocks.proofs.Cutting.{made-holds}
use Rattle.ix_blocks.proofs.Runs.{got, event-fine, after-fine, settled, stands-after}

-- an attach that fits keeps the file
attach-holds : (file : List ℕ) (register : Register) (s : Sent) → IsAttach register s → guard s ≡ register.revision → HoldsFile file register → HoldsFile file (changed s.transaction register)
attach-holds file register s a e h =
    record {
      length = a.as_long e ∙ h.length;
      blocks = λ n low. ap (λ (f : ℕ → List ℕ). f n) same ∙ h.blocks n low;
    }
  where
    same : delete_from (put_blocks register.blocks s.transaction.puts) s.transaction.gone_from ≡ register.blocks
    same = ap (λ g. delete_from (put_blocks register.blocks s.transaction.puts) g) a.none_gone ∙ ap (λ p. put_blocks register.blocks p) a.no_puts

module _ (who : ℕ) (claim : Claim) (changes synced file : List ℕ) (d : DiffersIn changes synced file) where
  abbrev pub mine : Sent
  mine = record { owner = who; transaction = sync_of claim (brings changes file) }

  -- of all that was sent only attaches fit, and this sync until it has come
  pub record Moment (w : World) : Type 0 where
    pub fine : Fine w
    pub has : HasSynced synced who (claim.sequence + 1) w ⊎ HoldsFile file w.register
    pub fit_only : (s : Sent) → Member s w.sent → guard s ≡ w.register.revision → IsAttach w.register s ⊎ ((s ≡ mine) × HoldsFile synced w.register)

  module _ (w : World) (at : Moment w) where
    came_now : (s : Sent) → Member s w.sent → guard s ≡ w.register.revision → HasSynced synced who (claim.sequence + 1) (come w s true) ⊎ HoldsFile file (changed s.transaction w.register)
    came_now s m e = elim (at.fit_only s m e) [
      | inl a ↦ elim at.has [
        | inl h ↦ inl (record {
          holds = attach-holds synced w.register s a e h.holds;
          not_yet = λ k. elim (Member-cases k.among) [
            | inl f ↦ (let g : number k.change.sent ≡ number s = ap (λ (c : Change). number c.sent) f in omega (arith, g, a.no_number, k.has_number))
            | inr n ↦ h.not_yet (record { change = k.change; among = n; is_theirs = k.is_theirs; has_number = k.has_number })
          ];
        })
        | inr h ↦ inr (attach-holds file w.register s a e h)
      ]
      | inr p ↦ inr (subst (λ (x : Sent). HoldsFile file (changed x.transaction w.register)) (sym p.0) (made-holds claim changes synced file w.register p.1 d))
    ]

    comes-moment : (s : Sent) → Member s w.sent → (b : Bool) → fits s.transaction w.register ≡ b → Fine (come w s b) → Moment (come w s b)
    comes-moment s m true e fine =
        record {
          fine = fine;
          has = came_now s m (eqb-true _ _ e);
          fit_only = λ x k f. absurd (omega (arith, f, at.fine.guards x k, at.fine.newest));
        }
    comes-moment s m false e fine = record { fine = fine; has = stays at.has; fit_only = at.fit_only }
      where
        stays : HasSynced synced who (claim.sequence + 1) w ⊎ HoldsFile file w.register → HasSynced synced who (claim.sequence + 1) (come w s false) ⊎ HoldsFile file w.register
        stays (inl h) = inl (record { holds = h.holds; not_yet = h.not_yet })
        stays (inr h) = inr h

    one-moment : (found : Option Sent) → ((s : Sent) → found ≡ Some s → Member s w.sent) → Fine (come_one w found) → Moment (come_one w found)
    one-moment None h fine = at
    one-moment (Some s) h fine = comes-moment s (h s refl) (fits s.transaction w.register) refl fine

    stands-moment : (other : ℕ) (standing : OwnerState) → Fine (stands w other standing) → Moment (stands w other standing)
    stands-moment other standing fine = record { fine = fine; has = stays at.has; fit_only = at.fit_only }
      where
        stays : HasSynced synced who (claim.sequence + 1) w ⊎ HoldsFile file w.register → HasSynced synced who (claim.sequence + 1) (stands w other standing) ⊎ HoldsFile file w.register
        stays (inl h) = inl (record { holds = h.holds; not_yet = h.not_yet })
        stays (inr h) = inr h

    hear-moment : (found : Option Answer) → Fine (hear_one w found) → Moment (hear_one w found)
    hear-moment None fine = at
    hear-moment (Some a) fine = stands-moment a.to.owner _ fine

    attach-moment : (other : ℕ) (standing : OwnerState) → Fine (attach w other standing) → Moment (attach w other standing)
    attach-moment other outside fine =
        record {
          fine = fine;
          has = stays at.has;
          fit_only = λ s m e. elim (Member-cases m) [
            | inl f ↦ elim (fine.kinds s m) [
              | inl a ↦ inl a
              | inr y ↦ absurd (let g : number s ≡ 0 = ap number f in omega (arith, g, y.counted))
            ]
            | inr k ↦ at.fit_only s k e
          ];
        }
      where
        stays : HasSynced synced who (claim.sequence + 1) w ⊎ HoldsFile file w.register → HasSynced synced who (claim.sequence + 1) (attach w other outside) ⊎ HoldsFile file w.register
        stays (inl h) = inl (record { holds = h.holds; not_yet = h.not_yet })
        stays (inr h) = inr h
    attach-moment other attaching fine = at
    attach-moment other (waits other_claim) fine = at
    attach-moment other (owns other_claim) fine = at
    attach-moment other ended fine = at

    raised-moment : Fine (happens w elsewhere) → Moment (happens w elsewhere)
    raised-moment fine = record { fine = fine; has = stays at.has; fit_only = λ s m e. kept s (at.fit_only s m e) }
      where
        stays : HasSynced synced who (claim.sequence + 1) w ⊎ HoldsFile file w.register → HasSynced synced who (claim.sequence + 1) (happens w elsewhere) ⊎ HoldsFile file (happens w elsewhere).register
        stays (inl h) = inl (record { holds = record { length = h.holds.length; blocks = h.holds.blocks }; not_yet = h.not_yet })
        stays (inr h) = inr (record { length = h.length; blocks = h.blocks })

        kept : (s : Sent) → IsAttach w.register s ⊎ ((s ≡ mine) × HoldsFile synced w.register) → IsAttach (happens w elsewhere).register s ⊎ ((s ≡ mine) × HoldsFile synced (happens w elsewhere).register)
        kept s (inl a) = inl (record { no_owner = a.no_owner; no_number = a.no_number; no_puts = a.no_puts; none_gone = a.none_gone; as_long = a.as_long })
        kept s (inr h) = inr (h.0, record { length = h.1.length; blocks = h.1.blocks })

  moments : (events : List Event) (w : World) → NobodySyncs events → Moment w → Moment (after_events events w)
  moments [] w quiet at = at
  moments (attaches other ∷ events) w quiet at = moments events _ quiet (attach-moment w at other (w.standing other) (event-fine w at.fine (attaches other)))
  moments (syncs other unsynced ∷ events) w quiet at = elim quiet [ ]
  moments (comes which ∷ events) w quiet at = moments events _ quiet (one-moment w at (slice_get w.sent which) (λ s e. got w.sent which s e) (event-fine w at.fine (comes which)))
  moments (hears which ∷ events) w quiet at = moments events _ quiet (hear-moment w at (slice_get w.answers which) (event-fine w at.fine (hears which)))
  moments (elsewhere ∷ events) w quiet at = moments events _ quiet (raised-moment w at (event-fine w at.fine elsewhere))

  first-moment : (w : World) → Fine w → Stands w.sent w.changes who (owns claim) → last_owner w.changes ≡ Some who → HoldsFile synced w.register → Fine (sync_next w who claim (brings changes file)) → Moment (sync_next w who claim (brings changes file))
  first-moment w fine h l holds later =
      record {
        fine = later;
        has = inl (record {
          holds = holds;
          not_yet = λ k. (let b = h.0 k.change.sent (fine.were_sent k.change k.among) k.is_theirs in omega (arith, b, k.has_number));
        });
        fit_only = λ s m e. elim (Member-cases m) [
          | inl f ↦ inr (f, holds)
          | inr k ↦ elim (fine.kinds s k) [
            | inl a ↦ inl a
            | inr y ↦ absurd (settled w fine who claim h l s k y e)
          ]
        ];
      }

pub each_moment : EachMomentHasOneOfTwo
each_moment newest before events who claim changes synced file e l holds d quiet =
    let w : World = world_after newest before in
    let fine = after-fine newest before in
    let h = stands-after newest before who claim e in
    let next : sync (world_after newest before) who (brings changes file) ((world_after newest before).standing who) ≡ sync_next (world_after newest before) who claim (brings changes file) = ap (sync (world_after newest before) who (brings changes file)) e in
    let later : Fine (sync_next (world_after newest before) who claim (brings changes file)) = subst Fine next (event-fine (world_after newest before) fine (syncs who (brings changes file))) in
    let first : Moment who claim changes synced file d (sync_next (world_after newest before) who claim (brings changes file)) = first-moment who claim changes synced file d (world_after newest before) fine h l holds later in
    let start : Moment who claim changes synced file d (happens (world_after newest before) (syncs who (brings changes file))) = subst (Moment who claim changes synced file d) (sym next) first in
    (moments who claim changes synced file d events (happens (world_after newest before) (syncs who (brings changes file))) quiet start).has
