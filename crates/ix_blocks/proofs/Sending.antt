-- A transaction that is sent keeps what holds of every world.
use Rattle.std.proofs.Common.{◌≡◌, ◌≢◌, ◌⊎◌, inl, inr, ℕ, ◌+◌, ◌<◌, ◌≤◌, ◌==◌, Bool, true, false, if◌then◌else◌, List, ◌∷◌, refl, sym, ap, ◌∙◌, subst, true≢false, arith}
use Rattle.std.proofs.lemmas.Bool.Decides.{eqb_tells}
use Rattle.ix_words.specs.Each.{Member, there}
use Rattle.ix_words.proofs.Canon.{Member-cases}
use Rattle.ix_blocks.specs.Register.{Transaction, seen_of}
use Rattle.ix_blocks.specs.declared.claim.Claim.{Claim}
use Rattle.ix_blocks.specs.Owners.{Sent, number, Change, OwnerState, outside, attaching, waits, owns, ended, Unsynced, World, attach_of, sync_of, stands, sends, attach, sync_next, sync}
use Rattle.ix_blocks.proofs.Changes.{guard, no_later, all_below, descends_more}
use Rattle.ix_blocks.proofs.Fine.{IsSync, IsAttach, Knows, Below, Stands, Fine}

-- one owner more stands otherwise; the others stand as they did
pub stands_otherwise : (sent : List Sent) (changes : List Change) (old : ℕ → OwnerState) (who : ℕ) (standing : OwnerState) → Stands sent changes who standing → ((other : ℕ) → other ≢ who → Stands sent changes other (old other)) → (other : ℕ) → Stands sent changes other (if other == who then standing else old other)
stands_otherwise sent changes old who standing h rest other = chosen (other == who) (eqb_tells other who)
  where
    chosen : (b : Bool) → ((b ≡ true) × (other ≡ who)) ⊎ ((b ≡ false) × (other ≢ who)) → Stands sent changes other (if b then standing else old other)
    chosen true (inl e) = subst (λ n. Stands sent changes n standing) (sym e.1) h
    chosen true (inr e) = absurd (true≢false e.0)
    chosen false (inl e) = absurd (true≢false (sym e.0))
    chosen false (inr e) = rest other e.1

-- what one owner sends makes no difference to how another stands
other_below : (s : Sent) (sent : List Sent) (other n : ℕ) → s.owner ≢ other → Below other n sent → Below other n (s ∷ sent)
other_below s sent other n d h = λ x m f. elim (Member-cases m) [ inl e ↦ absurd (d (sym (ap (λ (z : Sent). z.owner) e) ∙ f)) | inr k ↦ h x k f ]

other_stands : (s : Sent) (sent : List Sent) (changes : List Change) (other : ℕ) (standing : OwnerState) → s.owner ≢ other → Stands sent changes other standing → Stands (s ∷ sent) changes other standing
other_stands s sent changes other outside d h = other_below s sent other 0 d h
other_stands s sent changes other attaching d h = other_below s sent other 1 d h
other_stands s sent changes other (waits claim) d h = (other_below s sent other (claim.sequence + 1) d h.0, h.1, h.2)
other_stands s sent changes other (owns claim) d h = (other_below s sent other (claim.sequence + 1) d h.0, h.1, h.2)
other_stands s sent changes other ended d h = h

-- the owner's next has the next number
next_below : (s : Sent) (sent : List Sent) (who n : ℕ) → number s ≡ n → Below who n sent → Below who (n + 1) (s ∷ sent)
next_below s sent who n e h = λ x m f. elim (Member-cases m) [ inl g ↦ (let k : number x ≡ number s = ap number g in omega (arith, k, e)) | inr k ↦ omega (arith, h x k f) ]

module _ (w : World) (fine : Fine w) (who : ℕ) (t : Transaction) where
  abbrev new : Sent
  new = record { owner = who; transaction = t }

  one_attach_more : Below who (number new) w.sent → (s u : Sent) → Member s (new ∷ w.sent) → Member u (new ∷ w.sent) → s.owner ≡ u.owner → number s ≡ 0 → number u ≡ 0 → s ≡ u
  one_attach_more below s u m k e z y = elim (Member-cases m) [
    | inl p ↦ elim (Member-cases k) [
      | inl q ↦ p ∙ sym q
      | inr q ↦ absurd (let k = below u q (sym e ∙ ap (λ (x : Sent). x.owner) p) in let f : number s ≡ number new = ap number p in omega (arith, k, f, z))
    ]
    | inr p ↦ elim (Member-cases k) [
      | inl q ↦ absurd (let k = below s p (e ∙ ap (λ (x : Sent). x.owner) q) in let f : number u ≡ number new = ap number q in omega (arith, k, f, y))
      | inr q ↦ fine.one_attach s u p q e z y
    ]
  ]

  pub fine-sends : (standing : OwnerState) → guard new ≤ w.register.revision → IsAttach w.register new ⊎ IsSync w.changes new → Below who (number new) w.sent → Stands (new ∷ w.sent) w.changes who standing → Fine (stands (sends w who t) who standing)
  fine-sends standing guarded kind below h =
      record {
        newest = fine.newest;
        leads = fine.leads;
        were_sent = λ c m. there (fine.were_sent c m);
        head = fine.head;
        guards = λ s m. elim (Member-cases m) [ inl e ↦ subst (λ x. guard x ≤ w.register.revision) (sym e) guarded | inr k ↦ fine.guards s k ];
        kinds = λ s m. elim (Member-cases m) [ inl e ↦ subst (λ x. IsAttach w.register x ⊎ IsSync w.changes x) (sym e) kind | inr k ↦ fine.kinds s k ];
        one_attach = one_attach_more below;
        answered = λ a m. (there (fine.answered a m).0, (fine.answered a m).1);
        standings = stands_otherwise (new ∷ w.sent) w.changes w.standing who standing h (λ other n. other_stands new w.sent w.changes other (w.standing other) (λ e. n (sym e)) (fine.standings other));
        by_last = fine.by_last;
        in_order = fine.in_order;
        numbered = λ other. descends_more other new w.sent (fine.numbered other) (λ e. all_below other (number new) w.sent (λ x m f. below x m (f ∙ sym e)));
      }

module _ (w : World) (fine : Fine w) (who : ℕ) where
  attaches-fine : Stands w.sent w.changes who outside → Fine (attach w who outside)
  attaches-fine h =
      fine-sends w fine who (attach_of (seen_of w.register)) attaching (omega arith)
      (inl (record { no_owner = refl; no_number = refl; no_puts = refl; none_gone = refl; as_long = λ e. refl }))
      h
      (next_below (record { owner = who; transaction = attach_of (seen_of w.register) }) w.sent who 0 refl h)

  pub attach-fine : (standing : OwnerState) → Stands w.sent w.changes who standing → Fine (attach w who standing)
  attach-fine outside h = attaches-fine h
  attach-fine attaching h = fine
  attach-fine (waits claim) h = fine
  attach-fine (owns claim) h = fine
  attach-fine ended h = fine

  syncs-fine : (claim : Claim) (pending : Unsynced) → Below who (claim.sequence + 1) w.sent → (known : Knows w.changes who claim) → number known.base.change.sent < claim.sequence + 1 → Fine (sync_next w who claim pending)
  syncs-fine claim pending below known l =
      let base = known.base in
      fine-sends w fine who (sync_of claim pending)
      (waits (record { owner = claim.owner; revision = claim.revision; sequence = claim.sequence + 1 }))
      (let k = no_later w.register.revision w.changes base.change fine.leads base.among in omega (arith, k.0, base.made))
      (inr (record { counted = omega arith; base = base; later = l; first = known.first; attach = known.attach }))
      below
      (next_below (record { owner = who; transaction = sync_of claim pending }) w.sent who (claim.sequence + 1) refl below, record { first = known.first; attach = known.attach; base = base }, l)

  pub sync-fine : (pending : Unsynced) (standing : OwnerState) → Stands w.sent w.changes who standing → Fine (sync w who pending standing)
  sync-fine pending outside h = fine
  sync-fine pending attaching h = fine
  sync-fine pending (waits claim) h = syncs-fine claim pending h.0 h.1 (omega (arith, h.2))
  sync-fine pending (owns claim) h = syncs-fine claim pending h.0 h.1 (omega (arith, h.2))
  sync-fine pending ended h = fine
