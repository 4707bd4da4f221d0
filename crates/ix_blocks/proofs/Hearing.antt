-- An answer that comes to its owner keeps what holds of every world.
use Rattle.std.proofs.Common.{◌≡◌, inl, inr, ℕ, ◌+◌, ◌==◌, ◌&&◌, Bool, true, false, if◌then◌else◌, refl, sym, ap, ◌∙◌, arith}
use Rattle.std.proofs.lemmas.Bool.{eqb-true}
use Rattle.ix_words.specs.Each.{Member}
use Rattle.ix_blocks.specs.declared.claim.Head.{Head}
use Rattle.ix_blocks.specs.declared.claim.Claim.{Claim}
use Rattle.ix_blocks.specs.declared.claim.Commit.{Commit}
use Rattle.ix_blocks.specs.declared.claim.Commit.TheVariants.{Applied, Refused}
use Rattle.ix_blocks.specs.Owners.{Sent, number, Change, OwnerState, outside, attaching, waits, owns, ended, World, stands, learn, hear}
use Rattle.ix_blocks.proofs.Changes.{no_later, made_once}
use Rattle.ix_blocks.proofs.Fine.{Made, IsSync, Knows, PutBy, Tells, Below, Stands, Fine}
use Rattle.ix_blocks.proofs.Sending.{stands_otherwise}

module _ (w : World) (fine : Fine w) where
  abbrev Stand : ℕ → OwnerState → Type 0
  Stand who standing = Stands w.sent w.changes who standing

  pub hears-fine : (who : ℕ) (standing : OwnerState) → Stand who standing → Fine (stands w who standing)
  hears-fine who standing h =
      record {
        newest = fine.newest;
        leads = fine.leads;
        were_sent = fine.were_sent;
        head = fine.head;
        guards = fine.guards;
        kinds = fine.kinds;
        one_attach = fine.one_attach;
        answered = fine.answered;
        standings = stands_otherwise w.sent w.changes w.standing who standing h (λ other n. fine.standings other);
        by_last = fine.by_last;
        in_order = fine.in_order;
        numbered = fine.numbered;
      }

  -- no attach made the revision 0
  made_some : {who revision : ℕ} → Made w.changes who revision → ¬ (revision ≡ 0)
  made_some m z = let k = no_later w.register.revision w.changes m.change fine.leads m.among in omega (arith, k.1, m.made, z)

  -- a head that names the revision of an owner's attach was put by a sync of that owner
  theirs : (who : ℕ) (claim : Claim) (head : Head) (revision : ℕ) → Below who (claim.sequence + 1) w.sent → Knows w.changes who claim → PutBy w.changes head revision → head.owner ≡ claim.owner → head.sequence ≡ claim.sequence → Stand who (owns (record { owner = claim.owner; revision = revision; sequence = claim.sequence }))
  theirs who claim head revision below known (inl z) e f = absurd (made_some known.first (sym e ∙ z))
  theirs who claim head revision below known (inr h) e f = elim (fine.kinds h.0.sent (fine.were_sent h.0 h.1)) [
    | inl a ↦ absurd (made_some known.first (sym e ∙ sym (ap (λ (x : Head). x.owner) h.3) ∙ a.no_owner))
    | inr y ↦ by_sync y
  ]
    where
      by_sync : IsSync w.changes h.0.sent → Stand who (owns (record { owner = claim.owner; revision = revision; sequence = claim.sequence }))
      by_sync y =
          let a = known.first in
          let d = y.first in
          let at : d.change.revision ≡ a.change.revision = d.made ∙ ap (λ (x : Head). x.owner) h.3 ∙ e ∙ sym a.made in
          let one : d.change ≡ a.change = made_once w.register.revision w.changes d.change a.change fine.leads d.among a.among at in
          let own : h.0.sent.owner ≡ who = sym d.theirs ∙ ap (λ (x : Change). x.sent.owner) one ∙ a.theirs in (
            below,
            record { first = a; attach = known.attach; base = record { change = h.0; among = h.1; theirs = own; made = h.2 } },
            ap (λ (x : Head). x.sequence) h.3 ∙ f,
          )

  -- the answer says what became of the last that the owner sent
  learns : (who : ℕ) (claim : Claim) (s : Sent) (says : Commit) → s.owner ≡ who → number s ≡ claim.sequence → Tells w.changes s says → Below who (claim.sequence + 1) w.sent → Knows w.changes who claim → Stand who (learn claim says)
  learns who claim s (Applied r) o n t below known = (
    below,
    record { first = known.first; attach = known.attach; base = record { change = t.0; among = t.1; theirs = ap (λ (x : Sent). x.owner) t.2 ∙ o; made = t.3 } },
    ap number t.2 ∙ n,
  )
  learns who claim s (Refused seen) o n t below known = chosen (seen.head.owner == claim.owner) (seen.head.sequence == claim.sequence) refl refl
    where
      chosen : (a b : Bool) → (seen.head.owner == claim.owner) ≡ a → (seen.head.sequence == claim.sequence) ≡ b → Stand who (if a && b then owns (record { owner = claim.owner; revision = seen.revision; sequence = claim.sequence }) else ended)
      chosen true true e f = theirs who claim seen.head seen.revision below known t (eqb-true _ _ e) (eqb-true _ _ f)
      chosen true false e f = tt
      chosen false b e f = tt

  -- how the owner stands after it
  pub hear-stands : (who : ℕ) (standing : OwnerState) (s : Sent) (says : Commit) → Member s w.sent → s.owner ≡ who → Tells w.changes s says → Stand who standing → Stand who (hear standing (number s) says)
  hear-stands who outside s says m o t h = h
  hear-stands who attaching s (Applied r) m o t h =
      let own : t.0.sent.owner ≡ who = ap (λ (x : Sent). x.owner) t.2 ∙ o in
      let same : number t.0.sent ≡ number s = ap number t.2 in
      let first : number t.0.sent ≡ 0 = omega (arith, same, h s m o) in
      (h, record { first = record { change = t.0; among = t.1; theirs = own; made = t.3 }; attach = first; base = record { change = t.0; among = t.1; theirs = own; made = t.3 } }, first)
  hear-stands who attaching s (Refused seen) m o t h = tt
  hear-stands who (waits claim) s says m o t h = chosen (number s == claim.sequence) refl
    where
      chosen : (b : Bool) → (number s == claim.sequence) ≡ b → Stand who (if b then learn claim says else waits claim)
      chosen true e = learns who claim s says o (eqb-true _ _ e) t h.0 h.1
      chosen false e = h
  hear-stands who (owns claim) s says m o t h = h
  hear-stands who ended s says m o t h = h
