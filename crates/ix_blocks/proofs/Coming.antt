-- A transaction that comes to the store keeps what holds of every world.
use Rattle.std.proofs.Common.{◌≡◌, ◌≢◌, ◌⊎◌, inl, inr, ℕ, ◌+◌, ◌<◌, Bool, true, false, List, ◌∷◌, Some, refl, sym, ap, ◌∙◌, subst, arith}
use Rattle.std.proofs.lemmas.Bool.{eqb-true}
use Rattle.ix_words.specs.Each.{Each, no_item, Member, here, there}
use Rattle.ix_words.proofs.Canon.{Member-cases}
use Rattle.ix_blocks.specs.Register.{changed, fits}
use Rattle.ix_blocks.specs.Owners.{Sent, number, Answer, Change, World, come}
use Rattle.ix_blocks.specs.Laws.{last_owner, numbers_of, transactions_of, Descends}
use Rattle.ix_blocks.proofs.Changes.{guard, Leads, no_later, made_last, ByLast, newest_owner, no_numbers, first_highest, descends_more, written_by}
use Rattle.ix_blocks.proofs.Fine.{IsSync, IsAttach, Among, Tells, sync-more, tells-more, stands-more, Fine}

module _ (w : World) (fine : Fine w) (s : Sent) (sent : Member s w.sent) where
  -- what changed the register already fits no more
  pub spent : (c : Change) → Member c w.changes → c.sent ≡ s → guard s ≢ w.register.revision
  spent c m e f =
      let k = no_later w.register.revision w.changes c fine.leads m in
      let g : guard c.sent ≡ guard s = ap guard e in
      omega (arith, k.0, k.1, g, f)

  -- an attach that fits is of an owner that changed nothing yet
  pub none_yet : number s ≡ 0 → guard s ≡ w.register.revision → (c : Change) → Member c w.changes → c.sent.owner ≢ s.owner
  none_yet z e c m o = elim (fine.kinds c.sent (fine.were_sent c m)) [
    | inl a ↦ spent c m (fine.one_attach c.sent s (fine.were_sent c m) sent o a.no_number z) e
    | inr y ↦
        let d = y.first in
        spent d.change d.among (fine.one_attach d.change.sent s (fine.were_sent d.change d.among) sent (d.theirs ∙ o) y.attach z) e
  ]

  -- a sync that fits is of the owner that made the newest change
  pub by_newest : (y : IsSync w.changes s) → guard s ≡ w.register.revision → (rest : List Change) × (w.changes ≡ y.base.change ∷ rest)
  by_newest y e = made_last w.register.revision w.changes y.base.change fine.leads y.base.among (y.base.made ∙ e)

  pub by_last_owner : IsSync w.changes s → guard s ≡ w.register.revision → last_owner w.changes ≡ Some s.owner
  by_last_owner y e =
      let k = by_newest y e in
      ap last_owner k.1 ∙ newest_owner y.base.change k.0 (subst ByLast k.1 fine.by_last) ∙ ap Some y.base.theirs

  below_next : guard s ≡ w.register.revision → (who : ℕ) → s.owner ≡ who → Each (λ m. m < number s) (numbers_of who (transactions_of w.changes))
  below_next e who o = elim (fine.kinds s sent) [
    | inl a ↦ subst (Each (λ m. m < number s)) (sym (no_numbers who (transactions_of w.changes) (λ x m f. let c = written_by w.changes x m in none_yet a.no_number e c.0 c.1 (ap (λ (z : Sent). z.owner) c.2 ∙ f ∙ sym o)))) no_item
    | inr y ↦
        let k = by_newest y e in
        subst (λ cs. Each (λ m. m < number s) (numbers_of who (transactions_of cs))) (sym k.1)
        (first_highest who y.base.change.sent (transactions_of k.0) (number s) (y.base.theirs ∙ o) y.later (subst (λ cs. Descends (numbers_of who (transactions_of cs))) k.1 (fine.in_order who)))
  ]

  abbrev newer : Change
  newer = record { sent = s; revision = w.register.newest + 1 }

  more : Among w.changes (newer ∷ w.changes)
  more c m = there m

  kind_stays : (x : Sent) → Member x w.sent → IsAttach w.register x ⊎ IsSync w.changes x → IsAttach (changed s.transaction w.register) x ⊎ IsSync (newer ∷ w.changes) x
  kind_stays x m (inl a) = inl (record {
    no_owner = a.no_owner;
    no_number = a.no_number;
    no_puts = a.no_puts;
    none_gone = a.none_gone;
    as_long = λ e. absurd (omega (arith, e, fine.guards x m, fine.newest));
  })
  kind_stays x m (inr y) = inr (sync-more more y)

  comes-fine : guard s ≡ w.register.revision → Fine (come w s true)
  comes-fine e =
      record {
        newest = omega arith;
        leads = (refl, omega (arith, e, fine.newest), subst (λ r. Leads r w.changes) (sym e) fine.leads);
        were_sent = λ c m. elim (Member-cases m) [ inl f ↦ subst (λ (d : Change). Member d.sent w.sent) (sym f) sent | inr k ↦ fine.were_sent c k ];
        head = inr (newer, here, refl, refl);
        guards = λ x m. omega (arith, fine.guards x m, fine.newest);
        kinds = λ x m. kind_stays x m (fine.kinds x m);
        one_attach = fine.one_attach;
        answered = λ a m. elim (Member-cases m) [
          | inl f ↦
              subst (λ (b : Answer). Member b.to w.sent × Tells (newer ∷ w.changes) b.to b.says) (sym f) (sent, (newer, here, refl, refl))
          | inr k ↦ ((fine.answered a k).0, tells-more more a.to a.says (fine.answered a k).1)
        ];
        standings = λ who. stands-more more w.sent who (w.standing who) (fine.standings who);
        by_last = (elim (fine.kinds s sent) [ inl a ↦ inl a.no_number | inr y ↦ inr (by_last_owner y e) ], fine.by_last);
        in_order = λ who. descends_more who s (transactions_of w.changes) (fine.in_order who) (below_next e who);
        numbered = fine.numbered;
      }

  stays-fine : Fine (come w s false)
  stays-fine =
      record {
        newest = fine.newest;
        leads = fine.leads;
        were_sent = fine.were_sent;
        head = fine.head;
        guards = fine.guards;
        kinds = fine.kinds;
        one_attach = fine.one_attach;
        answered = λ a m. elim (Member-cases m) [
          | inl f ↦ subst (λ (b : Answer). Member b.to w.sent × Tells w.changes b.to b.says) (sym f) (sent, fine.head)
          | inr k ↦ fine.answered a k
        ];
        standings = fine.standings;
        by_last = fine.by_last;
        in_order = fine.in_order;
        numbered = fine.numbered;
      }

  pub come-fine : (b : Bool) → fits s.transaction w.register ≡ b → Fine (come w s b)
  come-fine true e = comes-fine (eqb-true _ _ e)
  come-fine false e = stays-fine
