use Rattle.std.proofs.Common.{◌≡◌, ◌+◌, true, not, is_ok, refl, sym, ap, ◌∙◌, subst, arith}
use Rattle.std.proofs.lemmas.List.Sums.{sum_by-insert}
use Rattle.std.specs.List.{sum_by}
use Rattle.std.specs.List.Sorted.{IsStrictlySortedBy}
use Rattle.std.specs.BTreeSet.{insert_key}
use Rattle.ix_alts.proofs.Insertion.{at_equal, at_place, insert_key-sorted}
use Rattle.ix_alts.proofs.alt_set.AltSet.insert.Goals as goal

pub returns-in_default-clause-list : goal.returns-in_default-clause-list
returns-in_default-clause-list g c =
    rw (← c.self.view_is) (sym (at_equal g.met.T.Ord.total c.self.inside.items.items c.deref.result.now c.args.item c.in_default.field-0 c.deref.ensures.value c.self.invariant.ascending c.in_default.ensures.bound c.in_default.ensures.ok).1)

pub returns-in_default-clause-found : goal.returns-in_default-clause-found
returns-in_default-clause-found g c =
    let at = at_equal g.met.T.Ord.total c.self.inside.items.items c.deref.result.now c.args.item c.in_default.field-0 c.deref.ensures.value c.self.invariant.ascending c.in_default.ensures.bound c.in_default.ensures.ok in
    rw (← c.self.view_is) (λ _. at.0, λ _. refl)

pub returns-in_default-clause-over : goal.returns-in_default-clause-over
returns-in_default-clause-over g c =
    let at = at_equal g.met.T.Ord.total c.self.inside.items.items c.deref.result.now c.args.item c.in_default.field-0 c.deref.ensures.value c.self.invariant.ascending c.in_default.ensures.bound c.in_default.ensures.ok in
    rw (← c.self.view_is) (λ budget size. (λ e. absurd (cc), λ h. absurd (h.is_new at.0)))

pub returns-then-size-self-clause-found : goal.returns-then-size-self-clause-found
returns-then-size-self-clause-found g c =
    let at = at_place g.met.T.Ord.total c.self.inside.items.items c.deref.result.now c.args.item c.in-Err.place c.deref.ensures.value c.self.invariant.ascending c.in-Err.ensures.bound c.in-Err.ensures.position in
    rw (← c.self.view_is) (λ e. absurd (cc), λ h. absurd (at.0 h))

pub returns-then-size-self-clause-over : goal.returns-then-size-self-clause-over
returns-then-size-self-clause-over g c =
    let at = at_place g.met.T.Ord.total c.self.inside.items.items c.deref.result.now c.args.item c.in-Err.place c.deref.ensures.value c.self.invariant.ascending c.in-Err.ensures.bound c.in-Err.ensures.position in
    let counted = c.self.invariant.counted in
    let weighed = c.weight.ensures in
    let above = c.if-size-self.true in
    rw (← c.self.view_is) (λ budget size. (
      λ e.
          let limit : budget ≡ c.self.inside.budget = cc in
          let sum : size ≡ c.self.inside.total + c.weight.result = cc in
          record { is_new = at.0; limit = limit; sum = cc; above = omega arith },
      λ h. cc,
    ))

pub returns-then-is_err-clause-found : goal.returns-then-is_err-clause-found
returns-then-is_err-clause-found g c =
    let at = at_place g.met.T.Ord.total c.self.inside.items.items c.deref.result.now c.args.item c.in-Err.place c.deref.ensures.value c.self.invariant.ascending c.in-Err.ensures.bound c.in-Err.ensures.position in
    rw (← c.self.view_is) (λ e. absurd (cc), λ h. absurd (at.0 h))

pub invariant_of-self-2 : goal.invariant_of-self-2
invariant_of-self-2 g c =
    let at = at_place g.met.T.Ord.total c.self.inside.items.items c.deref.result.now c.args.item c.in-Err.place c.deref.ensures.value c.self.invariant.ascending c.in-Err.ensures.bound c.in-Err.ensures.position in
    let ok : is_ok c.insert.result ≡ true = c.is_err.ensures.negation ∙ ap not c.if-is_err.false in
    let put = rw ok at c.insert.ensures.items in
    let is : c.insert.new.self.items ≡ insert_key g.T.Ord.cmp c.self.inside.items.items c.args.item = put ∙ sym at.1 in
    record {
      ascending = subst (IsStrictlySortedBy g.T.Ord.cmp) (sym is) (insert_key-sorted g.met.T.Ord.total c.self.inside.items.items c.args.item c.self.invariant.ascending);
      counted = omega (arith, ap (sum_by g.T.Weight.weight) put, sum_by-insert g.T.Weight.weight c.self.inside.items.items c.in-Err.place c.args.item, c.self.invariant.counted, c.weight.ensures);
      within = omega arith;
      small = c.self.invariant.small;
    }

pub returns-clause-ascending : goal.returns-clause-ascending
returns-clause-ascending g c = (invariant_of-self-2 g c).ascending

pub returns-clause-list : goal.returns-clause-list
returns-clause-list g c =
    let at = at_place g.met.T.Ord.total c.self.inside.items.items c.deref.result.now c.args.item c.in-Err.place c.deref.ensures.value c.self.invariant.ascending c.in-Err.ensures.bound c.in-Err.ensures.position in
    let ok : is_ok c.insert.result ≡ true = c.is_err.ensures.negation ∙ ap not c.if-is_err.false in
    let put = rw ok at c.insert.ensures.items in
    rw (← c.self.view_is) (put ∙ sym at.1)

pub returns-clause-found : goal.returns-clause-found
returns-clause-found g c =
    let at = at_place g.met.T.Ord.total c.self.inside.items.items c.deref.result.now c.args.item c.in-Err.place c.deref.ensures.value c.self.invariant.ascending c.in-Err.ensures.bound c.in-Err.ensures.position in
    rw (← c.self.view_is) (λ e. absurd (cc), λ h. absurd (at.0 h))
