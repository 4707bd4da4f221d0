use Rattle.std.proofs.Common.{◌≡◌, Bool, true, false, not, set, refl, sym, ap, ◌∙◌}
use Rattle.ix_entries.proofs.Places.{found_in, missing_in}
use Rattle.ix_entries.proofs.Changes.{changed}
use Rattle.ix_entries.proofs.put.Goals as goal
use Rattle.ix_entries.proofs.put.Goals.{then-eq, else-eq}

is_false : (b : Bool) → not b ≡ true → b ≡ false
is_false true e = cc
is_false false e = refl

is_true : (b : Bool) → not b ≡ false → b ≡ true
is_true true e = refl
is_true false e = cc

pub returns-after-eq-clause-list : goal.returns-after-eq-clause-list
returns-after-eq-clause-list g c =
    let at = found_in g.met.K.Ord.total c.args.entries.now.items c.as_slice.result.now c.args.key c.in-Ok.place c.as_slice.ensures.value c.requires.ascending c.in-Ok.ensures.bound c.in-Ok.ensures.position in
    elim c.if-eq.branch [
      | then-eq w ↦
          let e : g.T.PartialEq.eq c.args.item c.args.common.now ≡ true = sym c.eq.ensures ∙ w.if-eq.true in
          rw e (ap (λ v. v.items) w.entries-is ∙ w.remove.ensures.items ∙ at.removed)
      | else-eq w ↦
          let e : g.T.PartialEq.eq c.args.item c.args.common.now ≡ false = sym c.eq.ensures ∙ w.if-eq.false in
          rw e (ap (λ v. v.items) w.entries-is ∙ ap (λ x. set c.args.entries.now.items c.in-Ok.place (x.0, c.args.item)) w.index_mut.ensures.value ∙ at.written c.args.item w.index_mut.result.now)
    ]

pub returns-after-eq-clause-proper : goal.returns-after-eq-clause-proper
returns-after-eq-clause-proper g c =
    (changed g.met.K.Ord.total _ _ _ _ _ _ c.requires (returns-after-eq-clause-list g c)).proper

pub returns-after-eq-clause-item : goal.returns-after-eq-clause-item
returns-after-eq-clause-item g c =
    (changed g.met.K.Ord.total _ _ _ _ _ _ c.requires (returns-after-eq-clause-list g c)).itself

pub returns-after-eq-clause-others : goal.returns-after-eq-clause-others
returns-after-eq-clause-others g c =
    (changed g.met.K.Ord.total _ _ _ _ _ _ c.requires (returns-after-eq-clause-list g c)).others

pub returns-in_ok-insert-in-Err-clause-list : goal.returns-in_ok-insert-in-Err-clause-list
returns-in_ok-insert-in-Err-clause-list g c =
    let at = missing_in g.met.K.Ord.total c.args.entries.now.items c.as_slice.result.now c.args.key c.in-Err.place c.as_slice.ensures.value c.requires.ascending c.in-Err.ensures.bound c.in-Err.ensures.position in
    let e : g.T.PartialEq.eq c.args.item c.args.common.now ≡ false = is_false (g.T.PartialEq.eq c.args.item c.args.common.now) (sym c.ne.ensures ∙ c.if-ne.true) in
    rw e (c.in_ok-insert-in-Err.ensures.items ∙ at.inserted c.args.item)

pub returns-in_ok-insert-in-Err-clause-proper : goal.returns-in_ok-insert-in-Err-clause-proper
returns-in_ok-insert-in-Err-clause-proper g c =
    (changed g.met.K.Ord.total _ _ _ _ _ _ c.requires (returns-in_ok-insert-in-Err-clause-list g c)).proper

pub returns-in_ok-insert-in-Err-clause-item : goal.returns-in_ok-insert-in-Err-clause-item
returns-in_ok-insert-in-Err-clause-item g c =
    (changed g.met.K.Ord.total _ _ _ _ _ _ c.requires (returns-in_ok-insert-in-Err-clause-list g c)).itself

pub returns-in_ok-insert-in-Err-clause-others : goal.returns-in_ok-insert-in-Err-clause-others
returns-in_ok-insert-in-Err-clause-others g c =
    (changed g.met.K.Ord.total _ _ _ _ _ _ c.requires (returns-in_ok-insert-in-Err-clause-list g c)).others

pub returns-else-ne-clause-list : goal.returns-else-ne-clause-list
returns-else-ne-clause-list g c =
    let at = missing_in g.met.K.Ord.total c.args.entries.now.items c.as_slice.result.now c.args.key c.in-Err.place c.as_slice.ensures.value c.requires.ascending c.in-Err.ensures.bound c.in-Err.ensures.position in
    let e : g.T.PartialEq.eq c.args.item c.args.common.now ≡ true = is_true (g.T.PartialEq.eq c.args.item c.args.common.now) (sym c.ne.ensures ∙ c.if-ne.false) in
    rw e (sym at.removed)

pub returns-else-ne-clause-item : goal.returns-else-ne-clause-item
returns-else-ne-clause-item g c =
    (changed g.met.K.Ord.total _ _ _ _ _ _ c.requires (returns-else-ne-clause-list g c)).itself
