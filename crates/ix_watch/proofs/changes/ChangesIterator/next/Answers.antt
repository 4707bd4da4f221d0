use Rattle.std.proofs.Common.{◌≡◌, ◌≤◌, ◌+◌, ◌∷◌, sym, ap, ◌∙◌, arith, add-one, drop, length, rules, drop_of_length-le}
use Rattle.ix_watch.specs.inside.Kept.{watch_of}
use Rattle.ix_watch.specs.inside.Watches.{changes_of}
use Rattle.ix_watch.proofs.WatchLemmas.{changes-true, changes-false}
use Rattle.ix_watch.proofs.changes.ChangesIterator.next.Goals as goal

found : (c : goal.Then-has_changed) → c.args.self.now
    ≡ (c.entry.result.0.now.action, c.entry.result.1.now.holds) ∷ changes_of c.loop-self.self-inside.name.now (drop (c.loop-self.self-inside.index + 1) c.loop-self.self-inside.watches.now)
found c =
    let name = c.loop-self.self-inside.name.now in
    let watches = c.loop-self.self-inside.watches.now in
    let index = c.loop-self.self-inside.index in
    let watch = watch_of (c.entry.result.0.now, c.entry.result.1.now) in
    sym c.loop-self.invariant.left
    ∙ changes-true name watches index watch c.entry.ensures (sym c.has_changed.ensures ∙ c.if-has_changed.true)
    ∙ ap (λ n. (watch.action, watch.now) ∷ changes_of name (drop n watches)) (sym (add-one index))

pub returns-then-has_changed-clause-steps : goal.returns-then-has_changed-clause-steps
returns-then-has_changed-clause-steps c = found c

pub returns-then-has_changed-clause-goes : goal.returns-then-has_changed-clause-goes
returns-then-has_changed-clause-goes c =
    let shorter = ap length (found c) in
    search rules

pub loop-self-preserved : goal.loop-self-preserved
loop-self-preserved c =
    let name = c.loop-self.self-inside.name.now in
    let watches = c.loop-self.self-inside.watches.now in
    let index = c.loop-self.self-inside.index in
    let watch = watch_of (c.entry.result.0.now, c.entry.result.1.now) in
    record {
      left = ap (λ n. changes_of name (drop n watches)) (add-one index)
          ∙ sym (changes-false name watches index watch c.entry.ensures (sym c.has_changed.ensures ∙ c.if-has_changed.false))
          ∙ c.loop-self.invariant.left;
      count = c.loop-self.invariant.count;
    }

pub returns-clause-steps : goal.returns-clause-steps
returns-clause-steps c =
    let name = c.loop-self.self-inside.name.now in
    let watches = c.loop-self.self-inside.watches.now in
    let none = ap (changes_of name) (drop_of_length-le watches (let past : length watches ≤ c.loop-self.self-inside.index = omega (arith, c.loop-self.invariant.count) in past)) in
    (sym c.loop-self.invariant.left ∙ none, none)
