use Rattle.std.proofs.Common.{◌≤◌, sym, ap, ◌∙◌, subst}
use Rattle.ix_tree.specs.Plain.{is_dead}
use Rattle.ix_tree.specs.Size.{size_of}
use Rattle.ix_can.specs.inside.Moved.{moved}
use Rattle.ix_stuck.specs.inside.Ruled.{form}
use Rattle.ix_stuck.proofs.Steps.{fits_of, led_proper}
use Rattle.ix_stuck.proofs.rules.next_tree.Goals as goal

pub step-requires-clause-proper : goal.step-requires-clause-proper
step-requires-clause-proper c =
    let r = c.args.rules in
    let ready = c.requires.ready in
    led_proper (form r) r.moves.now r.limits.nodes r.start.now (fits_of (form r) ready.formed) ready.tree c.args.tree.now c.requires.led

-- the moved tree is dead
pub returns-in-Ok : goal.returns-in-Ok
returns-in-Ok c =
    let is = c.in-Ok.ensures.by_tree.0 ∙ ap (λ e. moved (form c.args.rules) e c.args.tree.now c.args.action.now) c.requires.ready.empty in
    ap is_dead (sym is) ∙ sym c.is_dead.ensures ∙ c.if-is_dead.true

-- it is live
pub returns-in-Ok-2 : goal.returns-in-Ok-2
returns-in-Ok-2 c =
    let is = c.in-Ok.ensures.by_tree.0 ∙ ap (λ e. moved (form c.args.rules) e c.args.tree.now c.args.action.now) c.requires.ready.empty in (
      is,
      sym c.is_dead.ensures ∙ c.if-is_dead.false,
      subst (λ t. size_of t ≤ c.args.rules.limits.nodes) (sym c.in-Ok.ensures.by_tree.0) c.in-Ok.ensures.by_tree.1,
    )
