use Rattle.std.proofs.Common.{sym, subst}
use Rattle.ix_stuck.specs.inside.Ruled.{Led, form}
use Rattle.ix_stuck.proofs.Steps.{leads_root, led_root}
use Rattle.ix_stuck.proofs.word.begin.Goals as goal

pub returns-clause-leads : goal.returns-clause-leads
returns-clause-leads c =
    let r = c.args.rules in
    leads_root (form r) r.moves.now r.limits.nodes r.start.now c.new.result.items c.in_ok-tree.tree c.new.ensures.items c.in_ok-tree.ensures

pub returns-clause-led : goal.returns-clause-led
returns-clause-led c =
    let r = c.args.rules in
    subst (Led r) (sym c.in_ok-tree.ensures) (led_root (form r) r.moves.now r.limits.nodes r.start.now c.requires.live c.requires.small)
