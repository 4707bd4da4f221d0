use Rattle.ix_next.specs.inside.Fillings.{filled, begun_filling}
use Rattle.ix_next.proofs.Fillings.{took_none, took_next, many_next}
use Rattle.ix_next.proofs.fill.fill_atoms.Goals as goal

pub loop-atom-init : goal.loop-atom-init
loop-atom-init c = took_none c.args.scope.now c.args.tray.now c.requires.room

pub loop-atom-preserved : goal.loop-atom-preserved
loop-atom-preserved c =
    took_next c.args.scope.now (λ a. filled c.args.scope.now a.arguments (begun_filling a.name)) c.args.tray.now c.loop-atom.tray c.fill_atom.new.tray c.args.atoms.now
    c.loop-atom.atom-index c.atom-item.result c.loop-atom-test.true c.atom-item.is c.loop-atom.invariant c.in-Ok.ensures.took

pub returns-in-Err-clause-many : goal.returns-in-Err-clause-many
returns-in-Err-clause-many c = λ many.
    many_next c.args.scope.now (λ a. filled c.args.scope.now a.arguments (begun_filling a.name)) c.args.tray.now c.loop-atom.tray c.args.atoms.now
    c.loop-atom.atom-index c.atom-item.result c.loop-atom-test.true c.atom-item.is c.loop-atom.invariant (c.in-Err.ensures.many many)
