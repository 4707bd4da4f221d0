use Rattle.std.proofs.Common.{◌+◌, [], Ok, sym, arith}
use Rattle.ix_expr.specs.inside.Walk.{free_end}
use Rattle.ix_expr.proofs.Walks.{told, walked-node}
use Rattle.ix_expr.proofs.walk.visit_atom.Goals as goal

pub returns-in-Some-clause-walked : goal.returns-in-Some-clause-walked
returns-in-Some-clause-walked c = told _ _ _ c.fault_of.ensures c.in-Some.ensures.value

pub returns-in-None-clause-walked : goal.returns-in-None-clause-walked
returns-in-None-clause-walked c =
    walked-node c.args.number (c.args.number + 1) _ [] (Ok (c.args.number + 1)) (omega arith) (sym c.in-None.ensures.value)
    (record { free = free_end; counted = omega arith; few = omega (arith, c.in-None.ensures.within) })
