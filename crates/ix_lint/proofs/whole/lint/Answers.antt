-- There are few nodes.
use Rattle.std.proofs.Common.{◌≤◌, [], length, sym, subst, arith}
use Rattle.ix_expr.specs.FormFaults.{IsWellFormed}
use Rattle.ix_expr.specs.inside.FormOf.{form_of}
use Rattle.ix_lint.specs.Nodes.{forms, spots}
use Rattle.ix_lint.proofs.Lengths.{few_forms, few_spots}
use Rattle.ix_lint.proofs.whole.lint.Goals as goal

pub collect-requires : goal.collect-requires
collect-requires c =
    let few : length (forms (form_of c.expr.result.now)) ≤ 512 = few_forms (form_of c.expr.result.now) (subst IsWellFormed (sym c.expr.ensures.value) c.expr.ensures.well_formed) in
    omega arith

pub walk-requires : goal.walk-requires
walk-requires c =
    let few : length (spots [] (form_of c.expr-2.result.now)) ≤ 512 = few_spots (form_of c.expr-2.result.now) (subst IsWellFormed (sym c.expr-2.ensures.value) c.expr-2.ensures.well_formed) in
    omega arith
