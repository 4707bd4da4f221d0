use Rattle.std.proofs.Common.{[], arith}
use Rattle.ix_expr.specs.FormFaults.{Fits}
use Rattle.ix_bound.specs.Refusals.{codes_of}
use Rattle.ix_bound.proofs.Bounded.{all_pass, bounded}
use Rattle.ix_bound.proofs.laws.bounds_suffice.Goals as goal

pub returns : goal.returns
returns c = λ x w k number limit well told few room.
    let fits : Fits x [] = record { faultless = well.faultless; numbers = well.numbers } in
    let small = bounded x [] w k fits (all_pass 0 (codes_of x) told.0) few in
    omega (arith, small, told.1, room)
