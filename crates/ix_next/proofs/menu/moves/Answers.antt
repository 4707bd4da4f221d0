use Rattle.std.proofs.Common.{false, refl, ap, ◌∙◌}
use Rattle.ix_expr.specs.Atoms.{atoms_of}
use Rattle.ix_next.specs.Fixed.{fixed_in}
use Rattle.ix_next.specs.declared.trial.Test.TheVariants.{Everything}
use Rattle.ix_next.specs.Candidates.{action_with}
use Rattle.ix_next.specs.inside.Trials.{new_of}
use Rattle.std.proofs.Common.{map, []}
use Rattle.ix_next.proofs.Found.{moves_are}
use Rattle.ix_next.proofs.menu.moves.Goals as goal

pub returns-in-Ok-actions-clause-value : goal.returns-in-Ok-actions-clause-value
returns-in-Ok-actions-clause-value c =
    moves_are (record { alloc = c.args.alloc; fixed = c.deref.result; given = c.args.given; new = false; limit = 100000; test = Everything })
    c.args.expression.now c.args.given.now c.deref-2.result.now c.in-Ok-found.found.keys c.in-Ok-actions.moves.items refl refl
    (c.deref-2.ensures.value ∙ c.in-Ok.ensures.atoms ∙ ap atoms_of c.expr.ensures.value)
    (c.deref.ensures.value ∙ c.in-Ok.ensures.fixed ∙ ap fixed_in c.expr.ensures.value)
    refl c.in-Ok-found.ensures.value (c.in-Ok-actions.ensures ∙ ap (map (action_with (new_of []))) c.as_slice.ensures.keys)
