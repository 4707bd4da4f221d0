use Rattle.std.proofs.Common.{◌≡◌, ◌<◌, true, length, refl, ◌∙◌, subst}
use Rattle.std.specs.Prelude.{IfErr}
use Rattle.ix_next.specs.declared.menu.MenuFault.TheVariants.{Many}
use Rattle.ix_next.specs.declared.trial.Test.TheVariants.{Nothing}
use Rattle.ix_next.proofs.Found.{atoms_candidates}
use Rattle.ix_next.proofs.menu.counted.Goals as goal

pub returns : goal.returns
returns c = λ x atoms fixed.
    subst (λ w. IfErr c.found.result (λ fault. fault ≡ Many → 1000000 < length w))
    (atoms_candidates (record { alloc = c.args.alloc; fixed = c.deref.result; given = c.args.given; new = true; limit = 1000000; test = Nothing }) x c.args.given.now c.deref-2.result.now (c.deref-2.ensures.value ∙ atoms) (c.deref.ensures.value ∙ fixed) refl)
    c.found.ensures.many
