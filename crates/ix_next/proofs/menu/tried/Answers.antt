use Rattle.std.proofs.Common.{◌≡◌, ◌<◌, ◌≤◌, true, length, refl, ◌∙◌, subst}
use Rattle.std.specs.Prelude.{IfOk, IfErr, OnOk}
use Rattle.ix_next.specs.declared.menu.MenuFault.TheVariants.{Many}
use Rattle.ix_next.specs.declared.trial.Test.TheVariants.{MayCome}
use Rattle.ix_next.proofs.Found.{atoms_candidates, all_found}
use Rattle.ix_next.proofs.menu.tried.Goals as goal

pub returns-clause-value : goal.returns-clause-value
returns-clause-value c = λ x atoms fixed.
    subst (λ w. IfOk c.found.result (λ found. found.keys ≡ w))
    (all_found (record { alloc = c.args.alloc; fixed = c.deref.result; given = c.args.given; new = true; limit = 1000000; test = MayCome c.args.trial }) x c.args.given.now c.deref-2.result.now (c.deref-2.ensures.value ∙ atoms) (c.deref.ensures.value ∙ fixed) refl)
    c.found.ensures.value

pub returns-clause-few : goal.returns-clause-few
returns-clause-few c = λ x atoms fixed.
    subst (λ w. OnOk c.found.result (length w ≤ 1000000))
    (atoms_candidates (record { alloc = c.args.alloc; fixed = c.deref.result; given = c.args.given; new = true; limit = 1000000; test = MayCome c.args.trial }) x c.args.given.now c.deref-2.result.now (c.deref-2.ensures.value ∙ atoms) (c.deref.ensures.value ∙ fixed) refl)
    c.found.ensures.few

pub returns-clause-many : goal.returns-clause-many
returns-clause-many c = λ x atoms fixed.
    subst (λ w. IfErr c.found.result (λ fault. fault ≡ Many → 1000000 < length w))
    (atoms_candidates (record { alloc = c.args.alloc; fixed = c.deref.result; given = c.args.given; new = true; limit = 1000000; test = MayCome c.args.trial }) x c.args.given.now c.deref-2.result.now (c.deref-2.ensures.value ∙ atoms) (c.deref.ensures.value ∙ fixed) refl)
    c.found.ensures.many
