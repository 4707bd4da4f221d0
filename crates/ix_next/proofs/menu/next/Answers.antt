use Rattle.std.proofs.Common.{true, refl, ap, ◌∙◌, sym, subst, filter, []}
use Rattle.ix_can.specs.Laws.{IsProper}
use Rattle.ix_can.specs.May.{may}
use Rattle.ix_can.proofs.Proper.{proper}
use Rattle.ix_expr.specs.Atoms.{atoms_of}
use Rattle.ix_next.specs.Fixed.{fixed_in}
use Rattle.ix_next.specs.Candidates.{action_with, candidate_eq, candidates, once}
use Rattle.ix_next.specs.Menu.{IsMenu}
use Rattle.ix_next.specs.inside.Trials.{new_of}
use Rattle.ix_next.proofs.Tried.{menu_of}
use Rattle.ix_next.proofs.menu.next.Goals as goal

pub tried-requires : goal.tried-requires
tried-requires c = subst (IsProper c.args.expression.now) (sym c.requires) (proper c.args.expression.now [] c.args.history.now)

pub returns-in-Err-clause-many : goal.returns-in-Err-clause-many
returns-in-Err-clause-many c =
    c.in-Err.ensures c.args.expression.now (c.in-Ok.ensures.atoms ∙ ap atoms_of c.expr.ensures.value) (c.in-Ok.ensures.fixed ∙ ap fixed_in c.expr.ensures.value)

pub returns-in-Ok-listed-clause-value : goal.returns-in-Ok-listed-clause-value
returns-in-Ok-listed-clause-value c =
    let x = c.args.expression.now in
    let all = once candidate_eq (candidates true x c.args.given.now) in
    let atoms = c.in-Ok.ensures.atoms ∙ ap atoms_of c.expr.ensures.value in
    let fixed = c.in-Ok.ensures.fixed ∙ ap fixed_in c.expr.ensures.value in
    let path = c.in-Ok-listed.ensures ∙ c.as_slice.ensures.keys ∙ c.in-Ok-tried.ensures.value x atoms fixed
    ∙ ap (λ t. filter (λ d. may x [] t (action_with (new_of c.in-Some.new) d)) all) c.requires in
    subst (IsMenu x c.args.history.now c.args.given.now) (sym path)
    (menu_of x c.args.history.now c.args.given.now (record { history = c.args.history; fixed = c.deref.result; given = c.args.given }) c.in-Some.new
    c.expr.ensures.well_formed c.expr.ensures.spelled refl (c.deref.ensures.value ∙ fixed) refl c.in-Some.ensures.four c.in-Some.ensures.new)
