use Rattle.std.proofs.Common.{◌≡◌, sym, ap, ◌∙◌, subst, true≢false}
use Rattle.ix_expr.specs.FormFaults.{IsWellFormed, HasNumbers}
use Rattle.ix_expr.specs.inside.FormOf.{form_of}
use Rattle.ix_simplify.specs.Rewriting.{Becomes}
use Rattle.ix_simplify.specs.inside.Simplest.{simplest}
use Rattle.ix_simplify.proofs.Uses.{becomes-settled}
use Rattle.ix_simplify.proofs.Reached.{simplest-becomes}
use Rattle.ix_simplify.proofs.Kept.{becomes-same, becomes-nodes}
use Rattle.ix_simplify.proofs.WellFormed.{becomes-well-formed}
use Rattle.ix_simplify.proofs.simplify.Goals as goal

pub new-requires : goal.new-requires
new-requires c =
    let x = c.args.expression.now in
    let is : form_of c.in_ok-simple.field-0 ≡ simplest x = c.in_ok-simple.ensures ∙ ap simplest c.expr.ensures.value in
    let well = becomes-well-formed x (simplest x) (simplest-becomes x) c.expr.ensures.well_formed in
    record { numbers = subst HasNumbers (sym is) well.numbers }

pub unreachable-requires : goal.unreachable-requires
unreachable-requires c =
    let x = c.args.expression.now in
    let is : form_of c.in_ok-simple.field-0 ≡ simplest x = c.in_ok-simple.ensures ∙ ap simplest c.expr.ensures.value in
    let well = becomes-well-formed x (simplest x) (simplest-becomes x) c.expr.ensures.well_formed in
    true≢false (sym (c.in-Err.ensures.ok.1 (subst IsWellFormed (sym is) well)))

pub returns : goal.returns
returns c =
    let x = c.args.expression.now in
    let is : c.in-Ok.simplified ≡ simplest x = c.in-Ok.ensures.value ∙ c.in_ok-simple.ensures ∙ ap simplest c.expr.ensures.value in
    let becomes : Becomes x c.in-Ok.simplified = subst (Becomes x) (sym is) (simplest-becomes x) in
    record {
      value = becomes;
      meaning = becomes-same x c.in-Ok.simplified becomes;
      settled = becomes-settled x c.in-Ok.simplified becomes;
      nodes = becomes-nodes x c.in-Ok.simplified becomes;
    }
