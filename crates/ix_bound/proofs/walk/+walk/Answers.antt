-- The left part of a node has a refused one.
use Rattle.std.proofs.Common.{◌≡◌, ◌+◌, ◌∷◌, ◌++◌, ℕ, List, Option, Some, None, refl, sym, ap, ◌∙◌, subst}
use Rattle.ix_expr.specs.declared.expr.Expr.{Expr}
use Rattle.ix_expr.specs.inside.FormOf.{form_of}
use Rattle.ix_bound.specs.Refusals.{refusal_code, codes_of, first_refused}
use Rattle.ix_bound.proofs.Walks.{two, refused_before}
use Rattle.ix_bound.proofs.walk.+walk.Goals as goal

pub returns-in-Refused : goal.returns-in-Refused
returns-in-Refused t c =
    let codes = λ (x : Expr). codes_of (form_of x) in
    let parts : List (Option ℕ) = codes c.in-Seq.y.value ++ codes c.in-Seq.z.value in
    let whole : codes c.args.expr.now ≡ refusal_code (form_of c.args.expr.now) ∷ parts =
    two (λ x. codes x ≡ refusal_code (form_of x) ∷ parts) refl refl refl refl refl c.in-Seq.is in
    let passed : refusal_code (form_of c.args.expr.now) ≡ None = sym c.refusal_code.ensures ∙ c.in_default.is in
    let first : first_refused (c.args.node + 1) (codes c.in-Seq.y.value) ≡ Some (c.in-Refused.code, c.in-Refused.node) =
    subst (λ x. first_refused (c.args.node + 1) (codes x) ≡ Some (c.in-Refused.code, c.in-Refused.node)) c.deref.ensures c.in-Refused.ensures in
    ap (first_refused c.args.node) whole
    ∙ refused_before (refusal_code (form_of c.args.expr.now)) (codes c.in-Seq.y.value) (codes c.in-Seq.z.value) c.args.node c.in-Refused.code c.in-Refused.node passed first
