-- The refused nodes of a node and of its two operands.
use Rattle.std.proofs.Common.{◌≡◌, ◌+◌, ◌∷◌, ◌++◌, ℕ, List, Option, length, refl, sym, ap, ◌∙◌, subst}
use Rattle.ix_expr.specs.declared.expr.Expr.{Expr}
use Rattle.ix_expr.specs.inside.FormOf.{form_of}
use Rattle.ix_bound.specs.Refusals.{refusal_code, codes_of, refused_among}
use Rattle.ix_bound.proofs.Found.{found_in_two}
use Rattle.ix_bound.proofs.Walks.{two}
use Rattle.ix_bound.proofs.refused.+collect.Goals as goal

pub returns-in_ok-collect-in-Seq-clause-all : goal.returns-in_ok-collect-in-Seq-clause-all
returns-in_ok-collect-in-Seq-clause-all t c =
    let n : ℕ = c.args.node in
    let m : ℕ = c.in_ok-next-in-Seq.next in
    let x : Expr = c.args.expr.now in
    let y : Expr = c.in-Seq.y.value in
    let z : Expr = c.in-Seq.z.value in
    let old = c.args.found.now.items in
    let looked = c.look.new.found.items in
    let left = c.collect.new.found.items in
    let new = c.collect-in-Seq.new.found.items in
    let next : m ≡ n + 1 + length (codes_of (form_of y)) = subst (λ o. m ≡ n + 1 + length (codes_of (form_of o))) c.deref.ensures c.in_ok-next-in-Seq.ensures.next in
    let first : left ≡ looked ++ refused_among (n + 1) (codes_of (form_of y)) =
    subst (λ o. left ≡ looked ++ refused_among (n + 1) (codes_of (form_of o))) c.deref.ensures c.in_ok-next-in-Seq.ensures.all in
    let second : new ≡ left ++ refused_among m (codes_of (form_of z)) =
    subst (λ o. new ≡ left ++ refused_among m (codes_of (form_of o))) c.deref-in-Seq.ensures c.in_ok-collect-in-Seq.ensures.all in
    let ys : List (Option ℕ) = codes_of (form_of y) in
    let zs : List (Option ℕ) = codes_of (form_of z) in
    let whole : codes_of (form_of x) ≡ refusal_code (form_of x) ∷ (ys ++ zs) =
    two (λ o. codes_of (form_of o) ≡ refusal_code (form_of o) ∷ (ys ++ zs)) refl refl refl refl refl c.in-Seq.is in
    found_in_two old looked left new (refusal_code (form_of x)) ys zs n m c.in_ok-look.ensures first next second
    ∙ ap (λ w. old ++ refused_among n w) (sym whole)
