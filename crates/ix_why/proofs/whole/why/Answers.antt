-- By the tree of a word some part is told exactly where the word may not go on.
use Rattle.std.proofs.Common.{◌≡◌, ◌≢◌, ◌↔◌, [], ◌∷◌, ◌++◌, sym, ap, ◌∙◌, subst}
use Rattle.ix_expr.specs.Meaning.{IsPartial}
use Rattle.ix_can.specs.TreeOf.{tree_of}
use Rattle.ix_why.specs.Blames.{refusals}
use Rattle.ix_why.proofs.Refused.{some-part}
use Rattle.ix_why.proofs.whole.why.Goals as goal

pub returns-clause-some : goal.returns-clause-some
returns-clause-some c = λ w e.
    let x = c.args.expression.now in
    let a = c.args.action.now in
    let told : c.in_ok-parts.parts.items ≡ refusals x (tree_of x [] w) a = c.in_ok-parts.ensures ∙ ap (λ z. refusals z c.args.tree.now a) c.expr.ensures.value ∙ ap (λ t. refusals x t a) e in
    subst (λ ps. (ps ≢ []) ↔ ¬ IsPartial x [] (w ++ a ∷ [])) (sym told) (some-part x w a c.expr.ensures.well_formed)
