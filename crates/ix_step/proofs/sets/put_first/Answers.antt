use Rattle.std.proofs.Common.{◌∷◌, [], sym, ap, ◌∙◌, subst, arith}
use Rattle.ix_words.specs.Canon.{when}
use Rattle.ix_expr.specs.inside.FormOf.{form_of}
use Rattle.ix_step.specs.inside.Initial.{initial_tree}
use Rattle.ix_step.specs.inside.Makes.{Gathers}
use Rattle.ix_step.proofs.Gathered.{gathers_tree, tree_weights}
use Rattle.ix_step.proofs.sets.put_first.Goals as goal

pub returns-clause-gathers : goal.returns-clause-gathers
returns-clause-gathers c =
    let first = initial_tree (form_of c.args.expr.now) in
    subst (λ xs. Gathers c.args.set.now.budget xs c.args.set.now.items c.put.new.set.items c.put.result)
    (ap (λ x. x ∷ []) c.in_ok-first_tree.ensures ∙ ap (λ b. when b (first ∷ [])) (sym c.if-not-begins.false))
    (gathers_tree c.args.set.now c.put.new.set.items c.in_ok-first_tree.field-0 c.put.result c.put.ensures.put)

pub returns-clause-within : goal.returns-clause-within
returns-clause-within c = omega (arith, tree_weights c.put.new.set.items, c.put.ensures.within, c.put.ensures.budget)
