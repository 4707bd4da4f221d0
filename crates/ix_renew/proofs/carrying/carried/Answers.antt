use Rattle.std.proofs.Common.{[], ◌∙◌, ap}
use Rattle.ix_expr.specs.Form.{Form}
use Rattle.ix_can.specs.TreeOf.{tree_of}
use Rattle.ix_renew.proofs.Nothing.{nothing_carried, something}
use Rattle.ix_renew.proofs.carrying.carried.Goals as goal

-- the history's tree is that of the empty word
pub returns-then-eq-clause-carried : goal.returns-then-eq-clause-carried
returns-then-eq-clause-carried c =
    let s = c.args.engine.now in
    let form = c.expr-expr.ensures.value ∙ c.expression.ensures in
    let first = c.in-Ok.ensures.0 ∙ ap (λ (x : Form). tree_of x [] []) form in
    nothing_carried s.form s.limit s.history c.in-Ok.first c.tree.result.now c.eq.result c.eq.ensures first c.tree.ensures c.if-eq.true
    c.new-then-eq.result.items c.new-then-eq.ensures.items

-- it isn't
pub returns-clause-nothing : goal.returns-clause-nothing
returns-clause-nothing c = λ e.
    let s = c.args.engine.now in
    let form = c.expr-expr.ensures.value ∙ c.expression.ensures in
    let first = c.in-Ok.ensures.0 ∙ ap (λ (x : Form). tree_of x [] []) form in
    absurd (something s.form s.limit s.history c.in-Ok.first c.tree.result.now c.eq.result c.eq.ensures first c.tree.ensures c.if-eq.false e)
