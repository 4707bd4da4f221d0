-- The first form is the whole one, and those of two operands stand one behind the other.
use Rattle.std.proofs.Common.{◌≡◌, ℕ, ◌+◌, ◌-◌, ◌<◌, ◌≤◌, ◌∷◌, ◌++◌, slice_get, ap, ◌∙◌, subst, arith}
use Rattle.ix_expr.specs.declared.expr.Expr.{Expr}
use Rattle.ix_expr.specs.Form.{Form}
use Rattle.ix_expr.specs.inside.FormOf.{form_of}
use Rattle.ix_lint.specs.Nodes.{forms}
use Rattle.ix_lint.proofs.Numbers.{two}
use Rattle.ix_why.specs.Blames.{nodes}
use Rattle.ix_why.proofs.Counts.{first_form, left_at, right_at}
use Rattle.ix_why.proofs.node.+below.Goals as goal

pub returns-then-node-eq0 : goal.returns-then-node-eq0
returns-then-node-eq0 t c = first_form (form_of c.args.expr.now) ∙ ap (slice_get (forms (form_of c.args.expr.now))) (omega arith)

pub returns-then-node-before : goal.returns-then-node-before
returns-then-node-before t c =
    let y : Expr = c.in-Seq.y.value in
    let z : Expr = c.in-Seq.z.value in
    let k : ℕ = c.args.node in
    let some : 0 < k = omega arith in
    let within : k < 1 + nodes (form_of y) = subst (λ x. k < 1 + nodes (form_of x)) c.deref.ensures (omega (arith, c.count-before.ensures, c.if-node-before.true)) in
    let here : (x : Form) → slice_get (forms (form_of y)) (k - 1) ≡ slice_get (x ∷ (forms (form_of y) ++ forms (form_of z))) k = λ x. left_at x (forms (form_of y)) (forms (form_of z)) k some within in
    c.below.ensures ∙ ap (λ x. slice_get (forms (form_of x)) (k - 1)) c.deref-then-node-before.ensures
    ∙ two (λ x. slice_get (forms (form_of y)) (k - 1) ≡ slice_get (forms (form_of x)) k) (here _) (here _) (here _) (here _) (here _) c.in-Seq.is

pub returns-else-node-before : goal.returns-else-node-before
returns-else-node-before t c =
    let y : Expr = c.in-Seq.y.value in
    let z : Expr = c.in-Seq.z.value in
    let k : ℕ = c.args.node in
    let before : ℕ = 1 + nodes (form_of y) in
    let counted : 1 + c.count-before.result ≡ before = ap (λ n. 1 + n) c.count-before.ensures ∙ ap (λ x. 1 + nodes (form_of x)) c.deref.ensures in
    let past : before ≤ k = omega (arith, counted, c.if-node-before.false) in
    let here : (x : Form) → slice_get (forms (form_of z)) (k - before) ≡ slice_get (x ∷ (forms (form_of y) ++ forms (form_of z))) k = λ x. right_at x (forms (form_of y)) (forms (form_of z)) k past in
    c.below-else-node-before.ensures ∙ ap (λ x. slice_get (forms (form_of x)) (k - (1 + c.count-before.result))) c.deref-else-node-before.ensures
    ∙ ap (λ n. slice_get (forms (form_of z)) (k - n)) counted
    ∙ two (λ x. slice_get (forms (form_of z)) (k - before) ≡ slice_get (forms (form_of x)) k) (here _) (here _) (here _) (here _) (here _) c.in-Seq.is
