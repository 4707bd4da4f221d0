-- The atoms of two operands.
use Rattle.std.proofs.Common.{◌≡◌, ℕ, ◌+◌, ◌++◌, length, ap, ◌∙◌, subst}
use Rattle.ix_expr.specs.declared.expr.Expr.{Expr}
use Rattle.ix_expr.specs.inside.FormOf.{form_of}
use Rattle.ix_values.specs.PlainAction.{Word}
use Rattle.ix_lint.specs.Nodes.{forms}
use Rattle.ix_lint.proofs.Numbers.{two, made_of_two, put_both}
use Rattle.ix_stuck.specs.Gone.{atom_at, numbered_atoms}
use Rattle.ix_stuck.specs.inside.Matching.{gone_of}
use Rattle.ix_stuck.proofs.Used.{gone_append}
use Rattle.ix_stuck.proofs.gone.+collect.Goals as goal

pub returns-in_ok-collect-in-Seq-clause-all : goal.returns-in_ok-collect-in-Seq-clause-all
returns-in_ok-collect-in-Seq-clause-all t c =
    let n : ℕ = c.args.node in
    let m : ℕ = c.in_ok-next-in-Seq.next in
    let w : Word = c.args.coming.now in
    let y : Expr = c.in-Seq.y.value in
    let z : Expr = c.in-Seq.z.value in
    let next : m ≡ n + 1 + length (forms (form_of y)) = subst (λ x. m ≡ n + 1 + length (forms (form_of x))) c.deref.ensures c.in_ok-next-in-Seq.ensures.next in
    let split = made_of_two (λ node. atom_at node.0 node.1) (n + 1) m (forms (form_of y)) (forms (form_of z)) next in
    let both : numbered_atoms n (form_of c.args.expr.now) ≡ numbered_atoms (n + 1) (form_of y) ++ numbered_atoms m (form_of z) =
    two (λ x. numbered_atoms n (form_of x) ≡ numbered_atoms (n + 1) (form_of y) ++ numbered_atoms m (form_of z)) split split split split split c.in-Seq.is in
    put_both c.args.gone.now.items c.collect.new.gone.items c.collect-in-Seq.new.gone.items (gone_of w (numbered_atoms (n + 1) (form_of y))) (gone_of w (numbered_atoms m (form_of z))) (gone_of w (numbered_atoms n (form_of c.args.expr.now)))
    (subst (λ x. c.collect.new.gone.items ≡ c.args.gone.now.items ++ gone_of w (numbered_atoms (n + 1) (form_of x))) c.deref.ensures c.in_ok-next-in-Seq.ensures.all)
    (subst (λ x. c.collect-in-Seq.new.gone.items ≡ c.collect.new.gone.items ++ gone_of w (numbered_atoms m (form_of x))) c.deref-in-Seq.ensures c.in_ok-collect-in-Seq.ensures.all)
    (ap (gone_of w) both ∙ gone_append w (numbered_atoms (n + 1) (form_of y)) (numbered_atoms m (form_of z)))
