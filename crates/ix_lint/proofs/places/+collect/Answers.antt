-- The atoms of two operands.
use Rattle.std.proofs.Common.{◌≡◌, ℕ, ◌+◌, ◌++◌, length, subst}
use Rattle.ix_expr.specs.declared.expr.Expr.{Expr}
use Rattle.ix_expr.specs.inside.FormOf.{form_of}
use Rattle.ix_lint.specs.Atoms.{places, place_at}
use Rattle.ix_lint.specs.Nodes.{forms}
use Rattle.ix_lint.proofs.Numbers.{two, made_of_two, put_both}
use Rattle.ix_lint.proofs.places.+collect.Goals as goal

pub returns-in_ok-collect-in-Seq-clause-all : goal.returns-in_ok-collect-in-Seq-clause-all
returns-in_ok-collect-in-Seq-clause-all t c =
    let n : ℕ = c.args.node in
    let m : ℕ = c.in_ok-next-in-Seq.next in
    let y : Expr = c.in-Seq.y.value in
    let z : Expr = c.in-Seq.z.value in
    let next : m ≡ n + 1 + length (forms (form_of y)) = subst (λ x. m ≡ n + 1 + length (forms (form_of x))) c.deref.ensures c.in_ok-next-in-Seq.ensures.next in
    let split = made_of_two (λ node. place_at node.0 node.1) (n + 1) m (forms (form_of y)) (forms (form_of z)) next in
    let whole : places n (form_of c.args.expr.now) ≡ places (n + 1) (form_of y) ++ places m (form_of z) =
    two (λ x. places n (form_of x) ≡ places (n + 1) (form_of y) ++ places m (form_of z)) split split split split split c.in-Seq.is in
    put_both c.args.found.now.items c.collect.new.found.items c.collect-in-Seq.new.found.items (places (n + 1) (form_of y)) (places m (form_of z)) (places n (form_of c.args.expr.now))
    (subst (λ x. c.collect.new.found.items ≡ c.args.found.now.items ++ places (n + 1) (form_of x)) c.deref.ensures c.in_ok-next-in-Seq.ensures.all)
    (subst (λ x. c.collect-in-Seq.new.found.items ≡ c.collect.new.found.items ++ places m (form_of x)) c.deref-in-Seq.ensures c.in_ok-collect-in-Seq.ensures.all)
    whole
