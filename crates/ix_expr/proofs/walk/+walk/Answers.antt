use Rattle.std.proofs.Common.{◌≡◌, suc, ◌+◌, ◌∷◌, ◌++◌, ◌⊎◌, inl, inr, sym, ap, subst, arith}
use Rattle.ix_expr.specs.declared.expr.Expr.{Expr}
use Rattle.ix_expr.specs.FormFaults.{nodes_below}
use Rattle.ix_expr.specs.inside.FormOf.{form_of}
use Rattle.ix_expr.specs.inside.Scope.{binders}
use Rattle.ix_expr.specs.inside.Walk.{Walked, Passed, FaultFrom, operator_node}
use Rattle.ix_expr.proofs.Walks.{told, walked-node, walked-append, fault-before}
use Rattle.ix_expr.proofs.walk.+walk.Goals as goal

pub walk_inside-returns-in-Some-clause-walked : goal.walk_inside-returns-in-Some-clause-walked
walk_inside-returns-in-Some-clause-walked t c = told _ _ _ c.fault_of.ensures c.in-Some.ensures.value

pub walk_inside-returns-in-None-clause-walked : goal.walk_inside-returns-in-None-clause-walked
walk_inside-returns-in-None-clause-walked t c =
    let deeper : c.args.depth + 1 ≡ suc c.args.depth = omega arith in
    let around = record { is_all = c.args.is_all; parameter = c.args.parameter.now } ∷ binders c.args.scope.now in
    walked-node c.args.number (c.args.number + 1) _ _ c.walk.result (omega arith) (sym c.in-None.ensures.value)
    (subst (λ d. Walked (c.args.number + 1) (nodes_below d around (form_of c.args.body.now)) c.walk.result) deeper c.walk.ensures.walked)

pub walk_one-returns-in-Some-clause-walked : goal.walk_one-returns-in-Some-clause-walked
walk_one-returns-in-Some-clause-walked t c = told _ _ _ c.fault_of.ensures c.in-Some.ensures.value

pub walk_one-returns-in-None-clause-walked : goal.walk_one-returns-in-None-clause-walked
walk_one-returns-in-None-clause-walked t c =
    let deeper : c.args.depth + 1 ≡ suc c.args.depth = omega arith in
    walked-node c.args.number (c.args.number + 1) _ _ c.walk.result (omega arith) (sym c.in-None.ensures.value)
    (subst (λ d. Walked (c.args.number + 1) (nodes_below d (binders c.args.scope.now) (form_of c.args.operand.now)) c.walk.result) deeper c.walk.ensures.walked)

-- the nodes of an expression that is one of the five with two operands
two : {A B C D F P : Type 0} → (A → P) → (B → P) → (C → P) → (D → P) → (F → P) → A ⊎ (B ⊎ (C ⊎ (D ⊎ F))) → P
two a b c d f (inl x) = a x
two a b c d f (inr (inl x)) = b x
two a b c d f (inr (inr (inl x))) = c x
two a b c d f (inr (inr (inr (inl x)))) = d x
two a b c d f (inr (inr (inr (inr x)))) = f x

pub walk-returns-in-Ok-clause-walked : goal.walk-returns-in-Ok-clause-walked
walk-returns-in-Ok-clause-walked t c =
    let deeper : c.args.depth + 1 ≡ suc c.args.depth = omega arith in
    let around = binders c.args.scope.now in
    let below = λ (x : Expr). nodes_below (suc c.args.depth) around (form_of x) in
    let nodes = λ (x : Expr). nodes_below c.args.depth around (form_of x) in
    let node = operator_node c.args.depth around in
    let is : nodes c.args.expr.now ≡ node ∷ (below c.in-Seq.y.value ++ below c.in-Seq.z.value) =
    two (ap nodes) (ap nodes) (ap nodes) (ap nodes) (ap nodes) c.in-Seq.is in
    subst (λ all. Walked c.args.number all c.walk.result) (sym is)
    (walked-append c.args.number c.in-Ok.next (node ∷ below c.in-Seq.y.value) (below c.in-Seq.z.value) c.walk.result
    (subst (λ x. Passed c.args.number (node ∷ below x) c.in-Ok.next) c.deref-in-Seq.ensures c.in-Ok.ensures.walked)
    (subst (λ x. Walked c.in-Ok.next (below x) c.walk.result) c.deref-in-Ok.ensures
    (subst (λ d. Walked c.in-Ok.next (nodes_below d around (form_of c.deref-in-Ok.result.now)) c.walk.result) deeper c.walk.ensures.walked)))

pub walk-returns-in-Err-clause-walked : goal.walk-returns-in-Err-clause-walked
walk-returns-in-Err-clause-walked t c =
    let around = binders c.args.scope.now in
    let below = λ (x : Expr). nodes_below (suc c.args.depth) around (form_of x) in
    let nodes = λ (x : Expr). nodes_below c.args.depth around (form_of x) in
    let node = operator_node c.args.depth around in
    let is : nodes c.args.expr.now ≡ node ∷ (below c.in-Seq.y.value ++ below c.in-Seq.z.value) =
    two (ap nodes) (ap nodes) (ap nodes) (ap nodes) (ap nodes) c.in-Seq.is in
    subst (λ all. FaultFrom c.args.number all c.in-Err.fault.code c.in-Err.fault.node) (sym is)
    (fault-before (below c.in-Seq.z.value)
    (subst (λ x. FaultFrom c.args.number (node ∷ below x) c.in-Err.fault.code c.in-Err.fault.node) c.deref-in-Seq.ensures c.in-Err.ensures.walked))
