-- What each call of the walk asks holds, and what is told of the operands is told of the expression.
use Rattle.std.proofs.Common.{◌≡◌, true, suc, ◌+◌, ◌++◌, Option, Some, OnOk, rules, arith, sym, ap, ◌∙◌, subst}
use Rattle.ix_words.proofs.Each.{Each-weaker}
use Rattle.ix_expr.specs.declared.expr.Expr.TheViews.{the_lemmas}
use Rattle.ix_expr.specs.Environment.{Environment}
use Rattle.ix_expr.specs.Form.{Form, opt, and, couple, every, sync, all}
use Rattle.ix_expr.specs.FormFaults.{Fits}
use Rattle.ix_expr.specs.inside.FormOf.{form_of}
use Rattle.ix_tree.specs.Plain.{Plain}
use Rattle.ix_can.specs.Laws.{IsProper}
use Rattle.ix_expr.specs.Tests.{in_alphabet}
use Rattle.ix_can.specs.inside.CanAsk.{CanAsk}
use Rattle.ix_why.specs.Blames.{nodes, blames}
use Rattle.ix_why.specs.inside.Held.{kept_tree, tree_held}
use Rattle.ix_why.proofs.Asked.{asks_opt, asks_and, asks_couple, asks_every, asks_sync, asks_all, owned_proper}
use Rattle.ix_why.proofs.Blamed.{opt_tells, and_tells, couple_tells, every_tells, sync_tells}
use Rattle.ix_why.proofs.Counts.{both_nodes}
use Rattle.ix_why.proofs.walk.+walk.Goals as goal

-- what is asked of an expression, of its form
of_form : {x y : Form} {e : Environment} (s : Option Plain) → x ≡ y → CanAsk x e (tree_held x s) → CanAsk y e (tree_held y s)
of_form {x} {y} {e} s h k = subst (λ z. CanAsk z e (tree_held z s)) h k

pub walk-walk-requires : goal.walk-walk-requires
walk-walk-requires t c =
    let shape = ap form_of c.in-Opt.is ∙ ap (λ v. opt (form_of v)) (sym c.deref.ensures) in
    let y = form_of c.deref.result.now in
    (search (rules, the_lemmas), (omega (arith, ap nodes shape, c.requires.few), subst (λ s. CanAsk y c.args.scope.now (tree_held y s)) (sym c.left.ensures) (asks_opt (kept_tree c.args.state) (of_form (kept_tree c.args.state) shape c.requires.ask))))

pub walk-walk_both-requires : goal.walk-walk_both-requires
walk-walk_both-requires t c =
    let shape = ap form_of c.in-And.is ∙ ap (λ v. and (form_of v) (form_of c.in-And.right.value)) (sym c.deref-in-And.ensures) ∙ ap (λ v. and (form_of c.deref-in-And.result.now) (form_of v)) (sym c.deref-in-And-2.ensures) in
    let size : nodes (form_of c.args.expr.now) ≡ suc (nodes (form_of c.deref-in-And.result.now) + nodes (form_of c.deref-in-And-2.result.now)) = ap nodes shape ∙ both_nodes (form_of c.deref-in-And.result.now) (form_of c.deref-in-And-2.result.now) in
    (search (rules, the_lemmas, size), (omega (arith, size, c.requires.few), asks_and (kept_tree c.args.state) (of_form (kept_tree c.args.state) shape c.requires.ask)))

pub walk-walk_both-requires-in-Couple : goal.walk-walk_both-requires-in-Couple
walk-walk_both-requires-in-Couple t c =
    let shape = ap form_of c.in-Couple.is ∙ ap (λ v. couple (form_of v) (form_of c.in-Couple.right.value)) (sym c.deref-in-Couple.ensures) ∙ ap (λ v. couple (form_of c.deref-in-Couple.result.now) (form_of v)) (sym c.deref-in-Couple-2.ensures) in
    let size : nodes (form_of c.args.expr.now) ≡ suc (nodes (form_of c.deref-in-Couple.result.now) + nodes (form_of c.deref-in-Couple-2.result.now)) = ap nodes shape ∙ both_nodes (form_of c.deref-in-Couple.result.now) (form_of c.deref-in-Couple-2.result.now) in
    (search (rules, the_lemmas, size), (omega (arith, size, c.requires.few), asks_couple (kept_tree c.args.state) (of_form (kept_tree c.args.state) shape c.requires.ask)))

pub walk-walk_body-requires : goal.walk-walk_body-requires
walk-walk_body-requires t c =
    let shape = ap form_of c.in-Every.is ∙ ap (λ v. every c.in-Every.parameter (form_of v)) (sym c.deref-in-Every.ensures) in
    (search (rules, the_lemmas), (omega (arith, ap nodes shape, c.requires.few), asks_every (kept_tree c.args.state) (of_form (kept_tree c.args.state) shape c.requires.ask)))

pub walk-walk_body-requires-in-Sync : goal.walk-walk_body-requires-in-Sync
walk-walk_body-requires-in-Sync t c =
    let shape = ap form_of c.in-Sync.is ∙ ap (λ v. sync c.in-Sync.parameter (form_of v)) (sym c.deref-in-Sync.ensures) in
    (search (rules, the_lemmas), (omega (arith, ap nodes shape, c.requires.few), asks_sync (kept_tree c.args.state) (of_form (kept_tree c.args.state) shape c.requires.ask)))

pub walk-walk_owner-requires : goal.walk-walk_owner-requires
walk-walk_owner-requires t c =
    let shape = ap form_of c.in-All.is ∙ ap (λ v. all c.in-All.parameter (form_of v)) (sym c.deref-in-All.ensures) in
    (search (rules, the_lemmas), (omega (arith, ap nodes shape, c.requires.few), asks_all (kept_tree c.args.state) (of_form (kept_tree c.args.state) shape c.requires.ask)))

pub walk-returns-in-Opt : goal.walk-returns-in-Opt
walk-returns-in-Opt t c =
    let shape = ap form_of c.in-Opt.is ∙ ap (λ v. opt (form_of v)) (sym c.deref.ensures) in
    let n = c.args.node in
    let e = c.args.scope.now in
    let s = kept_tree c.args.state in
    let a = c.args.action.now in
    let y = form_of c.deref.result.now in
    subst (λ ps. OnOk c.walk.result (c.walk.new.parts.items ≡ c.args.parts.now.items ++ ps)) (ap (λ r. blames (n + 1) y e (tree_held y r) a) c.left.ensures ∙ opt_tells n y e s a ∙ ap (λ x. blames n x e (tree_held x s) a) (sym shape)) c.walk.ensures

pub walk-returns-in-And : goal.walk-returns-in-And
walk-returns-in-And t c =
    let shape = ap form_of c.in-And.is ∙ ap (λ v. and (form_of v) (form_of c.in-And.right.value)) (sym c.deref-in-And.ensures) ∙ ap (λ v. and (form_of c.deref-in-And.result.now) (form_of v)) (sym c.deref-in-And-2.ensures) in
    let n = c.args.node in
    let e = c.args.scope.now in
    let s = kept_tree c.args.state in
    let a = c.args.action.now in
    subst (λ ps. OnOk c.walk_both.result (c.walk_both.new.parts.items ≡ c.args.parts.now.items ++ ps)) (and_tells n (form_of c.deref-in-And.result.now) (form_of c.deref-in-And-2.result.now) e s a ∙ ap (λ x. blames n x e (tree_held x s) a) (sym shape)) c.walk_both.ensures

pub walk-returns-in-Couple : goal.walk-returns-in-Couple
walk-returns-in-Couple t c =
    let shape = ap form_of c.in-Couple.is ∙ ap (λ v. couple (form_of v) (form_of c.in-Couple.right.value)) (sym c.deref-in-Couple.ensures) ∙ ap (λ v. couple (form_of c.deref-in-Couple.result.now) (form_of v)) (sym c.deref-in-Couple-2.ensures) in
    let n = c.args.node in
    let e = c.args.scope.now in
    let s = kept_tree c.args.state in
    let a = c.args.action.now in
    let y = form_of c.deref-in-Couple.result.now in
    let z = form_of c.deref-in-Couple-2.result.now in
    let inside : in_alphabet (couple y z) e a ≡ true = ap (λ x. in_alphabet x e a) (sym shape) ∙ ap (λ f. in_alphabet (form_of c.args.expr.now) f a) (sym c.env-env.ensures) ∙ sym c.if-contains.ensures.test in
    subst (λ ps. OnOk c.walk_both-in-Couple.result (c.walk_both-in-Couple.new.parts.items ≡ c.args.parts.now.items ++ ps)) (couple_tells n y z e s a inside ∙ ap (λ x. blames n x e (tree_held x s) a) (sym shape)) c.walk_both-in-Couple.ensures

pub walk-returns-in-Every : goal.walk-returns-in-Every
walk-returns-in-Every t c =
    let shape = ap form_of c.in-Every.is ∙ ap (λ v. every c.in-Every.parameter (form_of v)) (sym c.deref-in-Every.ensures) in
    let n = c.args.node in
    let e = c.args.scope.now in
    let s = kept_tree c.args.state in
    let a = c.args.action.now in
    subst (λ ps. OnOk c.walk_body.result (c.walk_body.new.parts.items ≡ c.args.parts.now.items ++ ps)) (every_tells n c.in-Every.parameter (form_of c.deref-in-Every.result.now) e s a ∙ ap (λ x. blames n x e (tree_held x s) a) (sym shape)) c.walk_body.ensures

pub walk-returns-in-Sync : goal.walk-returns-in-Sync
walk-returns-in-Sync t c =
    let shape = ap form_of c.in-Sync.is ∙ ap (λ v. sync c.in-Sync.parameter (form_of v)) (sym c.deref-in-Sync.ensures) in
    let n = c.args.node in
    let e = c.args.scope.now in
    let s = kept_tree c.args.state in
    let a = c.args.action.now in
    let p = c.in-Sync.parameter in
    let y = form_of c.deref-in-Sync.result.now in
    let inside : in_alphabet (sync p y) e a ≡ true = ap (λ x. in_alphabet x e a) (sym shape) ∙ ap (λ f. in_alphabet (form_of c.args.expr.now) f a) (sym c.env-env.ensures) ∙ sym c.if-contains-2.ensures.test in
    subst (λ ps. OnOk c.walk_body-in-Sync.result (c.walk_body-in-Sync.new.parts.items ≡ c.args.parts.now.items ++ ps)) (sync_tells n p y e s a inside ∙ ap (λ x. blames n x e (tree_held x s) a) (sym shape)) c.walk_body-in-Sync.ensures

pub walk_body-walk-requires : goal.walk_body-walk-requires
walk_body-walk-requires t c =
    let y = form_of c.args.body.expr.now in
    let v = c.in-Some.value in (
      search (rules, the_lemmas),
      (
        c.requires.few,
        record {
          fits = subst (Fits y) (sym c.with-inside.ensures) (c.requires.fits.body v);
          proper = subst (λ s. IsProper y (tree_held y s)) (sym c.at-state.ensures) (c.requires.proper.each v);
        },
      ),
    )

pub walk_owner-owned-requires : goal.walk_owner-owned-requires
walk_owner-owned-requires t c = Each-weaker (λ m k. k.0) c.requires.proper

pub walk_owner-walk-requires : goal.walk_owner-walk-requires
walk_owner-walk-requires t c =
    let y = form_of c.args.body.expr.now in
    let v = c.in-Some.value in (
      search (rules, the_lemmas),
      (
        c.requires.few,
        record {
          fits = subst (Fits y) (sym c.with-inside.ensures) (c.requires.fits.body (Some v));
          proper = owned_proper y v (kept_tree c.args.state) (kept_tree c.in-Some-owned.state) c.requires.proper c.in-Some-owned.ensures;
        },
      ),
    )
