use Rattle.std.proofs.Common.{ℕ, ◌<◌, ◌⊎◌, inl, inr, Some, None, List, length, get_or, refl, sym, ap, ◌∙◌, subst, true≢false, arith, rules}
use Rattle.std.proofs.lemmas.List.{get_or_read_under}
use borrow.Author.Count.{below_more}
use Rattle.ix_expr.specs.declared.expr.Expr.{Expr}
use Rattle.ix_expr.specs.declared.expr.Expr.TheViews.{the_lemmas}
use Rattle.ix_expr.specs.Environment.{Environment, bind}
use Rattle.ix_expr.specs.inside.FormOf.{form_of}
use Rattle.ix_expr.specs.FormFaults.{Fits}
use Rattle.ix_expr.specs.Meaning.{InAlphabet}
use Rattle.ix_expr.proofs.Agreement.{some-in-alphabet, outside-in-alphabet}
use Rattle.ix_expr.proofs.Testing.{tells_inside}
use Rattle.ix_expr.specs.Fitting.{FitsInside, OperandsFit}
use Rattle.ix_expr.proofs.Parts.{fits-operands}
use Rattle.ix_expr.proofs.AgreeingAtoms.{alphabet-same}
use Rattle.ix_expr.proofs.Unseen.{unseen-outside}
use Rattle.ix_expr.proofs.alphabet.+alphabet.Goals as goal
use Rattle.ix_expr.proofs.alphabet.+alphabet.Goals.{contains_for_some-else-sees-via-then-sees+else-contains_at, contains_for_some-else-sees-via-else-sees}

pub contains-contains-requires-in-Opt : goal.contains-contains-requires-in-Opt
contains-contains-requires-in-Opt t c =
    let e = c.args.env.now in
    let operands = λ (x : Expr). OperandsFit (form_of x) e in
    let fits : operands c.args.expr.now = fits-operands (form_of c.args.expr.now) e c.requires in
    let part : Fits (form_of c.in-Opt.y.value) e =
    elim c.in-Opt.is [
      | inl is ↦ subst operands is fits
      | inr r ↦ elim r [
        | inl is ↦ subst operands is fits
        | inr s ↦ elim s [ inl is ↦ subst operands is fits | inr w ↦ subst operands w.1 fits ]
      ]
    ] in
    (search (rules, the_lemmas), subst (λ (x : Expr). Fits (form_of x) e) (sym c.deref-in-Opt.ensures) part)

-- both operands fit, of an expression that is one of the five with two operands
both-fit : (x y z : Expr) (e : Environment) {A B C D F : Type 0} → (A → Fits (form_of y) e × Fits (form_of z) e) → (B → Fits (form_of y) e × Fits (form_of z) e) → (C → Fits (form_of y) e × Fits (form_of z) e)
    → (D → Fits (form_of y) e × Fits (form_of z) e) → (F → Fits (form_of y) e × Fits (form_of z) e) → A ⊎ (B ⊎ (C ⊎ (D ⊎ F))) → Fits (form_of y) e × Fits (form_of z) e
both-fit x y z e a b c d f (inl h) = a h
both-fit x y z e a b c d f (inr (inl h)) = b h
both-fit x y z e a b c d f (inr (inr (inl h))) = c h
both-fit x y z e a b c d f (inr (inr (inr (inl h)))) = d h
both-fit x y z e a b c d f (inr (inr (inr (inr h)))) = f h

pub contains-contains-requires : goal.contains-contains-requires
contains-contains-requires t c =
    let e = c.args.env.now in
    let operands = λ (x : Expr). OperandsFit (form_of x) e in
    let fits : operands c.args.expr.now = fits-operands (form_of c.args.expr.now) e c.requires in
    let parts = both-fit c.args.expr.now c.in-Seq.y.value c.in-Seq.z.value e
    (λ is. subst operands is fits) (λ is. subst operands is fits) (λ is. subst operands is fits) (λ is. subst operands is fits) (λ is. subst operands is fits) c.in-Seq.is in
    (search (rules, the_lemmas), subst (λ (x : Expr). Fits (form_of x) e) (sym c.deref-in-Seq.ensures) parts.0)

pub contains-contains-requires-else-contains : goal.contains-contains-requires-else-contains
contains-contains-requires-else-contains t c =
    let e = c.args.env.now in
    let operands = λ (x : Expr). OperandsFit (form_of x) e in
    let fits : operands c.args.expr.now = fits-operands (form_of c.args.expr.now) e c.requires in
    let parts = both-fit c.args.expr.now c.in-Seq.y.value c.in-Seq.z.value e
    (λ is. subst operands is fits) (λ is. subst operands is fits) (λ is. subst operands is fits) (λ is. subst operands is fits) (λ is. subst operands is fits) c.in-Seq.is in
    (search (rules, the_lemmas), subst (λ (x : Expr). Fits (form_of x) e) (sym c.deref-else-contains.ensures) parts.1)

pub contains-contains_for_some-requires : goal.contains-contains_for_some-requires
contains-contains_for_some-requires t c =
    let e = c.args.env.now in
    let p = c.in-Any.parameter in
    let operands = λ (x : Expr). OperandsFit (form_of x) e in
    let fits : operands c.args.expr.now = fits-operands (form_of c.args.expr.now) e c.requires in
    let inside : FitsInside p (form_of c.in-Any.y.value) e = elim c.in-Any.is [
      | inl is ↦ subst operands is fits
      | inr r ↦ elim r [ inl is ↦ subst operands is fits | inr s ↦ elim s [ inl is ↦ subst operands is fits | inr is ↦ subst operands is fits ] ]
    ] in
    (search (rules, the_lemmas), subst (λ (x : Expr). FitsInside p (form_of x) e) (sym c.deref.ensures) inside)

pub contains_at-contains-requires : goal.contains_at-contains-requires
contains_at-contains-requires t c =
    (search (rules, the_lemmas), subst (λ e. Fits (form_of c.args.body.now) e) (sym c.bind.ensures) (c.requires.body c.args.value))

pub contains_for_some-returns : goal.contains_for_some-returns
contains_for_some-returns t c =
    let y = form_of c.args.body.now in
    let p = c.args.parameter.now in
    let e = c.args.env.now in
    let a = c.args.action.now in
    let own : (k : ℕ) → k < length a.values → (d : List ℕ) → InAlphabet y (bind p (Some (get_or a.values k d)) e) a → InAlphabet y (bind p None e) a =
    λ k below d. subst (λ vs. InAlphabet y (bind p (Some (get_or vs k d)) e) a → InAlphabet y (bind p None e) a) c.values-value-items.ensures.value (c.loop-value.invariant k (omega (arith, ap length c.values-value-items.ensures.value)) d) in (
      λ t. some-in-alphabet y p e a (c.contains_at-2.ensures.0 t),
      λ w. c.contains_at-2.ensures.1 (outside-in-alphabet y p e a own w),
    )

pub contains_for_some-loop-value-preserved : goal.contains_for_some-loop-value-preserved
contains_for_some-loop-value-preserved t c =
    let y = form_of c.args.body.now in
    let p = c.args.parameter.now in
    let e = c.args.env.now in
    let a = c.args.action.now in
    let v = c.value-item.result in
    let leads : List ℕ → Type 0 = λ u. InAlphabet y (bind p (Some u) e) a → InAlphabet y (bind p None e) a in
    let items = c.values-value-items.result.now in
    let here : leads v = elim c.else-sees.branch [
      | contains_for_some-else-sees-via-then-sees+else-contains_at w ↦ λ i. absurd (true≢false (sym (w.contains_at.ensures.1 i) ∙ w.if-contains_at.false))
      | contains_for_some-else-sees-via-else-sees w ↦ alphabet-same y (bind p (Some v) e) (bind p None e) a (unseen-outside y e p v a (λ s. true≢false (sym (c.sees.ensures.1 s) ∙ w.if-sees.false)))
    ] in
    below_more (λ k. (d : List ℕ) → leads (get_or items k d)) c.loop-value.value-index c.loop-value.invariant
    (λ d. subst leads (get_or_read_under items c.loop-value.value-index (length items) v d c.value-item.is c.loop-value-test.true refl) here)

pub contains-returns-in-Any-clause-test : goal.contains-returns-in-Any-clause-test
contains-returns-in-Any-clause-test t c =
    tells_inside (form_of c.args.expr.now) c.args.env.now c.args.action.now c.contains_for_some.result (search (rules, the_lemmas))
