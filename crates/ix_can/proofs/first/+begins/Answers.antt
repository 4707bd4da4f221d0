-- What each call behind `can_first` asks holds, and what the quantifiers answer.
use Rattle.std.proofs.Common.{inl, inr, ℕ, Bool, true, false, List, Option, Some, None, refl, sym, ◌∙◌, subst, rules}
use Rattle.ix_expr.specs.declared.expr.Expr.{Expr}
use Rattle.ix_expr.specs.declared.expr.Expr.TheViews.{the_lemmas}
use Rattle.ix_expr.specs.Environment.{bind}
use Rattle.ix_expr.specs.Fitting.{FitsInside, OperandsFit}
use Rattle.ix_expr.specs.Form.{all}
use Rattle.ix_expr.proofs.LawsOfNames.{fits-names}
use Rattle.ix_expr.specs.FormFaults.{Fits}
use Rattle.ix_expr.specs.inside.FormOf.{form_of}
use Rattle.ix_expr.proofs.Parts.{fits-operands}
use Rattle.ix_can.specs.inside.CanAsk.{first_or_stays, UnseenFirst}
use Rattle.ix_can.proofs.UnseenValues.{unseen_first, unseen_out}
use Rattle.ix_can.specs.May.{may_first}
use Rattle.ix_can.proofs.Children.{either_else, both_then, any_made, all_made}
use Rattle.ix_can.proofs.first.+begins.Goals as goal

pub begins-begins_seq-requires : goal.begins-begins_seq-requires
begins-begins_seq-requires t c =
    let e = c.args.env.now in
    let parts : Fits (form_of c.in-Seq.y.value) e × Fits (form_of c.in-Seq.z.value) e = subst (λ (x : Expr). OperandsFit (form_of x) e) c.in-Seq.is (fits-operands (form_of c.args.expr.now) e c.requires) in
    (search (rules, the_lemmas), (subst (λ (x : Expr). Fits (form_of x) e) (sym c.deref.ensures) parts.0, subst (λ (x : Expr). Fits (form_of x) e) (sym c.deref-in-Seq.ensures) parts.1))

pub begins-begins_both-requires : goal.begins-begins_both-requires
begins-begins_both-requires t c =
    let e = c.args.env.now in
    let parts : Fits (form_of c.in-And.y.value) e × Fits (form_of c.in-And.z.value) e = subst (λ (x : Expr). OperandsFit (form_of x) e) c.in-And.is (fits-operands (form_of c.args.expr.now) e c.requires) in
    (search (rules, the_lemmas), (subst (λ (x : Expr). Fits (form_of x) e) (sym c.deref-in-And.ensures) parts.0, subst (λ (x : Expr). Fits (form_of x) e) (sym c.deref-in-And-2.ensures) parts.1))

pub begins-begins_couple-requires : goal.begins-begins_couple-requires
begins-begins_couple-requires t c =
    let e = c.args.env.now in
    let parts : Fits (form_of c.in-Couple.y.value) e × Fits (form_of c.in-Couple.z.value) e = subst (λ (x : Expr). OperandsFit (form_of x) e) c.in-Couple.is (fits-operands (form_of c.args.expr.now) e c.requires) in
    (search (rules, the_lemmas), (subst (λ (x : Expr). Fits (form_of x) e) (sym c.deref-in-Couple.ensures) parts.0, subst (λ (x : Expr). Fits (form_of x) e) (sym c.deref-in-Couple-2.ensures) parts.1))

pub begins-begins_either-requires : goal.begins-begins_either-requires
begins-begins_either-requires t c =
    let e = c.args.env.now in
    let both = λ (x : Expr). OperandsFit (form_of x) e in
    let fits : both c.args.expr.now = fits-operands (form_of c.args.expr.now) e c.requires in
    let parts : Fits (form_of c.in-Par.y.value) e × Fits (form_of c.in-Par.z.value) e = elim c.in-Par.is [ inl is ↦ subst both is fits | inr is ↦ subst both is fits ] in
    (search (rules, the_lemmas), (subst (λ (x : Expr). Fits (form_of x) e) (sym c.deref-in-Par.ensures) parts.0, subst (λ (x : Expr). Fits (form_of x) e) (sym c.deref-in-Par-2.ensures) parts.1))

pub begins-begins-requires-in-Opt : goal.begins-begins-requires-in-Opt
begins-begins-requires-in-Opt t c =
    let e = c.args.env.now in
    let one = λ (x : Expr). OperandsFit (form_of x) e in
    let fits : one c.args.expr.now = fits-operands (form_of c.args.expr.now) e c.requires in
    let part : Fits (form_of c.in-Opt.y.value) e = elim c.in-Opt.is [ inl is ↦ subst one is fits | inr r ↦ elim r [ inl is ↦ subst one is fits | inr is ↦ subst one is fits ] ] in
    (search (rules, the_lemmas), subst (λ (x : Expr). Fits (form_of x) e) (sym c.deref-in-Opt.ensures) part)

pub begins-begins-requires : goal.begins-begins-requires
begins-begins-requires t c =
    let e = c.args.env.now in
    let part : Fits (form_of c.in-Times.y.value) e = subst (λ (x : Expr). OperandsFit (form_of x) e) c.in-Times.is (fits-operands (form_of c.args.expr.now) e c.requires) in
    (search (rules, the_lemmas), subst (λ (x : Expr). Fits (form_of x) e) (sym c.deref-then-number-gt0.ensures) part)

pub begins-begins_for_some-requires : goal.begins-begins_for_some-requires
begins-begins_for_some-requires t c =
    let e = c.args.env.now in
    let inside : FitsInside c.in-Any.p (form_of c.in-Any.y.value) e = subst (λ (x : Expr). OperandsFit (form_of x) e) c.in-Any.is (fits-operands (form_of c.args.expr.now) e c.requires) in
    (search (rules, the_lemmas), subst (λ (x : Expr). FitsInside c.in-Any.p (form_of x) e) (sym c.deref-in-Any.ensures) inside)

pub begins-begins_for_each-requires : goal.begins-begins_for_each-requires
begins-begins_for_each-requires t c =
    let e = c.args.env.now in
    let inside : FitsInside c.in-Every.p (form_of c.in-Every.y.value) e = subst (λ (x : Expr). OperandsFit (form_of x) e) c.in-Every.is (fits-operands (form_of c.args.expr.now) e c.requires) in
    (search (rules, the_lemmas), subst (λ (x : Expr). FitsInside c.in-Every.p (form_of x) e) (sym c.deref-in-Every.ensures) inside)

pub begins-begins_for_each-requires-then-contains : goal.begins-begins_for_each-requires-then-contains
begins-begins_for_each-requires-then-contains t c =
    let e = c.args.env.now in
    let inside : FitsInside c.in-Sync.p (form_of c.in-Sync.y.value) e = subst (λ (x : Expr). OperandsFit (form_of x) e) c.in-Sync.is (fits-operands (form_of c.args.expr.now) e c.requires) in
    (search (rules, the_lemmas), subst (λ (x : Expr). FitsInside c.in-Sync.p (form_of x) e) (sym c.deref-then-contains.ensures) inside)

pub begins-some_value_begins-requires : goal.begins-some_value_begins-requires
begins-some_value_begins-requires t c =
    let e = c.args.env.now in
    let inside : FitsInside c.in-All.p (form_of c.in-All.y.value) e = subst (λ (x : Expr). OperandsFit (form_of x) e) c.in-All.is (fits-operands (form_of c.args.expr.now) e c.requires) in
    let fits : Fits (all c.in-All.p (form_of c.in-All.y.value)) e = subst (λ (x : Expr). Fits (form_of x) e) c.in-All.is c.requires in
    let out = unseen_out (form_of c.in-All.y.value) c.in-All.p e c.args.action.now (fits-names c.in-All.p (form_of c.in-All.y.value) e fits) in (
      search (rules, the_lemmas),
      (
        subst (λ (x : Expr). FitsInside c.in-All.p (form_of x) e) (sym c.deref-in-All.ensures) inside,
        subst (λ (x : Expr). UnseenFirst false false (form_of x) c.in-All.p e c.args.action.now) (sym c.deref-in-All.ensures) out,
      ),
    )

pub begins_at-begins_or_stays-requires : goal.begins_at-begins_or_stays-requires
begins_at-begins_or_stays-requires t c =
    (search (rules, the_lemmas), subst (λ e. Fits (form_of c.args.y.now) e) (sym c.bind.ensures) (c.requires.body c.args.value))

pub begins_for_each-returns-then-begins_at : goal.begins_for_each-returns-then-begins_at
begins_for_each-returns-then-begins_at t c =
    let y = form_of c.args.y.now in
    let f : Option (List ℕ) → Bool = λ v. first_or_stays c.args.stays y (bind c.args.p.now v c.args.env.now) c.args.action.now in
    both_then c.begins_at.result c.each_value_begins.result (f None) _ c.if-begins_at.true c.begins_at.ensures
    (c.each_value_begins.ensures ∙ all_made f Some (λ v. f (Some v)) (λ v. refl) c.args.action.now.values)

pub begins_for_some-returns-else-begins_at : goal.begins_for_some-returns-else-begins_at
begins_for_some-returns-else-begins_at t c =
    let y = form_of c.args.y.now in
    let f : Option (List ℕ) → Bool = λ v. may_first y (bind c.args.p.now v c.args.env.now) c.args.action.now in
    either_else c.begins_at.result c.some_value_begins.result (f None) _ c.if-begins_at.false c.begins_at.ensures
    (c.some_value_begins.ensures ∙ any_made f Some (λ v. f (Some v)) (λ v. refl) c.args.action.now.values)

pub begins_for_some-some_value_begins-requires : goal.begins_for_some-some_value_begins-requires
begins_for_some-some_value_begins-requires t c =
    (search (rules, the_lemmas), (c.requires, unseen_first (form_of c.args.y.now) c.args.p.now c.args.env.now c.args.action.now false false (sym c.begins_at.ensures ∙ c.if-begins_at.false)))

pub begins_for_each-each_value_begins-requires : goal.begins_for_each-each_value_begins-requires
begins_for_each-each_value_begins-requires t c =
    (search (rules, the_lemmas), (c.requires, unseen_first (form_of c.args.y.now) c.args.p.now c.args.env.now c.args.action.now c.args.stays true (sym c.begins_at.ensures ∙ c.if-begins_at.true)))
