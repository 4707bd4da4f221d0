use Rattle.std.proofs.Common.{◌≡◌, All, inl, inr, [], Err, List, ℕ, length, sym, ◌∙◌, ap, subst}
use Rattle.ix_values.specs.PlainAction.{Word}
use Rattle.ix_values.specs.Texts.{IsAction}
use Rattle.ix_journal.specs.Format.{renewed_journal}
use Rattle.ix_renew.specs.Carried.{IsCarriedFor}
use Rattle.ix_renew.specs.Renewal.{IsRenewal, IsRenewed, OfNewFile}
use Rattle.ix_renew.specs.inside.Renewing.{PreventsRenewal}
use Rattle.ix_renew.proofs.AtRest.{handed_on, history_refused, not_of_the_site, renewal_of}
use Rattle.ix_renew.proofs.Renews.{leaves_new, unmade_disk, unmade_refused, unmade_rests, unmade_there}
use Rattle.ix_renew.proofs.renewing.renew.Goals as goal

-- the history isn't taken
pub returns-in_err-resting-clause-refused : goal.returns-in_err-resting-clause-refused
returns-in_err-resting-clause-refused g c =
    let why = c.in_err-resting.field-0.0 in
    handed_on c.from_residual-in_err-resting.result why
    (PreventsRenewal c.args.expression c.args.limit c.args.journal.now) c.from_residual-in_err-resting.ensures.1
    (history_refused c.args.expression c.args.limit c.args.journal.now why c.in_err-resting.ensures)

pub returns-in_err-resting-clause-there : goal.returns-in_err-resting-clause-there
returns-in_err-resting-clause-there g c = λ is.
    absurd (not_of_the_site c.args.expression c.args.limit c.args.journal.now c.from_residual-in_err-resting.result
    c.in_err-resting.field-0.0 c.from_residual-in_err-resting.ensures.1 c.in_err-resting.ensures (inl is))

pub returns-in_err-resting-clause-failed : goal.returns-in_err-resting-clause-failed
returns-in_err-resting-clause-failed g c = λ is.
    absurd (not_of_the_site c.args.expression c.args.limit c.args.journal.now c.from_residual-in_err-resting.result
    c.in_err-resting.field-0.0 c.from_residual-in_err-resting.ensures.1 c.in_err-resting.ensures (inr is))

-- nothing was made of the new file, or it was begun
pub returns-in_err-make-clause-refused : goal.returns-in_err-make-clause-refused
returns-in_err-make-clause-refused g c =
    unmade_refused c.from_residual-in_err-make.result c.in_err-make.field-0.0 c.from_residual-in_err-make.ensures.1
    c.args.expression c.args.limit c.args.journal.now c.in_ok-resting.ensures.small

pub returns-in_err-make-clause-there : goal.returns-in_err-make-clause-there
returns-in_err-make-clause-there g c = λ is.
    c.make.ensures.there (c.in_err-make.was ∙ ap Err
    (unmade_there c.from_residual-in_err-make.result c.in_err-make.field-0.0 c.from_residual-in_err-make.ensures.1 is))

pub returns-in_err-make-clause-failed : goal.returns-in_err-make-clause-failed
returns-in_err-make-clause-failed g c = λ is.
    c.make.ensures.failed (c.in_err-make.was ∙ ap Err
    (unmade_disk c.from_residual-in_err-make.result c.in_err-make.field-0.0 c.from_residual-in_err-make.ensures.1 is))

pub returns-in_err-make-clause-rests : goal.returns-in_err-make-clause-rests
returns-in_err-make-clause-rests g c =
    unmade_rests c.from_residual-in_err-make.result c.in_err-make.field-0.0 c.from_residual-in_err-make.ensures.1 _

pub returns-in_err-make-clause-leaves : goal.returns-in_err-make-clause-leaves
returns-in_err-make-clause-leaves g c =
    let x = c.args.expression in
    let limit = c.args.limit in
    let file = c.args.journal.now in
    let resting = c.in_ok-resting.resting in
    let engine = resting.engine in
    let text = c.deref-3.result.now in
    let text_is = c.deref-3.ensures.value ∙ c.in_ok-text.ensures.value in
    let word = c.deref-4.result.now in
    let renewal : IsRenewal x limit file word resting.actions resting.boots =
    renewal_of x limit file engine resting.actions resting.boots c.in_ok-resting.ensures word
    (subst (All IsAction) (c.deref-2.ensures.value ∙ sym c.deref-4.ensures.value) c.are_actions.ensures)
    (subst (λ (w : Word). IsCarriedFor engine.form engine.limit engine.history w) (sym c.deref-4.ensures.value)
    c.in_ok-word.ensures.carried) in
    let renewed : IsRenewed x limit file (renewed_journal text word resting.actions resting.boots) =
    record {
      carried = word;
      actions = resting.actions;
      boots = resting.boots;
      renewal = renewal;
      whole = ap (λ (t : List ℕ). renewed_journal t word resting.actions resting.boots) text_is;
    } in
    leaves_new x limit file c.args.new.now text _ (g.S.Site.state c.make.new.site).disk (g.S.Site.crashes c.make.new.site)
    c.in_ok-resting.ensures.small text_is renewed c.make.ensures.leaves

-- the journal was made
pub returns-clause-leaves : goal.returns-clause-leaves
returns-clause-leaves g c =
    let x = c.args.expression in
    let limit = c.args.limit in
    let file = c.args.journal.now in
    let resting = c.in_ok-resting.resting in
    let engine = resting.engine in
    let text = c.deref-3.result.now in
    let text_is = c.deref-3.ensures.value ∙ c.in_ok-text.ensures.value in
    let word = c.deref-4.result.now in
    let renewal : IsRenewal x limit file word resting.actions resting.boots =
    renewal_of x limit file engine resting.actions resting.boots c.in_ok-resting.ensures word
    (subst (All IsAction) (c.deref-2.ensures.value ∙ sym c.deref-4.ensures.value) c.are_actions.ensures)
    (subst (λ (w : Word). IsCarriedFor engine.form engine.limit engine.history w) (sym c.deref-4.ensures.value)
    c.in_ok-word.ensures.carried) in
    let renewed : IsRenewed x limit file (renewed_journal text word resting.actions resting.boots) =
    record {
      carried = word;
      actions = resting.actions;
      boots = resting.boots;
      renewal = renewal;
      whole = ap (λ (t : List ℕ). renewed_journal t word resting.actions resting.boots) text_is;
    } in
    leaves_new x limit file c.args.new.now text _ (g.S.Site.state c.make.new.site).disk (g.S.Site.crashes c.make.new.site)
    c.in_ok-resting.ensures.small text_is renewed c.make.ensures.leaves

pub returns-clause-renewed : goal.returns-clause-renewed
returns-clause-renewed g c =
    let x = c.args.expression in
    let limit = c.args.limit in
    let file = c.args.journal.now in
    let resting = c.in_ok-resting.resting in
    let engine = resting.engine in
    let text = c.deref-3.result.now in
    let text_is = c.deref-3.ensures.value ∙ c.in_ok-text.ensures.value in
    let word = c.deref-4.result.now in
    let renewal : IsRenewal x limit file word resting.actions resting.boots =
    renewal_of x limit file engine resting.actions resting.boots c.in_ok-resting.ensures word
    (subst (All IsAction) (c.deref-2.ensures.value ∙ sym c.deref-4.ensures.value) c.are_actions.ensures)
    (subst (λ (w : Word). IsCarriedFor engine.form engine.limit engine.history w) (sym c.deref-4.ensures.value)
    c.in_ok-word.ensures.carried) in
    record {
      carried = word;
      renewal = renewal;
      number = c.len.ensures ∙ c.in_ok-word.word.ok.0 ∙ ap (λ (w : Word). length w) (sym c.deref-4.ensures.value);
      made = subst (λ (t : List ℕ). OfNewFile c.args.new.now (λ opened now. (opened.file ≡ [])
          × (now ≡ renewed_journal t word resting.actions resting.boots)) (g.S.Site.state c.make.new.site).disk) text_is
          c.in_ok-make.ensures.made;
      left = c.in_ok-make.ensures.settled;
    }
