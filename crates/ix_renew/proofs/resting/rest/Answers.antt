use Rattle.std.proofs.Common.{inl, inr, List, ℕ, refl, rules, subst, ◌∙◌}
use Rattle.ix_expr.specs.Form.{Form}
use Rattle.ix_engine.specs.Histories.{AreAllowed, StopsAt}
use Rattle.ix_renew.specs.inside.Renewing.{ReadsAs, RefusesRead}
use Rattle.ix_renew.proofs.AtRest.{above_refused, counted, file_refused, marks_few, marks_sound, record_refused, refused_on, rests}
use Rattle.ix_renew.proofs.resting.rest.Goals as goal
use Rattle.ix_renew.proofs.resting.rest.Goals.{then-actions-gt-MOST_COUNT-via-then-actions-gt-MOST_COUNT, then-actions-gt-MOST_COUNT-via-else-actions-gt-MOST_COUNT+then-boots-gt-MOST_COUNT}

-- the file isn't a journal that can be read
pub returns-in_err-kept : goal.returns-in_err-kept
returns-in_err-kept c =
    let x = c.args.expression in
    let why = c.in_err-kept.field-0.0 in
    refused_on c.from_residual-in_err-kept.result why _ _ c.from_residual-in_err-kept.ensures.1
    (file_refused x c.args.limit c.args.journal.now c.in_ok-engine.ensures.within why
    (subst (λ (text : List ℕ). RefusesRead text c.args.journal.now why) c.requires.text c.in_err-kept.ensures))

pub count-actions-requires-clause-sound : goal.count-actions-requires-clause-sound
count-actions-requires-clause-sound c =
    let kept = c.in_ok-kept.kept in
    marks_sound c.args.expression c.args.limit c.args.journal.now kept.actions.items kept.marks
    (subst (λ (text : List ℕ). ReadsAs c.args.journal.now text kept.actions.items kept.marks) c.requires.text c.in_ok-kept.ensures)

pub count-actions-requires-clause-few : goal.count-actions-requires-clause-few
count-actions-requires-clause-few c =
    let kept = c.in_ok-kept.kept in
    marks_few c.args.expression c.args.limit c.args.journal.now kept.actions.items kept.marks
    (subst (λ (text : List ℕ). ReadsAs c.args.journal.now text kept.actions.items kept.marks) c.requires.text c.in_ok-kept.ensures)

-- the count or the boots are above
pub returns-then-actions-gt-MOST_COUNT : goal.returns-then-actions-gt-MOST_COUNT
returns-then-actions-gt-MOST_COUNT c =
    let kept = c.in_ok-kept.kept in
    let x = c.args.expression in
    let file = c.args.journal.now in
    let reads = subst (λ (text : List ℕ). ReadsAs file text kept.actions.items kept.marks) c.requires.text c.in_ok-kept.ensures in
    let number = counted x c.args.limit file kept.actions.items kept.marks reads c.count-actions.result c.count-actions.ensures in
    above_refused x c.args.limit file kept.actions.items kept.marks reads c.in_ok-engine.ensures.within c.count-actions.result number
    (elim c.then-actions-gt-MOST_COUNT.branch [
      | then-actions-gt-MOST_COUNT-via-then-actions-gt-MOST_COUNT w ↦ inl (search rules)
      | then-actions-gt-MOST_COUNT-via-else-actions-gt-MOST_COUNT+then-boots-gt-MOST_COUNT w ↦ inr (search rules)
    ])

-- an action isn't taken
pub returns-in_err-engine-2 : goal.returns-in_err-engine-2
returns-in_err-engine-2 c =
    let kept = c.in_ok-kept.kept in
    let x = c.args.expression in
    let file = c.args.journal.now in
    let reads = subst (λ (text : List ℕ). ReadsAs file text kept.actions.items kept.marks) c.requires.text c.in_ok-kept.ensures in
    let stopped = c.in_err-engine-2.field-0.0 in
    refused_on c.from_residual-in_err-engine-2.result _ _ _ c.from_residual-in_err-engine-2.ensures.1
    (record_refused x c.args.limit file kept.actions.items kept.marks reads c.in_ok-engine.ensures.within stopped
    (subst (λ (form : Form). StopsAt form c.args.limit kept.actions.items stopped) c.in_ok-engine.ensures.form
    (subst (λ most. StopsAt c.in_ok-engine.engine.form most kept.actions.items stopped) c.in_ok-engine.ensures.limit
    c.in_err-engine-2.ensures.refused)))

pub returns : goal.returns
returns c =
    let kept = c.in_ok-kept.kept in
    let x = c.args.expression in
    let file = c.args.journal.now in
    let reads = subst (λ (text : List ℕ). ReadsAs file text kept.actions.items kept.marks) c.requires.text c.in_ok-kept.ensures in
    let number = counted x c.args.limit file kept.actions.items kept.marks reads c.count-actions.result c.count-actions.ensures in
    let taken = c.in_ok-engine-2.ensures in
    let allowed = subst (λ (form : Form). AreAllowed form c.args.limit kept.actions.items) c.in_ok-engine.ensures.form
    (subst (λ most. AreAllowed c.in_ok-engine.engine.form most kept.actions.items) c.in_ok-engine.ensures.limit taken.allowed) in
    rests x c.args.limit file kept.actions.items kept.marks reads c.in_ok-engine.ensures.within c.in_ok-engine-2.engine
    c.count-actions.result kept.marks.boots (taken.form ∙ c.in_ok-engine.ensures.form) (taken.limit ∙ c.in_ok-engine.ensures.limit)
    taken.history allowed number refl (search rules) (search rules)
