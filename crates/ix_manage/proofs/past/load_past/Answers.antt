use Rattle.std.proofs.Common.{subst}
use Rattle.ix_outside.specs.Files.{HasFile}
use Rattle.ix_manage.specs.inside.Linting.{placed_meaning}
use Rattle.ix_manage.specs.inside.Pasts.{EndsBefore, RefusesPast}
use Rattle.ix_manage.proofs.Ending.{actions_refused_later, reads_placed}
use Rattle.ix_manage.proofs.Pasts.{actions_end, expression_ends, form_ends, past_ends}
use Rattle.ix_manage.proofs.Stops.{handed_on}
use Rattle.ix_manage.proofs.past.load_past.Goals as goal

pub returns-in_err-expression-clause-ends : goal.returns-in_err-expression-clause-ends
returns-in_err-expression-clause-ends g c =
    let files = g.F.Files.state c.args.files.now in
    let later = g.F.Files.state c.load_placed.new.files in
    let refusal = c.in_err-expression.field-0.0 in
    handed_on c.from_residual.result refusal (EndsBefore files later c.args.names) c.from_residual.ensures.1
    (expression_ends files later c.args.names refusal c.in_err-expression.ensures.err)

pub returns-in_err-engine-clause-ends : goal.returns-in_err-engine-clause-ends
returns-in_err-engine-clause-ends g c =
    let files = g.F.Files.state c.args.files.now in
    let later = g.F.Files.state c.load_placed.new.files in
    let names = c.args.names in
    let placed = c.in_ok-expression.field-0 in
    let refusal = c.in_err-engine.field-0.0 in
    handed_on c.from_residual-in_err-engine.result refusal (EndsBefore files later names)
    c.from_residual-in_err-engine.ensures.1
    (form_ends files later names placed.expression
    (reads_placed files.contents names.expression.now (placed_meaning placed) c.in_ok-expression.ensures.ok)
    refusal c.in_err-engine.ensures.err)

pub returns-in_err-lines-clause-ends : goal.returns-in_err-lines-clause-ends
returns-in_err-lines-clause-ends g c =
    let files = g.F.Files.state c.args.files.now in
    let mid = g.F.Files.state c.load_placed.new.files in
    let later = g.F.Files.state c.load_actions.new.files in
    let names = c.args.names in
    let refusal = c.in_err-lines.field-0.0 in
    handed_on c.from_residual-in_err-lines.result refusal (EndsBefore files later names)
    c.from_residual-in_err-lines.ensures.1
    (actions_end files later names (placed_meaning c.in_ok-expression.field-0) c.in_ok-expression.ensures.ok
    c.in_ok-engine.ensures.small refusal
    (actions_refused_later files mid later names.actions.now refusal c.in_ok-expression.ensures.files
    c.in_err-lines.ensures.err))

pub returns-in_err-engine-2-clause-ends : goal.returns-in_err-engine-2-clause-ends
returns-in_err-engine-2-clause-ends g c =
    let files = g.F.Files.state c.args.files.now in
    let later = g.F.Files.state c.load_actions.new.files in
    let names = c.args.names in
    let placed = c.in_ok-expression.field-0 in
    let bytes = c.in_ok-lines.lines.items in
    let engine = c.in_ok-engine.engine in
    let refusal = c.in_err-engine-2.field-0.0 in
    let of_form = subst (λ x. RefusesPast x engine.limit c.deref.result.now refusal) c.in_ok-engine.ensures.form
    c.in_err-engine-2.ensures.refused in
    let of_limit = subst (λ l. RefusesPast placed.expression l c.deref.result.now refusal) c.in_ok-engine.ensures.limit
    of_form in
    let of_bytes = subst (λ b. RefusesPast placed.expression names.limit b refusal) c.deref.ensures.value of_limit in
    handed_on c.from_residual-in_err-engine-2.result refusal (EndsBefore files later names)
    c.from_residual-in_err-engine-2.ensures.1
    (past_ends files later names (placed_meaning placed) c.in_ok-expression.ensures.ok c.in_ok-engine.ensures.small
    bytes (subst (λ known. HasFile known names.actions.now bytes) c.in_ok-expression.ensures.files.contents
    c.in_ok-lines.ensures.file) c.in_ok-lines.ensures.short refusal of_bytes)
