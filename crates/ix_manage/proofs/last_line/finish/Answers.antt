use Rattle.std.proofs.Common.{Err, sym, ◌∙◌, ap, subst}
use Rattle.std.specs.Io.KnownBytes.{append_known}
use Rattle.ix_outside.specs.Sink.{AppendsPart}
use Rattle.ix_manage.specs.inside.Leaves.{Finishes, PutsLastLine, cut, written}
use Rattle.ix_manage.specs.inside.Refusal.{other_line, refusal_line, refusal_status}
use Rattle.ix_manage.proofs.last_line.finish.Goals as goal

-- the text that tells why the words name no job is put
pub returns-in-Ok-put-clause-finishes : goal.returns-in-Ok-put-clause-finishes
returns-in-Ok-put-clause-finishes g c =
    let old = g.K.Sink.state c.args.out.now in
    let new = g.K.Sink.state c.put.new.self in
    subst (λ how. Finishes how old new 2) (sym (c.in-Err-Words.is ∙ ap Err c.in-Err-Words.field-0-is))
    (written (c.in-Ok-put.ensures.whole ∙ ap (append_known old.written) c.as_bytes.ensures.value))

-- its put fails
pub returns-in-Err-Words-clause-finishes : goal.returns-in-Err-Words-clause-finishes
returns-in-Err-Words-clause-finishes g c =
    let old = g.K.Sink.state c.args.out.now in
    let new = g.K.Sink.state c.put.new.self in
    subst (λ how. Finishes how old new 10) (sym (c.in-Err-Words.is ∙ ap Err c.in-Err-Words.field-0-is))
    (cut (subst (λ text. AppendsPart old.written text new.written) c.as_bytes.ensures.value c.in-Err.ensures.part) c.in-Err.ensures.failed)

-- the line that tells the other text is put
pub returns-in-Ok-put_other-clause-finishes : goal.returns-in-Ok-put_other-clause-finishes
returns-in-Ok-put_other-clause-finishes g c =
    let old = g.K.Sink.state c.args.out.now in
    let new = g.K.Sink.state c.put_other.new.out in
    subst (λ how. Finishes how old new 8) (sym (c.in-Err-OtherExpression.is ∙ ap Err c.in-Err-OtherExpression.field-0-is))
    (written (c.in-Ok-put_other.ensures.whole ∙ ap (λ kept. append_known old.written (other_line kept)) c.deref.ensures.value))

-- its put fails
pub returns-in-Err-OtherExpression-clause-finishes : goal.returns-in-Err-OtherExpression-clause-finishes
returns-in-Err-OtherExpression-clause-finishes g c =
    let old = g.K.Sink.state c.args.out.now in
    let new = g.K.Sink.state c.put_other.new.out in
    subst (λ how. Finishes how old new 10) (sym (c.in-Err-OtherExpression.is ∙ ap Err c.in-Err-OtherExpression.field-0-is))
    (cut (subst (λ kept. AppendsPart old.written (other_line kept) new.written) c.deref.ensures.value c.in-Err-put_other.ensures.part)
    c.in-Err-put_other.ensures.failed)

-- a refusal's line is put
pub returns-in-Ok-put-2-clause-finishes : goal.returns-in-Ok-put-2-clause-finishes
returns-in-Ok-put-2-clause-finishes g c =
    let old = g.K.Sink.state c.args.out.now in
    let new = g.K.Sink.state c.put-in-Err-Refused.new.self in
    let refusal = c.in-Err-Refused.refusal in
    subst (λ how. Finishes how old new c.status.result) (sym (c.in-Err-Refused.is ∙ ap Err c.in-Err-Refused.field-0-is))
    (subst (PutsLastLine (refusal_status refusal) (refusal_line refusal) old new) (sym c.status.ensures)
    (written (c.in-Ok-put-2.ensures.whole
    ∙ ap (append_known old.written) (c.deref-in-Err-Refused.ensures.0 ∙ c.line.ensures))))

-- its put fails
pub returns-clause-finishes : goal.returns-clause-finishes
returns-clause-finishes g c =
    let old = g.K.Sink.state c.args.out.now in
    let new = g.K.Sink.state c.put-in-Err-Refused.new.self in
    subst (λ how. Finishes how old new 10) (sym (c.in-Err-Refused.is ∙ ap Err c.in-Err-Refused.field-0-is))
    (cut (subst (λ text. AppendsPart old.written text new.written) (c.deref-in-Err-Refused.ensures.0 ∙ c.line.ensures)
    c.in-Err-put.ensures.part) c.in-Err-put.ensures.failed)
