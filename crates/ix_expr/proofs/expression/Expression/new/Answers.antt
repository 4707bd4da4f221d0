use Rattle.std.proofs.Common.{length, ◌∙◌, zero-add, rules}
use Rattle.ix_expr.specs.FormFaults.{nodes_of}
use Rattle.ix_expr.specs.inside.FormOf.{form_of}
use Rattle.ix_expr.proofs.Walks.{passed-HaveNoFault, found-IsFirstFault, fault-not-free}
use Rattle.ix_expr.proofs.expression.Expression.new.Goals as goal

pub invariant_of-result : goal.invariant_of-result
invariant_of-result c =
    let nodes = nodes_of (form_of c.args.expr) in
    (c.in-Ok.ensures.spelled, record { faultless = passed-HaveNoFault nodes c.in-Ok.ensures.walked.free; numbers = c.requires.numbers }, c.in-Ok.ensures.walked.counted ∙ zero-add (length nodes))

pub returns-in-Ok-clause-ok : goal.returns-in-Ok-clause-ok
returns-in-Ok-clause-ok c = (λ _. record { faultless = passed-HaveNoFault (nodes_of (form_of c.args.expr)) c.in-Ok.ensures.walked.free; numbers = c.requires.numbers }, λ _. search rules)

pub returns-in-Err-clause-ok : goal.returns-in-Err-clause-ok
returns-in-Err-clause-ok c =
    (λ h. cc, λ h. absurd (fault-not-free (nodes_of (form_of c.args.expr)) _ _ (found-IsFirstFault (nodes_of (form_of c.args.expr)) _ _ c.in-Err.ensures.walked) h.faultless))

pub returns-in-Err-clause-fault : goal.returns-in-Err-clause-fault
returns-in-Err-clause-fault c = found-IsFirstFault (nodes_of (form_of c.args.expr)) _ _ c.in-Err.ensures.walked
