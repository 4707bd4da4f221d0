use Rattle.std.proofs.Common.{sym, ap, ◌∙◌}
use Rattle.ix_expr.specs.Form.{and}
use Rattle.ix_expr.specs.inside.FormOf.{form_of}
use Rattle.ix_lint.specs.Apart as spec
use Rattle.ix_lint.proofs.apart.apart.Goals as goal

pub returns-in-And : goal.returns-in-And
returns-in-And c =
    c.apart_for.ensures
    ∙ ap spec.apart_for c.first_apart.ensures
    ∙ (λ i. spec.apart (and (form_of (c.deref.ensures i)) (form_of (c.deref-in-And.ensures i))))
    ∙ ap (λ x. spec.apart (form_of x)) (sym c.in-And.is)
