use Rattle.std.proofs.Common.{sym, ap, ◌∙◌, subst, if◌then◌else◌}
use Rattle.ix_tree.specs.Plain.{dead, done}
use Rattle.ix_step.specs.inside.Makes.{Makes}
use Rattle.ix_step.proofs.beginning.advance_atom.Goals as goal

pub returns-then-not-matches : goal.returns-then-not-matches
returns-then-not-matches c =
    subst (λ x. Makes c.args.step.limit x c.dead_knot.result) (ap (λ b. if b then done else dead) (sym c.if-not-matches.true ∙ c.matches.ensures.test)) c.dead_knot.ensures

pub returns : goal.returns
returns c =
    subst (λ x. Makes c.args.step.limit x c.done_knot.result) (ap (λ b. if b then done else dead) (sym c.if-not-matches.false ∙ c.matches.ensures.test)) c.done_knot.ensures
