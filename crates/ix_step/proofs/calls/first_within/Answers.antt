use Rattle.std.proofs.Common.{[], sym, ◌∙◌, subst}
use Rattle.ix_expr.specs.inside.FormOf.{form_of}
use Rattle.ix_step.specs.inside.Makes.{Makes}
use Rattle.ix_step.proofs.Beginnings.{initial_is, initial_small}
use Rattle.ix_step.proofs.calls.first_within.Goals as goal

pub first_tree-requires : goal.first_tree-requires
first_tree-requires c = initial_small (form_of c.args.expr.now) c.requires.0 c.requires.1

pub returns : goal.returns
returns c =
    subst (λ x. Makes c.args.limit x c.bounded.result) (c.in_ok-tree.ensures ∙ sym (initial_is (form_of c.args.expr.now) [])) c.bounded.ensures
