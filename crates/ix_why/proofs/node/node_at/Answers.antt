-- A well-formed expression has few nodes, and as many forms as nodes.
use Rattle.std.proofs.Common.{arith, ap, ◌∙◌, slice_get}
use Rattle.ix_expr.specs.inside.FormOf.{form_of}
use Rattle.ix_lint.specs.Nodes.{forms}
use Rattle.ix_why.specs.Blames.{nodes}
use Rattle.ix_why.proofs.Counts.{as_many, few_nodes, there_is}
use Rattle.ix_why.proofs.node.node_at.Goals as goal

pub below-requires : goal.below-requires
below-requires c = omega (arith, ap nodes c.expr.ensures.value, few_nodes c.args.expression.now c.expr.ensures.well_formed)

pub returns-clause-there : goal.returns-clause-there
returns-clause-there c =
    let x = c.args.expression.now in
    there_is (λ part. form_of part.now) c.below.result (forms x) c.args.node _
    (c.below.ensures ∙ ap (λ z. slice_get (forms z) c.args.node) c.expr.ensures.value) (as_many x)
