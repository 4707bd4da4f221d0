use Rattle.std.proofs.Common.{◌++◌, [], ◌∷◌, List, ap, ◌∙◌, subst, arith}
use Rattle.ix_words.specs.Canon.{canon, when}
use Rattle.ix_expr.specs.inside.FormOf.{form_of}
use Rattle.ix_tree.specs.Plain.{Plain, listed, seq as seq_of}
use Rattle.ix_tree.specs.Order.{tree_cmp}
use Rattle.ix_tree.specs.Size.{size_of}
use Rattle.ix_can.specs.Nodes.{set_of, unless_done}
use Rattle.ix_can.specs.TreeOf.{is_final}
use Rattle.ix_step.specs.inside.Initial.{initial_tree}
use Rattle.ix_step.specs.inside.Makes.{Makes}
use Rattle.ix_step.specs.inside.Pruned.{pruned}
use Rattle.ix_step.proofs.Exits.{exit_over}
use Rattle.ix_step.proofs.Gathered.{size_all, tree_weights}
use Rattle.ix_step.proofs.Gathering.{set_is}
use Rattle.ix_step.proofs.Overs.{seq_over}
use Rattle.ix_step.proofs.sequences.sequence_of.Goals as goal

pub returns-in_err-put_first : goal.returns-in_err-put_first
returns-in_err-put_first c moves is =
    let z = form_of c.args.z.now in
    let begins : List Plain = when (is_final (form_of c.args.y.now) c.args.first) (initial_tree z ∷ []) in
    let whole = set_is moves (when c.completes.result (initial_tree z ∷ [])) _ is
    ∙ ap (λ b. set_of (moves ++ when b (initial_tree z ∷ []))) c.completes.ensures in
    exit_over _ c.from_residual.result _ c.from_residual.ensures.1 c.in_err-put_first.ensures.gathers (λ lt.
    seq_over c.args.step.limit c.args.step.positive (unless_done c.args.first) c.args.ended (canon tree_cmp (moves ++ begins)) (omega (arith, ap size_of whole, lt, c.requires.budget)))

pub sized_if_live-requires-clause-size : goal.sized_if_live-requires-clause-size
sized_if_live-requires-clause-size c =
    omega (arith, tree_weights c.put_first.new.set.items, ap size_all c.into_items.ensures.items)

pub returns : goal.returns
returns c moves is =
    let z = form_of c.args.z.now in
    let begins : List Plain = when (is_final (form_of c.args.y.now) c.args.first) (initial_tree z ∷ []) in
    let whole = set_is moves (when c.completes.result (initial_tree z ∷ [])) _ is
    ∙ ap (λ b. set_of (moves ++ when b (initial_tree z ∷ []))) c.completes.ensures in
    let items = ap listed (c.into_items.ensures.items ∙ c.in_ok-put_first.ensures.gathers) ∙ whole in
    subst (λ x. Makes c.args.step.limit (pruned x) c.sized_if_live.result)
    (ap (λ x. seq_of x c.args.ended (listed c.into_items.result.items)) c.in_ok-left.ensures
    ∙ ap (seq_of (unless_done c.args.first) c.args.ended) items) c.sized_if_live.ensures
