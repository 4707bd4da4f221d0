-- The moved tree of `y - z`, and the open ones among moved alternatives.
use Rattle.std.proofs.Common.{◌||◌, sym, ap, ◌∙◌, subst, arith, [], ◌∷◌, take}
use Rattle.ix_words.specs.Canon.{canon, when}
use Rattle.ix_expr.specs.inside.FormOf.{form_of}
use Rattle.ix_tree.specs.Plain.{listed, items_of, seq as seq_of}
use Rattle.ix_tree.specs.Order.{tree_cmp}
use Rattle.ix_tree.specs.Size.{size_of}
use Rattle.ix_tree.proofs.PlainLists.{items_of-listed}
use Rattle.ix_can.specs.Nodes.{is_done, unless_done, set_of}
use Rattle.ix_can.specs.TreeOf.{is_final}
use Rattle.ix_can.specs.inside.Moved.{moved}
use Rattle.ix_step.specs.inside.Initial.{initial_tree}
use Rattle.ix_step.specs.inside.Makes.{Makes, put_all}
use Rattle.ix_step.specs.inside.Moves.{if_open, open_move, open_moves, ends, some_ends, second_parts}
use Rattle.ix_step.specs.inside.Pruned.{pruned}
use Rattle.ix_step.proofs.Exits.{exit_over}
use Rattle.ix_step.proofs.Gathered.{open_over, any_more, size_all}
use Rattle.ix_step.proofs.Gathering.{each_at, lot_over, lots_more, front_of_set}
use Rattle.ix_step.proofs.Overs.{unless_over, seq_over}
use Rattle.ix_step.proofs.+advance.Goals as goal

pub advance::advance_seq-advance-requires : goal.advance::advance_seq-advance-requires
advance::advance_seq-advance-requires t c =
    (omega arith, c.requires.first)

pub advance::advance_seq-advance_each-requires : goal.advance::advance_seq-advance_each-requires
advance::advance_seq-advance_each-requires t c =
    (omega arith, c.requires.rest)

pub advance::advance_seq-returns-in_err-first : goal.advance::advance_seq-returns-in_err-first
advance::advance_seq-returns-in_err-first t c =
    let z = form_of c.args.z.now in
    let m = moved (form_of c.args.y.now) c.args.step.env.now c.args.first.now c.args.step.action.now in
    let rest = items_of (listed c.args.rest.now) in
    exit_over _ c.from_residual.result _ c.from_residual.ensures.1 c.in_err-first.ensures (λ lt.
    seq_over c.args.step.limit c.args.step.positive (unless_done m) (some_ends z c.args.step.env.now c.args.step.action.now rest) (canon tree_cmp (second_parts (form_of c.args.y.now) z c.args.step.env.now c.args.step.action.now m rest)) (omega (arith, unless_over c.args.step.limit c.args.step.positive m lt)))

pub advance::advance_seq-returns-in_err-rest : goal.advance::advance_seq-returns-in_err-rest
advance::advance_seq-returns-in_err-rest t c =
    let z = form_of c.args.z.now in
    let m = moved (form_of c.args.y.now) c.args.step.env.now c.args.first.now c.args.step.action.now in
    let rest = items_of (listed c.args.rest.now) in
    let ms = open_moves z c.args.step.env.now c.args.step.action.now rest in
    let more = when (is_final (form_of c.args.y.now) m) (initial_tree z ∷ []) in
    let same = ap (λ l. size_all (put_all (open_moves z c.args.step.env.now c.args.step.action.now l) [])) (items_of-listed c.args.rest.now) in
    let k = front_of_set ms more in
    exit_over _ c.from_residual-in_err-rest.result _ c.from_residual-in_err-rest.ensures.1 c.in_err-rest.ensures (λ lt.
    seq_over c.args.step.limit c.args.step.positive (unless_done m) (some_ends z c.args.step.env.now c.args.step.action.now rest) (canon tree_cmp (second_parts (form_of c.args.y.now) z c.args.step.env.now c.args.step.action.now m rest)) (omega (arith, same, k, lt)))

pub advance::advance_seq-sequence_of-requires-clause-first : goal.advance::advance_seq-sequence_of-requires-clause-first
advance::advance_seq-sequence_of-requires-clause-first t c =
    omega (arith, ap size_of c.in_ok-first.ensures.0, c.in_ok-first.ensures.1)

pub advance::advance_seq-returns : goal.advance::advance_seq-returns
advance::advance_seq-returns t c =
    let y = form_of c.args.y.now in
    let z = form_of c.args.z.now in
    let rest = items_of (listed c.args.rest.now) in
    let same = sym (items_of-listed c.args.rest.now) in
    subst (λ x. Makes c.args.step.limit (pruned x) c.sequence_of.result)
    (ap (λ m. seq_of (unless_done m) c.in_ok-rest.ended (set_of (second_parts y z c.args.step.env.now c.args.step.action.now m c.args.rest.now))) c.in_ok-first.ensures.0
    ∙ ap (λ b. seq_of (unless_done (moved y c.args.step.env.now c.args.first.now c.args.step.action.now)) b (set_of (second_parts y z c.args.step.env.now c.args.step.action.now (moved y c.args.step.env.now c.args.first.now c.args.step.action.now) c.args.rest.now)))
    (c.in_ok-rest.ensures.3 ∙ ap (some_ends z c.args.step.env.now c.args.step.action.now) same)
    ∙ ap (λ l. seq_of (unless_done (moved y c.args.step.env.now c.args.first.now c.args.step.action.now)) (some_ends z c.args.step.env.now c.args.step.action.now rest) (set_of (second_parts y z c.args.step.env.now c.args.step.action.now (moved y c.args.step.env.now c.args.first.now c.args.step.action.now) l))) same)
    (c.sequence_of.ensures (open_moves z c.args.step.env.now c.args.step.action.now c.args.rest.now) c.in_ok-rest.ensures.0)

pub advance::advance_each-advance-requires : goal.advance::advance_each-advance-requires
advance::advance_each-advance-requires t c =
    (omega arith, each_at c.args.trees.now c.loop-tree.tree-index c.tree-item.result (omega arith) c.tree-item.is c.requires)

pub advance::advance_each-returns-in_err-tree : goal.advance::advance_each-returns-in_err-tree
advance::advance_each-returns-in_err-tree t c =
    let m = moved (form_of c.args.expr.now) c.args.step.env.now c.tree-item.result c.args.step.action.now in
    exit_over _ c.from_residual.result _ c.from_residual.ensures.1 c.in_err-tree.ensures (λ lt.
    lot_over (open_move (form_of c.args.expr.now) c.args.step.env.now c.args.step.action.now) c.args.step.limit c.args.trees.now c.loop-tree.tree-index c.tree-item.result [] c.loop-tree.set.items (omega arith) c.tree-item.is c.loop-tree.invariant.items
    (open_over c.args.step.limit m c.loop-tree.set.items c.args.step.positive lt))

pub advance::advance_each-returns-in_err-put_open : goal.advance::advance_each-returns-in_err-put_open
advance::advance_each-returns-in_err-put_open t c =
    let same = ap (λ x. size_all (put_all (if_open x) c.loop-tree.set.items)) c.in_ok-tree.ensures.0 in
    exit_over _ c.from_residual-in_err-put_open.result _ c.from_residual-in_err-put_open.ensures.1 c.in_err-put_open.ensures.gathers (λ lt.
    lot_over (open_move (form_of c.args.expr.now) c.args.step.env.now c.args.step.action.now) c.args.step.limit c.args.trees.now c.loop-tree.tree-index c.tree-item.result [] c.loop-tree.set.items (omega arith) c.tree-item.is c.loop-tree.invariant.items
    (omega (arith, same, lt, c.loop-tree.invariant.budget)))

pub advance::advance_each-loop-tree-preserved : goal.advance::advance_each-loop-tree-preserved
advance::advance_each-loop-tree-preserved t c =
    record {
      items = lots_more (open_move (form_of c.args.expr.now) c.args.step.env.now c.args.step.action.now) c.args.trees.now c.loop-tree.tree-index c.tree-item.result [] c.loop-tree.set.items c.put_open.new.set.items (omega arith) c.tree-item.is c.loop-tree.invariant.items
          (c.in_ok-put_open.ensures.gathers ∙ ap (λ x. put_all (if_open x) c.loop-tree.set.items) c.in_ok-tree.ensures.0);
      within = omega (arith, c.put_open.ensures.within, c.loop-tree.invariant.budget);
      budget = c.put_open.ensures.budget ∙ c.loop-tree.invariant.budget;
      ended = c.or_done-ended.ensures ∙ ap (λ b. b || is_done c.in_ok-tree.tree) c.loop-tree.invariant.ended
          ∙ ap (λ x. some_ends (form_of c.args.expr.now) c.args.step.env.now c.args.step.action.now (take c.loop-tree.tree-index c.args.trees.now) || is_done x) c.in_ok-tree.ensures.0
          ∙ sym (any_more (ends (form_of c.args.expr.now) c.args.step.env.now c.args.step.action.now) c.args.trees.now c.loop-tree.tree-index c.tree-item.result (omega arith) c.tree-item.is);
    }
