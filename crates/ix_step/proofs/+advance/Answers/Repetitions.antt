-- The moved tree of `*y`.
use Rattle.std.proofs.Common.{◌||◌, sym, ap, ◌∙◌, subst, arith, [], ◌++◌}
use Rattle.std.specs.List.{list_any}
use Rattle.ix_words.specs.Canon.{canon}
use Rattle.ix_expr.specs.inside.FormOf.{form_of}
use Rattle.ix_tree.specs.Plain.{listed, items_of, star as star_of}
use Rattle.ix_tree.specs.Order.{tree_cmp}
use Rattle.ix_tree.specs.Size.{size_of}
use Rattle.ix_tree.proofs.PlainLists.{items_of-listed}
use Rattle.ix_can.specs.Nodes.{is_done, set_of}
use Rattle.ix_can.specs.TreeOf.{is_final}
use Rattle.ix_step.specs.inside.Makes.{Makes, put_all}
use Rattle.ix_step.specs.inside.Moves.{if_open, open_moves, some_ends, begun_again, last_runs, runs_end}
use Rattle.ix_step.specs.inside.Pruned.{pruned}
use Rattle.ix_step.proofs.Arms.{star_begins, star_rest}
use Rattle.ix_step.proofs.Exits.{exit_over}
use Rattle.ix_step.proofs.Gathered.{size_all, any_of_set, tree_weights}
use Rattle.ix_step.proofs.Gathering.{set_is, front_of_set, open_in_set}
use Rattle.ix_step.proofs.Overs.{star_over}
use Rattle.ix_step.proofs.+advance.Goals as goal

pub advance::advance_star-advance_again-requires : goal.advance::advance_star-advance_again-requires
advance::advance_star-advance_again-requires t c =
    (omega arith, star_begins c.requires)

pub advance::advance_star-advance_each-requires : goal.advance::advance_star-advance_each-requires
advance::advance_star-advance_each-requires t c =
    (omega arith, star_rest c.args.rest.now c.requires)

pub advance::advance_star-returns-in_err-begun : goal.advance::advance_star-returns-in_err-begun
advance::advance_star-returns-in_err-begun t c =
    let y = form_of c.args.y.now in
    let rest = items_of (listed c.args.rest.now) in
    exit_over _ c.from_residual.result _ c.from_residual.ensures.1 c.in_err-begun.ensures (λ lt.
    let k = open_in_set c.args.step.limit (open_moves y c.args.step.env.now c.args.step.action.now rest) (begun_again c.args.again y c.args.step.env.now c.args.step.action.now) c.args.step.positive lt in
    star_over c.args.step.limit c.args.step.positive (runs_end y c.args.step.env.now c.args.step.action.now c.args.again rest) (canon tree_cmp (last_runs y c.args.step.env.now c.args.step.action.now c.args.again rest)) k)

pub advance::advance_star-returns-in_err-set : goal.advance::advance_star-returns-in_err-set
advance::advance_star-returns-in_err-set t c =
    let y = form_of c.args.y.now in
    let rest = items_of (listed c.args.rest.now) in
    let same = ap (λ l. size_all (put_all (open_moves y c.args.step.env.now c.args.step.action.now l) [])) (items_of-listed c.args.rest.now) in
    let k = front_of_set (open_moves y c.args.step.env.now c.args.step.action.now rest) (if_open (begun_again c.args.again y c.args.step.env.now c.args.step.action.now)) in
    exit_over _ c.from_residual-in_err-set.result _ c.from_residual-in_err-set.ensures.1 c.in_err-set.ensures (λ lt.
    star_over c.args.step.limit c.args.step.positive (runs_end y c.args.step.env.now c.args.step.action.now c.args.again rest) (canon tree_cmp (last_runs y c.args.step.env.now c.args.step.action.now c.args.again rest)) (omega (arith, same, k, lt)))

pub advance::advance_star-returns-in_err-put_open : goal.advance::advance_star-returns-in_err-put_open
advance::advance_star-returns-in_err-put_open t c =
    let y = form_of c.args.y.now in
    let rest = items_of (listed c.args.rest.now) in
    let whole = set_is (open_moves y c.args.step.env.now c.args.step.action.now c.args.rest.now) (if_open c.in_ok-begun.begun) _ c.in_ok-set.ensures.0
    ∙ ap (λ x. set_of (open_moves y c.args.step.env.now c.args.step.action.now c.args.rest.now ++ if_open x)) c.in_ok-begun.ensures.0
    ∙ ap (λ l. set_of (last_runs y c.args.step.env.now c.args.step.action.now c.args.again l)) (sym (items_of-listed c.args.rest.now)) in
    exit_over _ c.from_residual-in_err-put_open.result _ c.from_residual-in_err-put_open.ensures.1 c.in_err-put_open.ensures.gathers (λ lt.
    star_over c.args.step.limit c.args.step.positive (runs_end y c.args.step.env.now c.args.step.action.now c.args.again rest) (canon tree_cmp (last_runs y c.args.step.env.now c.args.step.action.now c.args.again rest)) (omega (arith, ap size_of whole, lt, c.in_ok-set.ensures.1)))

pub advance::advance_star-sized_if_live-requires-clause-size : goal.advance::advance_star-sized_if_live-requires-clause-size
advance::advance_star-sized_if_live-requires-clause-size t c =
    omega (arith, tree_weights c.put_open.new.set.items, ap size_all c.into_items-items.ensures.items)

pub advance::advance_star-returns : goal.advance::advance_star-returns
advance::advance_star-returns t c =
    let y = form_of c.args.y.now in
    let rest = items_of (listed c.args.rest.now) in
    let runs = last_runs y c.args.step.env.now c.args.step.action.now c.args.again rest in
    let some = some_ends y c.args.step.env.now c.args.step.action.now rest in
    let first = begun_again c.args.again y c.args.step.env.now c.args.step.action.now in
    let whole = set_is (open_moves y c.args.step.env.now c.args.step.action.now c.args.rest.now) (if_open c.in_ok-begun.begun) _ c.in_ok-set.ensures.0
    ∙ ap (λ x. set_of (open_moves y c.args.step.env.now c.args.step.action.now c.args.rest.now ++ if_open x)) c.in_ok-begun.ensures.0
    ∙ ap (λ l. set_of (last_runs y c.args.step.env.now c.args.step.action.now c.args.again l)) (sym (items_of-listed c.args.rest.now)) in
    let items = ap listed (c.into_items-items.ensures.items ∙ c.in_ok-put_open.ensures.gathers) ∙ whole in
    let ended = c.or_done-ended.ensures
    ∙ ap (λ b. b || is_done c.in_ok-begun.begun) (c.in_ok-set.ensures.3 ∙ ap (some_ends y c.args.step.env.now c.args.step.action.now) (sym (items_of-listed c.args.rest.now)))
    ∙ ap (λ x. some || is_done x) c.in_ok-begun.ensures.0 in
    let finals = c.deref.ensures.value ∙ sym (items_of-listed c.into_items-items.result.items) ∙ ap items_of items ∙ items_of-listed (canon tree_cmp runs) in
    let again = c.runs_end-again.ensures
    ∙ ap (λ b. b || list_any (is_final y) c.deref.result.now) ended
    ∙ ap (λ l. (some || is_done first) || list_any (is_final y) l) finals
    ∙ ap (λ b. (some || is_done first) || b) (any_of_set (is_final y) runs) in
    subst (λ x. Makes c.args.step.limit (pruned x) c.sized_if_live.result)
    (ap (λ b. star_of b (listed c.into_items-items.result.items)) again ∙ ap (star_of (runs_end y c.args.step.env.now c.args.step.action.now c.args.again rest)) items) c.sized_if_live.ensures
