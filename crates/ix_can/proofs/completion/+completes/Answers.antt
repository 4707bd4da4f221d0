-- The answers of the arms whose alternatives are lists of trees.
use Rattle.std.proofs.Common.{arith, ◌≡◌, ◌==◌, ◌&&◌, ◌||◌, false, length, eq-eqb, ne_eqb, map, sym, ap, ◌∙◌}
use Rattle.std.specs.List.{list_all, list_any}
use Rattle.ix_expr.specs.inside.FormOf.{form_of}
use Rattle.ix_tree.specs.Order.{first_part}
use Rattle.ix_tree.specs.Plain.{listed, items_of}
use Rattle.ix_tree.specs.PlainOf.{plain_bag, plain_map}
use Rattle.ix_tree.specs.inside.PlainNode.{plain_node}
use Rattle.ix_expr.specs.Form.{par_star, all, times}
use Rattle.ix_tree.proofs.PlainLists.{items_of-listed}
use Rattle.ix_expr.specs.Tests.{accepts_empty}
use Rattle.ix_can.specs.TreeOf.{is_final}
use Rattle.ix_can.proofs.Children.{both_then}
use Rattle.ix_can.proofs.completion.+completes.Goals as goal

pub completes-returns-in-ParStar-ParStar : goal.completes-returns-in-ParStar-ParStar
completes-returns-in-ParStar-ParStar t c =
    c.some_bag_completes.ensures
    ∙ ap (λ v. list_any (λ b. list_all (is_final (form_of v)) (items_of (first_part b))) (items_of (listed (map plain_bag c.deref-in-ParStar-ParStar-2.result.now)))) c.deref-in-ParStar-ParStar.ensures
    ∙ ap (λ bs. list_any (λ b. list_all (is_final (form_of c.in-ParStar-ParStar.y.value)) (items_of (first_part b))) (items_of (listed (map plain_bag bs)))) c.deref-in-ParStar-ParStar-2.ensures.value
    ∙ sym (ap (λ x. is_final (form_of x) (plain_node c.node.result.now)) c.in-ParStar-ParStar.is-0 ∙ ap (λ n. is_final (par_star (form_of c.in-ParStar-ParStar.y.value)) (plain_node n)) c.in-ParStar-ParStar.is-1)
    ∙ ap (is_final (form_of c.args.expr.now)) c.node.ensures

pub completes-returns-in-Times-Times : goal.completes-returns-in-Times-Times
completes-returns-in-Times-Times t c =
    let n = c.in-Times-Times.number in
    let y = form_of c.in-Times-Times.y.value in
    c.some_limited_bag_completes.ensures
    ∙ ap (λ v. list_any (λ b. list_all (is_final (form_of v)) (items_of (first_part b)) && (length (items_of (first_part b)) == n || accepts_empty (form_of v))) (items_of (listed (map plain_bag c.deref-in-Times-Times-2.result.now)))) c.deref-in-Times-Times.ensures
    ∙ ap (λ bs. list_any (λ b. list_all (is_final y) (items_of (first_part b)) && (length (items_of (first_part b)) == n || accepts_empty y)) (items_of (listed (map plain_bag bs)))) c.deref-in-Times-Times-2.ensures.value
    ∙ sym (ap (λ x. is_final (form_of x) (plain_node c.node.result.now)) c.in-Times-Times.is-0 ∙ ap (λ m. is_final (times n y) (plain_node m)) c.in-Times-Times.is-1)
    ∙ ap (is_final (form_of c.args.expr.now)) c.node.ensures

pub limited_bag_completes-returns-then-len-from : goal.limited_bag_completes-returns-then-len-from
limited_bag_completes-returns-then-len-from t c =
    let y = form_of c.args.y.now in
    let runs = c.args.bag.now.items.items in
    let counted : length runs ≡ c.len.result = omega (arith, c.len.ensures, c.args.bag.now.items.ok.0) in
    let many : length (items_of (listed runs)) ≡ c.args.number = ap length (items_of-listed runs) ∙ counted ∙ c.if-len-from.true ∙ c.from.ensures in
    both_then c.each_completes.result (c.len.result == c.from.result) (list_all (is_final y) (items_of (listed runs))) (length (items_of (listed runs)) == c.args.number || accepts_empty y) c.if-each_completes.true
    (c.each_completes.ensures ∙ ap (λ ks. list_all (is_final y) (items_of (listed ks))) c.deref.ensures.value)
    (eq-eqb _ _ c.if-len-from.true ∙ sym (ap (λ b. b || accepts_empty y) (eq-eqb _ _ many)))

pub limited_bag_completes-returns-else-len-from : goal.limited_bag_completes-returns-else-len-from
limited_bag_completes-returns-else-len-from t c =
    let y = form_of c.args.y.now in
    let runs = c.args.bag.now.items.items in
    let here : length runs ≡ c.len.result = omega (arith, c.len.ensures, c.args.bag.now.items.ok.0) in
    let counted = ap length (items_of-listed runs) ∙ here in
    let few : (length (items_of (listed runs)) == c.args.number) ≡ false = ne_eqb _ _ (λ e. c.if-len-from.false (sym counted ∙ e ∙ sym c.from.ensures)) in
    both_then c.each_completes.result c.accepts_empty.result (list_all (is_final y) (items_of (listed runs))) (length (items_of (listed runs)) == c.args.number || accepts_empty y) c.if-each_completes.true
    (c.each_completes.ensures ∙ ap (λ ks. list_all (is_final y) (items_of (listed ks))) c.deref.ensures.value)
    (c.accepts_empty.ensures.test ∙ sym (ap (λ b. b || accepts_empty y) few))

pub completes-returns-then-accepts_empty : goal.completes-returns-then-accepts_empty
completes-returns-then-accepts_empty t c =
    let y = form_of c.in-All-All.y.value in
    let p = c.in-All-All.field-0-0 in
    let ms = listed (map plain_map c.in-All-All.maps.items) in
    both_then c.accepts_empty.result c.some_map_completes.result (accepts_empty y) (list_any (λ m. list_all (λ x. is_final y (first_part x)) (items_of (first_part m))) (items_of ms)) c.if-accepts_empty.true
    (c.accepts_empty.ensures.test ∙ ap (λ v. accepts_empty (form_of v)) c.deref-in-All-All.ensures)
    (c.some_map_completes.ensures
    ∙ ap (λ v. list_any (λ m. list_all (λ x. is_final (form_of v) (first_part x)) (items_of (first_part m))) (items_of (listed (map plain_map c.deref-then-accepts_empty-2.result.now)))) c.deref-then-accepts_empty.ensures
    ∙ ap (λ ks. list_any (λ m. list_all (λ x. is_final y (first_part x)) (items_of (first_part m))) (items_of (listed (map plain_map ks)))) c.deref-then-accepts_empty-2.ensures.value)
    ∙ sym (ap (λ x. is_final (form_of x) (plain_node c.node.result.now)) c.in-All-All.is-0 ∙ ap (λ n. is_final (all p y) (plain_node n)) c.in-All-All.is-1)
    ∙ ap (is_final (form_of c.args.expr.now)) c.node.ensures
