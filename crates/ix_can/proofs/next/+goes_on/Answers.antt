-- What each call behind `can` asks holds.
use Rattle.std.proofs.Common.{nat_lt, ◌≡◌, ℕ, ◌+◌, List, length, get_or, drop, true≢false, Bool, true, false, ◌&&◌, ◌||◌, map, Some, None, arith, rules, sym, ap, ◌∙◌, subst}
use Rattle.ix_expr.specs.declared.expr.Expr.TheViews.{the_lemmas}
use Rattle.ix_expr.specs.Form.{Form, opt, seq, star, par, par_star, or, and, couple, any, every, sync, all, times}
use Rattle.ix_expr.specs.FormFaults.{Fits}
use Rattle.ix_expr.proofs.LawsOfNames.{fits-names}
use Rattle.ix_expr.specs.inside.FormOf.{form_of}
use Rattle.ix_words.specs.Canon.{Ascending}
use Rattle.ix_words.specs.Each.{Each}
use Rattle.ix_expr.specs.Environment.{Environment, bind}
use Rattle.ix_values.specs.Order.{text_cmp}
use Rattle.ix_tree.specs.Order.{key, first_part}
use Rattle.std.specs.List.{list_all, list_any}
use Rattle.std.proofs.lemmas.List.{at_drop_more}
use Rattle.ix_tree.specs.Plain.{Plain, dead, listed, items_of, seq as seq_of, star as star_of, par as par_of, par_star as par_star_of, all as all_of, times as times_of}
use Rattle.ix_tree.specs.PlainOf.{plain_pair, plain_bag, plain_map, plain_entry, plain_entries}
use Rattle.ix_tree.specs.inside.PlainNode.{plain_node}
use Rattle.ix_tree.proofs.PlainLists.{items_of-listed}
use Rattle.ix_can.specs.inside.CanAsk.{CanAsk, stays, may_or_stays, may_own}
use Rattle.ix_can.specs.Laws.{IsProper}
use Rattle.ix_can.specs.May.{may, may_first}
use Rattle.ix_expr.specs.Tests.{in_alphabet}
use Rattle.ix_can.proofs.Asking.{opt_asked, seq_first, seq_rest, star_rest, par_pairs, par_star_bags, times_bags, or_first, or_second, and_first, and_second, couple_first, couple_second, any_values, every_values, sync_values, all_maps, tree_has, part_has, entries_proper, state_proper, own_proper, next_entry}
use Rattle.ix_can.proofs.Children.{either_then, either_else}
use Rattle.ix_can.proofs.Keys.{entries_ascend}
use Rattle.ix_can.proofs.OutsideAlphabet.{outside_next, next_inside}
use Rattle.ix_can.proofs.UnseenValues.{unseen_none, unseen_all, unseen_stay, unseen_own, own_tell}
use Rattle.ix_can.proofs.next.+goes_on.Goals as goal
use Rattle.ix_can.proofs.next.+goes_on.Goals.{some_owner_goes_on-else-sees-via-then-sees+else-owner_goes_on, some_owner_goes_on-else-sees-via-else-sees}

-- a test that is asked where the other one holds
inside_too : (i b r : Bool) → i ≡ true → r ≡ b → r ≡ (i && b)
inside_too i b r h k = k ∙ ap (λ x. x && b) (sym h)

-- the same question of equal expressions and trees
asked : {x y : Form} {e : Environment} {t u : Plain} → x ≡ y → t ≡ u → CanAsk x e t → CanAsk y e u
asked {x} {y} {e} {t} {u} a b h = subst (λ s. CanAsk y e s) b (subst (λ z. CanAsk z e t) a h)

pub goes_on-goes_on-requires : goal.goes_on-goes_on-requires
goes_on-goes_on-requires t c =
    (search (rules, the_lemmas), opt_asked (asked (ap form_of c.in-Opt-Opt.is-0 ∙ ap (λ v. opt (form_of v)) (sym c.deref.ensures)) (sym c.node.ensures ∙ ap plain_node c.in-Opt-Opt.is-1) c.requires))

pub goes_on-goes_on-requires-in-Seq-Seq : goal.goes_on-goes_on-requires-in-Seq-Seq
goes_on-goes_on-requires-in-Seq-Seq t c =
    (search (rules, the_lemmas), seq_first (asked (ap form_of c.in-Seq-Seq.is-0 ∙ ap (λ v. seq (form_of v) (form_of c.in-Seq-Seq.z.value)) (sym c.deref-in-Seq-Seq.ensures)) (sym c.node.ensures ∙ ap plain_node c.in-Seq-Seq.is-1) c.requires))

pub goes_on-some_goes_on-requires : goal.goes_on-some_goes_on-requires
goes_on-some_goes_on-requires t c =
    (search (rules, the_lemmas), seq_rest (asked (ap form_of c.in-Seq-Seq.is-0 ∙ ap (λ v. seq (form_of c.in-Seq-Seq.y.value) (form_of v)) (sym c.deref-else-goes_on.ensures)) (sym c.node.ensures ∙ ap plain_node c.in-Seq-Seq.is-1 ∙ ap (λ v. seq_of c.in-Seq-Seq.x c.in-Seq-Seq.field-1-1 (listed v)) (sym c.deref-else-goes_on-2.ensures.value)) c.requires))

pub goes_on-begins_again-requires : goal.goes_on-begins_again-requires
goes_on-begins_again-requires t c =
    (star_rest (asked (ap form_of c.in-Star-Star.is-0 ∙ ap (λ v. star (form_of v)) (sym c.deref-in-Star-Star.ensures)) (sym c.node.ensures ∙ ap plain_node c.in-Star-Star.is-1) c.requires)).0

pub goes_on-some_goes_on-requires-else-begins_again : goal.goes_on-some_goes_on-requires-else-begins_again
goes_on-some_goes_on-requires-else-begins_again t c =
    (search (rules, the_lemmas), star_rest (asked (ap form_of c.in-Star-Star.is-0 ∙ ap (λ v. star (form_of v)) (sym c.deref-else-begins_again.ensures)) (sym c.node.ensures ∙ ap plain_node c.in-Star-Star.is-1 ∙ ap (λ v. star_of c.in-Star-Star.again (listed v)) (sym c.deref-else-begins_again-2.ensures.value)) c.requires))

pub goes_on-some_pair_goes_on-requires : goal.goes_on-some_pair_goes_on-requires
goes_on-some_pair_goes_on-requires t c =
    (search (rules, the_lemmas), par_pairs (asked (ap form_of c.in-Par-Par.is-0 ∙ ap (λ v. par (form_of v) (form_of c.in-Par-Par.z.value)) (sym c.deref-in-Par-Par.ensures) ∙ ap (λ v. par (form_of c.deref-in-Par-Par.result.now) (form_of v)) (sym c.deref-in-Par-Par-2.ensures)) (sym c.node.ensures ∙ ap plain_node c.in-Par-Par.is-1 ∙ ap (λ v. par_of (listed (map plain_pair v))) (sym c.deref-in-Par-Par-3.ensures.value)) c.requires))

pub goes_on-some_bag_goes_on-requires : goal.goes_on-some_bag_goes_on-requires
goes_on-some_bag_goes_on-requires t c =
    (search (rules, the_lemmas), par_star_bags (asked (ap form_of c.in-ParStar-ParStar.is-0 ∙ ap (λ v. par_star (form_of v)) (sym c.deref-in-ParStar-ParStar.ensures)) (sym c.node.ensures ∙ ap plain_node c.in-ParStar-ParStar.is-1 ∙ ap (λ v. par_star_of (listed (map plain_bag v))) (sym c.deref-in-ParStar-ParStar-2.ensures.value)) c.requires))

pub goes_on-some_limited_bag_goes_on-requires : goal.goes_on-some_limited_bag_goes_on-requires
goes_on-some_limited_bag_goes_on-requires t c =
    (search (rules, the_lemmas), times_bags (asked (ap form_of c.in-Times-Times.is-0 ∙ ap (λ v. times c.in-Times-Times.number (form_of v)) (sym c.deref-in-Times-Times.ensures)) (sym c.node.ensures ∙ ap plain_node c.in-Times-Times.is-1 ∙ ap (λ v. times_of (listed (map plain_bag v))) (sym c.deref-in-Times-Times-2.ensures.value)) c.requires))

pub goes_on-goes_on-requires-in-Or-Or : goal.goes_on-goes_on-requires-in-Or-Or
goes_on-goes_on-requires-in-Or-Or t c =
    (search (rules, the_lemmas), or_first (asked (ap form_of c.in-Or-Or.is-0 ∙ ap (λ v. or (form_of v) (form_of c.in-Or-Or.z.value)) (sym c.deref-in-Or-Or.ensures)) (sym c.node.ensures ∙ ap plain_node c.in-Or-Or.is-1) c.requires))

pub goes_on-goes_on-requires-else-goes_on-2 : goal.goes_on-goes_on-requires-else-goes_on-2
goes_on-goes_on-requires-else-goes_on-2 t c =
    (search (rules, the_lemmas), or_second (asked (ap form_of c.in-Or-Or.is-0 ∙ ap (λ v. or (form_of c.in-Or-Or.y.value) (form_of v)) (sym c.deref-else-goes_on-2-2.ensures)) (sym c.node.ensures ∙ ap plain_node c.in-Or-Or.is-1) c.requires))

pub goes_on-goes_on-requires-in-And-And : goal.goes_on-goes_on-requires-in-And-And
goes_on-goes_on-requires-in-And-And t c =
    (search (rules, the_lemmas), and_first (asked (ap form_of c.in-And-And.is-0 ∙ ap (λ v. and (form_of v) (form_of c.in-And-And.z.value)) (sym c.deref-in-And-And.ensures)) (sym c.node.ensures ∙ ap plain_node c.in-And-And.is-1) c.requires))

pub goes_on-goes_on-requires-then-goes_on-3 : goal.goes_on-goes_on-requires-then-goes_on-3
goes_on-goes_on-requires-then-goes_on-3 t c =
    (search (rules, the_lemmas), and_second (asked (ap form_of c.in-And-And.is-0 ∙ ap (λ v. and (form_of c.in-And-And.y.value) (form_of v)) (sym c.deref-then-goes_on-3.ensures)) (sym c.node.ensures ∙ ap plain_node c.in-And-And.is-1) c.requires))

pub goes_on-coupled_go_on-requires : goal.goes_on-coupled_go_on-requires
goes_on-coupled_go_on-requires t c =
    let y = c.deref-in-Couple-Couple in
    let z = c.deref-in-Couple-Couple-2 in
    let k = asked (ap form_of c.in-Couple-Couple.is-0 ∙ ap (λ v. couple (form_of v) (form_of c.in-Couple-Couple.z.value)) (sym y.ensures) ∙ ap (λ v. couple (form_of y.result.now) (form_of v)) (sym z.ensures)) (sym c.node.ensures ∙ ap plain_node c.in-Couple-Couple.is-1) c.requires in
    (search (rules, the_lemmas), (couple_first k, couple_second k))

pub goes_on-some_goes_on_for-requires : goal.goes_on-some_goes_on_for-requires
goes_on-some_goes_on_for-requires t c =
    (search (rules, the_lemmas), any_values (asked (ap form_of c.in-Any-Any.is-0 ∙ ap (λ v. any c.in-Any-Any.parameter (form_of v)) (sym c.deref-in-Any-Any.ensures)) (sym c.node.ensures ∙ ap plain_node c.in-Any-Any.is-1) c.requires))

pub goes_on-each_goes_on_for-requires : goal.goes_on-each_goes_on_for-requires
goes_on-each_goes_on_for-requires t c =
    (search (rules, the_lemmas), every_values (asked (ap form_of c.in-Every-Every.is-0 ∙ ap (λ v. every c.in-Every-Every.parameter (form_of v)) (sym c.deref-in-Every-Every.ensures)) (sym c.node.ensures ∙ ap plain_node c.in-Every-Every.is-1) c.requires))

pub goes_on-each_goes_on_or_stays-requires : goal.goes_on-each_goes_on_or_stays-requires
goes_on-each_goes_on_or_stays-requires t c =
    (search (rules, the_lemmas), sync_values (asked (ap form_of c.in-Sync-Sync.is-0 ∙ ap (λ v. sync c.in-Sync-Sync.parameter (form_of v)) (sym c.deref-in-Sync-Sync.ensures)) (sym c.node.ensures ∙ ap plain_node c.in-Sync-Sync.is-1) c.requires))

pub goes_on-some_map_goes_on-requires : goal.goes_on-some_map_goes_on-requires
goes_on-some_map_goes_on-requires t c =
    let k = asked (ap form_of c.in-All-All.is-0 ∙ ap (λ v. all c.in-All-All.parameter (form_of v)) (sym c.deref-in-All-All.ensures)) (sym c.node.ensures ∙ ap plain_node c.in-All-All.is-1 ∙ ap (λ v. all_of (listed (map plain_map v))) (sym c.deref-in-All-All-2.ensures.value)) c.requires in
    let maps = all_maps k in
    (search (rules, the_lemmas), (maps.0, (fits-names c.in-All-All.parameter (form_of c.deref-in-All-All.result.now) c.args.env.now k.fits, maps.1)))

pub goes_on-returns-in-ParStar-ParStar : goal.goes_on-returns-in-ParStar-ParStar
goes_on-returns-in-ParStar-ParStar t c =
    let e = c.args.env.now in
    let a = c.args.action.now in
    let shape = ap form_of c.in-ParStar-ParStar.is-0 ∙ ap (λ v. par_star (form_of v)) (sym c.deref-in-ParStar-ParStar.ensures) in
    let tree = sym c.node.ensures ∙ ap plain_node c.in-ParStar-ParStar.is-1 ∙ ap (λ v. par_star_of (listed (map plain_bag v))) (sym c.deref-in-ParStar-ParStar-2.ensures.value) in
    c.some_bag_goes_on.ensures
    ∙ ap (λ s. may (par_star (form_of c.deref-in-ParStar-ParStar.result.now)) e s a) (sym tree)
    ∙ ap (λ x. may x e c.args.state.now a) (sym shape)

pub goes_on-returns-in-Times-Times : goal.goes_on-returns-in-Times-Times
goes_on-returns-in-Times-Times t c =
    let e = c.args.env.now in
    let a = c.args.action.now in
    let shape = ap form_of c.in-Times-Times.is-0 ∙ ap (λ v. times c.in-Times-Times.number (form_of v)) (sym c.deref-in-Times-Times.ensures) in
    let tree = sym c.node.ensures ∙ ap plain_node c.in-Times-Times.is-1 ∙ ap (λ v. times_of (listed (map plain_bag v))) (sym c.deref-in-Times-Times-2.ensures.value) in
    c.some_limited_bag_goes_on.ensures
    ∙ ap (λ s. may (times c.in-Times-Times.number (form_of c.deref-in-Times-Times.result.now)) e s a) (sym tree)
    ∙ ap (λ x. may x e c.args.state.now a) (sym shape)

-- one more run may begin as often as the bag's trees tell
room_is : (items : List Plain) (len from number : ℕ) → length items ≡ len → from ≡ number → nat_lt len from ≡ nat_lt (length (items_of (listed items))) number
room_is items len from number l f = (λ i. nat_lt ((sym (ap length (items_of-listed items) ∙ l)) i) (f i))

pub limited_bag_goes_on-returns-then-begins_again : goal.limited_bag_goes_on-returns-then-begins_again
limited_bag_goes_on-returns-then-begins_again t c =
    let first = may_first (form_of c.args.y.now) c.args.env.now c.args.action.now in
    either_then c.begins_again.result _ _ c.if-begins_again.true
    (c.begins_again.ensures ∙ ap (λ b. b && first) (room_is c.args.bag.now.items.items c.len.result c.from.result c.args.number (omega (arith, c.len.ensures, c.args.bag.now.items.ok.0)) c.from.ensures))

pub limited_bag_goes_on-returns-else-begins_again : goal.limited_bag_goes_on-returns-else-begins_again
limited_bag_goes_on-returns-else-begins_again t c =
    let y = form_of c.args.y.now in
    let first = may_first y c.args.env.now c.args.action.now in
    either_else c.begins_again.result c.some_goes_on.result _ _ c.if-begins_again.false
    (c.begins_again.ensures ∙ ap (λ b. b && first) (room_is c.args.bag.now.items.items c.len.result c.from.result c.args.number (omega (arith, c.len.ensures, c.args.bag.now.items.ok.0)) c.from.ensures))
    (c.some_goes_on.ensures ∙ ap (λ ks. list_any (λ x. may y c.args.env.now x c.args.action.now) (items_of (listed ks))) c.deref.ensures.value)

pub some_limited_bag_goes_on-limited_bag_goes_on-requires : goal.some_limited_bag_goes_on-limited_bag_goes_on-requires
some_limited_bag_goes_on-limited_bag_goes_on-requires t c =
    (search (rules, the_lemmas), (c.requires.fits, (part_has plain_bag c.args.bags.now c.loop-bag.bag-index c.bag-item.result c.requires.proper (omega arith) c.bag-item.is).1))

pub goes_on-returns-in-All-All : goal.goes_on-returns-in-All-All
goes_on-returns-in-All-All t c =
    let e = c.args.env.now in
    let a = c.args.action.now in
    let shape = ap form_of c.in-All-All.is-0 ∙ ap (λ v. all c.in-All-All.parameter (form_of v)) (sym c.deref-in-All-All.ensures) in
    let tree = sym c.node.ensures ∙ ap plain_node c.in-All-All.is-1 ∙ ap (λ v. all_of (listed (map plain_map v))) (sym c.deref-in-All-All-2.ensures.value) in
    c.some_map_goes_on.ensures
    ∙ ap (λ s. may (all c.in-All-All.parameter (form_of c.deref-in-All-All.result.now)) e s a) (sym tree)
    ∙ ap (λ x. may x e c.args.state.now a) (sym shape)

pub goes_on-returns-then-contains : goal.goes_on-returns-then-contains
goes_on-returns-then-contains t c =
    let e = c.args.env.now in
    let a = c.args.action.now in
    let shape = ap form_of c.in-Sync-Sync.is-0 ∙ ap (λ v. sync c.in-Sync-Sync.parameter (form_of v)) (sym c.deref-in-Sync-Sync.ensures) in
    let tree = sym c.node.ensures ∙ ap plain_node c.in-Sync-Sync.is-1 in
    inside_too (in_alphabet (sync c.in-Sync-Sync.parameter (form_of c.deref-in-Sync-Sync.result.now)) e a) _ c.each_goes_on_or_stays.result (ap (λ x. in_alphabet x e a) (sym shape) ∙ sym c.contains.ensures.test ∙ c.if-contains.true) c.each_goes_on_or_stays.ensures
    ∙ ap (λ s. may (sync c.in-Sync-Sync.parameter (form_of c.deref-in-Sync-Sync.result.now)) e s a) (sym tree)
    ∙ ap (λ x. may x e c.args.state.now a) (sym shape)

pub meets-returns-then-moves-clause-inside : goal.meets-returns-then-moves-clause-inside
meets-returns-then-moves-clause-inside t c =
    let comes = sym c.goes_on-moves.ensures ∙ c.if-moves.true in
    c.if-moves.true ∙ sym (next_inside c.args.action.now (form_of c.args.y.now) c.args.env.now c.args.state.now comes)

pub meets-returns-else-inside-clause-goes_on : goal.meets-returns-else-inside-clause-goes_on
meets-returns-else-inside-clause-goes_on t c =
    let outside = sym c.contains-inside-2.ensures.test ∙ c.if-inside.false in
    c.if-inside.false ∙ sym (outside_next c.args.action.now (form_of c.args.y.now) c.args.env.now c.args.state.now outside)

pub goes_on_at-goes_on_or_stays-requires : goal.goes_on_at-goes_on_or_stays-requires
goes_on_at-goes_on_or_stays-requires t c =
    (search (rules, the_lemmas), record { fits = subst (Fits (form_of c.args.body.expr.now)) (sym c.bind.ensures) (c.requires.fits.body c.args.value); proper = c.requires.proper })

pub owner_goes_on-goes_on_at-requires : goal.owner_goes_on-goes_on_at-requires
owner_goes_on-goes_on_at-requires t c =
    (search (rules, the_lemmas), (c.requires.fits, own_proper c.args.value.now c.in-Some.state.now c.requires.proper c.in-Some.ensures (search (rules, c.is_dead.ensures, c.if-not-is_dead.true))))

pub owner_goes_on-begins-requires : goal.owner_goes_on-begins-requires
owner_goes_on-begins-requires t c =
    subst (Fits (form_of c.args.body.expr.now)) (sym c.bind.ensures) (c.requires.fits.body (Some c.args.value.now))

pub some_goes_on-goes_on-requires : goal.some_goes_on-goes_on-requires
some_goes_on-goes_on-requires t c =
    (search (rules, the_lemmas), record { fits = c.requires.fits; proper = tree_has c.args.items.now c.loop-item.item-index c.item-item.result c.requires.proper (omega arith) c.item-item.is })

pub some_pair_goes_on-pair_goes_on-requires : goal.some_pair_goes_on-pair_goes_on-requires
some_pair_goes_on-pair_goes_on-requires t c =
    let h = part_has plain_pair c.args.pairs.now c.loop-pair.pair-index c.pair-item.result c.requires.proper (omega arith) c.pair-item.is in
    (search (rules, the_lemmas), (record { fits = c.requires.left; proper = h.0 }, record { fits = c.requires.right; proper = h.1 }))

pub some_bag_goes_on-bag_goes_on-requires : goal.some_bag_goes_on-bag_goes_on-requires
some_bag_goes_on-bag_goes_on-requires t c =
    (search (rules, the_lemmas), (c.requires.fits, (part_has plain_bag c.args.bags.now c.loop-bag.bag-index c.bag-item.result c.requires.proper (omega arith) c.bag-item.is).1))

pub some_entry_goes_on-goes_on_at-requires : goal.some_entry_goes_on-goes_on_at-requires
some_entry_goes_on-goes_on_at-requires t c =
    let G : Plain → Type 0 = λ x. IsProper (form_of c.args.body.expr.now) (first_part x) in
    (search (rules, the_lemmas), (c.requires.fits, (next_entry {G = G} c.in-Some.ensures.steps c.loop-entry.invariant.1).0))

pub some_entry_goes_on-loop-entry-init : goal.some_entry_goes_on-loop-entry-init
some_entry_goes_on-loop-entry-init t c =
    let y = form_of c.args.body.expr.now in
    let f : Plain → Bool = λ x. may y (bind c.args.body.parameter.now (Some (key x)) c.args.env.now) (first_part x) c.args.action.now in
    let all = sym (c.into_iter-entry-iterator.ensures.into_iter_gives ∙ c.iter-entry-items.ensures) in
    (ap (λ es. list_any f (items_of (plain_entries es))) all, subst (λ es. Each (λ x. IsProper y (first_part x)) (items_of (plain_entries es))) all c.requires.proper)

pub some_entry_goes_on-loop-entry-preserved : goal.some_entry_goes_on-loop-entry-preserved
some_entry_goes_on-loop-entry-preserved t c =
    let y = form_of c.args.body.expr.now in
    let f : Plain → Bool = λ x. may y (bind c.args.body.parameter.now (Some (key x)) c.args.env.now) (first_part x) c.args.action.now in
    let G : Plain → Type 0 = λ x. IsProper y (first_part x) in
    let out : f (plain_entry c.in-Some.entry.now) ≡ false = sym c.goes_on_at.ensures ∙ c.if-goes_on_at.false in (
      c.loop-entry.invariant.0
          ∙ ap (λ es. list_any f (items_of (plain_entries es))) c.in-Some.ensures.steps
          ∙ ap (λ b. b || list_any f (items_of (plain_entries c.next.new.self))) out,
      (next_entry {G = G} c.in-Some.ensures.steps c.loop-entry.invariant.1).1,
    )

pub each_entry_goes_on-goes_on_at-requires : goal.each_entry_goes_on-goes_on_at-requires
each_entry_goes_on-goes_on_at-requires t c =
    let G : Plain → Type 0 = λ x. IsProper (form_of c.args.body.expr.now) (first_part x) in
    (search (rules, the_lemmas), (c.requires.fits, (next_entry {G = G} c.in-Some.ensures.steps c.loop-entry.invariant.1).0))

pub each_entry_goes_on-loop-entry-init : goal.each_entry_goes_on-loop-entry-init
each_entry_goes_on-loop-entry-init t c =
    let y = form_of c.args.body.expr.now in
    let f : Plain → Bool = λ x. may_or_stays (stays c.args.outside) y (bind c.args.body.parameter.now (Some (key x)) c.args.env.now) (first_part x) c.args.action.now in
    let all = sym (c.into_iter-entry-iterator.ensures.into_iter_gives ∙ c.iter-entry-items.ensures) in
    (ap (λ es. list_all f (items_of (plain_entries es))) all, subst (λ es. Each (λ x. IsProper y (first_part x)) (items_of (plain_entries es))) all c.requires.proper)

pub each_entry_goes_on-loop-entry-preserved : goal.each_entry_goes_on-loop-entry-preserved
each_entry_goes_on-loop-entry-preserved t c =
    let y = form_of c.args.body.expr.now in
    let f : Plain → Bool = λ x. may_or_stays (stays c.args.outside) y (bind c.args.body.parameter.now (Some (key x)) c.args.env.now) (first_part x) c.args.action.now in
    let G : Plain → Type 0 = λ x. IsProper y (first_part x) in
    let on : f (plain_entry c.in-Some.entry.now) ≡ true = search (rules, c.goes_on_at.ensures, c.if-not-goes_on_at.false) in (
      c.loop-entry.invariant.0
          ∙ ap (λ es. list_all f (items_of (plain_entries es))) c.in-Some.ensures.steps
          ∙ ap (λ b. b && list_all f (items_of (plain_entries c.next.new.self))) on,
      (next_entry {G = G} c.in-Some.ensures.steps c.loop-entry.invariant.1).1,
    )

pub some_map_goes_on-some_owner_goes_on-requires : goal.some_map_goes_on-some_owner_goes_on-requires
some_map_goes_on-some_owner_goes_on-requires t c =
    let y = form_of c.args.body.expr.now in
    (search (rules, the_lemmas), (c.requires.fits, (c.requires.named, (entries_proper (part_has plain_map c.args.maps.now c.loop-map.map-index c.map-item.result c.requires.proper (omega arith) c.map-item.is)))))

pub some_own_goes_on-goes_on_at-requires : goal.some_own_goes_on-goes_on_at-requires
some_own_goes_on-goes_on_at-requires t c =
    (search (rules, the_lemmas), (c.requires.fits, subst (IsProper (form_of c.args.body.expr.now)) (sym c.state_at-state.ensures) (state_proper c.args.common.now c.value-item.result c.requires.common c.requires.entries)))

pub each_own_goes_on-goes_on_at-requires : goal.each_own_goes_on-goes_on_at-requires
each_own_goes_on-goes_on_at-requires t c =
    (search (rules, the_lemmas), (c.requires.fits, subst (IsProper (form_of c.args.body.expr.now)) (sym c.state_at-state.ensures) (state_proper c.args.common.now c.value-item.result c.requires.common c.requires.entries)))

pub some_goes_on_for-some_own_goes_on-requires : goal.some_goes_on_for-some_own_goes_on-requires
some_goes_on_for-some_own_goes_on-requires t c =
    let none = unseen_none (form_of c.args.body.expr.now) c.args.body.parameter.now c.args.env.now c.args.action.now c.args.common.now (items_of (plain_entries c.args.entries.now))
    (sym c.goes_on_at.ensures ∙ c.if-goes_on_at.false) (sym c.some_entry_goes_on.ensures ∙ c.if-some_entry_goes_on.false) in
    (search (rules, the_lemmas), (c.requires.fits, (c.requires.common, (c.requires.entries, none))))

pub each_goes_on_for-each_own_goes_on-requires : goal.each_goes_on_for-each_own_goes_on-requires
each_goes_on_for-each_own_goes_on-requires t c =
    let all = unseen_all (form_of c.args.body.expr.now) c.args.body.parameter.now c.args.env.now c.args.action.now c.args.common.now (items_of (plain_entries c.args.entries.now)) (stays c.args.outside)
    (sym c.goes_on_at.ensures ∙ c.if-goes_on_at.true) (sym c.each_entry_goes_on.ensures ∙ c.if-each_entry_goes_on.true) in
    (search (rules, the_lemmas), (c.requires.fits, (c.requires.common, (c.requires.entries, all))))

pub each_goes_on_or_stays-contains-requires : goal.each_goes_on_or_stays-contains-requires
each_goes_on_or_stays-contains-requires t c =
    subst (Fits (form_of c.args.body.expr.now)) (sym c.bind.ensures) (c.requires.fits.body None)

pub each_goes_on_or_stays-each_own_goes_on-requires : goal.each_goes_on_or_stays-each_own_goes_on-requires
each_goes_on_or_stays-each_own_goes_on-requires t c =
    let y = form_of c.args.body.expr.now in
    let outside = ap (λ f. in_alphabet y f c.args.action.now) (sym c.bind.ensures) ∙ sym c.contains.ensures.test ∙ c.if-contains.false in
    let stay = unseen_stay y c.args.body.parameter.now c.args.env.now c.args.action.now c.args.common.now (items_of (plain_entries c.args.entries.now)) outside in
    (search (rules, the_lemmas), (c.requires.fits, (c.requires.common, (c.requires.entries, stay))))

pub each_goes_on_or_stays-returns : goal.each_goes_on_or_stays-returns
each_goes_on_or_stays-returns t c =
    let y = form_of c.args.body.expr.now in
    let es = c.args.entries.now in
    let outside = ap (λ f. in_alphabet y f c.args.action.now) (sym c.bind.ensures) ∙ sym c.contains.ensures.test ∙ c.if-contains.false in
    let ascending = subst (Ascending (λ x z. text_cmp (key x) (key z))) (sym (items_of-listed (map plain_entry es))) (entries_ascend es c.requires.entries.ascending) in
    own_tell y c.args.body.parameter.now c.args.env.now c.args.action.now c.args.common.now (items_of (plain_entries es)) ascending outside c.each_own_goes_on.result c.each_own_goes_on.ensures

pub some_owner_goes_on-loop-value-preserved : goal.some_owner_goes_on-loop-value-preserved
some_owner_goes_on-loop-value-preserved t c =
    let xs = items_of (plain_entries c.args.entries.now) in
    let own : List ℕ → Bool = may_own (form_of c.args.body.expr.now) c.args.body.parameter.now c.args.env.now c.args.action.now xs in
    let v = c.value-item.result in
    let vs = c.args.action.now.values in
    let is = c.value-item.is ∙ ap (λ l. get_or l c.loop-value.value-index v) c.values-value-items.ensures.value in
    let out : own v ≡ false = elim c.else-sees.branch [
      | some_owner_goes_on-else-sees-via-then-sees+else-owner_goes_on w ↦ sym w.owner_goes_on.ensures ∙ w.if-owner_goes_on.false
      | some_owner_goes_on-else-sees-via-else-sees w ↦
          unseen_own (form_of c.args.body.expr.now) c.args.body.parameter.now c.args.env.now c.args.action.now dead xs c.requires.named v (λ s. true≢false (sym (c.sees.ensures.1 s) ∙ w.if-sees.false))
    ] in
    c.loop-value.invariant
    ∙ at_drop_more (list_any own) vs c.loop-value.value-index v (omega (arith, ap length c.values-value-items.ensures.value))
    ∙ ap (λ u. own u || list_any own (drop (c.loop-value.value-index + 1) vs)) (sym is)
    ∙ ap (λ b. b || list_any own (drop (c.loop-value.value-index + 1) vs)) out

pub goes_on-returns-in-Every-Every : goal.goes_on-returns-in-Every-Every
goes_on-returns-in-Every-Every t c =
    let e = c.args.env.now in
    let a = c.args.action.now in
    let shape = ap form_of c.in-Every-Every.is-0 ∙ ap (λ v. every c.in-Every-Every.parameter (form_of v)) (sym c.deref-in-Every-Every.ensures) in
    let tree = sym c.node.ensures ∙ ap plain_node c.in-Every-Every.is-1 in
    c.each_goes_on_for.ensures
    ∙ ap (λ s. may (every c.in-Every-Every.parameter (form_of c.deref-in-Every-Every.result.now)) e s a) (sym tree)
    ∙ ap (λ x. may x e c.args.state.now a) (sym shape)
