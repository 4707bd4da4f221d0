use Rattle.std.proofs.Common.{◌≡◌, ◌-◌, false, not, length, get_or, sym, ap, ◌∙◌, arith, rules}
use Rattle.std.proofs.lemmas.List.{get_or_default}
use Rattle.std.proofs.lemmas.List.Sorted.{IsPartitionPoint-from_clause}
use Rattle.std.specs.Ordering.{is_gt}
use Rattle.ix_tree.specs.Order.{tree_cmp}
use Rattle.ix_step.proofs.Rising.{upto_first, all_upto, run_goes_on, run_repeats}
use Rattle.ix_step.proofs.parallel.run_end.Goals as goal

pub returns-then-not-is_gt-clause-repeats : goal.returns-then-not-is_gt-clause-repeats
returns-then-not-is_gt-clause-repeats c =
    let x = c.index-items-place.result in
    let items = c.args.items.now in
    let last = length items - 1 in
    let is : c.index-items-items.result ≡ get_or items last x = c.index-items-items.is ∙ get_or_default items last _ x (omega (arith, c.requires.place)) in
    let upto_x : is_gt (tree_cmp (get_or items last x) x) ≡ false = ap (λ y. is_gt (tree_cmp y x)) (sym is) ∙ ap is_gt (sym c.cmp.ensures) ∙ sym c.is_gt.ensures ∙ c.if-not-is_gt.true in
    run_repeats items c.requires.rising c.args.place (length items) x c.requires.place c.index-items-place.is (omega arith) (all_upto x items last c.requires.rising (omega (arith, c.requires.place)) upto_x)

pub returns : goal.returns
returns c =
    let x = c.index-items-place.result in
    let parted = upto_first x c.args.items.now c.requires.rising in
    let point = IsPartitionPoint-from_clause (λ y. not (is_gt (tree_cmp y x))) _ _ c.partition_point.ensures.partitioned parted (λ a r q k. search rules) in
    record {
      behind = run_goes_on c.args.items.now c.requires.rising c.args.place c.partition_point.result x c.requires.place c.index-items-place.is c.partition_point.ensures.bound point;
      within = c.partition_point.ensures.bound;
      repeats = run_repeats c.args.items.now c.requires.rising c.args.place c.partition_point.result x c.requires.place c.index-items-place.is c.partition_point.ensures.bound point;
    }
