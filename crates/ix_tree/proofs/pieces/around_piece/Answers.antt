use Rattle.std.proofs.Common.{◌≡◌, ⊎_elim, inl, inr, ◌+◌, ◌-◌, ◌≤◌, ◌∷◌, ◌++◌, false, length, take, drop, rules, sym, ap, ◌∙◌, subst, arith}
use Rattle.std.specs.List.{AllByRecursion}
use Rattle.std.proofs.lemmas.List.{take-append-drop, take_rest, drop_more}
use Rattle.std.proofs.lemmas.List.Sorted.{IsPartitionPoint-from_clause}
use Rattle.std.proofs.lemmas.Bool.{cases_lt, eqb-false}
use Rattle.ix_tree.specs.inside.Pieces.{leads}
use Rattle.ix_tree.proofs.Parted.{within_drop}
use Rattle.ix_tree.proofs.pieces.around_piece.Goals as goal

pub returns : goal.returns
returns c =
    let point = IsPartitionPoint-from_clause (leads c.args.value.now) _ _ c.partition_point.ensures.partitioned c.requires (λ a r q k. search rules) in
    let place = c.saturating_sub-place.result in
    let next : c.partition_point.result ≤ place + 1 = omega (arith, c.saturating_sub-place.ensures) in
    let some = eqb-false (length c.args.pieces.now) 0 (sym c.is_empty.ensures ∙ c.if-is_empty.false) in
    let behind : take (length c.args.pieces.now - (place + 1)) (drop (place + 1) c.args.pieces.now) ≡ drop (place + 1) c.args.pieces.now = take_rest c.args.pieces.now (place + 1) in
    record {
      parts =
          sym (take-append-drop place c.args.pieces.now)
          ∙ ap (λ l. take place c.args.pieces.now ++ l)
          (drop_more c.args.pieces.now place c.index-pieces-place.result (omega (arith, some, c.saturating_sub-place.ensures, c.partition_point.ensures.bound))
          ∙ (λ i. sym c.index-pieces-place.is i ∷ sym behind i));
      here =
          ⊎_elim (λ some. inl (ap (leads c.args.value.now) c.index-pieces-place.is ∙ point.0 place c.index-pieces-place.result (omega arith) (omega (arith, some, c.saturating_sub-place.ensures))))
          (λ none. let zero : place ≡ 0 = omega (arith, none, c.saturating_sub-place.ensures) in inr (ap (λ n. take n c.args.pieces.now) zero))
          (cases_lt 0 c.partition_point.result);
      further = subst (AllByRecursion (λ piece. leads c.args.value.now piece ≡ false)) (sym behind) (within_drop (λ piece. leads c.args.value.now piece ≡ false) c.args.pieces.now (place + 1) (λ k d a b. point.1 k d (omega (arith, a, next)) b));
    }
