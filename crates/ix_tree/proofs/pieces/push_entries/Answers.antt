use Rattle.std.proofs.Common.{◌≡◌, ◌≤◌, ◌++◌, ◌∷◌, [], length, sym, ap, ◌∙◌, subst, arith, length-append}
use Rattle.std.specs.List.{AllByRecursion}
use Rattle.std.proofs.lemmas.List.{append_assoc, append-nil}
use Rattle.ix_tree.specs.inside.Pieces.{HasEntries, in_pieces}
use Rattle.ix_tree.proofs.pieces.push_entries.Goals as goal
use Rattle.ix_tree.proofs.pieces.push_entries.Goals.{then-len+in_ok-push_few, else-len}

pub loop-entry-preserved : goal.loop-entry-preserved
loop-entry-preserved c =
    let held : (in_pieces c.if-len.pieces.items ++ c.if-len.piece.items ≡ in_pieces c.loop-entry.pieces.items ++ c.loop-entry.piece.items) × (length c.if-len.piece.items ≤ 15) × AllByRecursion HasEntries c.if-len.pieces.items =
    elim c.if-len.branch [
      | then-len+in_ok-push_few w ↦
          let emptied : c.if-len.piece.items ≡ [] = ap (λ v. v.items) (w.piece-is ∙ w.replace.ensures.after) ∙ w.new.ensures.items in (
            (λ i. in_pieces (w.pieces-is i).items ++ emptied i)
                ∙ append-nil (in_pieces w.push_few-then-len.new.pieces.items)
                ∙ w.in_ok-push_few.ensures.items
                ∙ ap (λ v. in_pieces c.loop-entry.pieces.items ++ v.items) w.replace.ensures.value,
            omega (arith, ap length emptied),
            subst (λ v. AllByRecursion HasEntries v.items) (sym w.pieces-is) w.in_ok-push_few.ensures.some,
          )
      | else-len w ↦ (
        λ i. in_pieces (w.pieces-is i).items ++ (w.piece-is i).items,
        omega (arith, c.loop-entry.invariant.1, w.if-len.false, c.len-in-loop-entry.ensures, ap (λ v. length v.items) w.piece-is),
        subst (λ v. AllByRecursion HasEntries v.items) (sym w.pieces-is) c.loop-entry.invariant.2,
      )
    ] in (
      ap (λ l. in_pieces c.if-len.pieces.items ++ l) c.in_ok-push.ensures.items
          ∙ sym (append_assoc (in_pieces c.if-len.pieces.items) c.if-len.piece.items (c.in-Some.entry ∷ []))
          ∙ ap (λ l. l ++ c.in-Some.entry ∷ []) (held.0 ∙ c.loop-entry.invariant.0)
          ∙ append_assoc (in_pieces c.args.pieces.now.items) c.loop-entry.yielded (c.in-Some.entry ∷ []),
      omega (arith, held.1, ap length c.in_ok-push.ensures.items, length-append c.if-len.piece.items (c.in-Some.entry ∷ [])),
      held.2,
    )
