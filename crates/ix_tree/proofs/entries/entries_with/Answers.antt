-- The entries on both sides of the value, with one between them where the tree differs from the common one.
use Rattle.std.proofs.Common.{◌≡◌, ◌++◌, ◌∷◌, [], IfOk, true, false, sym, ap, ◌∙◌, subst}
use Rattle.std.proofs.lemmas.Bool.{not-false, not-true}
use Rattle.std.proofs.lemmas.List.{append_assoc}
use Rattle.ix_values.specs.lemmas.Order.{text_cmp-same}
use Rattle.ix_tree.specs.contracts.order.KnotPartialEq.TheImpl.{ghosts as tree_ghosts}
use Rattle.ix_tree.proofs.entries.entries_with.Goals as goal
use Rattle.ix_tree.proofs.entries.entries_with.Goals.{then-ne, else-ne}

pub returns : goal.returns
returns c =
    let front = c.in_ok-made-2.ensures.items ∙ ap (λ l. l ++ c.around.result.0.now) c.in_ok-made.ensures.items in
    elim c.if-ne.branch [
      | then-ne w ↦
          let e : tree_ghosts.eq c.args.state c.args.common.now ≡ false = not-true (tree_ghosts.eq c.args.state c.args.common.now) (sym c.ne.ensures ∙ w.if-ne.true) in
          let between = ap (λ v. v.items) w.made-is ∙ w.push_reserved.ensures.items ∙ ap (λ l. l ++ (c.args.value, c.args.state) ∷ []) front in
          rw e (subst (λ whole. IfOk c.with_shared_entries-2.result (λ it. it.items ≡ whole))
          (ap (λ l. l ++ c.around.result.1.now) between
          ∙ append_assoc c.around.result.0.now ((c.args.value, c.args.state) ∷ []) c.around.result.1.now
          ∙ c.around.ensures.with (λ other h. sym (text_cmp-same c.args.value other h)) c.args.state)
          c.with_shared_entries-2.ensures.items)
      | else-ne w ↦
          let e : tree_ghosts.eq c.args.state c.args.common.now ≡ true = not-false (tree_ghosts.eq c.args.state c.args.common.now) (sym c.ne.ensures ∙ w.if-ne.false) in
          rw e (subst (λ whole. IfOk c.with_shared_entries-2.result (λ it. it.items ≡ whole))
          (ap (λ l. l ++ c.around.result.1.now) (ap (λ v. v.items) w.made-is ∙ front) ∙ c.around.ensures.without)
          c.with_shared_entries-2.ensures.items)
    ]
