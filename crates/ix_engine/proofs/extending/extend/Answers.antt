use Rattle.std.proofs.Common.{◌<◌, [], ◌∷◌, ◌++◌, length, sym, ◌∙◌, ap, subst, true≢false, arith}
use Rattle.ix_expr.specs.inside.FormOf.{form_of}
use Rattle.ix_expr.specs.Meaning.{IsPartial}
use Rattle.ix_tree.specs.Size.{size_of}
use Rattle.ix_can.specs.TreeOf.{tree_of}
use Rattle.ix_engine.proofs.Trees.{partial_live, live_partial}
use Rattle.ix_engine.proofs.extending.extend.Goals.{else-actions-eq-MOST_ACTIONS-via-then-actions-eq-MOST_ACTIONS+else-can, else-actions-eq-MOST_ACTIONS-via-else-actions-eq-MOST_ACTIONS}
use Rattle.ix_engine.proofs.extending.extend.Goals as goal

-- the moved tree is dead
pub returns-in-Ok : goal.returns-in-Ok
returns-in-Ok c = λ history tree count permitted.
    let x = form_of c.args.rules.expr.now in
    let w = history ++ c.args.action.now ∷ [] in
    let next = c.in-Ok.ensures.by_word history (tree ∙ ap (λ e. tree_of x e history) (sym c.requires.empty)) in
    let is = next.0 ∙ ap (λ e. tree_of x e w) c.requires.empty in
    true≢false (sym c.if-is_dead.true ∙ c.is_dead.ensures ∙ partial_live x w c.in-Ok.next c.requires.fits is permitted)

-- it is live
pub returns-in-Ok-2 : goal.returns-in-Ok-2
returns-in-Ok-2 c = λ history tree count.
    let x = form_of c.args.rules.expr.now in
    let a = c.args.action.now in
    let w = history ++ a ∷ [] in
    let before = tree ∙ ap (λ e. tree_of x e history) (sym c.requires.empty) in
    let next = c.in-Ok.ensures.by_word history before in
    let is = next.0 ∙ ap (λ e. tree_of x e w) c.requires.empty in
    let permitted = live_partial x w c.in-Ok.next c.requires.fits is (sym c.is_dead.ensures ∙ c.if-is_dead.false) in
    let size = ap (λ e. size_of (tree_of x e w)) c.requires.empty in
    let room : length history < 1000000 = elim c.else-actions-eq-MOST_ACTIONS.branch [
      | else-actions-eq-MOST_ACTIONS-via-then-actions-eq-MOST_ACTIONS+else-can p ↦
          absurd (true≢false (sym ((p.can.ensures.tells history before).1 (subst (λ e. IsPartial x e w) (sym c.requires.empty) permitted)) ∙ p.if-can.false))
      | else-actions-eq-MOST_ACTIONS-via-else-actions-eq-MOST_ACTIONS p ↦ omega (arith, count, c.requires.actions, p.if-actions-eq-MOST_ACTIONS.false)
    ] in (
      is,
      record {
        permitted = permitted;
        room = room;
        within = omega (arith, next.1, size);
      },
    )
