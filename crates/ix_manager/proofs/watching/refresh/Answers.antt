use Rattle.std.proofs.Common.{◌≡◌, ◌↔◌, List, IsTrue, IfOk, length, sym, subst, ◌∙◌, arith, true≢false}
use Rattle.ix_values.specs.PlainAction.{PlainAction}
use Rattle.ix_engine.specs.inside.Engine.{Allows}
use Rattle.ix_manager.specs.Machine.{MachineWatch, HasNoWatch}
use Rattle.ix_manager.proofs.Refreshing.{some_of, on_err, has_watch, one_noted, one_passed, all_noted}
use Rattle.ix_manager.proofs.watching.refresh.Goals as goal
use Rattle.ix_manager.proofs.watching.refresh.Goals.{then-eq+in_ok-allowed, else-eq}

pub returns-in_err-allowed-clause-asked : goal.returns-in_err-allowed-clause-asked
returns-in_err-allowed-clause-asked c =
    let there = some_of _ c.at.ensures in
    let named = sym there.2.0 ∙ c.eq.ensures.same.0 c.if-eq.true in
    on_err c.from_residual.result
    (subst (λ (ws : List MachineWatch). ¬ HasNoWatch c.args.name.now ws) c.loop-index.invariant.0
    (has_watch c.args.name.now c.loop-index.watches c.loop-index.index there.0 there.1 named))

pub loop-index-preserved : goal.loop-index-preserved
loop-index-preserved c =
    let there = some_of _ c.at.ensures in
    elim c.if-eq.branch [
      | then-eq+in_ok-allowed w ↦
          one_noted c.args.engine.now c.args.name.now c.args.watches.now c.loop-index.watches c.if-eq.watches c.loop-index.index there.0 w.in_ok-allowed.allowed there.1
          (subst (λ (a : PlainAction). IsTrue w.in_ok-allowed.allowed ↔ Allows c.args.engine.now a) there.2.1
          (subst (λ r. IfOk r (λ answer. IsTrue answer ↔ Allows c.args.engine.now c.at.result.1.now)) w.in_ok-allowed.was w.permitted.ensures))
          (w.watches-is ∙ w.note.ensures) c.loop-index.invariant
      | else-eq w ↦
          one_passed c.args.engine.now c.args.name.now c.args.watches.now c.loop-index.watches c.if-eq.watches c.loop-index.index there.0 there.1
          (λ named. true≢false (sym (c.eq.ensures.same.1 (there.2.0 ∙ named)) ∙ w.if-eq.false)) w.watches-is c.loop-index.invariant
    ]

pub returns-clause-noted : goal.returns-clause-noted
returns-clause-noted c =
    let all : c.loop-index.index ≡ length c.loop-index.watches = omega arith in
    all_noted c.args.engine.now c.args.name.now c.args.watches.now c.loop-index.watches c.loop-index.index all c.loop-index.invariant
