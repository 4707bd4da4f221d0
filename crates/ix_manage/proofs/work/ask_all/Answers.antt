use Rattle.std.proofs.Common.{◌≡◌, ◌∙◌, arith, refl, subst, sym}
use Rattle.ix_manage.specs.inside.Working.{HasAsked}
use Rattle.ix_manage.proofs.Working.{all_counted, begins_behind, then_granted, then_refused}
use Rattle.ix_manage.proofs.work.ask_all.Goals as goal
use Rattle.ix_manage.proofs.work.ask_all.Goals.{then-branch, else-branch}

pub loop-ask-init : goal.loop-ask-init
loop-ask-init c =
    let engine = c.args.engine.now in
    let names = c.args.names in (
      subst (HasAsked engine.form names.limit names.seed 0 0 0 engine.history)
          (sym c.new-workload.ensures)
          (begins_behind engine.form names.limit names.seed engine.history c.requires.empty),
      refl,
      refl,
    )

pub overflow_add-refused : goal.overflow_add-refused
overflow_add-refused c =
    let all = all_counted c.loop-ask.invariant.0.asked in
    omega (arith, all)

pub loop-ask-preserved : goal.loop-ask-preserved
loop-ask-preserved c =
    let at = c.loop-ask.invariant in
    let names = c.args.names in
    let asks = c.in_ok-ask_next.ensures.asks in (
      elim c.if-branch.branch [
        | then-branch w ↦
            then_granted c.args.engine.now.form names.limit names.seed c.loop-ask._ask
            c.loop-ask.granted c.loop-ask.refused c.loop-ask.engine c.loop-ask.workload at.1
            (at.2 ∙ c.requires.limit) at.0 c.in_ok-ask_next.field-0 c.ask_next.new.engine.history
            c.ask_next.new.workload c.if-branch.granted c.if-branch.refused asks w.if-branch.true
            w.granted-is w.refused-is
        | else-branch w ↦
            then_refused c.args.engine.now.form names.limit names.seed c.loop-ask._ask
            c.loop-ask.granted c.loop-ask.refused c.loop-ask.engine c.loop-ask.workload at.1
            (at.2 ∙ c.requires.limit) at.0 c.in_ok-ask_next.field-0 c.ask_next.new.engine.history
            c.ask_next.new.workload c.if-branch.granted c.if-branch.refused asks w.if-branch.false
            w.granted-is w.refused-is
      ],
      c.ask_next.ensures.form ∙ at.1,
      c.ask_next.ensures.limit ∙ at.2,
    )
