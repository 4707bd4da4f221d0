use Rattle.std.proofs.Common.{eqb-true, sym, subst}
use Rattle.ix_words.proofs.Each.{Each-head, Each-tail}
use Rattle.ix_words.specs.Each.{Each}
use Rattle.ix_values.specs.Faults.{IsActionText}
use Rattle.ix_manage.proofs.Tracing.{StandBefore, front_end, front_start, front_step}
use Rattle.ix_manage.proofs.past.read_actions.Goals as goal

pub loop-rest-init : goal.loop-rest-init
loop-rest-init c = (c.requires, subst (StandBefore c.args.lines.now c.args.lines.now) (sym c.new-actions.ensures.items) (front_start c.args.lines.now))

pub of_text-requires : goal.of_text-requires
of_text-requires c = Each-head (subst (Each IsActionText) c.first_line-first.ensures.lines c.loop-rest.invariant.0)

pub loop-rest-preserved : goal.loop-rest-preserved
loop-rest-preserved c = (
  Each-tail (subst (Each IsActionText) c.first_line-first.ensures.lines c.loop-rest.invariant.0),
  subst (StandBefore c.args.lines.now c.first_line-first.result.rest.now) (sym c.in_ok-push.ensures.items)
      (front_step c.args.lines.now c.loop-rest.rest.now c.first_line-first.result.rest.now c.first_line-first.result.line.now
      c.loop-rest.actions.items c.of_text.result c.first_line-first.ensures.lines c.of_text.ensures.valid
      c.of_text.ensures.same c.loop-rest.invariant.1),
)

pub returns : goal.returns
returns c =
    front_end c.args.lines.now c.loop-rest.rest.now c.loop-rest.actions.items
    (eqb-true _ _ (sym c.loop-rest-test.ensures)) c.loop-rest.invariant.1
