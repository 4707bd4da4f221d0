use Rattle.std.proofs.Common.{length, ap, ◌∙◌}
use Rattle.std.proofs.lemmas.List.{length-map}
use Rattle.ix_can.specs.TreeOf.{is_final}
use Rattle.ix_stuck.specs.declared.graph.State.{State}
use Rattle.ix_stuck.specs.inside.Ruled.{form}
use Rattle.ix_stuck.proofs.Spreading.{finals_sound}
use Rattle.ix_stuck.proofs.finish.finishing.Goals as goal

pub loop-init : goal.loop-init
loop-init c = (
  ap length c.in_ok-marks.ensures ∙ length-map c.args.states.now (λ (state : State). is_final (form c.args.rules) state.tree),
  finals_sound (form c.args.rules) c.args.rules.moves.now c.args.states.now c.in_ok-marks.marks.items c.in_ok-marks.ensures,
)
