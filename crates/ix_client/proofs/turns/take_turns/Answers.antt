use Rattle.std.proofs.Common.{◌-◌, sym, subst, arith}
use Rattle.ix_client.specs.Client.{TakesTurns}
use Rattle.ix_client.specs.Grant.{Grant}
use Rattle.ix_client.specs.declared.ended.Ended.TheVariants as ended
use Rattle.ix_client.proofs.TurnLemmas.{no_turn, turn_again, turn_over}
use Rattle.ix_client.proofs.turns.take_turns.Goals as goal

pub returns-in-Over : goal.returns-in-Over
returns-in-Over g c =
    c.loop-turn.invariant _ _ (turn_over c.loop-turn._turn c.loop-turn.pending c.in-Over.ended _ _ (omega arith) c.in-Over.ensures)

pub loop-turn-preserved : goal.loop-turn-preserved
loop-turn-preserved g c = λ how u turns.
    c.loop-turn.invariant how u (turn_again c.loop-turn._turn c.loop-turn.pending c.in-Unsure.back how _ _ u (omega arith) c.in-Unsure.ensures turns)

pub returns : goal.returns
returns g c =
    let s = g.L.Link.state c.loop-turn.link in
    c.loop-turn.invariant _ _
    (subst (λ (v : Grant). TakesTurns (8 - c.loop-turn._turn) c.loop-turn.pending (ended.Unsure v.ticket) s s) (sym c.pending.view_is)
    (no_turn c.loop-turn._turn c.loop-turn.pending s (omega arith)))
