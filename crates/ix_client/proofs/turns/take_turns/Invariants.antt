use Rattle.std.specs.Prelude.{◌-◌}
use Rattle.ix_client.specs.Client.{TakesTurns}
use Rattle.ix_client.specs.Links.{LinkState}
use Rattle.ix_client.specs.declared.ended.Ended.{Ended}
use Rattle.ix_client.proofs.turns.take_turns.Given as goal

-- what the turns that are left come to, all of them come to
abbrev pub invariant-loop-turn : goal.invariant-loop-turn
invariant-loop-turn g l = (how : Ended) (u : LinkState)
    → TakesTurns (8 - l._turn) l.pending how (g.L.Link.state l.link) u
    → TakesTurns 8 l.fn.first how (g.L.Link.state l.fn.link) u
