use Rattle.std.proofs.Common.{sym, subst}
use Rattle.ix_many.specs.inside.Streams.{KeepsStreams, Streams}
use Rattle.ix_many.proofs.Numbers.{comes_only}
use Rattle.ix_many.proofs.wire.Wire.next.Goals as goal

pub returns-in-Some-receive-clause-streams : goal.returns-in-Some-receive-clause-streams
returns-in-Some-receive-clause-streams g c =
    comes_only c.in-Some-next_turn.place c.in-Some-receive.kind c.args.self.now.streams c.next_turn.new.self c.receive.new.self
    (subst (λ (streams : Streams). KeepsStreams c.args.self.now.streams streams) (sym c.next_turn.ensures.streams) c.loop.invariant.0)
    c.in-Some-receive.ensures.streams
