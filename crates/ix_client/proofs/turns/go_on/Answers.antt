use Rattle.std.proofs.Common.{sym, subst}
use Rattle.ix_client.specs.Client.{GoesOnAfter}
use Rattle.ix_client.proofs.turns.go_on.Goals as goal

pub returns-in-Unsure : goal.returns-in-Unsure
returns-in-Unsure g c =
    subst (λ first. GoesOnAfter first c.take_turns.result (g.L.Link.state c.args.link.now) (g.L.Link.state c.take_turns.new.link))
    (sym c.in-Unsure.is) c.take_turns.ensures
