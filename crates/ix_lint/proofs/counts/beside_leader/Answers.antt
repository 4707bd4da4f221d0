use Rattle.std.proofs.Common.{ap, ◌∙◌}
use Rattle.ix_lint.specs.Counts.{leader, counts_beside}
use Rattle.ix_lint.proofs.counts.beside_leader.Goals as goal

pub returns : goal.returns
returns c = c.counts_beside.ensures ∙ ap (counts_beside c.args.atom.now) (c.leader.ensures ∙ ap (leader c.args.places.now) c.name.ensures.value)
