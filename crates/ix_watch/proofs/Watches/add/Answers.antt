use Rattle.std.proofs.Common.{sym, ap, ◌∙◌}
use Rattle.ix_watch.specs.inside.Watches.{marked}
use Rattle.ix_watch.proofs.WatchLemmas.{told_again-place}
use Rattle.ix_watch.proofs.Watches.add.Goals as goal

-- the pair is there
pub returns-in-Some : goal.returns-in-Some
returns-in-Some c =
    let facts = c.in-Some.ensures in
    let told = c.args.told in (
      sym facts.found,
      c.mark.ensures ∙ ap (λ place. marked c.args.self.now place told told) facts.place
          ∙ sym (told_again-place c.args.name c.args.action told c.args.self.now facts.distinct),
    )
