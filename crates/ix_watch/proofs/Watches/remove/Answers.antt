use Rattle.std.proofs.Common.{sym, ap, ◌∙◌}
use Rattle.std.specs.List.{remove}
use Rattle.ix_watch.specs.inside.Kept.{watches_of}
use Rattle.ix_watch.proofs.EntryLemmas.{watches-remove}
use Rattle.ix_watch.proofs.WatchLemmas.{without-place, without-absent}
use Rattle.ix_watch.proofs.Watches.remove.Goals as goal

-- the pair isn't there
pub returns-in_default-clause-others : goal.returns-in_default-clause-others
returns-in_default-clause-others c = sym (without-absent c.args.name.now c.args.action.now c.args.self.now (sym c.in_default.ensures.found))

-- the pair is there
pub returns-clause-others : goal.returns-clause-others
returns-clause-others c =
    let facts = c.in-Some.ensures in
    ap watches_of c.shift_remove_index.ensures.entries ∙ watches-remove c.self.inside.marks.entries c.in-Some.index
    ∙ ap (λ ws. remove ws c.in-Some.index) c.self.view_is ∙ ap (λ place. remove c.args.self.now place) facts.place
    ∙ sym (without-place c.args.name.now c.args.action.now c.args.self.now facts.distinct)
