use Rattle.std.proofs.Common.{subst}
use Rattle.ix_watch.specs.inside.Watches.{AreDistinct}
use Rattle.ix_watch.proofs.EntryLemmas.{distinct-keys}
use Rattle.ix_watch.proofs.Watches.len.Goals as goal

pub returns-clause-distinct : goal.returns-clause-distinct
returns-clause-distinct c = subst AreDistinct c.self.view_is (distinct-keys c.self.inside.marks.entries c.len.ensures.unique)
