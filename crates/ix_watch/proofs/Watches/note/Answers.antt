use Rattle.std.proofs.Common.{◌∙◌}
use Rattle.ix_watch.specs.inside.Kept.{watch_of}
use Rattle.ix_watch.proofs.WatchLemmas.{noted-marked}
use Rattle.ix_watch.proofs.Watches.note.Goals as goal

pub returns : goal.returns
returns c = c.mark.ensures ∙ noted-marked c.args.self.now c.args.index (watch_of (c.entry.result.0.now, c.entry.result.1.now)) c.args.now c.entry.ensures
