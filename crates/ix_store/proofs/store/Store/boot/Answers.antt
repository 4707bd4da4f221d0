use Rattle.std.proofs.Common.{subst}
use Rattle.std.proofs.lemmas.List.{append-nil}
use Rattle.ix_journal.specs.History.{PlainHistory}
use Rattle.ix_store.specs.inside.Keeping.{FitsFile}
use Rattle.ix_store.specs.inside.KeptBy.{kept}
use Rattle.ix_store.proofs.Histories.{booted_or_not}
use Rattle.ix_store.proofs.store.Store.boot.Goals as goal

pub returns-clause-fits : goal.returns-clause-fits
returns-clause-fits g c text history fits =
    let site = c.append_record.new.site in
    subst (λ (h : PlainHistory). FitsFile (g.S.Site.state site) (g.S.Site.crashes site)
    (kept c.append_record.new.self) text h)
    (append-nil history) (c.in_ok-append_record.ensures.appended text history fits)

pub returns-clause-images : goal.returns-clause-images
returns-clause-images g c text history fits disk told image left =
    booted_or_not text history c.args.self.now.marks image
    (c.append_record.ensures.images text history fits disk told image left)

pub returns-in_err-append_record-clause-images : goal.returns-in_err-append_record-clause-images
returns-in_err-append_record-clause-images g c text history fits disk told image left =
    booted_or_not text history c.args.self.now.marks image
    (c.append_record.ensures.images text history fits disk told image left)
