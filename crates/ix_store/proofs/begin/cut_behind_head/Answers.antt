use Rattle.ix_outside.proofs.Passing.{DiskCalls-none}
use Rattle.ix_store.proofs.Beginning.{cut_now}
use Rattle.ix_store.proofs.Calls.{one, first_call}
use Rattle.ix_store.proofs.Told.{cuts_keep}
use Rattle.ix_store.specs.inside.Steps.{IsBegun}
use Rattle.ix_store.proofs.begin.cut_behind_head.Goals as goal

pub returns-then-bytes-le1-clause-calls : goal.returns-then-bytes-le1-clause-calls
returns-then-bytes-le1-clause-calls g c = DiskCalls-none _ _ (g.met.S.Site.lawful c.args.site.now)

pub returns-clause-calls : goal.returns-clause-calls
returns-clause-calls g c =
    one _ _ _ _ c.requires.attached c.cut.ensures.attached c.cut.ensures.call c.cut.ensures.rest
    (cuts_keep 1 c.cut.result _ _ c.cut.ensures.file)

pub returns-clause-images : goal.returns-clause-images
returns-clause-images g c text begun =
    first_call (IsBegun text) _ _ _ _ (g.met.S.Site.lawful c.args.site.now) c.cut.ensures.call begun
    (cut_now text c.cut.result _ _ c.cut.ensures.now begun)
