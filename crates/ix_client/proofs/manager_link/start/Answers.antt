use Rattle.std.proofs.Common.{subst}
use Rattle.ix_client.specs.inside.ManagerCalls.{FailsToStart}
use Rattle.ix_client.proofs.CallCounts.{fails_to_start, if_err}
use Rattle.ix_client.proofs.manager_link.start.Goals as goal

pub returns-in-Ok-clause-none : goal.returns-in-Ok-clause-none
returns-in-Ok-clause-none c = λ told x stands.
    let same = c.texts_stand_for_one_expression.ensures c.args.text.now c.in-Ok.expression x c.in-Ok.ensures.ok stands in
    if_err (FailsToStart x c.args.limit c.args.site.now.image) c.start.result
    (λ why is.
    subst (λ y. FailsToStart y c.args.limit c.args.site.now.image why) same
    (fails_to_start c.args.limit c.in-Ok.expression c.args.site.now c.start.result told (λ above. (c.start.ensures.large above).0)
    c.start.ensures.only_large c.start.ensures.not_large why is))
