use Rattle.ix_manage.specs.inside.Pasts.{stops}
use Rattle.ix_manage.proofs.past.take.Goals as goal

pub returns-in-Err-clause-refused : goal.returns-in-Err-clause-refused
returns-in-Err-clause-refused c =
    stops c.in-Err.fault c.in_ok-actions.ensures c.in-Err.ensures.refused c.past_refusal.ensures
