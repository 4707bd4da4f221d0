use Rattle.std.proofs.Common.{◌≡◌}
use Rattle.ix_manage.specs.inside.Working.{HasAsked}
use Rattle.ix_manage.proofs.work.ask_all.Given as goal

-- as many asks were made and counted as turns were taken
abbrev pub invariant-loop-ask : goal.invariant-loop-ask
invariant-loop-ask l =
    HasAsked l.fn.engine.form l.names.limit l.names.seed l._ask l.granted l.refused
    l.engine.history l.workload
    × (l.engine.form ≡ l.fn.engine.form)
    × (l.engine.limit ≡ l.fn.engine.limit)
