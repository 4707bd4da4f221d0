use Rattle.std.proofs.Common.{sym, ◌∙◌}
use Rattle.std.proofs.lemmas.Bool.{false≢true}
use Rattle.ix_manage.specs.Trace.{complete, partial}
use Rattle.ix_manage.proofs.follow.verdict.Goals as goal

pub returns-then-is_complete : goal.returns-then-is_complete
returns-then-is_complete c = complete (c.is_complete.ensures.0 c.if-is_complete.true)

pub returns-else-is_complete : goal.returns-else-is_complete
returns-else-is_complete c = partial (λ whole. false≢true (sym c.if-is_complete.false ∙ c.is_complete.ensures.1 whole))
