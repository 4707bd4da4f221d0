use Rattle.std.proofs.lemmas.Bool.{false≢true}
use Rattle.ix_client.proofs.manager_link.ManagerLink.answer.Goals as goal

pub returns-then-not-is_expected-clause-stay : goal.returns-then-not-is_expected-clause-stay
returns-then-not-is_expected-clause-stay c = λ asked of with_. absurd (false≢true (c.if-not-is_expected.ensures.all asked of with_))
