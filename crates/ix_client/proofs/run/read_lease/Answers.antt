use Rattle.std.proofs.Common.{arith}
use Rattle.ix_client.proofs.WordLemmas.{no_lease}
use Rattle.ix_client.proofs.run.read_lease.Goals as goal

pub returns-then-number-eq0 : goal.returns-then-number-eq0
returns-then-number-eq0 c = λ lease is same. no_lease c.args.text.now c.in-Some.number lease (omega arith) c.in-Some.ensures is same
