use Rattle.ix_client.proofs.LinkLemmas.{fails_again}
use Rattle.ix_client.proofs.manager_link.ManagerLink.fail_behind.Goals as goal

pub returns-clause-calls : goal.returns-clause-calls
returns-clause-calls c = λ m there asked of.
    fails_again c.texts_stand_for_one_expression.ensures asked c.exchange.result c.exchange.new.out.items m c.args.self.now c.exchange.new.self
    c.start_again.new.self there (c.exchange.ensures.keeps m there asked of) c.exchange.ensures.text c.exchange.ensures.limit c.start_again.ensures.told
    c.start_again.ensures.started c.count_fault.new.self c.exchange.ensures.faults c.start_again.ensures.faults c.count_fault.ensures.one
