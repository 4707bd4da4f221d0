use Rattle.std.proofs.Common.{sym, ◌∙◌, ap, subst}
use Rattle.ix_memory.specs.inside.MemorySiteState.{MemorySiteState}
use Rattle.ix_client.specs.inside.ManagerLinks.{ManagerLinkState}
use Rattle.ix_client.specs.inside.Passing.{StartedFrom}
use Rattle.ix_client.proofs.LinkLemmas.{fails_in_front}
use Rattle.ix_client.proofs.manager_link.ManagerLink.fail.Goals as goal

pub returns-clause-calls : goal.returns-clause-calls
returns-clause-calls c = λ m there asked.
    fails_in_front c.texts_stand_for_one_expression.ensures m c.args.self.now c.start_again.new.self c.count_fault.new.self there
    c.start_again.ensures.manages c.start_again.ensures.told c.start_again.ensures.started c.start_again.ensures.faults c.count_fault.ensures.one

pub returns-clause-started : goal.returns-clause-started
returns-clause-started c = λ n is.
    let one = c.count_fault.ensures.one in
    let old = c.args.self.now in
    subst (λ (site : MemorySiteState). StartedFrom old.text old.limit n old.site site) (sym (ap (λ (l : ManagerLinkState). l.site) one))
    (c.start_again.ensures.started n (sym (ap (λ (l : ManagerLinkState). l.manager) one) ∙ is))
