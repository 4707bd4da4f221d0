use Rattle.std.proofs.Common.{refl, sym, ◌∙◌, ap, subst, arith}
use Rattle.std.specs.Prelude.{is_some}
use Rattle.ix_client.specs.Links.{Calls, IsExpected, IsLineWith}
use Rattle.ix_client.specs.inside.ManagerLinks.{link_state}
use Rattle.ix_client.specs.inside.ManagerCalls.{CountsCall, CountsNone}
use Rattle.ix_client.specs.inside.ManagerLinks.{ManagerLinkState}
use Rattle.ix_client.specs.inside.Passing.{KeepsAsked}
use Rattle.ix_client.proofs.CallCounts.{answered_counts, answered_kept, ended_counts, failed_counts}
use Rattle.ix_client.proofs.LinkLemmas.{answers_line, ends_in_disk, expected_of, fails_again}
use Rattle.ix_client.proofs.manager_link.ManagerLink.pass_on.Goals as goal

pub returns-in-Answered-clause-calls : goal.returns-in-Answered-clause-calls
returns-in-Answered-clause-calls c = λ m there asked of.
    let line = c.exchange.new.out.items in
    let old = c.args.self.now in
    let new = c.answer.new.self in
    subst (λ r. Calls asked r line (link_state old) (link_state new)) (sym c.answer.ensures.ok)
    (answers_line asked c.exchange.result line m old c.exchange.new.self new c.in-Answered.is there (c.exchange.ensures.keeps m there asked of)
    c.answer.ensures.manager c.answer.ensures.site
    (expected_of asked c.as_slice.result.now line c.exchange.new.self.balks old.balks new.balks c.as_slice.ensures.value c.exchange.ensures.balks
    (c.answer.ensures.expected asked of)))

pub returns-in-Ended-clause-calls : goal.returns-in-Ended-clause-calls
returns-in-Ended-clause-calls c = λ m there asked of.
    let line = c.exchange.new.out.items in
    let old = c.args.self.now in
    let new = c.answer-in-Ended.new.self in
    subst (λ r. Calls asked r line (link_state old) (link_state new)) (sym c.answer-in-Ended.ensures.ok)
    (ends_in_disk c.texts_stand_for_one_expression.ensures asked c.exchange.result line m old c.exchange.new.self c.start_again.new.self there
    (c.exchange.ensures.keeps m there asked of) c.exchange.ensures.text c.exchange.ensures.limit c.start_again.ensures.told
    c.start_again.ensures.started new c.in-Ended.is c.answer-in-Ended.ensures.manager c.answer-in-Ended.ensures.site
    (expected_of asked c.as_slice-in-Ended.result.now line c.start_again.new.self.balks old.balks new.balks c.as_slice-in-Ended.ensures.value
    (c.start_again.ensures.balks ∙ c.exchange.ensures.balks) (c.answer-in-Ended.ensures.expected asked of)))

pub returns-in-Lost-clause-calls : goal.returns-in-Lost-clause-calls
returns-in-Lost-clause-calls c = λ m there asked of.
    fails_again c.texts_stand_for_one_expression.ensures asked c.exchange.result c.exchange.new.out.items m c.args.self.now c.exchange.new.self
    c.start_again-in-Lost.new.self there (c.exchange.ensures.keeps m there asked of) c.exchange.ensures.text c.exchange.ensures.limit
    c.start_again-in-Lost.ensures.told c.start_again-in-Lost.ensures.started c.count_fault.new.self c.exchange.ensures.faults
    c.start_again-in-Lost.ensures.faults c.count_fault.ensures.one

pub returns-in-Answered-clause-went : goal.returns-in-Answered-clause-went
returns-in-Answered-clause-went c = λ m there asked of.
    let line = c.exchange.new.out.items in
    let old = c.args.self.now in
    let mid = c.exchange.new.self in
    let new = c.answer.new.self in
    subst (λ r. CountsCall asked r line old new) (sym c.answer.ensures.ok)
    (answered_counts asked line old new
    (ap is_some c.answer.ensures.manager
    ∙ answered_kept asked mid.manager line m mid.site
    (subst (λ p. KeepsAsked asked p mid.manager line m mid.site) c.in-Answered.is (c.exchange.ensures.keeps m there asked of).keeps))
    (c.answer.ensures.faults ∙ c.exchange.ensures.faults)
    (λ with_.
    c.answer.ensures.stay asked of (subst (IsLineWith (IsExpected asked)) (sym c.as_slice.ensures.value) with_)
    ∙ c.exchange.ensures.balks))

pub returns-in-Ended-clause-went : goal.returns-in-Ended-clause-went
returns-in-Ended-clause-went c = λ m there asked of.
    let line = c.exchange.new.out.items in
    let old = c.args.self.now in
    let started = c.start_again.new.self in
    let new = c.answer-in-Ended.new.self in
    subst (λ r. CountsCall asked r line old new) (sym c.answer-in-Ended.ensures.ok)
    (ended_counts asked line old new started.manager c.exchange.new.self.faults c.answer-in-Ended.ensures.manager c.exchange.ensures.faults
    (subst (CountsNone started.manager c.exchange.new.self.faults) (sym c.answer-in-Ended.ensures.faults) c.start_again.ensures.counted)
    (λ with_.
    c.answer-in-Ended.ensures.stay asked of (subst (IsLineWith (IsExpected asked)) (sym c.as_slice-in-Ended.ensures.value) with_)
    ∙ c.start_again.ensures.balks ∙ c.exchange.ensures.balks))

pub returns-in-Lost-clause-went : goal.returns-in-Lost-clause-went
returns-in-Lost-clause-went c = λ m there asked of.
    let new = c.count_fault.new.self in
    let counted = ap (λ (s : ManagerLinkState). s.faults) c.count_fault.ensures.one in
    let same = c.exchange.ensures.faults in
    let more = c.start_again-in-Lost.ensures.faults in
    failed_counts asked _ _ c.args.self.now new refl (omega (arith, counted, same, more))
    (ap (λ (s : ManagerLinkState). s.balks) c.count_fault.ensures.one ∙ c.start_again-in-Lost.ensures.balks ∙ c.exchange.ensures.balks)
