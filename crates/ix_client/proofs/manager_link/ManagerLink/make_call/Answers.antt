use Rattle.std.proofs.Common.{rules, ◌≡◌, Some, true, sym, ◌∙◌, ap, subst}
use Rattle.ix_client.specs.Links.{Calls}
use Rattle.ix_client.specs.inside.ManagerLinks.{link_state}
use Rattle.ix_client.proofs.CallCounts.{failed_counts, fails_early, fails_late, noted_counts, passes}
use Rattle.ix_client.proofs.LinkLemmas.{calls_noted, some_manager}
use Rattle.ix_client.proofs.manager_link.ManagerLink.make_call.Goals as goal

pub returns-in-None-clause-calls : goal.returns-in-None-clause-calls
returns-in-None-clause-calls c = λ asked of.
    let there = some_manager c.note-failing.new.self.manager (sym c.if-not-has_manager.ensures) in
    calls_noted asked c.pass_on.result c.args.line.now c.pass_on.new.out.items c.args.self.now c.note-failing.new.self c.pass_on.new.self
    c.note-failing.ensures.noted (c.pass_on.ensures.calls there.0 there.1 asked of)

pub returns-in-Some-true-clause-calls : goal.returns-in-Some-true-clause-calls
returns-in-Some-true-clause-calls c = λ asked of.
    let there = some_manager c.note-failing.new.self.manager (sym c.if-not-has_manager.ensures) in
    calls_noted asked c.fail_behind.result c.args.line.now c.fail_behind.new.out.items c.args.self.now c.note-failing.new.self c.fail_behind.new.self
    c.note-failing.ensures.noted (c.fail_behind.ensures.calls there.0 there.1 asked of)

pub returns-in-Some-false-clause-calls : goal.returns-in-Some-false-clause-calls
returns-in-Some-false-clause-calls c = λ asked of.
    let there = some_manager c.note-failing.new.self.manager (sym c.if-not-has_manager.ensures) in
    calls_noted asked c.fail.result c.args.line.now c.args.out.now.items c.args.self.now c.note-failing.new.self c.fail.new.self c.note-failing.ensures.noted
    (subst (λ l. Calls asked c.fail.result l (link_state c.note-failing.new.self) (link_state c.fail.new.self)) (sym c.requires.empty)
    (c.fail.ensures.calls there.0 there.1 asked))

pub returns-in-None-clause-went : goal.returns-in-None-clause-went
returns-in-None-clause-went c = λ m is asked of.
    let there = some_manager c.note-failing.new.self.manager (sym c.if-not-has_manager.ensures) in
    passes asked c.pass_on.result c.pass_on.new.out.items c.args.self.now c.pass_on.new.self (sym c.note-failing.ensures.failing ∙ c.in-None.is)
    (noted_counts asked c.pass_on.result c.args.line.now c.pass_on.new.out.items c.args.self.now c.note-failing.new.self c.pass_on.new.self
    c.note-failing.ensures.noted (c.pass_on.ensures.went there.0 there.1 asked of))

pub returns-in-Some-true-clause-went : goal.returns-in-Some-true-clause-went
returns-in-Some-true-clause-went c = λ m is asked of.
    let mid = c.note-failing.new.self in
    let new = c.fail_behind.new.self in
    let line = c.fail_behind.new.out.items in
    let result = c.fail_behind.result in
    let behind : c.in-Some-true.field-0 ≡ true = search rules in
    fails_late asked result line c.args.self.now new (sym c.note-failing.ensures.failing ∙ c.in-Some-true.is ∙ ap Some behind) c.fail_behind.ensures.failed
    (noted_counts asked result c.args.line.now line c.args.self.now mid new c.note-failing.ensures.noted
    (failed_counts asked result line mid new c.fail_behind.ensures.failed c.fail_behind.ensures.counted c.fail_behind.ensures.balks))

pub returns-in-Some-false-clause-went : goal.returns-in-Some-false-clause-went
returns-in-Some-false-clause-went c = λ m is asked of.
    let mid = c.note-failing.new.self in
    let new = c.fail.new.self in
    let line = c.args.out.now.items in
    let result = c.fail.result in
    fails_early asked result line c.args.line.now c.args.self.now mid new c.fail.ensures.failed c.note-failing.ensures.noted c.fail.ensures.started
    (noted_counts asked result c.args.line.now line c.args.self.now mid new c.note-failing.ensures.noted
    (failed_counts asked result line mid new c.fail.ensures.failed c.fail.ensures.counted c.fail.ensures.balks))
