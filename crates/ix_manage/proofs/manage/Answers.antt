use Rattle.ix_manage.proofs.Causes.{calls, causes, no_journal, no_socket}
use Rattle.ix_manage.proofs.Stops.{finish_ends}
use Rattle.ix_manage.proofs.manage.Goals as goal

pub returns-clause-ends : goal.returns-clause-ends
returns-clause-ends g c =
    finish_ends c.run-how.result (g.K.Sink.state c.args.out.now) (g.K.Sink.state c.run-how.new.out) (g.K.Sink.state c.finish.new.out)
    c.finish.result c.run-how.ensures.leaves c.run-how.ensures.puts.faults c.finish.ensures.finishes

-- the other clauses follow
pub returns-clause-file_fault : goal.returns-clause-file_fault
returns-clause-file_fault g c = (causes _ _ _ (returns-clause-ends g c).may).file

pub returns-clause-disk_fault : goal.returns-clause-disk_fault
returns-clause-disk_fault g c = (causes _ _ _ (returns-clause-ends g c).may).disk

pub returns-clause-wire_fault : goal.returns-clause-wire_fault
returns-clause-wire_fault g c = (causes _ _ _ (returns-clause-ends g c).may).wire

pub returns-clause-output_fault : goal.returns-clause-output_fault
returns-clause-output_fault g c = (returns-clause-ends g c).put_failed

pub returns-clause-site : goal.returns-clause-site
returns-clause-site g c = calls _ _ _ (returns-clause-ends g c).may

pub returns-clause-no_socket : goal.returns-clause-no_socket
returns-clause-no_socket g c = λ none. no_socket _ _ _ none (returns-clause-ends g c).may

pub returns-clause-no_journal : goal.returns-clause-no_journal
returns-clause-no_journal g c = λ none. no_journal _ _ _ none (returns-clause-ends g c).may
