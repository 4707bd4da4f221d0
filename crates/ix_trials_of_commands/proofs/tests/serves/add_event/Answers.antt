use Rattle.ix_trials_of_commands.proofs.Coming.{come_push}
use Rattle.ix_trials_of_commands.proofs.tests.serves.add_event.Goals.{in-Ok, in-Err}
use Rattle.ix_trials_of_commands.proofs.tests.serves.add_event.Goals as goal

pub returns : goal.returns
returns c = record {
  all = elim c.match-push.branch [
    | in-Ok w ↦ rw (w.result-is, w.in-Ok.ensures.items)
        (come_push c.args.events.now.items c.args.event c.requires.all c.requires.one)
    | in-Err w ↦ rw w.result-is tt
  ];
}
