use Rattle.ix_script.proofs.OneFault.{faulty-no-events}
use Rattle.ix_script.proofs.laws.faulty_scripts_have_no_events.Goals as goal

pub returns : goal.returns
returns c = faulty-no-events
