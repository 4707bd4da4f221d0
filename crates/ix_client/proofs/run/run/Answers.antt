use Rattle.ix_client.specs.Client.{serves}
use Rattle.ix_client.proofs.run.run.Goals as goal

pub returns-in-Some : goal.returns-in-Some
returns-in-Some g c = serves c.in-Some.wanted.action c.in-Some.wanted.lease c.in-Some.ensures c.ask_and_confirm.ensures
