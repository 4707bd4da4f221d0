use Rattle.std.proofs.Common.{refl}
use Rattle.ix_client.specs.Client.{again, done, unsure}
use Rattle.ix_client.proofs.turns.take_turn.Goals as goal

pub returns-in-Done : goal.returns-in-Done
returns-in-Done g c = done c.in-Done.number c.in-Done.ensures refl

pub returns-in-Open : goal.returns-in-Open
returns-in-Open g c = again c.in-Open.granted c.confirm.result _ c.in-Open.ensures c.confirm.ensures c.after_confirm.ensures

pub returns-in-Unsure : goal.returns-in-Unsure
returns-in-Unsure g c = unsure c.in-Unsure.back c.in-Unsure.ensures refl
