use Rattle.std.proofs.Common.{sym, ap, ◌∙◌}
use Rattle.std.specs.Option.{unwrap_or}
use Rattle.ix_can.proofs.Keys.{state_of_value}
use Rattle.ix_can.proofs.values.state_at.Goals as goal

pub returns-in-Some : goal.returns-in-Some
returns-in-Some c = sym (ap (λ o. unwrap_or o c.args.common.now) c.in-Some.ensures) ∙ state_of_value c.args.entries.now c.args.common.now c.args.value.now

pub returns-in-None : goal.returns-in-None
returns-in-None c = sym (ap (λ o. unwrap_or o c.args.common.now) c.in-None.ensures) ∙ state_of_value c.args.entries.now c.args.common.now c.args.value.now
