use Rattle.std.proofs.Common.{sym, ap, ◌∙◌}
use Rattle.std.specs.Option.{unwrap_or}
use Rattle.ix_can.proofs.Keys.{state_of_value}
use Rattle.ix_why.proofs.state.state_in.Goals as goal

pub returns-in-Some : goal.returns-in-Some
returns-in-Some c = λ common. sym (ap (λ o. unwrap_or o common) c.in-Some.ensures) ∙ state_of_value c.args.entries.now common c.args.value.now

pub returns-in-None : goal.returns-in-None
returns-in-None c = λ common. sym (ap (λ o. unwrap_or o common) c.in-None.ensures) ∙ state_of_value c.args.entries.now common c.args.value.now
