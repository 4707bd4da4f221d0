use Rattle.ix_next.proofs.GivenTexts.{no_given}
use Rattle.ix_next.proofs.given.for_every_parameter.Goals as goal

-- src/given.rt:46:1
pub returns-in-None : goal.returns-in-None
returns-in-None c = no_given c.args.text.now c.requires c.in-None.ensures
