use Rattle.ix_blocks.proofs.Runs.{earlier, syncs_of_last, once, file_stays}
use Rattle.ix_blocks.proofs.laws.only_the_last_owner_writes.Goals as goal

pub returns-clause-earlier : goal.returns-clause-earlier
returns-clause-earlier c = earlier

pub returns-clause-syncs : goal.returns-clause-syncs
returns-clause-syncs c = syncs_of_last

pub returns-clause-once : goal.returns-clause-once
returns-clause-once c = once

pub returns-clause-file : goal.returns-clause-file
returns-clause-file c = file_stays
