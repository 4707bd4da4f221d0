use Rattle.ix_values.proofs.TextsApart.{texts_apart}
use Rattle.ix_values.proofs.writing.texts_tell_actions_apart.Goals as goal

pub returns : goal.returns
returns c = texts_apart
