use Rattle.ix_next.proofs.Complete.{menu_complete}
use Rattle.ix_next.proofs.laws.the_menu_is_complete.Goals as goal

pub returns : goal.returns
returns c = menu_complete
