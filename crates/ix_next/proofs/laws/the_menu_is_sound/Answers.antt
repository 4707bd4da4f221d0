use Rattle.ix_next.proofs.Complete.{menu_sound}
use Rattle.ix_next.proofs.laws.the_menu_is_sound.Goals as goal

pub returns : goal.returns
returns c = menu_sound
