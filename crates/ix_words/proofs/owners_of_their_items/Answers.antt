use Rattle.ix_words.proofs.Owners.{Owned-pairs}
use Rattle.ix_words.proofs.owners_of_their_items.Goals as goal

pub returns : goal.returns
returns g c = λ same q own s g. Owned-pairs s g
