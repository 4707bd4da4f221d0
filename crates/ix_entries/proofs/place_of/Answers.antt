use Rattle.std.proofs.Common.{rules}
use Rattle.std.proofs.lemmas.Fn.{always_returns_same}
use Rattle.ix_entries.proofs.place_of.Goals as goal

pub returns-clause-position : goal.returns-clause-position
returns-clause-position g c =
    c.binary_search_by.ensures.position (λ (entry : g.row.K.Denot × g.row.T.Denot). g.K.Ord.cmp entry.0 c.args.key.now) (always_returns_same _ _ _ (λ a r f called. search rules))
