use Rattle.std.proofs.Common.{None, refl, sym, subst}
use Rattle.ix_tree.specs.Plain.{map, none}
use Rattle.ix_why.specs.inside.Held.{kept_tree, maps_held, IsOwned}
use Rattle.ix_why.proofs.state.State.owned.Goals as goal

pub returns-in-Initial : goal.returns-in-Initial
returns-in-Initial c = subst (λ s. IsOwned c.args.value.now (maps_held (kept_tree s)) None) (sym c.in-Initial.is) (record { in_map = map none; alone = refl; tree = λ common. refl })
