use Rattle.std.proofs.Common.{rules, refl}
use Rattle.std.specs.List.Sorted.{IsStrictlySortedBy}
use Rattle.ix_alts.proofs.alt_set.AltSet.new.Goals as goal

pub invariant_of-result : goal.invariant_of-result
unfolding IsStrictlySortedBy
invariant_of-result g c =
    rw c.new.ensures.items (record {
      ascending = tt;
      counted = refl;
      within = search rules;
      small = c.requires;
    })
