use Rattle.std.proofs.Common.{◌≡◌, ◌+◌, drop, map}
use Rattle.ix_tree.specs.Plain.{listed}
use Rattle.ix_tree.specs.PlainOf.{plain_map}
use Rattle.ix_tree.specs.Size.{size_of}
use Rattle.ix_tree.proofs.size.maps_size.Given as goal

abbrev pub invariant-loop-map : goal.invariant-loop-map
invariant-loop-map l = l.sum + size_of (listed (map plain_map (drop l.map-index l.maps))) ≡ size_of (listed (map plain_map l.maps))
