-- The atoms of an expression, with the numbers of their nodes.
use Rattle.std.specs.Prelude.{ℕ, List, [], ◌∷◌}
use Rattle.std.specs.List.{flat_map}
use Rattle.ix_expr.specs.Form.{Form, atom}
use Rattle.ix_lint.specs.declared.places.Place.{Place}
use Rattle.ix_lint.specs.Nodes.{forms, numbered}

-- the atom at the node of this number, if it is one
abbrev pub place_at : ℕ → Form → List Place
place_at n (atom x) = record { node = n; atom = x } ∷ []
place_at n x = []

-- the atoms in pre-order, where the nodes are counted from n
abbrev pub places : ℕ → Form → List Place
places n x = flat_map (λ node. place_at node.0 node.1) (numbered n (forms x))
