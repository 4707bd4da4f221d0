-- `apart`: a `&` of which one side has an atom whose name and number of arguments no atom of the
-- other has.
use Rattle.std.specs.Prelude.{Bool, false, List, [], ◌∷◌, ◌++◌, length, Option, Some, None}
use Rattle.std.specs.Prelude.{if◌then◌else◌}
use Rattle.std.specs.List.{list_any, flat_map}
use Rattle.ix_expr.specs.Form.{PlainAtom, Form, atom, and}
use Rattle.ix_lint.specs.declared.finding.FindingKind.{FindingKind}
use Rattle.ix_lint.specs.declared.finding.FindingKind.TheVariants as kind
use Rattle.ix_lint.specs.Nodes.{forms, first}
use Rattle.ix_expr.specs.Atoms.{are_alike}

-- whether it is an atom with the name and the number of arguments of this one
abbrev pub is_alike : PlainAtom → Form → Bool
is_alike s (atom t) = are_alike s t
is_alike s x = false

-- whether an atom of the expression has the name and the number of arguments of this one
abbrev pub has_alike : Form → PlainAtom → Bool
has_alike x s = list_any (is_alike s) (forms x)

-- the atom that stands here, if none of the other expression is alike
abbrev pub lone_at : Form → Form → List PlainAtom
lone_at other (atom x) = if has_alike other x then [] else (x ∷ [])
lone_at other x = []

-- the atoms to which none of the other expression is alike
abbrev pub lone_atoms : Form → Form → List PlainAtom
lone_atoms other x = flat_map (lone_at other) (forms x)

-- the finding for an atom
abbrev pub apart_for : Option PlainAtom → Option FindingKind
apart_for None = None
apart_for (Some x) = Some (kind.Apart x.name (length x.arguments))

-- the finding at a node: of a `&` the first such atom of either side
abbrev pub apart : Form → Option FindingKind
apart (and y z) = apart_for (first (lone_atoms z y ++ lone_atoms y z))
apart x = None
