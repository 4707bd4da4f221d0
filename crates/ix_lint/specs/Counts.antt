-- `counts`: an atom whose name stands elsewhere with another number of arguments.
use Rattle.std.specs.Prelude.{ℕ, Bool, false, ◌&&◌, ◌==◌, List, length, max, fold, count_by}
use Rattle.std.specs.Prelude.{Option, Some, None, if◌then◌else◌}
use Rattle.std.specs.List.{find}
use Rattle.ix_values.specs.Order.{text_eq}
use Rattle.ix_expr.specs.Form.{PlainAtom, Form, atom}
use Rattle.ix_lint.specs.declared.finding.FindingKind.{FindingKind}
use Rattle.ix_lint.specs.declared.finding.FindingKind.TheVariants.{Counts}
use Rattle.ix_lint.specs.declared.places.Place.{Place}
use Rattle.ix_expr.specs.Atoms.{are_alike}

-- whether the atom at the place has the name and the number of arguments of this one
abbrev pub is_like : PlainAtom → Place → Bool
is_like x s = are_alike x s.atom

-- how many of the atoms are like this one
abbrev pub frequency : List Place → PlainAtom → ℕ
frequency places x = count_by (is_like x) places

-- the same, if the atom at the place has this name
abbrev pub named_frequency : List Place → List ℕ → Place → ℕ
named_frequency places name s = if text_eq s.atom.name name then frequency places s.atom else 0

-- the most that a number of arguments has, of the atoms with this name
abbrev pub greatest_frequency : List Place → List ℕ → ℕ
greatest_frequency places name = fold (λ most s. max (named_frequency places name s) most) 0 places

-- whether the atom at the place has this name and this frequency
abbrev pub is_leading : List Place → List ℕ → ℕ → Place → Bool
is_leading places name most s = text_eq s.atom.name name && (frequency places s.atom == most)

-- the first atom of this name whose number of arguments has the most
abbrev pub leader : List Place → List ℕ → Option Place
leader places name = find (is_leading places name (greatest_frequency places name)) places

-- whether the place is at this node
abbrev pub is_at_node : ℕ → Option Place → Bool
is_at_node n None = false
is_at_node n (Some s) = s.node == n

-- whether the atom at this node is the first of its name and number of arguments
abbrev pub is_first : List Place → ℕ → PlainAtom → Bool
is_first places n x = is_at_node n (find (is_like x) places)

-- the finding at an atom that isn't alike to the leader of its name
abbrev pub counts_beside : PlainAtom → Option Place → Option FindingKind
counts_beside x None = None
counts_beside x (Some s) = if are_alike x s.atom then None
    else Some (Counts x.name (length x.arguments) (length s.atom.arguments) s.node)

-- the finding at the node n, where these are the atoms of the whole expression
abbrev pub counts : List Place → ℕ → Form → Option FindingKind
counts places n (atom x) = if is_first places n x then counts_beside x (leader places x.name)
    else None
counts places n x = None
