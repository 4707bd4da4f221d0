-- `value`: a fixed argument that is the name of a parameter in scope.
use Rattle.std.specs.Prelude.{ℕ, Bool, false, not, ◌&&◌, List, take, slice_get, Option, Some, None}
use Rattle.std.specs.Prelude.{if◌then◌else◌}
use Rattle.std.specs.List.{list_any}
use Rattle.ix_values.specs.Order.{text_eq}
use Rattle.ix_expr.specs.declared.arg.Arg.{Arg}
use Rattle.ix_expr.specs.declared.arg.Arg.TheVariants.{Fixed, Param}
use Rattle.ix_expr.specs.Form.{Form, atom}
use Rattle.ix_lint.specs.declared.finding.FindingKind.{FindingKind}
use Rattle.ix_lint.specs.declared.finding.FindingKind.TheVariants as kind
use Rattle.ix_lint.specs.Nodes.{binds}

-- whether the argument is this fixed value
abbrev pub is_fixed : List ℕ → Arg → Bool
is_fixed v (Fixed u) = text_eq v u
is_fixed v (Param p) = false

-- the finding for an argument below these nodes and behind these arguments: a fixed value that a
-- quantifier above binds as a parameter, and that is none of the arguments before it
abbrev pub value_for : List Form → List Arg → Option Arg → Option FindingKind
value_for above before None = None
value_for above before (Some (Param p)) = None
value_for above before (Some (Fixed v)) =
    if list_any (binds v) above && not (list_any (is_fixed v) before) then Some (kind.Value v)
    else None

-- the finding at a node below these, for the argument in this place
abbrev pub value : List Form → Form → ℕ → Option FindingKind
value above (atom x) place = value_for above (take place x.arguments) (slice_get x.arguments place)
value above x place = None
