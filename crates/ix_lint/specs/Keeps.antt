-- `keeps`: what is finished can't begin again, so each value that was touched stays in the state.
use Rattle.std.specs.Prelude.{Bool, false, not, ◌&&◌, List, Option, Some, None, if◌then◌else◌}
use Rattle.std.specs.List.{list_any}
use Rattle.ix_expr.specs.Form.{Form, sync, all}
use Rattle.ix_lint.specs.declared.finding.FindingKind.{FindingKind}
use Rattle.ix_lint.specs.declared.finding.FindingKind.TheVariants as kind
use Rattle.ix_lint.specs.Nodes.{forms, is_iteration}
use Rattle.ix_lint.specs.Names.{each_names}

-- whether a `*` or a `#` stands in the expression
abbrev pub has_iteration : Form → Bool
has_iteration x = list_any is_iteration (forms x)

-- whether it is an `all`, or a `sync` all of whose atoms name the parameter, over a body without
-- `*` and `#`
abbrev pub is_kept : Form → Bool
is_kept (sync p y) = each_names p y && not (has_iteration y)
is_kept (all p y) = not (has_iteration y)
is_kept x = false

-- the finding at a node below these: none of them is a `*` or a `#`
abbrev pub keeps : List Form → Form → Option FindingKind
keeps above x = if is_kept x && not (list_any is_iteration above) then Some kind.Keeps else None
