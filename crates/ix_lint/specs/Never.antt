-- `never`: a node of which no word is complete, by its form.
use Rattle.std.specs.Prelude.{Bool, false, not, ◌&&◌, ◌||◌, ◌==◌, List, Option, Some, None}
use Rattle.std.specs.Prelude.{if◌then◌else◌}
use Rattle.std.specs.List.{list_any}
use Rattle.ix_expr.specs.Form.{Form, atom, opt, seq, star, par, par_star, or, and, couple}
use Rattle.ix_expr.specs.Form.{any, every, sync, all, times}
use Rattle.ix_expr.specs.Tests.{accepts_empty}
use Rattle.ix_lint.specs.declared.finding.FindingKind.{FindingKind}
use Rattle.ix_lint.specs.declared.finding.FindingKind.TheVariants.{Never}
use Rattle.ix_lint.specs.Names.{each_names}

-- whether no word is complete, by form: an `all` over a body that the empty word doesn't complete;
-- a `sync` or an `every` over such a body, all of whose atoms name the parameter; a `-`, `+`, `&`
-- or `@` with an operand of which no word is complete; a `|` of two such; and an `any`, an `every`,
-- a `sync` and a `times` (of one run at least) over one
abbrev pub is_never : Form → Bool
is_never (atom x) = false
is_never (opt y) = false
is_never (seq y z) = is_never y || is_never z
is_never (star y) = false
is_never (par y z) = is_never y || is_never z
is_never (par_star y) = false
is_never (or y z) = is_never y && is_never z
is_never (and y z) = is_never y || is_never z
is_never (couple y z) = is_never y || is_never z
is_never (any p y) = is_never y
is_never (every p y) = (each_names p y && not (accepts_empty y)) || is_never y
is_never (sync p y) = (each_names p y && not (accepts_empty y)) || is_never y
is_never (all p y) = not (accepts_empty y)
is_never (times n y) = not (n == 0) && is_never y

-- the finding at a node below these: no node above it is one
abbrev pub never : List Form → Form → Option FindingKind
never above x = if is_never x && not (list_any is_never above) then Some Never else None
