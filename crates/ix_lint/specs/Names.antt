-- Which atoms name a parameter; and `unused`: a quantifier whose parameter no atom of its body
-- names.
use Rattle.std.specs.Prelude.{ℕ, Bool, not, List, Option, Some, None, if◌then◌else◌}
use Rattle.std.specs.List.{list_all}
use Rattle.ix_expr.specs.Form.{Form, atom}
use Rattle.ix_expr.specs.Form.{any, every, sync, all}
use Rattle.ix_expr.specs.FormFaults.{names_parameter}
use Rattle.ix_expr.specs.Mentions.{some_names}
use Rattle.ix_lint.specs.declared.finding.FindingKind.{FindingKind}
use Rattle.ix_lint.specs.declared.finding.FindingKind.TheVariants.{Unused}
use Rattle.ix_lint.specs.Nodes.{forms, binds}

-- whether it is an atom that names the parameter, or an operator that doesn't bind it anew
abbrev pub keeps_naming : List ℕ → Form → Bool
keeps_naming p (atom x) = names_parameter p x
keeps_naming p x = not (binds p x)

-- whether every atom names the parameter, and no quantifier binds it anew
abbrev pub each_names : List ℕ → Form → Bool
each_names p x = list_all (keeps_naming p) (forms x)

-- the finding at a quantifier with this parameter and body
abbrev pub unused_in : List ℕ → Form → Option FindingKind
unused_in p y = if some_names p y then None else Some (Unused p)

-- the finding at a node
abbrev pub unused : Form → Option FindingKind
unused (any p y) = unused_in p y
unused (every p y) = unused_in p y
unused (sync p y) = unused_in p y
unused (all p y) = unused_in p y
unused x = None
