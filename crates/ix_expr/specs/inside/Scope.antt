-- The quantifiers around a node, as the code keeps them, as a list.
use Rattle.std.specs.Prelude.{List, [], ◌∷◌}
use Rattle.ix_expr.specs.FormFaults.{Binder}
use Rattle.ix_expr.specs.declared.scope.Scope.{Scope, Whole, Inside'}

-- the inmost first
abbrev pub binders : Scope → List Binder
binders Whole = []
binders (Inside' is_all parameter place outer) =
    record { is_all = is_all; parameter = parameter.now } ∷ binders outer
