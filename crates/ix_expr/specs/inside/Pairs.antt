-- A test of an argument beside the value in its place.
use Rattle.std.specs.Prelude.{ℕ, List, Bool, ◌&&◌}
use Rattle.ix_values.specs.Order.{text_eq}
use Rattle.ix_expr.specs.declared.arg.Arg.{Arg}
use Rattle.ix_expr.specs.FormFaults.{is_parameter}

-- whether the pair is the parameter p beside the value v
abbrev pub is_pair : List ℕ → List ℕ → Arg × List ℕ → Bool
is_pair p v pair = is_parameter p pair.0 && text_eq pair.1 v
