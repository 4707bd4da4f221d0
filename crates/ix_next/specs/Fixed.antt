-- The values that are fixed in an expression.
use Rattle.std.specs.Prelude.{ℕ, List, [], ◌∷◌}
use Rattle.std.specs.List.{flat_map}
use Rattle.ix_words.specs.Canon.{canon}
use Rattle.ix_values.specs.Order.{text_cmp}
use Rattle.ix_expr.specs.declared.arg.Arg.{Arg}
use Rattle.ix_expr.specs.declared.arg.Arg.TheVariants.{Fixed, Param}
use Rattle.ix_expr.specs.Form.{Form}
use Rattle.ix_expr.specs.Atoms.{atoms_of}

-- the value of a fixed argument
abbrev pub fixed_value : Arg → List (List ℕ)
fixed_value (Fixed v) = v ∷ []
fixed_value (Param p) = []

-- the values that are fixed in the expression, each once, ascending
abbrev pub fixed_in : Form → List (List ℕ)
fixed_in x = canon text_cmp (flat_map (λ s. flat_map fixed_value s.arguments) (atoms_of x))
