use Rattle.std.proofs.Common.{◌≡◌, ℕ, ◌<◌, [], ◌∷◌, take, get_or}
use Rattle.ix_values.specs.inside.Padding.{padded}
use Rattle.ix_expr.specs.declared.arg.Arg.{Arg}
use Rattle.ix_expr.specs.declared.arg.Arg.TheVariants.{Fixed}
use Rattle.ix_expr.specs.Spelling.{IsArgument}
use Rattle.ix_expr.proofs.atom.zero_padded.Given as goal

abbrev pub invariant-loop-index : goal.invariant-loop-index
invariant-loop-index l = record {
  written : l.places ≡ padded 4 (Fixed (48 ∷ [])) (take l.index l.args);
  valid : (k : ℕ) (d : Arg) → k < l.index → IsArgument (get_or l.args k d);
}
