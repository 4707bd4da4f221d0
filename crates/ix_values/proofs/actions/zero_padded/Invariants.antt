use Rattle.std.proofs.Common.{◌≡◌, ℕ, ◌<◌, List, [], ◌∷◌, take, get_or}
use Rattle.ix_values.specs.inside.Padding.{padded}
use Rattle.ix_values.specs.Texts.{IsValue}
use Rattle.ix_values.proofs.actions.zero_padded.Given as goal

abbrev pub invariant-loop-index : goal.invariant-loop-index
invariant-loop-index l = record {
  written : l.values ≡ padded 4 (48 ∷ []) (take l.index l.args);
  valid : (k : ℕ) (d : List ℕ) → k < l.index → IsValue (get_or l.args k d);
}
