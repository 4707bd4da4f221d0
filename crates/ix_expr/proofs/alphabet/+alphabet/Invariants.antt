use Rattle.std.proofs.Common.{ℕ, ◌<◌, List, Some, None, get_or}
use Rattle.ix_expr.specs.Environment.{bind}
use Rattle.ix_expr.specs.inside.FormOf.{form_of}
use Rattle.ix_expr.specs.Meaning.{InAlphabet}
use Rattle.ix_expr.proofs.alphabet.+alphabet.Given as goal

-- where a value so far has the action in its alphabet, outside has it too
abbrev pub invariant-contains_for_some-loop-value : goal.invariant-contains_for_some-loop-value
invariant-contains_for_some-loop-value l = (k : ℕ) → k < l.value-index → (d : List ℕ)
    → InAlphabet (form_of l.body) (bind l.parameter (Some (get_or l.value-items k d)) l.env) l.action
    → InAlphabet (form_of l.body) (bind l.parameter None l.env) l.action
