-- What a bound says.
use Rattle.std.specs.Prelude.{◌≡◌, ◌≤◌, ◌<◌, ℕ, Some, None}
use Rattle.ix_expr.specs.Form.{Form}
use Rattle.ix_bound.specs.declared.answer.Bound.{Bound}
use Rattle.ix_bound.specs.declared.answer.Bound.TheVariants.{Within, Above, Refused}
use Rattle.ix_bound.specs.Number.{bound_of}
use Rattle.ix_bound.specs.Refusals.{codes_of, first_refused}

-- the bound of the expression over k values: its number, that it is above 1,000,000, or the first
-- node in pre-order for which there is none
abbrev pub IsBound : Form → ℕ → Bound → Type 0
IsBound x k (Within number) = (first_refused 0 (codes_of x) ≡ None)
    × (number ≡ bound_of x k) × (number ≤ 1000000)
IsBound x k Above = (first_refused 0 (codes_of x) ≡ None) × (1000000 < bound_of x k)
IsBound x k (Refused code node) = first_refused 0 (codes_of x) ≡ Some (code, node)
