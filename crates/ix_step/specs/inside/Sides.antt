-- What becomes of a side of `@`.
use Rattle.std.specs.Prelude.{◌≡◌, ℕ, ◌≤◌, Bool, Result, MatchResult}
use Rattle.ix_tree.specs.Plain.{Plain}
use Rattle.ix_tree.specs.Size.{size_of}
use Rattle.ix_can.specs.inside.Moved.{moved_inside}
use Rattle.ix_step.specs.declared.coupling.Side.{Side}
use Rattle.ix_step.specs.declared.fault.Unbuilt.{Unbuilt}
use Rattle.ix_step.specs.inside.Limits.{most_limit}
use Rattle.ix_step.specs.inside.Makes.{IsAboveLimit}

-- the side was made: the next tree where the action is inside, else the tree t as it was; or the
-- next tree is above the limit, or memory ran out
abbrev pub MakesSide : ℕ → Bool → Plain → Plain → Result Side Unbuilt → Type 0
MakesSide limit inside next t r =
    MatchResult r (λ side. (side.inside ≡ inside) × (side.tree ≡ moved_inside inside next t)
    × (size_of side.tree ≤ most_limit))
    (IsAboveLimit limit next)
