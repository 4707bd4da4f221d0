-- An equation of lists of events has one proof at most.
use Rattle.std.specs.Prelude.{◌≡◌, List}
use mathlib.Core.List.{is_set}
use mathlib.Core.Sum.{⊎_set}
use native.Mathlib.Nat.{ℕ_set}
use Rattle.ix_outside.specs.Contents.{GivenEvent}

pub events_equal : (x y : List GivenEvent) → IsProp (x ≡ y)
events_equal x y = hlevel (is_set, ⊎_set, ℕ_set)
