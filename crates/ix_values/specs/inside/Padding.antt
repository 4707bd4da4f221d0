-- A list of items in a fixed number of slots: the items, and behind them copies of one fill.
use Rattle.std.specs.Prelude.{◌≡◌, ℕ, ◌-◌, List, ◌++◌, length, take, replicate}

-- the items, and copies of the fill up to the size
abbrev pub padded : {A : Type 0} → ℕ → A → List A → List A
padded size fill items = items ++ replicate (size - length items) fill

-- the slots are their first `count` items, padded to the size
pub record IsPadded {A : Type 0} (size : ℕ) (fill : A) (count : ℕ) (slots : List A) : Type 0 where
  pub filled : slots ≡ padded size fill (take count slots)
  pub counted : length (take count slots) ≡ count
