-- What a history may have.
use Rattle.std.specs.Prelude.{ℕ}

-- the most actions of a history
abbrev pub most_actions : ℕ
most_actions = 1000000
