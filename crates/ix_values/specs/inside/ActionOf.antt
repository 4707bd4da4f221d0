-- An action by its parts.
use Rattle.std.specs.Prelude.{ℕ, List}
use Rattle.ix_values.specs.PlainAction.{PlainAction}

-- the action of a name and values
abbrev pub action_of : List ℕ → List (List ℕ) → PlainAction
action_of name values = record { name = name; values = values }
