-- How long a text may be.
use Rattle.std.specs.Prelude.{ℕ}

-- the most bytes of an expression's text
abbrev pub most_text : ℕ
most_text = 16384
