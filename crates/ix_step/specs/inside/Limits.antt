-- How large a tree may be.
use Rattle.std.specs.Prelude.{ℕ}

-- the largest limit of a step, and the largest Size of a tree that is moved
abbrev pub most_size : ℕ
most_size = 1000000

-- the largest limit on the way of a step: a node that becomes done may be above the limit while it
-- is built
abbrev pub most_limit : ℕ
most_limit = 2000010
