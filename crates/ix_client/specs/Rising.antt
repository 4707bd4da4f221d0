-- How the counts of a link rose.
use Rattle.std.specs.Prelude.{◌⊎◌, ℕ, ◌+◌, ◌-◌, ◌^◌, ◌≤◌}
use Rattle.ix_outside.specs.Counts.{Rose}
use Rattle.ix_client.specs.Links.{LinkState}

-- the count of failures rose, or that of lines that weren't expected
abbrev pub EitherRose : LinkState → LinkState → Type 0
EitherRose old new = Rose old.faults new.faults ⊎ Rose old.balks new.balks

-- these two rose by so many together, or one of them stands at its greatest value
abbrev pub RoseBy : ℕ → LinkState → LinkState → Type 0
RoseBy n old new =
    (old.faults + old.balks + n ≤ new.faults + new.balks)
    ⊎ (2 ^ 64 - 1 ≤ new.faults) ⊎ (2 ^ 64 - 1 ≤ new.balks)

-- at most so many calls were made
abbrev pub CallsAtMost : ℕ → LinkState → LinkState → Type 0
CallsAtMost n old new = new.calls ≤ old.calls + n
