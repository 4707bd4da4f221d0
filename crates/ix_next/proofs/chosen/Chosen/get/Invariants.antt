use Rattle.std.proofs.Common.{◌≡◌, take, reverse}
use Rattle.ix_next.specs.Candidates.{term_of}
use Rattle.ix_next.proofs.chosen.Chosen.get.Given as goal

-- the entries from the index on don't have the name
abbrev pub invariant-loop-index : goal.invariant-loop-index
invariant-loop-index l = term_of l.parameter (reverse (take l.index l.entries)) ≡ term_of l.parameter (reverse l.entries)
