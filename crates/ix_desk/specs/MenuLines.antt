-- What `next` puts in front of its last line.
use Rattle.std.specs.Prelude.{ℕ, List, [], ◌∷◌, ◌++◌}
use Rattle.std.specs.List.{flat_map}
use Rattle.ix_next.specs.Candidates.{PlainCandidate, candidate_text}

-- a line for each candidate, with its byte 10
abbrev pub menu_lines : List PlainCandidate → List ℕ
menu_lines menu = flat_map (λ candidate. candidate_text candidate ++ 10 ∷ []) menu
