-- What `bound` puts.
use Rattle.std.specs.Prelude.{ℕ, List, [], ◌∷◌, ◌++◌, codes, decimal}
use Rattle.std.specs.List.{flat_map}
use Rattle.ix_bound.specs.declared.answer.Bound.{Bound}
use Rattle.ix_bound.specs.declared.answer.Bound.TheVariants.{Within, Above, Refused}
use Rattle.ix_bound.specs.declared.refused.RefusedNode.{RefusedNode}
use Rattle.ix_desk.specs.LintLines.{place_words}

-- a code and a node
abbrev pub unbounded_words : ℕ → ℕ → List ℕ
unbounded_words code node = decimal code ++ codes " node " ++ decimal node

-- the line of a bound, with its byte 10: its number, that it is above 1,000,000, or why and where
-- there is none
abbrev pub bound_line : Bound → List ℕ
bound_line (Within number) = codes "bound " ++ decimal number ++ 10 ∷ []
bound_line Above = codes "above 1000000" ++ 10 ∷ []
bound_line (Refused code node) = codes "unbounded " ++ unbounded_words code node ++ 10 ∷ []

-- the line of a refused node, with its byte 10
abbrev pub unbounded_line : List ℕ → RefusedNode → List ℕ
unbounded_line places refused = unbounded_words refused.code refused.node
    ++ codes " at " ++ place_words places refused.node ++ 10 ∷ []

-- the line of a bound, and those of the refused nodes, in their order
abbrev pub bound_lines : List ℕ → Bound → List RefusedNode → List ℕ
bound_lines places answer refused = bound_line answer ++ flat_map (unbounded_line places) refused
