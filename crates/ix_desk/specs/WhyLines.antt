-- What `why` puts.
use Rattle.std.specs.Prelude.{ℕ, List, [], ◌∷◌, ◌++◌, Option, Some, None, codes, slice_get}
use Rattle.std.specs.List.{flat_map}
use Rattle.std.specs.Option.{option_map_or}
use Rattle.ix_expr.specs.CanonicalText.{canonical_text}
use Rattle.ix_expr.specs.Form.{Form}
use Rattle.ix_lint.specs.Nodes.{forms}
use Rattle.ix_why.specs.declared.part.Part.{Part}
use Rattle.ix_desk.specs.LintLines.{place_words}

-- what a parameter stands for: a value, or each that isn't told otherwise
abbrev pub bound_words : List ℕ × Option (List ℕ) → List ℕ
bound_words (parameter, Some value) = codes " $" ++ parameter ++ codes "=" ++ value
bound_words (parameter, None) = codes " $" ++ parameter ++ codes "=*"

-- the canonical text of the expression at a node
abbrev pub node_text : Form → ℕ → List ℕ
node_text x node = option_map_or canonical_text (slice_get (forms x) node) []

-- the line of a part that refuses, with its byte 10
abbrev pub part_line : List ℕ → Form → Part → List ℕ
part_line places x part = codes "at " ++ place_words places part.node
    ++ flat_map bound_words part.bound ++ codes ": " ++ node_text x part.node ++ 10 ∷ []

-- the lines of the parts that refuse, in their order, and one line where there is none
abbrev pub why_lines : List ℕ → Form → List Part → List ℕ
why_lines places x [] = codes "permitted" ++ 10 ∷ []
why_lines places x (part ∷ parts) = flat_map (part_line places x) (part ∷ parts)
