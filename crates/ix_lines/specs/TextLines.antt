-- The lines of a whole text.
use Rattle.std.specs.Prelude.{ℕ, Bool, ◌==◌, List, [], ◌∷◌, ◌++◌, length}
use Rattle.std.specs.List.{flat_map, slice_split}

-- byte 10
abbrev pub is_line_end : ℕ → Bool
is_line_end byte = byte == 10

-- the parts without an empty one at their end
abbrev pub without_empty_end : List (List ℕ) → List (List ℕ)
without_empty_end [] = []
without_empty_end ([] ∷ []) = []
without_empty_end ((byte ∷ bytes) ∷ []) = (byte ∷ bytes) ∷ []
without_empty_end (part ∷ next ∷ parts) = part ∷ without_empty_end (next ∷ parts)

-- the lines without their byte 10, which the last may lack
abbrev pub lines_of : List ℕ → List (List ℕ)
lines_of bytes = without_empty_end (slice_split is_line_end bytes)

-- the bytes that these lines take, each with its byte 10
abbrev pub bytes_of : List (List ℕ) → ℕ
bytes_of lines = length (flat_map (λ line. line ++ 10 ∷ []) lines)
