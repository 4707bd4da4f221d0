-- The cut of a text, as a relation.
use Rattle.std.specs.Prelude.{◌≡◌, ℕ, false, List, [], ◌∷◌, ◌++◌, ◌==◌}
use Rattle.std.specs.List.{flat_map, list_any, AllByRecursion}
use Rattle.ix_lines.specs.Items.{cut}

-- no byte ends a line
abbrev pub HasNoEnd : List ℕ → Type 0
HasNoEnd bytes = list_any (λ byte. byte == 10) bytes ≡ false

-- each part, with a byte 10 behind it
abbrev pub ended_by_ten : List (List ℕ) → List ℕ
ended_by_ten parts = flat_map (λ part. part ++ 10 ∷ []) parts

-- the text is these parts, each with a byte 10 behind it, and a last part
pub record IsCut (text : List ℕ) (parts : List (List ℕ)) (last : List ℕ) : Type 0 where
  pub spells : text ≡ ended_by_ten parts ++ last
  pub parts_plain : AllByRecursion HasNoEnd parts
  pub last_plain : HasNoEnd last

-- a text has one cut
abbrev pub CutAtEachEnd : Type 0
CutAtEachEnd = (text : List ℕ)
    → IsCut text (cut text).ended (cut text).last
    × ((parts : List (List ℕ)) (last : List ℕ) → IsCut text parts last
    → cut text ≡ record { ended = parts; last = last })
