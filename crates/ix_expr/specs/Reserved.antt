-- Words that no atom has as its name.
use Rattle.std.specs.Prelude.{ℕ, List, [], ◌∷◌, codes, Bool}
use Rattle.std.specs.List.{list_any}
use Rattle.ix_values.specs.Order.{text_eq}

-- the reserved words
abbrev pub reserved_words : List (List ℕ)
reserved_words = codes "any" ∷ codes "every" ∷ codes "sync" ∷ codes "all" ∷ codes "times" ∷ []

-- whether the name is reserved
abbrev pub is_reserved : List ℕ → Bool
is_reserved name = list_any (text_eq name) reserved_words
