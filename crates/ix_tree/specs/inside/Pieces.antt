-- Entries that stand in pieces.
use Rattle.std.specs.Prelude.{◌≡◌, ◌⊎◌, ℕ, ◌≤◌, Bool, true, false, List, [], ◌∷◌, ◌++◌, length}
use Rattle.std.specs.Prelude.{flat_map}
use Rattle.std.specs.List.{AllByRecursion}
use Rattle.std.specs.Ordering.{is_le}
use Rattle.ix_values.specs.Order.{text_cmp}
use Rattle.ix_tree.specs.Plain.{Plain}

-- the entries of the pieces, one piece behind the other
abbrev pub in_pieces : List (List (List ℕ × Plain)) → List (List ℕ × Plain)
in_pieces pieces = flat_map (λ piece. piece) pieces

-- the entries of a list, and behind them those of the pieces
abbrev pub entries_in : List (List ℕ × Plain) → List (List (List ℕ × Plain)) → List (List ℕ × Plain)
entries_in first later = first ++ in_pieces later

-- the piece isn't empty
abbrev pub HasEntries : List (List ℕ × Plain) → Type 0
HasEntries piece = 1 ≤ length piece

-- the first value of the piece is at most this one
abbrev pub leads : List ℕ → List (List ℕ × Plain) → Bool
leads v [] = false
leads v (e ∷ es) = is_le (text_cmp e.0 v)

-- the piece is the last of them whose first value is at most this one or, where there is none, the
-- first
pub record IsAround (v : List ℕ) (pieces before : List (List (List ℕ × Plain)))
    (piece : List (List ℕ × Plain)) (behind : List (List (List ℕ × Plain))) : Type 0 where
  pub parts : pieces ≡ before ++ piece ∷ behind
  pub here : (leads v piece ≡ true) ⊎ (before ≡ [])
  pub further : AllByRecursion (λ next. leads v next ≡ false) behind
