-- What a list and a prefix of it have at a place.
use Rattle.std.proofs.Common.{◌≡◌, ℕ, zero, suc, [], ◌∷◌, ◌++◌, length, Some}
use Rattle.std.specs.List.{slice_get}
use Rattle.ix_values.specs.PlainAction.{PlainAction, Word}

-- what a prefix has at a place, the whole has there
pub get_prefix : (history behind : Word) (i : ℕ) (a : PlainAction) → slice_get history i ≡ Some a
    → slice_get (history ++ behind) i ≡ Some a
get_prefix [] behind i a e = cc
get_prefix (b ∷ history) behind zero a e = e
get_prefix (b ∷ history) behind (suc i) a e = get_prefix history behind i a e

-- what the whole has behind a prefix is the first of the rest
pub behind_begins : (history behind : Word) (a : PlainAction) → slice_get (history ++ behind) (length history) ≡ Some a
    → (rest : Word) × (behind ≡ a ∷ rest)
behind_begins [] [] a e = cc
behind_begins [] (b ∷ behind) a e = (behind, cc)
behind_begins (b ∷ history) behind a e = behind_begins history behind a e
