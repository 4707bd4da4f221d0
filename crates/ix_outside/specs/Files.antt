-- What files an object tells.
use Rattle.std.specs.Prelude.{◌≡◌, ◌≢◌, ◌⊎◌, ℕ, ◌<◌, List, [], ◌∷◌, length, ⊤, Option, None, Some}

-- pairs of a name and the file's bytes; the first of a name counts
abbrev pub Listing : Type 0
Listing = List (List ℕ × List ℕ)

-- the file of this name has these bytes
abbrev pub Lists : Listing → List ℕ → List ℕ → Type 0
Lists [] name bytes = ⊥
Lists (file ∷ files) name bytes =
    ((file.0 ≡ name) × (file.1 ≡ bytes)) ⊎ ((file.0 ≢ name) × Lists files name bytes)

-- where files are told, the file of this name has these bytes
abbrev pub HasFile : Option Listing → List ℕ → List ℕ → Type 0
HasFile None name bytes = ⊤
HasFile (Some files) name bytes = Lists files name bytes

-- where files are told, the file of this name has more bytes than the limit
abbrev pub HasLonger : Option Listing → List ℕ → ℕ → Type 0
HasLonger None name limit = ⊤
HasLonger (Some files) name limit = (bytes : List ℕ) × Lists files name bytes
    × (limit < length bytes)
