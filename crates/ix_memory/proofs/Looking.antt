-- The first file of a name, sought from the front.
use Rattle.std.proofs.Common.{◌≡◌, ◌≢◌, ◌<◌, ◌+◌, ℕ, List, [], ◌∷◌, length, map, drop, get_or, refl, inl, inr, sym, subst}
use Rattle.std.proofs.lemmas.List.{drop_more}
use Rattle.ix_outside.specs.Files.{Listing, Lists}
use Rattle.ix_memory.specs.inside.MemoryFilesState.{HasNoFile}

-- what the rest of a listing says of a name, the whole one says
pub record Leads (rest whole : Listing) (name : List ℕ) : Type 0 where
  pub found : (bytes : List ℕ) → Lists rest name bytes → Lists whole name bytes
  pub absent : HasNoFile rest name → HasNoFile whole name

-- the rest begins with the item at its place
pub Leads-at : {A : Type 0} → (file_of : A → List ℕ × List ℕ) (items : List A) (at : ℕ) (item : A) (whole : Listing) (name : List ℕ)
    → at < length items → item ≡ get_or items at item
    → Leads (map file_of (drop at items)) whole name
    → Leads (file_of item ∷ map file_of (drop (at + 1) items)) whole name
Leads-at file_of items at item whole name within is leads =
    let P : List _ → Type 0 = λ rest. Leads (map file_of rest) whole name in
    let Q : _ → Type 0 = λ first. Leads (file_of first ∷ map file_of (drop (at + 1) items)) whole name in
    subst Q (sym is) (subst P (drop_more items at item within) leads)

-- past an item of another name
pub Leads-next : {A : Type 0} → (file_of : A → List ℕ × List ℕ) (items : List A) (at : ℕ) (item : A) (whole : Listing) (name : List ℕ)
    → at < length items → item ≡ get_or items at item
    → Leads (map file_of (drop at items)) whole name → (file_of item).0 ≢ name
    → Leads (map file_of (drop (at + 1) items)) whole name
Leads-next file_of items at item whole name within is leads other =
    let here = Leads-at file_of items at item whole name within is leads in
    record {
      found = λ bytes there. here.found bytes (inr (other, there));
      absent = λ absent. here.absent (other, absent);
    }

-- at an item of the name
pub Leads-found : {A : Type 0} → (file_of : A → List ℕ × List ℕ) (items : List A) (at : ℕ) (item : A) (whole : Listing) (name : List ℕ)
    → at < length items → item ≡ get_or items at item
    → Leads (map file_of (drop at items)) whole name → (file_of item).0 ≡ name
    → Lists whole name (file_of item).1
Leads-found file_of items at item whole name within is leads same =
    (Leads-at file_of items at item whole name within is leads).found _ (inl (same, refl))

-- a listing that lists a name isn't without it
pub Lists-there : (files : Listing) (name bytes : List ℕ) → Lists files name bytes → HasNoFile files name → ⊥
Lists-there [] name bytes there absent = there
Lists-there (file ∷ files) name bytes there absent = elim there [
  | inl here ↦ absent.0 here.0
  | inr later ↦ Lists-there files name bytes later.1 absent.1
]
