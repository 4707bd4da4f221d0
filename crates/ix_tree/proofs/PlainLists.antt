-- Lists of plain trees or parts as one part: their items and their Size.
use Rattle.std.proofs.Common.{◌≡◌, ◌+◌, List, [], ◌∷◌, ◌++◌, arith, refl, sym, ap, ◌∙◌}
use Rattle.std.specs.List.{sum_by}
use Rattle.std.proofs.lemmas.List.Sums.{sum_by-cons}
use Rattle.ix_tree.specs.Plain.{Plain, listed, items_of}
use Rattle.ix_tree.specs.Size.{size_of}

-- the items of a list made into one part are the list
pub items_of-listed : (xs : List Plain) → items_of (listed xs) ≡ xs
items_of-listed [] = refl
items_of-listed (x ∷ xs) = ap (λ l. x ∷ l) (items_of-listed xs)

-- such a part's Size is the sum of its items' Sizes
pub size_of-listed : (xs : List Plain) → size_of (listed xs) ≡ sum_by size_of xs
size_of-listed [] = refl
size_of-listed (x ∷ xs) = ap (λ n. size_of x + n) (size_of-listed xs) ∙ sym (sum_by-cons size_of x xs)

-- one item more
pub size_of-push : (xs : List Plain) (x : Plain) → size_of (listed (xs ++ x ∷ [])) ≡ size_of (listed xs) + size_of x
size_of-push [] x = omega arith
size_of-push (y ∷ ys) x = omega (arith, size_of-push ys x)
