-- Filling padded slots one after the other, and a fact of each item so far.
use Rattle.std.proofs.Common.{◌≡◌, ℕ, suc, ◌+◌, ◌-◌, ◌<◌, ◌≤◌, List, [], ◌∷◌, ◌++◌, length, take, set, get_or, sym, ◌∙◌, ap, subst, arith, below_more, append_assoc, length-append, length-take-le}
use Rattle.std.specs.Prelude.{replicate}
use Rattle.std.proofs.lemmas.List.{set_at, take_at, take_more, get_or_read, length_push}
use Rattle.ix_values.specs.inside.Padding.{padded, IsPadded}

-- a write into the first slot that holds no item
pub padded-push : {A : Type 0} (size : ℕ) (fill : A) (items : List A) (n : ℕ) (x : A) → length items ≡ n → n < size → set (padded size fill items) n x ≡ padded size fill (items ++ x ∷ [])
padded-push {A} size fill items n x counted room =
    let next : size - length items ≡ suc (size - length (items ++ x ∷ [])) = omega (arith, length-append items (x ∷ [])) in
    let rest : List A = replicate (size - length (items ++ x ∷ [])) fill in
    ap (λ k. set (items ++ replicate k fill) n x) next
    ∙ set_at items fill rest x n counted
    ∙ sym (append_assoc items (x ∷ []) rest)

-- a write of the next item of a list into slots that hold those before it
pub padded-set : {A : Type 0} (size : ℕ) (fill : A) (xs : List A) (i : ℕ) (x : A) → i < length xs → x ≡ get_or xs i x → length xs ≤ size → set (padded size fill (take i xs)) i x ≡ padded size fill (take (i + 1) xs)
padded-set size fill xs i x below is fits =
    padded-push size fill (take i xs) i x (length-take-le i xs (omega arith)) (omega arith)
    ∙ ap (padded size fill) (ap (λ y. take i xs ++ y ∷ []) is ∙ sym (take_more xs i x below))

-- the items after such a write
pub items-push : {A : Type 0} (size : ℕ) (fill : A) (count : ℕ) (slots : List A) (x : A) → IsPadded size fill count slots → count < size → take (count + 1) (set slots count x) ≡ take count slots ++ x ∷ []
items-push {A} size fill count slots x is room =
    let items : List A = take count slots in
    ap (λ s. take (count + 1) (set s count x)) is.filled
    ∙ ap (take (count + 1)) (padded-push size fill items count x is.counted room)
    ∙ take_at (items ++ x ∷ []) (replicate (size - length (items ++ x ∷ [])) fill) (count + 1) (omega (arith, length-append items (x ∷ []), is.counted))

pub IsPadded-push : {A : Type 0} (size : ℕ) (fill : A) (count : ℕ) (slots : List A) (x : A) → IsPadded size fill count slots → count < size → IsPadded size fill (count + 1) (set slots count x)
IsPadded-push size fill count slots x is room =
    let pushed = items-push size fill count slots x is room in
    record {
      filled = ap (λ s. set s count x) is.filled ∙ padded-push size fill (take count slots) count x is.counted room ∙ ap (padded size fill) (sym pushed);
      counted = ap length pushed ∙ length_push (take count slots) x ∙ ap (λ n. n + 1) is.counted;
    }

-- what holds of each item below i, and of the next, holds of each below i + 1
pub each-more : {A : Type 0} (P : A → Type 0) (xs : List A) (i : ℕ) (x : A) → i < length xs → x ≡ get_or xs i x → P x → ((k : ℕ) (d : A) → k < i → P (get_or xs k d)) → (k : ℕ) (d : A) → k < i + 1 → P (get_or xs k d)
each-more P xs i x below is here before k d = below_more (λ j. P (get_or xs j d)) i (λ j. before j d) (subst P (get_or_read xs i x below is d) here) k
