-- Slots that are filled one after the other.
use Rattle.std.proofs.Common.{◌≡◌, ℕ, suc, ◌+◌, ◌-◌, ◌<◌, List, [], ◌∷◌, ◌++◌, length, take, set, sym, ◌∙◌, ap, arith, length-append, append_assoc}
use Rattle.std.specs.Prelude.{replicate}
use Rattle.std.proofs.lemmas.List.{set_at, take_more_set}
use Rattle.ix_values.specs.inside.Padding.{padded, IsPadded}

padded-push : {A : Type 0} (size : ℕ) (fill : A) (xs : List A) (x : A) (n room : ℕ) → length xs ≡ n → size - length xs ≡ suc room → size - length (xs ++ x ∷ []) ≡ room → set (padded size fill xs) n x ≡ padded size fill (xs ++ x ∷ [])
padded-push size fill xs x n room counted before after =
    ap (λ m. set (xs ++ replicate m fill) n x) before
    ∙ set_at xs fill (replicate room fill) x n counted
    ∙ sym (append_assoc xs (x ∷ []) (replicate room fill))
    ∙ ap (λ m. (xs ++ x ∷ []) ++ replicate m fill) (sym after)

-- a write into the first free slot
pub IsPadded-push : {A : Type 0} (size : ℕ) (fill : A) (n : ℕ) (slots : List A) (x : A) → IsPadded size fill n slots → n < length slots → n < size → IsPadded size fill (n + 1) (set slots n x)
IsPadded-push size fill n slots x is below room =
    let taken : take (n + 1) (set slots n x) ≡ take n slots ++ x ∷ [] = take_more_set slots n x below in
    let long : length (take n slots ++ x ∷ []) ≡ n + 1 = length-append (take n slots) (x ∷ []) ∙ ap (λ m. m + 1) is.counted in
    record {
      filled =
          ap (λ items. set items n x) is.filled
          ∙ padded-push size fill (take n slots) x n (size - (n + 1)) is.counted (omega (arith, is.counted)) (omega (arith, long))
          ∙ ap (padded size fill) (sym taken);
      counted = ap length taken ∙ long;
    }
