-- The refused nodes of a node and of its operands.
use Rattle.std.proofs.Common.{◌≡◌, ℕ, ◌+◌, suc, List, [], ◌∷◌, ◌++◌, length, Option, Some, None, refl, sym, ap, ◌∙◌, append_assoc, arith}
use Rattle.ix_bound.specs.declared.refused.RefusedNode.{RefusedNode}
use Rattle.ix_bound.specs.Refusals.{refused_among}

among-append : (xs ys : List (Option ℕ)) (n m : ℕ) → m ≡ n + length xs → refused_among n (xs ++ ys) ≡ refused_among n xs ++ refused_among m ys
among-append [] ys n m e = ap (λ k. refused_among k ys) (omega (arith, e))
among-append (None ∷ xs) ys n m e = among-append xs ys (suc n) m (omega (arith, e))
among-append (Some c ∷ xs) ys n m e = ap (λ w. record { code = c; node = n } ∷ w) (among-append xs ys (suc n) m (omega (arith, e)))

-- those of one operand behind the node's own
pub found_in_one : (old mid new : List RefusedNode) (c : Option ℕ) (codes : List (Option ℕ)) (n : ℕ)
    → mid ≡ old ++ refused_among n (c ∷ []) → new ≡ mid ++ refused_among (n + 1) codes → new ≡ old ++ refused_among n (c ∷ codes)
found_in_one old mid new c codes n h k =
    k
    ∙ ap (λ w. w ++ refused_among (n + 1) codes) h
    ∙ append_assoc old (refused_among n (c ∷ [])) (refused_among (n + 1) codes)
    ∙ ap (λ w. old ++ w) (sym (among-append (c ∷ []) codes n (n + 1) refl))

-- those of two
pub found_in_two : (old mid left new : List RefusedNode) (c : Option ℕ) (xs ys : List (Option ℕ)) (n m : ℕ)
    → mid ≡ old ++ refused_among n (c ∷ []) → left ≡ mid ++ refused_among (n + 1) xs → m ≡ n + 1 + length xs → new ≡ left ++ refused_among m ys
    → new ≡ old ++ refused_among n (c ∷ (xs ++ ys))
found_in_two old mid left new c xs ys n m h k e l =
    found_in_one old mid new c (xs ++ ys) n h
    (l
    ∙ ap (λ w. w ++ refused_among m ys) k
    ∙ append_assoc mid (refused_among (n + 1) xs) (refused_among m ys)
    ∙ ap (λ w. mid ++ w) (sym (among-append xs ys (n + 1) m e)))
