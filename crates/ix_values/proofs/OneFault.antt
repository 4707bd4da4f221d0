-- A text has at most one fault.
use Rattle.std.proofs.Common.{◌≡◌, ℕ, ◌≤◌, inl, inr, sym, ◌∙◌, subst, arith, List}
use Rattle.ix_values.specs.Faults.{Row, IsFaultCode}
use Rattle.ix_values.specs.Laws.{ActionTextsHaveOneFault}

one-row : (Applies : Type 0) (code : ℕ) (below : ℕ → Type 0) → ((x y : ℕ) → below x → below y → x ≡ y)
    → (x y : ℕ) → Row Applies code below x → Row Applies code below y → x ≡ y
one-row Applies code below one x y (inl g) (inl h) = g.1 ∙ sym h.1
one-row Applies code below one x y (inl g) (inr h) = absurd (h.0 g.0)
one-row Applies code below one x y (inr g) (inl h) = absurd (g.0 h.0)
one-row Applies code below one x y (inr g) (inr h) = one x y g.1 h.1

one-code : (text : List ℕ) (at c d : ℕ) → IsFaultCode text at c → IsFaultCode text at d → c ≡ d
one-code text at =
    one-row _ 4 _ (one-row _ 3 _ (one-row _ 1 _ (one-row _ 5 _ (λ x y g h. g ∙ sym h))))

one-place : (m n : ℕ) → m ≤ n → n ≤ m → m ≡ n
one-place m n g h = omega (arith, g, h)

pub one-fault : ActionTextsHaveOneFault
one-fault text c d at other g h =
    let same : at ≡ other = one-place at other
    (h.place.greatest at g.place.within g.place.goes_on) (g.place.greatest other h.place.within h.place.goes_on) in
    (one-code text at c d g.row (subst (λ k. IsFaultCode text k d) (sym same) h.row), same)
