-- Words whose actions are all allowed, and those that lead to the history's tree.
use Rattle.std.proofs.Common.{◌≡◌, inl, inr, ℕ, ◌+◌, ◌<◌, [], ◌∷◌, ◌++◌, length, take, get_or, sym, ap, ◌∙◌, subst, arith}
use Rattle.std.proofs.lemmas.Bool.{cases_eq}
use Rattle.std.proofs.lemmas.List.{take_more, take-append-le, length-append, get_or_append_left}
use Rattle.std.proofs.Math.Seq.{take-append_seam, get_or-append_seam}
use Rattle.ix_values.specs.PlainAction.{PlainAction, Word}
use Rattle.ix_expr.specs.Form.{Form}
use Rattle.ix_engine.specs.Allowed.{IsAllowed}
use Rattle.ix_engine.specs.Histories.{AreAllowed, none, more}

module _ (x : Form) (limit : ℕ) where
  -- the action at a place is allowed behind those in front of it
  pub allowed_at : (w : Word) (i : ℕ) (a : PlainAction) → AreAllowed x limit w → i < length w → a ≡ get_or w i a
      → IsAllowed x limit (take i w) a
  allowed_at _ i a none within is = absurd (omega arith)
  allowed_at _ i a (more {before = u} {a = b} allowed last) within is =
      elim (cases_eq i (length u)) [
        | inl same ↦
            let front : take i (u ++ b ∷ []) ≡ u = ap (λ n. take n (u ++ b ∷ [])) same ∙ take-append_seam u (b ∷ []) in
            let item : a ≡ b = is ∙ ap (λ n. get_or (u ++ b ∷ []) n a) same ∙ get_or-append_seam u b [] a in
            subst (λ (w : Word). IsAllowed x limit w a) (sym front) (subst (IsAllowed x limit u) (sym item) last)
        | inr differ ↦
            let here : i < length u = omega (arith, within, differ, length-append u (b ∷ [])) in
            subst (λ (w : Word). IsAllowed x limit w a) (sym (take-append-le i u (b ∷ []) (omega (arith, here))))
            (allowed_at u i a allowed here (is ∙ get_or_append_left u (b ∷ []) a i here))
      ]

  -- one more action
  pub more_allowed : (w : Word) (i : ℕ) (a : PlainAction) → i < length w → a ≡ get_or w i a
      → AreAllowed x limit (take i w) → IsAllowed x limit (take i w) a → AreAllowed x limit (take (i + 1) w)
  more_allowed w i a within is before here =
      subst (AreAllowed x limit) (sym (take_more w i a within ∙ ap (λ (b : PlainAction). take i w ++ b ∷ []) (sym is))) (more before here)
