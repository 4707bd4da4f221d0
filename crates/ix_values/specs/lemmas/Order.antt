-- The laws of the comparisons of texts and of actions.
use Rattle.std.specs.Prelude.{◌≡◌, ℕ, Bool, true, false, ◌&&◌, List, refl}
use Rattle.std.specs.declared.cmp.Ordering.{Ordering}
use Rattle.std.specs.declared.cmp.Ordering.TheVariants.{Less, Equal, Greater}
use Rattle.std.specs.Cmp.{IsEquivalence, IsPartialEquivalence, IsTotalOrder, IsPartialOrder}
use Rattle.std.specs.Cmp.{and_equiv, on_equiv, nat_eq_equiv, partial_equiv_from_equiv}
use Rattle.std.specs.Cmp.{partial_order_from_total, partial_order_from_own_ties, both_tied}
use Rattle.std.specs.Cmp.{then_total, on_total, nat_cmp_total}
use Rattle.std.specs.Cmp.Lexicographic.{slice_cmp, lists_equiv, lists_total, lists_ties, texts_ties}
use Rattle.std.specs.Cmp.Lexicographic.{bytes_decides}
use Rattle.std.specs.FinMap.{slice_cmp-IsAntisymmetric, nat_cmp-IsAntisymmetric}
use Rattle.std.specs.Ordering.{eq_by_cmp, ordering_then, as_partial_cmp, is_eq}
use Rattle.std.proofs.Common.{sym, ◌∙◌, subst}
use Rattle.ix_values.specs.PlainAction.{PlainAction}
use Rattle.ix_values.specs.inside.ActionOf.{action_of}
use Rattle.ix_values.specs.Order.{text_eq, text_cmp}
use Rattle.ix_values.specs.inside.ActionOrder.{action_eq, action_cmp}

-- both parts of a true `&&` are true
pub both_true : (a b : Bool) → (a && b) ≡ true → (a ≡ true) × (b ≡ true)
both_true true b h = (refl, h)
both_true false b h = cc

-- texts compare as equal only where they are the same
pub text_cmp-same : (x y : List ℕ) → text_cmp x y ≡ Equal → x ≡ y
text_cmp-same = slice_cmp-IsAntisymmetric nat_cmp-IsAntisymmetric

-- `==` of texts is true exactly where they are the same
pub text_eq-decides : (x y : List ℕ) → (text_eq x y ≡ true → x ≡ y) × (x ≡ y → text_eq x y ≡ true)
text_eq-decides = bytes_decides

both_equal : (o p : Ordering) {G : Type 0} → (o ≡ Equal → p ≡ Equal → G) → ordering_then o p ≡ Equal
    → G
both_equal Less p both e = cc
both_equal Equal p both e = both refl e
both_equal Greater p both e = cc

-- actions compare as equal only where they are the same
pub action_cmp-same : (x y : PlainAction) → action_cmp x y ≡ Equal → x ≡ y
action_cmp-same x y =
    both_equal (text_cmp x.name y.name) (slice_cmp text_cmp x.values y.values)
    (λ n v. λ i. action_of (text_cmp-same x.name y.name n i)
    (slice_cmp-IsAntisymmetric text_cmp-same x.values y.values v i))

-- `==` of actions is true exactly where `cmp` answers Equal
pub action_eq-ties : (x y : PlainAction) → action_eq x y ≡ eq_by_cmp action_cmp x y
action_eq-ties x y =
    both_tied _ _ (text_cmp x.name y.name) (slice_cmp text_cmp x.values y.values)
    (texts_ties x.name y.name) (lists_ties text_cmp texts_ties x.values y.values)

-- the laws of `Eq`
pub action_eq-equiv : IsEquivalence action_eq
action_eq-equiv = and_equiv (on_equiv (λ a. a.name) (lists_equiv nat_eq_equiv))
    (on_equiv (λ a. a.values) (lists_equiv (lists_equiv nat_eq_equiv)))

-- the laws of `Ord`
pub action_cmp-total : IsTotalOrder action_cmp
action_cmp-total = then_total (on_total (λ a. a.name) (lists_total nat_cmp_total))
    (on_total (λ a. a.values) (lists_total (lists_total nat_cmp_total)))

-- the laws of `PartialEq` and `PartialOrd`
pub action_eq-partial : IsPartialEquivalence action_eq
action_eq-partial = partial_equiv_from_equiv action_eq-equiv

pub action_cmp-partial : IsPartialOrder action_eq (as_partial_cmp action_cmp)
action_cmp-partial =
    partial_order_from_own_ties (partial_order_from_total action_cmp-total) action_eq-ties

-- `==` of actions is true exactly where they are the same
pub action_eq-decides : (x y : PlainAction) → (action_eq x y ≡ true → x ≡ y)
    × (x ≡ y → action_eq x y ≡ true)
action_eq-decides x y = (
  λ e. action_cmp-same x y (is_equal (action_cmp x y) (sym (action_eq-ties x y) ∙ e)),
  λ e. subst (λ z. action_eq x z ≡ true) e (action_eq-equiv.refl x),
)
  where
    is_equal : (o : Ordering) → is_eq o ≡ true → o ≡ Equal
    is_equal Less h = cc
    is_equal Equal h = refl
    is_equal Greater h = cc
