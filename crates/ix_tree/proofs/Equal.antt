-- Trees of different Sizes are not equal.
use Rattle.std.specs.Cmp.{Equal-is}
use Rattle.std.proofs.lemmas.Cmp.{tied_itself}
use Rattle.std.proofs.Common.{◌≡◌, ◌↔◌, IsTrue, ℕ, nat_eq, Ordering, Less, Equal, Greater, refl, sym, ap, ◌∙◌, false}
use Rattle.std.proofs.lemmas.Bool.{ne_eqb}
use Rattle.std.specs.Ordering.{eq_by_cmp, is_eq}
use Rattle.ix_tree.specs.Plain.{Plain}
use Rattle.ix_tree.specs.Size.{size_of}
use Rattle.ix_tree.specs.Order.{tree_cmp}
use Rattle.ix_tree.specs.lemmas.TreeOrder.{tree_cmp-same, tree_cmp-total}

not_equal : (o : Ordering) → ¬ (o ≡ Equal) → false ≡ is_eq o
not_equal Less n = refl
not_equal Equal n = absurd (n refl)
not_equal Greater n = refl

pub sizes_tell : (x y : Plain) (n k : ℕ) → n ≡ size_of x → k ≡ size_of y → ¬ (n ≡ k) → nat_eq n k ≡ eq_by_cmp tree_cmp x y
sizes_tell x y n k a b d = ne_eqb n k d ∙ not_equal (tree_cmp x y) (λ e. d (a ∙ ap size_of (tree_cmp-same x y e) ∙ sym b))

-- `==` by the order is true exactly where the trees are the same
pub same_plain : (x y : Plain) → IsTrue (eq_by_cmp tree_cmp x y) ↔ (x ≡ y)
same_plain x y = (
  λ t. tree_cmp-same x y ((Equal-is (tree_cmp x y)).0 t),
  λ same. (Equal-is (tree_cmp x y)).1 (ap (tree_cmp x) (sym same) ∙ tied_itself tree_cmp-total x),
)
