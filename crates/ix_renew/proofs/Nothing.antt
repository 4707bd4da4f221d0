-- Where nothing is open.
use Rattle.std.proofs.Common.{◌≡◌, ℕ, Bool, true, false, [], sym, ◌∙◌, subst, true≢false, arith}
use Rattle.std.specs.Ordering.{eq_by_cmp}
use Rattle.ix_values.specs.PlainAction.{Word}
use Rattle.ix_expr.specs.Form.{Form}
use Rattle.ix_tree.specs.Plain.{Plain}
use Rattle.ix_tree.specs.Order.{tree_cmp}
use Rattle.ix_tree.proofs.Equal.{same_plain}
use Rattle.ix_can.specs.TreeOf.{tree_of}
use Rattle.ix_engine.specs.Histories.{none}
use Rattle.ix_renew.specs.Carried.{IsCarriedFor}

module _ (x : Form) (limit : ℕ) (history : Word) (first last : Plain) (b : Bool) (same : b ≡ eq_by_cmp tree_cmp first last) (is_first : first ≡ tree_of x [] []) (is_last : last ≡ tree_of x [] history) where
  -- the history's tree is that of the empty word
  pub nothing_carried : b ≡ true → (word : Word) → word ≡ [] → IsCarriedFor x limit history word
  nothing_carried equal word empty = subst (IsCarriedFor x limit history) (sym empty) (record {
    allowed = none;
    tree = sym is_first ∙ (same_plain first last).0 (sym same ∙ equal) ∙ is_last;
    few = omega arith;
  })

  -- it isn't
  pub something : b ≡ false → tree_of x [] history ≡ tree_of x [] [] → ⊥
  something no_tree e =
      true≢false (sym ((same_plain first last).1 (is_first ∙ sym e ∙ sym is_last)) ∙ sym same ∙ no_tree)
