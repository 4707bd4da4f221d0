-- Sets of trees, pairs, bags or maps, seen as sets of plain ones: `f` gives the plain part, and `is` says that the items compare as those do.
use Rattle.std.proofs.Common.{◌≡◌, ℕ, zero, suc, ◌+◌, ◌<◌, inl, inr, List, [], ◌∷◌, length, get_or, map as each, Ordering, Less, Equal, Greater, refl, sym, ap, ◌∙◌, subst, arith}
use Rattle.std.specs.BTreeSet.{insert_key}
use Rattle.std.specs.List.{AllByRecursion, sum_by}
use Rattle.std.specs.List.Sorted.{IsStrictlySortedBy}
use Rattle.std.specs.Ordering.{match_ordering}
use Rattle.std.specs.Cmp.{tied_itself}
use Rattle.std.proofs.lemmas.List.Sums.{sum_by-cons}
use Rattle.ix_alts.specs.inside.Alternatives.{HasItem}
use Rattle.ix_words.specs.Canon.{Ascending, ascending_end, below, put_once, by_order}
use Rattle.ix_words.proofs.Canon.{Member-cases}
use Rattle.ix_words.specs.Each.{Each, no_item, item, Member, here, there}
use Rattle.ix_tree.specs.Plain.{Plain, listed}
use Rattle.ix_tree.specs.Size.{size_of}
use Rattle.ix_tree.specs.Order.{tree_cmp}
use Rattle.ix_tree.specs.lemmas.TreeOrder.{tree_cmp-same, tree_cmp-total}

-- what such items weigh together is the Size of their plain list
pub weight_of-list : {A : Type 0} (f : A → Plain) (xs : List A) → sum_by (λ x. size_of (f x)) xs ≡ size_of (listed (each f xs))
weight_of-list f [] = refl
weight_of-list f (x ∷ xs) = sum_by-cons (λ y. size_of (f y)) x xs ∙ ap (λ n. size_of (f x) + n) (weight_of-list f xs)

module _ {A : Type 0} (f : A → Plain) (cmp : A → A → Ordering) (is : (x y : A) → cmp x y ≡ tree_cmp (f x) (f y)) where
  each_above : (x : A) (ys : List A) → AllByRecursion (λ y. cmp x y ≡ Less) ys → Each (λ t. tree_cmp (f x) t ≡ Less) (each f ys)
  each_above x [] h = no_item
  each_above x (y ∷ ys) h = item (sym (is x y) ∙ h.0) (each_above x ys h.1)

  -- a list that is strictly sorted ascends
  pub sorted-ascending : (xs : List A) → IsStrictlySortedBy cmp xs → Ascending tree_cmp (each f xs)
  unfolding IsStrictlySortedBy
  sorted-ascending [] h = ascending_end
  sorted-ascending (x ∷ xs) h = below (each_above x xs h.0) (sorted-ascending xs h.1)

  -- an item put into its place is its plain part put in once
  pub insert_key-put_once : (xs : List A) (x : A) → each f (insert_key cmp xs x) ≡ put_once tree_cmp (f x) (each f xs)
  insert_key-put_once [] x = refl
  insert_key-put_once (y ∷ ys) x = chosen (insert_key-put_once ys x) (cmp x y) (tree_cmp (f x) (f y)) (is x y)
    where
      placed : each f (insert_key cmp ys x) ≡ put_once tree_cmp (f x) (each f ys) → (o : Ordering) → each f (match_ordering o (x ∷ y ∷ ys) (y ∷ ys) (y ∷ insert_key cmp ys x)) ≡ by_order o (f x ∷ f y ∷ each f ys) (f y ∷ each f ys) (f y ∷ put_once tree_cmp (f x) (each f ys))
      placed rest Less = refl
      placed rest Equal = refl
      placed rest Greater = ap (λ l. f y ∷ l) rest

      chosen : each f (insert_key cmp ys x) ≡ put_once tree_cmp (f x) (each f ys) → (o p : Ordering) → o ≡ p → each f (match_ordering o (x ∷ y ∷ ys) (y ∷ ys) (y ∷ insert_key cmp ys x)) ≡ by_order p (f x ∷ f y ∷ each f ys) (f y ∷ each f ys) (f y ∷ put_once tree_cmp (f x) (each f ys))
      chosen rest o p e = placed rest o ∙ ap (λ r. by_order r (f x ∷ f y ∷ each f ys) (f y ∷ each f ys) (f y ∷ put_once tree_cmp (f x) (each f ys))) e

  -- an equal item is there where its plain part is a member
  found : (xs : List A) (x : A) (k : ℕ) (d : A) → k < length xs → cmp (get_or xs k d) x ≡ Equal → Member (f x) (each f xs)
  found [] x k d lt e = absurd (omega arith)
  found (y ∷ ys) x zero d lt e = subst (λ t. Member (f x) (t ∷ each f ys)) (sym (tree_cmp-same (f y) (f x) (sym (is y x) ∙ e))) here
  found (y ∷ ys) x (suc k) d lt e = there (found ys x k d (omega arith) e)

  pub HasItem-Member : (xs : List A) (x : A) → HasItem cmp xs x → Member (f x) (each f xs)
  HasItem-Member xs x h = found xs x h.0 h.1 h.2 (ap (λ y. cmp y x) h.3 ∙ h.4)

  pub Member-HasItem : (xs : List A) (x : A) → Member (f x) (each f xs) → HasItem cmp xs x
  Member-HasItem [] x m = elim m [ ]
  Member-HasItem (y ∷ ys) x m = elim (Member-cases m) [
    | inl e ↦ (0, y, omega arith, refl, is y x ∙ ap (tree_cmp (f y)) e ∙ tied_itself tree_cmp-total (f y))
    | inr rest ↦ let h = Member-HasItem ys x rest in (suc h.0, h.1, omega (arith, h.2), h.3, h.4)
  ]
