-- What is asked before a tree is moved, and nodes above the limit, which are live.
use Rattle.std.proofs.Common.{◌≡◌, ℕ, ◌<◌, ◌≤◌, ◌==◌, Bool, true, false, ◌&&◌, List, [], ◌∷◌, map, length, refl, sym, ap, ◌∙◌, subst, true≢false, arith, ne_eqb}
use Rattle.ix_values.specs.PlainAction.{PlainAction}
use Rattle.ix_expr.specs.Form.{Form, atom, and, couple, every, sync}
use Rattle.ix_expr.specs.Environment.{Environment}
use Rattle.ix_tree.specs.Plain.{Plain, none, listed, items_of, and as and_of}
use Rattle.ix_tree.specs.Size.{size_of}
use Rattle.ix_can.specs.Nodes.{dead_if}
use Rattle.ix_can.specs.Ways.{is_empty}
use Rattle.ix_can.specs.May.{may}
use Rattle.ix_step.specs.inside.Pruned.{passes, is_none}

-- What is asked

-- an action that may come next passes
pub passed : (x : Form) (e : Environment) (t : Plain) (a : PlainAction) → may x e t a ≡ true → passes x e t a ≡ true
passed (atom x) e t a h = h
passed (and y z) e t a h = h
passed (couple y z) e t a h = h
passed (every p y) e t a h = h
passed (sync p y) e t a h = h
passed _ e t a h = refl

-- one that doesn't pass may not come
pub refused : (x : Form) (e : Environment) (t : Plain) (a : PlainAction) → passes x e t a ≡ false → may x e t a ≡ false
refused (atom x) e t a h = h
refused (and y z) e t a h = h
refused (couple y z) e t a h = h
refused (every p y) e t a h = h
refused (sync p y) e t a h = h
refused _ e t a h = absurd (true≢false h)

-- and the same is asked of equal expressions and trees
pub same_passes : {x y : Form} {t u : Plain} (e : Environment) (a : PlainAction) → x ≡ y → t ≡ u → passes x e t a ≡ true → passes y e u a ≡ true
same_passes {x} {y} {t} {u} e a same is h = subst (λ s. passes y e s a ≡ true) is (subst (λ z. passes z e t a ≡ true) same h)

pub both_first : (b c : Bool) → (b && c) ≡ true → b ≡ true
both_first true c h = refl
both_first false c h = h

pub both_second : (b c : Bool) → (b && c) ≡ true → c ≡ true
both_second true c h = h
both_second false c h = absurd (true≢false (sym h))

module _ (y z : Form) (e : Environment) (a : PlainAction) (t u : Plain) where
  -- of `&` both parts may move
  pub and_first_may : may (and y z) e (and_of t u) a ≡ true → may y e t a ≡ true
  and_first_may h = both_first (may y e t a) (may z e u a) h

  pub and_second_may : may (and y z) e (and_of t u) a ≡ true → may z e u a ≡ true
  and_second_may h = both_second (may y e t a) (may z e u a) h

-- Empty lists of parts

none_is : (t : Plain) → is_none t ≡ true → t ≡ none
none_is none e = refl
none_is _ e = absurd (true≢false (sym e))

pub trees_none : (xs : List Plain) → (length xs == 0) ≡ is_none (listed xs)
trees_none [] = refl
trees_none (x ∷ xs) = ne_eqb (length (x ∷ xs)) 0 (λ e. absurd (omega arith))

pub parts_none : {A : Type 0} (f : A → Plain) (xs : List A) → (length xs == 0) ≡ is_none (listed (map f xs))
parts_none f [] = refl
parts_none f (x ∷ xs) = ne_eqb (length (x ∷ xs)) 0 (λ e. absurd (omega arith))

pub trees_empty : (xs : List Plain) → (length xs == 0) ≡ is_empty (items_of (listed xs))
trees_empty [] = refl
trees_empty (x ∷ xs) = ne_eqb (length (x ∷ xs)) 0 (λ e. absurd (omega arith))

pub parts_empty : {A : Type 0} (f : A → Plain) (xs : List A) → (length xs == 0) ≡ is_empty (items_of (listed (map f xs)))
parts_empty f [] = refl
parts_empty f (x ∷ xs) = ne_eqb (length (x ∷ xs)) 0 (λ e. absurd (omega arith))

pub no_items : {A : Type 0} (xs : List A) → (length xs == 0) ≡ true → xs ≡ []
no_items [] e = refl
no_items (x ∷ xs) e = absurd (true≢false (sym e ∙ ne_eqb (length (x ∷ xs)) 0 (λ k. absurd (omega arith))))

pub some_items : {A : Type 0} (xs : List A) → (length xs == 0) ≡ false → 0 < length xs
some_items [] e = absurd (true≢false e)
some_items (x ∷ xs) e = omega arith

-- Nodes with a part that is above the limit

module _ (limit : ℕ) (n : Plain) where
  kept_over : (b : Bool) → b ≡ false → limit < size_of n → limit < size_of (dead_if b n)
  kept_over b e lt = subst (λ c. limit < size_of (dead_if c n)) (sym e) lt

  -- its list of parts
  pub list_over : (rest : Plain) → limit < size_of rest → size_of rest ≤ size_of n → limit < size_of (dead_if (is_none rest) n)
  list_over rest lt le = kept_over (is_none rest) (by_test (is_none rest) refl) (omega arith)
    where
      by_test : (b : Bool) → is_none rest ≡ b → b ≡ false
      by_test false e = refl
      by_test true e = let s : size_of rest ≡ 0 = ap size_of (none_is rest e) in absurd (omega arith)
