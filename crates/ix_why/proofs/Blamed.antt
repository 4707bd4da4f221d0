-- What the code tells of what it holds is what the definition tells of the tree.
use Rattle.std.proofs.Common.{◌≡◌, ℕ, ◌+◌, Bool, true, false, List, [], ◌∷◌, ◌++◌, Option, Some, None, map, refl, sym, ap, ◌∙◌, if◌then◌else◌}
use Rattle.ix_values.specs.PlainAction.{PlainAction}
use Rattle.ix_expr.specs.Environment.{Environment, bind}
use Rattle.ix_expr.specs.Form.{Form, opt, and, couple, every, sync, all}
use Rattle.ix_tree.specs.Plain.{Plain, items_of}
use Rattle.ix_tree.specs.Order.{key, first_part}
use Rattle.ix_expr.specs.Tests.{in_alphabet}
use Rattle.ix_can.specs.TreeOf.{tree_of}
use Rattle.ix_can.specs.May.{tree_at}
use Rattle.ix_why.specs.declared.part.Part.{Part}
use Rattle.ix_why.specs.Blames.{nodes, here, refuses, only, owner, first_that, made_of, made_of_both, blames}
use Rattle.ix_why.specs.Trees.{left, right, tree_for, tried}
use Rattle.ix_why.specs.inside.Held.{tree_held, left_held, maps_held, refuses_if, side_blames, both_blame, body_blames, owner_blames, IsOwned}
use Rattle.ix_why.proofs.Initial.{opt_first, and_first, couple_first, every_entries, every_body, sync_entries, sync_body}

pub opt_tells : (n : ℕ) (y : Form) (e : Environment) (s : Option Plain) (a : PlainAction) → blames (n + 1) y e (left_held y s) a ≡ blames n (opt y) e (tree_held (opt y) s) a
opt_tells n y e None a = ap (λ t. blames (n + 1) y e (left t) a) (sym (opt_first y))
opt_tells n y e (Some t) a = refl

pub and_tells : (n : ℕ) (y z : Form) (e : Environment) (s : Option Plain) (a : PlainAction) → both_blame false n y z e s a ≡ blames n (and y z) e (tree_held (and y z) s) a
and_tells n y z e None a = ap (λ t. side_blames false (n + 1) y e (left t) a ++ side_blames false (n + 1 + nodes y) z e (right t) a) (sym (and_first y z))
and_tells n y z e (Some t) a = refl

both_within : ℕ → Form → Form → Environment → PlainAction → Plain → List Part
both_within n y z e a t = side_blames true (n + 1) y e (left t) a ++ side_blames true (n + 1 + nodes y) z e (right t) a

pub couple_tells : (n : ℕ) (y z : Form) (e : Environment) (s : Option Plain) (a : PlainAction) → in_alphabet (couple y z) e a ≡ true → both_blame true n y z e s a ≡ blames n (couple y z) e (tree_held (couple y z) s) a
unfolding both_within
couple_tells n y z e s a h = both s ∙ ap (λ (b : Bool). if b then both_within n y z e a (tree_held (couple y z) s) else here n e) (sym h)
  where
    both : (s : Option Plain) → both_blame true n y z e s a ≡ both_within n y z e a (tree_held (couple y z) s)
    both None = ap (both_within n y z e a) (sym (couple_first y z))
    both (Some t) = refl

module _ (within : Bool) (n : ℕ) (p : List ℕ) (y : Form) (e : Environment) (a : PlainAction) where
  -- what a body tells whose tree for each value this is
  body_tells : (Option (List ℕ) → Plain) → List Plain → List Part
  body_tells tree entries =
      made_of (first_that (λ v. refuses_if within y (bind p v e) (tree v) a) (map Some a.values ++ (map (λ x. Some (key x)) entries ++ None ∷ [])))
      (λ v. blames (n + 1) y (bind p v e) (tree v) a)

pub every_tells : (n : ℕ) (p : List ℕ) (y : Form) (e : Environment) (s : Option Plain) (a : PlainAction) → body_blames false n p y e s a ≡ blames n (every p y) e (tree_held (every p y) s) a
unfolding body_tells
every_tells n p y e None a = λ i. body_tells false n p y e a (λ v. sym (every_body p y v) i) (sym (every_entries p y) i)
every_tells n p y e (Some t) a = refl

pub sync_tells : (n : ℕ) (p : List ℕ) (y : Form) (e : Environment) (s : Option Plain) (a : PlainAction) → in_alphabet (sync p y) e a ≡ true → body_blames true n p y e s a ≡ blames n (sync p y) e (tree_held (sync p y) s) a
unfolding body_tells
sync_tells n p y e None a h =
    let t : Plain = tree_of (sync p y) [] [] in
    (λ i. body_tells true n p y e a (λ v. sym (sync_body p y v) i) (sym (sync_entries p y) i))
    ∙ ap (λ (b : Bool). if b then made_of (first_that (λ v. refuses y (bind p v e) (tree_for v t) a) (tried a t)) (λ v. blames (n + 1) y (bind p v e) (tree_for v t) a) else here n e) (sym h)
sync_tells n p y e (Some t) a h =
    ap (λ (b : Bool). if b then made_of (first_that (λ v. refuses y (bind p v e) (tree_for v t) a) (tried a t)) (λ v. blames (n + 1) y (bind p v e) (tree_for v t) a) else here n e) (sym h)

pub all_tells : (n : ℕ) (p : List ℕ) (y : Form) (e : Environment) (s : Option Plain) (a : PlainAction) → owner_blames n p y e s a ≡ blames n (all p y) e (tree_held (all p y) s) a
all_tells n p y e None a = refl
all_tells n p y e (Some t) a = refl

-- outside its alphabet the node of a `@` or a `sync` is told
pub couple_outside : (n : ℕ) (y z : Form) (e : Environment) (t : Plain) (a : PlainAction) → in_alphabet (couple y z) e a ≡ false → here n e ≡ blames n (couple y z) e t a
unfolding both_within
couple_outside n y z e t a h = ap (λ (b : Bool). if b then both_within n y z e a t else here n e) (sym h)

pub sync_outside : (n : ℕ) (p : List ℕ) (y : Form) (e : Environment) (t : Plain) (a : PlainAction) → in_alphabet (sync p y) e a ≡ false → here n e ≡ blames n (sync p y) e t a
sync_outside n p y e t a h =
    ap (λ (b : Bool). if b then made_of (first_that (λ v. refuses y (bind p v e) (tree_for v t) a) (tried a t)) (λ v. blames (n + 1) y (bind p v e) (tree_for v t) a) else here n e) (sym h)

-- Owners

module _ {A B C : Type 0} (make : A → B → List C) (other : List C) where
  no_second : (o : Option A) → made_of_both o None make other ≡ other
  no_second None = refl
  no_second (Some x) = refl

pub no_owner : (n : ℕ) (p : List ℕ) (y : Form) (e : Environment) (s : Option Plain) (a : PlainAction) → owner p y e a ≡ None → here n e ≡ owner_blames n p y e s a
no_owner n p y e s a h =
    let make : Plain → List ℕ → List Part = λ m v. blames (n + 1) y (bind p (Some v) e) (tree_at v (tree_of y [] []) (items_of (first_part m))) a in
    sym (ap (λ o. made_of_both (only (maps_held s)) o make (here n e)) h ∙ no_second make (here n e) (only (maps_held s)))

pub no_map : (n : ℕ) (p : List ℕ) (y : Form) (e : Environment) (s : Option Plain) (a : PlainAction) → only (maps_held s) ≡ None → here n e ≡ owner_blames n p y e s a
no_map n p y e s a h =
    let make : Plain → List ℕ → List Part = λ m v. blames (n + 1) y (bind p (Some v) e) (tree_at v (tree_of y [] []) (items_of (first_part m))) a in
    sym (ap (λ o. made_of_both o (owner p y e a) make (here n e)) h)

pub owner_tells : (n : ℕ) (p : List ℕ) (y : Form) (e : Environment) (s : Option Plain) (a : PlainAction) (v : List ℕ) (r : Option Plain) → owner p y e a ≡ Some v → IsOwned v (maps_held s) r →
    blames (n + 1) y (bind p (Some v) e) (tree_held y r) a ≡ owner_blames n p y e s a
owner_tells n p y e s a v r h k =
    let make : Plain → List ℕ → List Part = λ m v. blames (n + 1) y (bind p (Some v) e) (tree_at v (tree_of y [] []) (items_of (first_part m))) a in
    ap (λ t. blames (n + 1) y (bind p (Some v) e) t a) (k.tree (tree_of y [] []))
    ∙ sym (λ i. made_of_both (k.alone i) (h i) make (here n e))
