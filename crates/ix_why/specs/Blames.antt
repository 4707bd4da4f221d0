-- Which parts of an expression refuse an action.
use Rattle.std.specs.Prelude.{ℕ, ◌+◌, Bool, not, ◌&&◌, List, [], ◌∷◌, ◌++◌, filter, reverse, length}
use Rattle.std.specs.Prelude.{Option, Some, None, if◌then◌else◌}
use Rattle.std.specs.List.{list_all}
use Rattle.ix_words.specs.Canon.{when}
use Rattle.ix_values.specs.Order.{text_eq}
use Rattle.ix_values.specs.PlainAction.{PlainAction}
use Rattle.ix_expr.specs.Form.{Form, opt, and, couple, every, sync, all}
use Rattle.ix_expr.specs.Environment.{Environment, bind}
use Rattle.ix_tree.specs.Plain.{Plain, items_of}
use Rattle.ix_tree.specs.Order.{first_part}
use Rattle.ix_expr.specs.Tests.{in_alphabet}
use Rattle.ix_can.specs.TreeOf.{tree_of}
use Rattle.ix_can.specs.May.{may, tree_at}
use Rattle.ix_lint.specs.Nodes.{forms}
use Rattle.ix_why.specs.declared.part.Part.{Part}
use Rattle.ix_why.specs.Trees.{left, right, owner_maps, tree_for, tried}

-- how many nodes an expression has
abbrev pub nodes : Form → ℕ
nodes x = length (forms x)

-- this node, with what the parameters stand for, the outermost first
abbrev pub here : ℕ → Environment → List Part
here n e = record { node = n; bound = reverse e } ∷ []

-- the action is in the alphabet, and may not come
abbrev pub refuses : Form → Environment → Plain → PlainAction → Bool
refuses y e t a = in_alphabet y e a && not (may y e t a)

-- the first item that passes the test
abbrev pub first_that : {A : Type 0} → (A → Bool) → List A → Option A
first_that test [] = None
first_that test (x ∷ xs) = if test x then Some x else first_that test xs

-- what is made of the item, if there is one
abbrev pub made_of : {A B : Type 0} → Option A → (A → List B) → List B
made_of None make = []
made_of (Some x) make = make x

-- the only item of a list
abbrev pub only : {A : Type 0} → List A → Option A
only [] = None
only (x ∷ []) = Some x
only (x ∷ y ∷ xs) = None

-- the only value in a list, where it may stand more than once
abbrev pub one_value : List (List ℕ) → Option (List ℕ)
one_value [] = None
one_value (v ∷ vs) = if list_all (text_eq v) vs then Some v else None

-- the only value of the action that owns it
abbrev pub owner : List ℕ → Form → Environment → PlainAction → Option (List ℕ)
owner p y e a = one_value (filter (λ v. in_alphabet y (bind p (Some v) e) a) a.values)

-- what is made of both, or the other list where one isn't there
abbrev pub made_of_both : {A B C : Type 0} → Option A → Option B → (A → B → List C) → List C
    → List C
made_of_both (Some x) (Some y) make other = make x y
made_of_both (Some x) None make other = other
made_of_both None y make other = other

-- the parts that refuse the action, n being the node and t the tree of the word before
abbrev pub blames : ℕ → Form → Environment → Plain → PlainAction → List Part
blames n (opt y) e t a = blames (n + 1) y e (left t) a
blames n (and y z) e t a =
    when (not (may y e (left t) a)) (blames (n + 1) y e (left t) a)
    ++ when (not (may z e (right t) a)) (blames (n + 1 + nodes y) z e (right t) a)
blames n (couple y z) e t a =
    if in_alphabet (couple y z) e a
    then when (refuses y e (left t) a) (blames (n + 1) y e (left t) a)
    ++ when (refuses z e (right t) a) (blames (n + 1 + nodes y) z e (right t) a)
    else here n e
blames n (every p y) e t a =
    made_of (first_that (λ v. not (may y (bind p v e) (tree_for v t) a)) (tried a t))
    (λ v. blames (n + 1) y (bind p v e) (tree_for v t) a)
blames n (sync p y) e t a =
    if in_alphabet (sync p y) e a
    then made_of (first_that (λ v. refuses y (bind p v e) (tree_for v t) a) (tried a t))
    (λ v. blames (n + 1) y (bind p v e) (tree_for v t) a)
    else here n e
blames n (all p y) e t a = made_of_both (only (owner_maps t)) (owner p y e a)
    (λ m v. blames (n + 1) y (bind p (Some v) e)
    (tree_at v (tree_of y [] []) (items_of (first_part m))) a)
    (here n e)
blames n x e t a = here n e

-- the parts of the whole expression that refuse the action; none, where it may come
abbrev pub refusals : Form → Plain → PlainAction → List Part
refusals x t a = when (not (may x [] t a)) (blames 0 x [] t a)
