-- The tree of the empty word: its operands' are those of the empty word too, and no value has begun.
use Rattle.std.proofs.Common.{◌≡◌, ℕ, true, false, ◌&&◌, ◌||◌, List, [], Option, Some, None, ap, ◌∙◌}
use Rattle.ix_values.specs.PlainAction.{PlainAction}
use Rattle.ix_expr.specs.Form.{Form, opt, and, couple, every, sync}
use Rattle.ix_expr.specs.Environment.{Environment, bind}
use Rattle.ix_expr.specs.FormFaults.{Fits}
use Rattle.ix_tree.specs.Plain.{Plain, none, opt as opt_of, and as and_of, couple as couple_of, every as every_of, sync as sync_of}
use Rattle.ix_can.specs.Nodes.{is_dead, is_done}
use Rattle.ix_can.specs.TreeOf.{tree_of}
use Rattle.ix_can.specs.May.{may, may_first}
use Rattle.ix_can.proofs.Agreeing.{empty_tree}
use Rattle.ix_words.proofs.Deciding.{one_test, iff_trans, iff_sym}
use Rattle.ix_can.proofs.MovesTell.{each_step}
use Rattle.ix_can.proofs.Spent.{open_live, open_not_done, node_is}
use Rattle.ix_can.proofs.SpentTell.{begins_open}
use Rattle.ix_why.specs.Trees.{entries, tree_for}

-- of an expression that fits the tree of the empty word tells whether the action may come first
pub first_next : (x : Form) (e : Environment) (a : PlainAction) → Fits x e → may_first x e a ≡ may x e (tree_of x [] []) a
first_next x e a fits =
    let k = each_step x e a fits in
    one_test (may_first x e a) (may x e (tree_of x e []) a) (iff_trans k.first (iff_sym (k.next [])))
    ∙ ap (λ t. may x e t a) (empty_tree x e [])

pub opt_first : (y : Form) → tree_of (opt y) [] [] ≡ opt_of true (tree_of y [] [])
opt_first y =
    let t : Plain = tree_of y [] [] in
    node_is (is_dead t) (opt_of true t) (open_live t (begins_open y [])) (open_not_done t (begins_open y []))

module _ (y z : Form) where
  neither_dead : is_dead (tree_of y [] []) || is_dead (tree_of z [] []) ≡ false
  neither_dead = (λ i. open_live (tree_of y [] []) (begins_open y []) i || open_live (tree_of z [] []) (begins_open z []) i)

  neither_done : is_done (tree_of y [] []) && is_done (tree_of z [] []) ≡ false
  neither_done = ap (λ b. b && is_done (tree_of z [] [])) (open_not_done (tree_of y [] []) (begins_open y []))

  pub and_first : tree_of (and y z) [] [] ≡ and_of (tree_of y [] []) (tree_of z [] [])
  and_first = node_is (is_dead (tree_of y [] []) || is_dead (tree_of z [] [])) (and_of (tree_of y [] []) (tree_of z [] [])) neither_dead neither_done

  pub couple_first : tree_of (couple y z) [] [] ≡ couple_of (tree_of y [] []) (tree_of z [] [])
  couple_first = node_is (is_dead (tree_of y [] []) || is_dead (tree_of z [] [])) (couple_of (tree_of y [] []) (tree_of z [] [])) neither_dead neither_done

module _ (p : List ℕ) (y : Form) where
  every_first : tree_of (every p y) [] [] ≡ every_of (tree_of y (bind p None []) []) none
  every_first =
      let t : Plain = tree_of y (bind p None []) [] in
      let o = begins_open y (bind p None []) in
      node_is (is_dead t || false) (every_of t none) (ap (λ b. b || false) (open_live t o)) (ap (λ b. b && true) (open_not_done t o))

  sync_first : tree_of (sync p y) [] [] ≡ sync_of (tree_of y (bind p None []) []) none
  sync_first =
      let t : Plain = tree_of y (bind p None []) [] in
      let o = begins_open y (bind p None []) in
      node_is (is_dead t || false) (sync_of t none) (ap (λ b. b || false) (open_live t o)) (ap (λ b. b && true) (open_not_done t o))

  pub every_entries : entries (tree_of (every p y) [] []) ≡ []
  every_entries = ap entries every_first

  pub sync_entries : entries (tree_of (sync p y) [] []) ≡ []
  sync_entries = ap entries sync_first

  pub every_body : (v : Option (List ℕ)) → tree_for v (tree_of (every p y) [] []) ≡ tree_of y [] []
  every_body None = ap (tree_for None) every_first ∙ empty_tree y (bind p None []) []
  every_body (Some v) = ap (tree_for (Some v)) every_first ∙ empty_tree y (bind p None []) []

  pub sync_body : (v : Option (List ℕ)) → tree_for v (tree_of (sync p y) [] []) ≡ tree_of y [] []
  sync_body None = ap (tree_for None) sync_first ∙ empty_tree y (bind p None []) []
  sync_body (Some v) = ap (tree_for (Some v)) sync_first ∙ empty_tree y (bind p None []) []
