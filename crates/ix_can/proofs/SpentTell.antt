-- A word whose tree is done is complete and stuck, and the tree of the empty word is open.
use Rattle.std.proofs.Common.{◌≡◌, Bool, true, false, not, ◌&&◌, ◌||◌, List, [], ◌∷◌, ◌++◌, None, map, flat_map, filter, refl, sym, ap, ◌∙◌, true≢false, if◌then◌else◌}
use Rattle.ix_words.specs.Canon.{when, cuts}
use Rattle.ix_values.specs.PlainAction.{Word}
use Rattle.ix_expr.specs.Form.{Form, atom, opt, seq, star, par, par_star, or, and, couple, any, every, sync, all, times}
use Rattle.ix_expr.specs.Environment.{Environment, bind}
use Rattle.ix_expr.specs.FormFaults.{Fits}
use Rattle.ix_tree.specs.Plain.{Plain, done, opt as opt_of, or as or_of, and as and_of, couple as couple_of, any as any_of, every as every_of, sync as sync_of, par as par_of, pair as pair_of, none, more}
use Rattle.ix_can.specs.Nodes.{is_dead, is_done, is_live, is_ended, is_open, dead_if, is_spent, settled, par_node, times_node, seq_parts, live, set_of, items_of}
use Rattle.ix_can.specs.Ways.{is_empty}
use Rattle.ix_can.specs.TreeOf.{is_final, tree_of, whole_bag}
use Rattle.ix_can.specs.Laws.{IsCompleteAndStuck}
use Rattle.ix_can.specs.May.{may}
use Rattle.ix_can.proofs.Naming.{fits_name}
use Rattle.ix_can.proofs.Spent.{open_live, open_not_done, open_not_ended, unless_open, final_done, may_done, node_is}
use Rattle.ix_can.proofs.Sharings.{empty_parts}
use Rattle.ix_can.proofs.TreesTell.{tree_tells}
use Rattle.ix_can.proofs.MovesTell.{each_step}

pub done_tells : (x : Form) (e : Environment) (w : Word) → Fits x e → tree_of x e w ≡ done → IsCompleteAndStuck x e w
done_tells x e w fits h = record {
  complete = (tree_tells x (fits_name x e fits) e w).complete.0 (ap (is_final x) h ∙ final_done x);
  stuck = λ a p. true≢false (sym (((each_step x e a fits).next w).1 p) ∙ ap (λ t. may x e t a) h ∙ may_done x e a);
}

-- The empty word

-- a node that is neither dead nor spent is open where it is of another form
open_node : (b : Bool) (t : Plain) → is_open t ≡ true → b ≡ false → is_spent t ≡ false → is_open (dead_if b (settled t)) ≡ true
open_node b t o n s = ap is_open (node_is b t n s) ∙ o

module _ (t u : Plain) (f : is_open t ≡ true) (g : is_open u ≡ true) where
  neither_done : is_done t && is_done u ≡ false
  neither_done = ap (λ b. b && is_done u) (open_not_done t f)

  neither_dead : is_dead t || is_dead u ≡ false
  neither_dead = (λ i. open_live t f i || open_live u g i)

  one_pair : is_open (par_node (when (is_live t && is_live u) (pair_of t u ∷ []) ++ [])) ≡ true
  one_pair =
      ap (λ b. is_open (par_node (when b (pair_of t u ∷ []) ++ []))) (λ i. not (open_live t f i) && not (open_live u g i))
      ∙ ap (λ c. is_open (if c then done else par_of (more (pair_of t u) none))) neither_done

pub begins_open : (x : Form) (e : Environment) → is_open (tree_of x e []) ≡ true
begins_open (atom x) e = refl
begins_open (opt y) e =
    let t : Plain = tree_of y e [] in
    open_node (is_dead t) (opt_of true t) refl (open_live t (begins_open y e)) (open_not_done t (begins_open y e))
begins_open (seq y z) e =
    let t : Plain = tree_of y e [] in
    let rest : List Plain = flat_map (λ c. when (is_final y (tree_of y e c.0)) (live (tree_of z e c.1))) (cuts []) in
    open_node (is_dead t && is_empty rest) (seq_parts t rest) refl
    (ap (λ b. b && is_empty rest) (open_live t (begins_open y e)))
    (ap (λ b. b && is_empty (items_of (set_of (filter is_open rest)))) (unless_open t (begins_open y e)))
begins_open (star y) e = refl
begins_open (par y z) e = one_pair (tree_of y e []) (tree_of z e []) (begins_open y e) (begins_open z e)
begins_open (par_star y) e = refl
begins_open (or y z) e =
    let t : Plain = tree_of y e [] in
    let u : Plain = tree_of z e [] in
    open_node (is_dead t && is_dead u) (or_of t u) refl
    (ap (λ b. b && is_dead u) (open_live t (begins_open y e)))
    (ap (λ b. b && is_ended u) (open_not_ended t (begins_open y e)))
begins_open (and y z) e =
    let t : Plain = tree_of y e [] in
    let u : Plain = tree_of z e [] in
    open_node (is_dead t || is_dead u) (and_of t u) refl (neither_dead t u (begins_open y e) (begins_open z e)) (neither_done t u (begins_open y e) (begins_open z e))
begins_open (couple y z) e =
    let t : Plain = tree_of y e [] in
    let u : Plain = tree_of z e [] in
    open_node (is_dead t || is_dead u) (couple_of t u) refl (neither_dead t u (begins_open y e) (begins_open z e)) (neither_done t u (begins_open y e) (begins_open z e))
begins_open (any p y) e =
    let t : Plain = tree_of y (bind p None e) [] in
    let o = begins_open y (bind p None e) in
    open_node (is_dead t && true) (any_of t none) refl (ap (λ b. b && true) (open_live t o)) (ap (λ b. b && true) (open_not_ended t o))
begins_open (every p y) e =
    let t : Plain = tree_of y (bind p None e) [] in
    let o = begins_open y (bind p None e) in
    open_node (is_dead t || false) (every_of t none) refl (ap (λ b. b || false) (open_live t o)) (ap (λ b. b && true) (open_not_done t o))
begins_open (sync p y) e =
    let t : Plain = tree_of y (bind p None e) [] in
    let o = begins_open y (bind p None e) in
    open_node (is_dead t || false) (sync_of t none) refl (ap (λ b. b || false) (open_live t o)) (ap (λ b. b && true) (open_not_done t o))
begins_open (all p y) e = refl
begins_open (times n y) e = ap (λ ps. is_open (times_node n (whole_bag (map (tree_of y e) ps) ++ []))) (empty_parts n)

pub never_spent : (x : Form) (e : Environment) → ¬ (tree_of x e [] ≡ done)
never_spent x e h = true≢false (sym (begins_open x e) ∙ ap is_open h)
