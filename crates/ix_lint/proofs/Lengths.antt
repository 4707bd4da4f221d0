-- An expression has as many forms and spots as nodes, at most 512.
use Rattle.std.proofs.Common.{◌≡◌, ◌≤◌, ℕ, suc, List, [], ◌∷◌, ◌++◌, length, refl, ap, arith, false, true}
use Rattle.ix_expr.specs.Form.{Form, atom, opt, seq, star, par, par_star, or, and, couple, any, every, sync, all, times}
use Rattle.ix_expr.specs.FormFaults.{Binder, nodes_below, IsWellFormed}
use Rattle.ix_expr.proofs.Parts.{well-formed-few}
use Rattle.ix_lint.specs.Nodes.{forms, spots}
use Rattle.ix_lint.proofs.Numbers.{length_append}

both_long : {A B : Type 0} (xs ys : List A) (us vs : List B) → length xs ≡ length us → length ys ≡ length vs → suc (length (xs ++ ys)) ≡ suc (length (us ++ vs))
both_long xs ys us vs h k = omega (arith, h, k, length_append xs ys, length_append us vs)

-- one spot a form, whatever is above
pub as_long : (above : List Form) (x : Form) → length (spots above x) ≡ length (forms x)
as_long above (atom x) = refl
as_long above (opt y) = ap suc (as_long (opt y ∷ above) y)
as_long above (seq y z) = both_long _ _ _ _ (as_long (seq y z ∷ above) y) (as_long (seq y z ∷ above) z)
as_long above (star y) = ap suc (as_long (star y ∷ above) y)
as_long above (par y z) = both_long _ _ _ _ (as_long (par y z ∷ above) y) (as_long (par y z ∷ above) z)
as_long above (par_star y) = ap suc (as_long (par_star y ∷ above) y)
as_long above (or y z) = both_long _ _ _ _ (as_long (or y z ∷ above) y) (as_long (or y z ∷ above) z)
as_long above (and y z) = both_long _ _ _ _ (as_long (and y z ∷ above) y) (as_long (and y z ∷ above) z)
as_long above (couple y z) = both_long _ _ _ _ (as_long (couple y z ∷ above) y) (as_long (couple y z ∷ above) z)
as_long above (any p y) = ap suc (as_long (any p y ∷ above) y)
as_long above (every p y) = ap suc (as_long (every p y ∷ above) y)
as_long above (sync p y) = ap suc (as_long (sync p y ∷ above) y)
as_long above (all p y) = ap suc (as_long (all p y ∷ above) y)
as_long above (times n y) = ap suc (as_long (times n y ∷ above) y)

-- one form a node
forms_count : (d : ℕ) (around : List Binder) (x : Form) → length (forms x) ≡ length (nodes_below d around x)
forms_count d around (atom x) = refl
forms_count d around (opt y) = ap suc (forms_count (suc d) around y)
forms_count d around (seq y z) = both_long _ _ _ _ (forms_count (suc d) around y) (forms_count (suc d) around z)
forms_count d around (star y) = ap suc (forms_count (suc d) around y)
forms_count d around (par y z) = both_long _ _ _ _ (forms_count (suc d) around y) (forms_count (suc d) around z)
forms_count d around (par_star y) = ap suc (forms_count (suc d) around y)
forms_count d around (or y z) = both_long _ _ _ _ (forms_count (suc d) around y) (forms_count (suc d) around z)
forms_count d around (and y z) = both_long _ _ _ _ (forms_count (suc d) around y) (forms_count (suc d) around z)
forms_count d around (couple y z) = both_long _ _ _ _ (forms_count (suc d) around y) (forms_count (suc d) around z)
forms_count d around (any p y) = ap suc (forms_count (suc d) (record { is_all = false; parameter = p } ∷ around) y)
forms_count d around (every p y) = ap suc (forms_count (suc d) (record { is_all = false; parameter = p } ∷ around) y)
forms_count d around (sync p y) = ap suc (forms_count (suc d) (record { is_all = false; parameter = p } ∷ around) y)
forms_count d around (all p y) = ap suc (forms_count (suc d) (record { is_all = true; parameter = p } ∷ around) y)
forms_count d around (times n y) = ap suc (forms_count (suc d) around y)

pub few_forms : (x : Form) → IsWellFormed x → length (forms x) ≤ 512
few_forms x h = omega (arith, forms_count 1 [] x, well-formed-few x h)

pub few_spots : (x : Form) → IsWellFormed x → length (spots [] x) ≤ 512
few_spots x h = omega (arith, as_long [] x, few_forms x h)
