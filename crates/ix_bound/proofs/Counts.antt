-- An expression has as many codes as nodes, at most 512.
use Rattle.std.proofs.Common.{◌≡◌, ◌≤◌, ℕ, suc, List, [], ◌∷◌, ◌++◌, length, refl, ap, arith, false, true}
use Rattle.ix_expr.specs.Form.{Form, atom, opt, seq, star, par, par_star, or, and, couple, any, every, sync, all, times}
use Rattle.ix_expr.specs.FormFaults.{Binder, nodes_below, IsWellFormed}
use Rattle.ix_expr.proofs.Parts.{well-formed-few}
use Rattle.ix_bound.specs.Refusals.{codes_of}
use Rattle.ix_bound.proofs.Walks.{length_append}

two : (d : ℕ) (around : List Binder) (y z : Form) → length (codes_of y) ≡ length (nodes_below d around y) → length (codes_of z) ≡ length (nodes_below d around z) → length (codes_of y ++ codes_of z) ≡ length (nodes_below d around y ++ nodes_below d around z)
two d around y z h k = omega (arith, h, k, length_append (codes_of y) (codes_of z), length_append (nodes_below d around y) (nodes_below d around z))

-- one code a node
pub codes_count : (d : ℕ) (around : List Binder) (x : Form) → length (codes_of x) ≡ length (nodes_below d around x)
codes_count d around (atom x) = refl
codes_count d around (opt y) = ap suc (codes_count (suc d) around y)
codes_count d around (seq y z) = ap suc (two (suc d) around y z (codes_count (suc d) around y) (codes_count (suc d) around z))
codes_count d around (star y) = ap suc (codes_count (suc d) around y)
codes_count d around (par y z) = ap suc (two (suc d) around y z (codes_count (suc d) around y) (codes_count (suc d) around z))
codes_count d around (par_star y) = ap suc (codes_count (suc d) around y)
codes_count d around (or y z) = ap suc (two (suc d) around y z (codes_count (suc d) around y) (codes_count (suc d) around z))
codes_count d around (and y z) = ap suc (two (suc d) around y z (codes_count (suc d) around y) (codes_count (suc d) around z))
codes_count d around (couple y z) = ap suc (two (suc d) around y z (codes_count (suc d) around y) (codes_count (suc d) around z))
codes_count d around (any p y) = ap suc (codes_count (suc d) (record { is_all = false; parameter = p } ∷ around) y)
codes_count d around (every p y) = ap suc (codes_count (suc d) (record { is_all = false; parameter = p } ∷ around) y)
codes_count d around (sync p y) = ap suc (codes_count (suc d) (record { is_all = false; parameter = p } ∷ around) y)
codes_count d around (all p y) = ap suc (codes_count (suc d) (record { is_all = true; parameter = p } ∷ around) y)
codes_count d around (times n y) = ap suc (codes_count (suc d) around y)

pub few_codes : (x : Form) → IsWellFormed x → length (codes_of x) ≤ 512
few_codes x h = omega (arith, codes_count 1 [] x, well-formed-few x h)
