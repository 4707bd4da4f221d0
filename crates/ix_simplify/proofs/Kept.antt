-- What an expression becomes means the same, and has no more nodes.
use Rattle.std.proofs.Common.{◌≡◌, ℕ, suc, ◌+◌, ◌<◌, ◌≤◌, List, [], length, ◌++◌, length-append, refl, sym, ap, subst, arith}
use Rattle.ix_expr.specs.Form.{Form, atom, opt, seq, star, par, par_star, or, and, couple, any, every, sync, all, times}
use Rattle.ix_expr.specs.FormFaults.{Binder, Node, nodes_below, nodes_of}
use Rattle.ix_simplify.specs.Laws.{MeanTheSame}
use Rattle.ix_simplify.specs.Rewriting.{Law, opt_opt, opt_star, opt_par_star, star_star, star_opt, star_par_star, par_star_par_star, par_star_star}
use Rattle.ix_simplify.specs.Rewriting.{par_star_opt, or_same, and_same, couple_same, any_unnamed, every_unnamed, sync_unnamed, AtRoot, rests}
use Rattle.ix_simplify.specs.Rewriting.{goes_on, Becomes}
use Rattle.ix_simplify.proofs.Congruence.{same_itself, same_through, alike-same, alike_opt, alike_seq, alike_star, alike_par, alike_par_star}
use Rattle.ix_simplify.proofs.Congruence.{alike_or, alike_and, alike_couple, alike_any, alike_every, alike_sync, alike_all, alike_times}
use Rattle.ix_simplify.proofs.Sides.{law-same}

root-same : {x s : Form} → AtRoot x s → MeanTheSame x s
root-same {x} (rests n) = same_itself x
root-same (goes_on {x} {y} l r) = same_through (law-same x y l) (root-same r)

-- what an expression becomes means the same
pub becomes-same : (x s : Form) → Becomes x s → MeanTheSame x s
becomes-same (atom x) s h = subst (MeanTheSame (atom x)) (sym h) (same_itself (atom x))
becomes-same (opt y) s h = same_through (alike-same (alike_opt (becomes-same y h.0 h.1))) (root-same h.2)
becomes-same (seq y z) s h = same_through (alike-same (alike_seq (becomes-same y h.0 h.2) (becomes-same z h.1 h.3))) (root-same h.4)
becomes-same (star y) s h = same_through (alike-same (alike_star (becomes-same y h.0 h.1))) (root-same h.2)
becomes-same (par y z) s h = same_through (alike-same (alike_par (becomes-same y h.0 h.2) (becomes-same z h.1 h.3))) (root-same h.4)
becomes-same (par_star y) s h = same_through (alike-same (alike_par_star (becomes-same y h.0 h.1))) (root-same h.2)
becomes-same (or y z) s h = same_through (alike-same (alike_or (becomes-same y h.0 h.2) (becomes-same z h.1 h.3))) (root-same h.4)
becomes-same (and y z) s h = same_through (alike-same (alike_and (becomes-same y h.0 h.2) (becomes-same z h.1 h.3))) (root-same h.4)
becomes-same (couple y z) s h = same_through (alike-same (alike_couple (becomes-same y h.0 h.2) (becomes-same z h.1 h.3))) (root-same h.4)
becomes-same (any p y) s h = same_through (alike-same (alike_any p (becomes-same y h.0 h.1))) (root-same h.2)
becomes-same (every p y) s h = same_through (alike-same (alike_every p (becomes-same y h.0 h.1))) (root-same h.2)
becomes-same (sync p y) s h = same_through (alike-same (alike_sync p (becomes-same y h.0 h.1))) (root-same h.2)
becomes-same (all p y) s h = same_through (alike-same (alike_all p (becomes-same y h.0 h.1))) (root-same h.2)
becomes-same (times n y) s h = same_through (alike-same (alike_times n (becomes-same y h.0 h.1))) (root-same h.2)

-- how many nodes an expression has
abbrev count : Form → ℕ
count (atom x) = 1
count (opt y) = suc (count y)
count (seq y z) = suc (count y + count z)
count (star y) = suc (count y)
count (par y z) = suc (count y + count z)
count (par_star y) = suc (count y)
count (or y z) = suc (count y + count z)
count (and y z) = suc (count y + count z)
count (couple y z) = suc (count y + count z)
count (any p y) = suc (count y)
count (every p y) = suc (count y)
count (sync p y) = suc (count y)
count (all p y) = suc (count y)
count (times n y) = suc (count y)

two : (xs ys : List Node) (m n : ℕ) → length xs ≡ m → length ys ≡ n → suc (length (xs ++ ys)) ≡ suc (m + n)
two xs ys m n e f = omega (arith, length-append xs ys, e, f)

count-nodes : (x : Form) (d : ℕ) (around : List Binder) → length (nodes_below d around x) ≡ count x
count-nodes (atom x) d around = refl
count-nodes (opt y) d around = ap suc (count-nodes y (suc d) around)
count-nodes (seq y z) d around = two _ _ (count y) (count z) (count-nodes y (suc d) around) (count-nodes z (suc d) around)
count-nodes (star y) d around = ap suc (count-nodes y (suc d) around)
count-nodes (par y z) d around = two _ _ (count y) (count z) (count-nodes y (suc d) around) (count-nodes z (suc d) around)
count-nodes (par_star y) d around = ap suc (count-nodes y (suc d) around)
count-nodes (or y z) d around = two _ _ (count y) (count z) (count-nodes y (suc d) around) (count-nodes z (suc d) around)
count-nodes (and y z) d around = two _ _ (count y) (count z) (count-nodes y (suc d) around) (count-nodes z (suc d) around)
count-nodes (couple y z) d around = two _ _ (count y) (count z) (count-nodes y (suc d) around) (count-nodes z (suc d) around)
count-nodes (any p y) d around = ap suc (count-nodes y (suc d) _)
count-nodes (every p y) d around = ap suc (count-nodes y (suc d) _)
count-nodes (sync p y) d around = ap suc (count-nodes y (suc d) _)
count-nodes (all p y) d around = ap suc (count-nodes y (suc d) _)
count-nodes (times n y) d around = ap suc (count-nodes y (suc d) around)

fewer : (x l z r : Form) → x ≡ l → z ≡ r → count r < count l → count z < count x
fewer x l z r e f h = omega (arith, ap count e, ap count f, h)

some_nodes : (x : Form) → 0 < count x
some_nodes (atom x) = omega arith
some_nodes (opt y) = omega arith
some_nodes (seq y z) = omega arith
some_nodes (star y) = omega arith
some_nodes (par y z) = omega arith
some_nodes (par_star y) = omega arith
some_nodes (or y z) = omega arith
some_nodes (and y z) = omega arith
some_nodes (couple y z) = omega arith
some_nodes (any p y) = omega arith
some_nodes (every p y) = omega arith
some_nodes (sync p y) = omega arith
some_nodes (all p y) = omega arith
some_nodes (times n y) = omega arith

law-count : (x z : Form) → Law x z → count z < count x
law-count x z (opt_opt y e f) = fewer x _ z _ e f (omega arith)
law-count x z (opt_star y e f) = fewer x _ z _ e f (omega arith)
law-count x z (opt_par_star y e f) = fewer x _ z _ e f (omega arith)
law-count x z (star_star y e f) = fewer x _ z _ e f (omega arith)
law-count x z (star_opt y e f) = fewer x _ z _ e f (omega arith)
law-count x z (star_par_star y e f) = fewer x _ z _ e f (omega arith)
law-count x z (par_star_par_star y e f) = fewer x _ z _ e f (omega arith)
law-count x z (par_star_star y e f) = fewer x _ z _ e f (omega arith)
law-count x z (par_star_opt y e f) = fewer x _ z _ e f (omega arith)
law-count x z (or_same y e f) = fewer x _ z _ e f (omega arith)
law-count x z (and_same y e f) = fewer x _ z _ e f (omega arith)
law-count x z (couple_same y e f) = fewer x _ z _ e f (omega arith)
law-count x z (any_unnamed p y e n f) = fewer x _ z _ e f (omega arith)
law-count x z (every_unnamed p y e n f) = fewer x _ z _ e f (omega arith)
law-count x z (sync_unnamed p y e n f) = fewer x _ z _ e f (omega arith)

-- each use of a law lowers the number of nodes
pub law-lowers : (x z : Form) → Law x z → length (nodes_of z) < length (nodes_of x)
law-lowers x z l = omega (arith, law-count x z l, count-nodes x 1 [], count-nodes z 1 [])

root-count : {x s : Form} → AtRoot x s → count s ≤ count x
root-count (rests n) = omega arith
root-count (goes_on {x} {y} l r) = let less = law-count x y l in let rest = root-count r in omega (arith, less, rest)

becomes-count : (x s : Form) → Becomes x s → count s ≤ count x
becomes-count (atom x) s h = omega (arith, ap count h)
becomes-count (opt y) s h = omega (arith, root-count h.2, becomes-count y h.0 h.1)
becomes-count (seq y z) s h = omega (arith, root-count h.4, becomes-count y h.0 h.2, becomes-count z h.1 h.3)
becomes-count (star y) s h = omega (arith, root-count h.2, becomes-count y h.0 h.1)
becomes-count (par y z) s h = omega (arith, root-count h.4, becomes-count y h.0 h.2, becomes-count z h.1 h.3)
becomes-count (par_star y) s h = omega (arith, root-count h.2, becomes-count y h.0 h.1)
becomes-count (or y z) s h = omega (arith, root-count h.4, becomes-count y h.0 h.2, becomes-count z h.1 h.3)
becomes-count (and y z) s h = omega (arith, root-count h.4, becomes-count y h.0 h.2, becomes-count z h.1 h.3)
becomes-count (couple y z) s h = omega (arith, root-count h.4, becomes-count y h.0 h.2, becomes-count z h.1 h.3)
becomes-count (any p y) s h = omega (arith, root-count h.2, becomes-count y h.0 h.1)
becomes-count (every p y) s h = omega (arith, root-count h.2, becomes-count y h.0 h.1)
becomes-count (sync p y) s h = omega (arith, root-count h.2, becomes-count y h.0 h.1)
becomes-count (all p y) s h = omega (arith, root-count h.2, becomes-count y h.0 h.1)
becomes-count (times n y) s h = omega (arith, root-count h.2, becomes-count y h.0 h.1)

-- what an expression becomes has no more nodes
pub becomes-nodes : (x s : Form) → Becomes x s → length (nodes_of s) ≤ length (nodes_of x)
becomes-nodes x s h = omega (arith, becomes-count x s h, count-nodes x 1 [], count-nodes s 1 [])
