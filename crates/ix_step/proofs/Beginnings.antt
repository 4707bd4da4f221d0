-- The tree of the empty word is the one that is said form by form; it is live, final where the empty word is complete, and small.
use Rattle.std.proofs.Common.{◌==◌, ne_eqb, sym, map, Option, slice_get, ⊎_elim, zero, ◌≡◌, ℕ, suc, ◌<◌, ◌≤◌, ◌*◌, Bool, true, false, not, ◌&&◌, ◌||◌, List, [], ◌∷◌, ◌++◌, length, None, Some, refl, ap, ◌∙◌, subst, arith, length-append, filter, cond, if◌then◌else◌}
use Rattle.std.specs.List.{list_any}
use Rattle.ix_words.specs.Canon.{when}
use Rattle.ix_expr.specs.Form.{Form, atom, opt, seq, star, par, par_star, or, and, couple, any, every, sync, all, times}
use Rattle.ix_expr.specs.Environment.{Environment, bind}
use Rattle.std.proofs.lemmas.Bool.{cases_lt}
use Rattle.ix_expr.specs.FormFaults.{Binder, Node, nodes_below, binders_of, HaveNoFault, fault_at, Fits}
use Rattle.ix_can.specs.Laws.{IsProper}
use Rattle.ix_can.proofs.Proper.{proper}
use Rattle.ix_can.proofs.Sharings.{empty_parts}
use Rattle.ix_can.proofs.Spent.{open_live, open_not_done, open_not_ended, node_is}
use Rattle.ix_tree.specs.Plain.{Plain, dead, opt as opt_of, seq as seq_of, par as par_of, or as or_of, and as and_of, couple as couple_of, any as any_of, every as every_of, sync as sync_of, pair as pair_of, none, listed, items_of}
use Rattle.ix_tree.specs.Size.{size_of}
use Rattle.ix_expr.specs.Tests.{accepts_empty}
use Rattle.ix_can.specs.Nodes.{is_dead, is_done, is_live, is_ended, is_open, is_spent, settled, done_if, opt_node, seq_parts, seq_node, par_node, or_node, and_node, couple_node, any_node, every_node, sync_node, times_node, live, set_of, dead_if}
use Rattle.ix_can.specs.Ways.{is_empty}
use Rattle.ix_can.specs.TreeOf.{is_final, tree_of, live_pair, whole_bag}
use Rattle.ix_step.specs.inside.Initial.{initial_tree}

pub initial_open : (x : Form) → is_open (initial_tree x) ≡ true
initial_open (atom x) = refl
initial_open _ = refl

pub initial_live : (x : Form) → is_dead (initial_tree x) ≡ false
initial_live x = open_live (initial_tree x) (initial_open x)

initial_starts : (x : Form) → is_done (initial_tree x) ≡ false
initial_starts x = open_not_done (initial_tree x) (initial_open x)

both_and : (a b c d : Bool) → a ≡ c → b ≡ d → (a && b) ≡ (c && d)
both_and a b c d e f = ap (λ x. x && b) e ∙ ap (λ y. c && y) f

-- Final where the empty word is complete

or_false : (b : Bool) → (b || false) ≡ b
or_false true = refl
or_false false = refl

and_true : (b : Bool) → (b && true) ≡ b
and_true true = refl
and_true false = refl

last_listed : (test : Plain → Bool) (b : Bool) (t : Plain) → list_any test (items_of (listed (when b (t ∷ [])))) ≡ (b && test t)
last_listed test true t = or_false (test t)
last_listed test false t = refl

-- whether none is wanted, asked the other way round
none_wanted : (n : ℕ) → (0 == n) ≡ (n == 0)
none_wanted zero = refl
none_wanted (suc n) = ne_eqb 0 (suc n) (λ e. absurd (omega arith)) ∙ sym (ne_eqb (suc n) 0 (λ e. absurd (omega arith)))

pub initial_final : (x : Form) → is_final x (initial_tree x) ≡ accepts_empty x
initial_final (atom x) = refl
initial_final (opt y) = refl
initial_final (seq y z) = last_listed (is_final z) (accepts_empty y) (initial_tree z) ∙ ap (λ b. accepts_empty y && b) (initial_final z)
initial_final (star y) = refl
initial_final (par y z) = or_false (is_final y (initial_tree y) && is_final z (initial_tree z)) ∙ both_and (is_final y (initial_tree y)) (is_final z (initial_tree z)) (accepts_empty y) (accepts_empty z) (initial_final y) (initial_final z)
initial_final (par_star y) = refl
initial_final (or y z) = ap (λ b. b || is_final z (initial_tree z)) (initial_final y) ∙ ap (λ b. accepts_empty y || b) (initial_final z)
initial_final (and y z) = both_and (is_final y (initial_tree y)) (is_final z (initial_tree z)) (accepts_empty y) (accepts_empty z) (initial_final y) (initial_final z)
initial_final (couple y z) = both_and (is_final y (initial_tree y)) (is_final z (initial_tree z)) (accepts_empty y) (accepts_empty z) (initial_final y) (initial_final z)
initial_final (any p y) = or_false (is_final y (initial_tree y)) ∙ initial_final y
initial_final (every p y) = and_true (is_final y (initial_tree y)) ∙ initial_final y
initial_final (sync p y) = and_true (is_final y (initial_tree y)) ∙ initial_final y
initial_final (all p y) = and_true (accepts_empty y)
initial_final (times n y) = or_false ((0 == n) || accepts_empty y) ∙ ap (λ b. b || accepts_empty y) (none_wanted n)

-- The tree of the empty word

-- its set of alternatives for a second part
second_first : (b : Bool) (u : Plain) → is_open u ≡ true → set_of (filter is_open (when b (u ∷ []) ++ [])) ≡ listed (when b (u ∷ []))
second_first true u o = ap (λ c. set_of (cond c (u ∷ []) [])) o
second_first false u o = refl

none_done : (b : Bool) (u : Plain) → is_open u ≡ true → list_any is_done (when b (u ∷ []) ++ []) ≡ false
none_done true u o = ap (λ c. c || false) (open_not_done u o)
none_done false u o = refl

seq_first : (t u : Plain) (b : Bool) → is_open t ≡ true → is_open u ≡ true → seq_node t (when b (live u) ++ []) ≡ seq_of t false (listed (when b (u ∷ [])))
seq_first t u b o k =
    let alternatives : List Plain = when b (u ∷ []) ++ [] in
    let parts : seq_parts t alternatives ≡ seq_of t false (listed (when b (u ∷ []))) =
    (λ i. seq_of (if open_not_done t o i then dead else t) (none_done b u k i) (second_first b u k i)) in
    ap (λ d. seq_node t (when b (when (not d) (u ∷ [])) ++ [])) (open_live u k)
    ∙ ap (λ s. dead_if (is_dead t && is_empty alternatives) (settled s)) parts
    ∙ node_is (is_dead t && is_empty alternatives) (seq_of t false (listed (when b (u ∷ []))))
    (ap (λ d. d && is_empty alternatives) (open_live t o))
    (ap (λ d. d && is_empty (items_of (listed (when b (u ∷ []))))) (open_live t o))

par_first : (t u : Plain) → is_open t ≡ true → is_open u ≡ true → par_node (live_pair t u ++ []) ≡ par_of (listed (pair_of t u ∷ []))
par_first t u o k =
    ap (λ d. par_node (when (not d && is_live u) (pair_of t u ∷ []) ++ [])) (open_live t o)
    ∙ ap (λ d. par_node (when (not d) (pair_of t u ∷ []) ++ [])) (open_live u k)
    ∙ ap (λ c. done_if (c && is_done u) (par_of (listed (pair_of t u ∷ [])))) (open_not_done t o)

or_first : (t u : Plain) → is_open t ≡ true → or_node t u ≡ or_of t u
or_first t u o =
    node_is (is_dead t && is_dead u) (or_of t u) (ap (λ d. d && is_dead u) (open_live t o)) (ap (λ d. d && is_ended u) (open_not_ended t o))

-- a node that is dead where one of two is, and done where both are
neither : (t u s : Plain) → is_open t ≡ true → is_open u ≡ true → is_spent s ≡ (is_done t && is_done u) → dead_if (is_dead t || is_dead u) (settled s) ≡ s
neither t u s o k e =
    node_is (is_dead t || is_dead u) s (λ i. open_live t o i || open_live u k i) (e ∙ ap (λ d. d && is_done u) (open_not_done t o))

common_first : (t s : Plain) → is_open t ≡ true → is_spent s ≡ (is_done t && true) → dead_if (is_dead t || false) (settled s) ≡ s
common_first t s o e = node_is (is_dead t || false) s (ap (λ d. d || false) (open_live t o)) (e ∙ ap (λ d. d && true) (open_not_done t o))

two_are : (node : Plain → Plain → Plain) {t u v w : Plain} → t ≡ v → u ≡ w → node t u ≡ node v w
two_are node {t} {w = w} e f = ap (node t) f ∙ ap (λ x. node x w) e

pub initial_is : (x : Form) (e : Environment) → tree_of x e [] ≡ initial_tree x
initial_is (atom x) e = refl
initial_is (opt y) e =
    ap (opt_node true) (initial_is y e)
    ∙ node_is (is_dead (initial_tree y)) (opt_of true (initial_tree y)) (initial_live y) (initial_starts y)
initial_is (seq y z) e =
    two_are (λ t u. seq_node t (when (is_final y t) (live u) ++ [])) (initial_is y e) (initial_is z e)
    ∙ ap (λ b. seq_node (initial_tree y) (when b (live (initial_tree z)) ++ [])) (initial_final y)
    ∙ seq_first (initial_tree y) (initial_tree z) (accepts_empty y) (initial_open y) (initial_open z)
initial_is (star y) e = refl
initial_is (par y z) e =
    two_are (λ t u. par_node (live_pair t u ++ [])) (initial_is y e) (initial_is z e)
    ∙ par_first (initial_tree y) (initial_tree z) (initial_open y) (initial_open z)
initial_is (par_star y) e = refl
initial_is (or y z) e = two_are or_node (initial_is y e) (initial_is z e) ∙ or_first (initial_tree y) (initial_tree z) (initial_open y)
initial_is (and y z) e =
    two_are and_node (initial_is y e) (initial_is z e)
    ∙ neither (initial_tree y) (initial_tree z) (and_of (initial_tree y) (initial_tree z)) (initial_open y) (initial_open z) refl
initial_is (couple y z) e =
    two_are (couple_node true) (initial_is y e) (initial_is z e)
    ∙ neither (initial_tree y) (initial_tree z) (couple_of (initial_tree y) (initial_tree z)) (initial_open y) (initial_open z) refl
initial_is (any p y) e =
    ap (λ t. any_node t []) (initial_is y (bind p None e))
    ∙ node_is (is_dead (initial_tree y) && true) (any_of (initial_tree y) none) (ap (λ d. d && true) (initial_live y)) (ap (λ d. d && true) (open_not_ended (initial_tree y) (initial_open y)))
initial_is (every p y) e = ap (λ t. every_node t []) (initial_is y (bind p None e)) ∙ common_first (initial_tree y) (every_of (initial_tree y) none) (initial_open y) refl
initial_is (sync p y) e = ap (λ t. sync_node true t []) (initial_is y (bind p None e)) ∙ common_first (initial_tree y) (sync_of (initial_tree y) none) (initial_open y) refl
initial_is (all p y) e = refl
initial_is (times n y) e = ap (λ ps. times_node n (whole_bag (map (tree_of y e) ps) ++ [])) (empty_parts n)

-- Its Size

nodes_least : (d : ℕ) (around : List Binder) (x : Form) → 1 ≤ length (nodes_below d around x)
nodes_least d around (atom x) = omega arith
nodes_least d around _ = omega arith

when_size : (b : Bool) (t : Plain) → size_of (listed (when b (t ∷ []))) ≤ size_of t
when_size true t = omega arith
when_size false t = omega arith

pub initial_size : (d : ℕ) (around : List Binder) (x : Form) → size_of (initial_tree x) ≤ 2 * length (nodes_below d around x)
initial_size d around (atom x) = omega arith
initial_size d around (opt y) = omega (arith, initial_size (suc d) around y)
initial_size d around (seq y z) = omega (arith, initial_size (suc d) around y, initial_size (suc d) around z, when_size (accepts_empty y) (initial_tree z), length-append (nodes_below (suc d) around y) (nodes_below (suc d) around z))
initial_size d around (star y) = omega arith
initial_size d around (par y z) = omega (arith, initial_size (suc d) around y, initial_size (suc d) around z, length-append (nodes_below (suc d) around y) (nodes_below (suc d) around z))
initial_size d around (par_star y) = omega (arith, nodes_least (suc d) around y)
initial_size d around (or y z) = omega (arith, initial_size (suc d) around y, initial_size (suc d) around z, length-append (nodes_below (suc d) around y) (nodes_below (suc d) around z))
initial_size d around (and y z) = omega (arith, initial_size (suc d) around y, initial_size (suc d) around z, length-append (nodes_below (suc d) around y) (nodes_below (suc d) around z))
initial_size d around (couple y z) = omega (arith, initial_size (suc d) around y, initial_size (suc d) around z, length-append (nodes_below (suc d) around y) (nodes_below (suc d) around z))
initial_size d around (any p y) = omega (arith, initial_size (suc d) (record { is_all = false; parameter = p } ∷ around) y)
initial_size d around (every p y) = omega (arith, initial_size (suc d) (record { is_all = false; parameter = p } ∷ around) y)
initial_size d around (sync p y) = omega (arith, initial_size (suc d) (record { is_all = false; parameter = p } ∷ around) y)
initial_size d around (all p y) = omega (arith, nodes_least (suc d) (record { is_all = true; parameter = p } ∷ around) y)
initial_size d around (times n y) = omega (arith, nodes_least (suc d) around y)

some_at : (nodes : List Node) (k : ℕ) → k < length nodes → (node : Node) × (slice_get nodes k ≡ Some node)
some_at [] k lt = absurd (omega arith)
some_at (x ∷ xs) zero lt = (x, refl)
some_at (x ∷ xs) (suc k) lt = some_at xs k (omega arith)

not_none : (code : Option ℕ) → code ≡ Some 8 → code ≡ None → ⊥
not_none code e f = cc

few_nodes : (nodes : List Node) → HaveNoFault nodes → length nodes ≤ 512
few_nodes nodes h = ⊎_elim (λ lt. absurd (too_many lt)) (λ le. le) (cases_lt 512 (length nodes))
  where
    too_many : 512 < length nodes → ⊥
    too_many lt =
        let found = some_at nodes 512 lt in
        not_none (fault_at 512 found.0) refl (h.none 512 found.0 found.1)

-- of an expression that fits its environment the tree of the empty word is small
pub initial_small : (x : Form) (e : Environment) → Fits x e → size_of (initial_tree x) ≤ 1000000
initial_small x e h = omega (arith, initial_size 1 (binders_of e) x, few_nodes (nodes_below 1 (binders_of e) x) h.faultless)

-- and it is proper
pub initial_proper : (x : Form) → IsProper x (initial_tree x)
initial_proper x = subst (IsProper x) (initial_is x []) (proper x [] [])
