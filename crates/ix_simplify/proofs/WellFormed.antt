-- What a well-formed expression becomes is well formed.
use Rattle.std.proofs.Common.{◌≡◌, ℕ, suc, ◌+◌, ◌<◌, ◌≤◌, Bool, true, false, ◌&&◌, ◌||◌, not, eqb, List, [], ◌∷◌, ◌++◌, length, None, refl}
use Rattle.std.proofs.Common.{sym, ap, ◌∙◌, subst, arith, true≢false}
use Rattle.std.specs.Prelude.{nat_le}
use Rattle.std.specs.List.{list_any, list_all}
use Rattle.std.proofs.lemmas.Bool.Decides.{nat_tests}
use Rattle.ix_words.specs.Each.{Each, no_item, item}
use Rattle.ix_words.proofs.Each.{Each-append, Each-left, Each-right, Each-head, Each-tail}
use Rattle.ix_values.specs.Order.{text_eq}
use Rattle.ix_expr.specs.declared.arg.Arg.{Arg}
use Rattle.ix_expr.specs.declared.arg.Arg.TheVariants.{Fixed, Param}
use Rattle.ix_expr.specs.Form.{PlainAtom, Form, atom, opt, seq, star, par, par_star, or, and, couple, any, every, sync, all, times}
use Rattle.ix_expr.specs.FormFaults.{IsWellFormed, HasNumbers, nodes_of, Binder, Node, Head, atom_head, quantifier_head, operator_head, nodes_below, is_bound}
use Rattle.ix_expr.specs.FormFaults.{is_parameter, is_bound_argument, names_parameter, is_ninth_quantifier, binds_twice, is_unbound}
use Rattle.ix_expr.specs.FormFaults.{misses_a_parameter, first_code, fault_at}
use Rattle.ix_expr.specs.inside.Walk.{FreeFrom, free_end, free_node}
use Rattle.ix_expr.proofs.Walks.{passed-HaveNoFault, HaveNoFault-free, free-parts}
use Rattle.ix_expr.proofs.Parts.{well-formed-few}
use Rattle.ix_expr.specs.Mentions.{some_names}
use Rattle.ix_simplify.specs.Rewriting.{Law, opt_opt, opt_star, opt_par_star, star_star, star_opt, star_par_star, par_star_par_star, par_star_star}
use Rattle.ix_simplify.specs.Rewriting.{par_star_opt, or_same, and_same, couple_same, any_unnamed, every_unnamed, sync_unnamed, AtRoot, rests}
use Rattle.ix_simplify.specs.Rewriting.{goes_on, Becomes}
use Rattle.ix_simplify.proofs.Unnamed.{first_false, second_false}
use Rattle.ix_simplify.proofs.Kept.{becomes-nodes}

-- a node without a fault, whatever its number
record Clean (node : Node) : Type 0 where
  depth : node.depth < 257
  ninth : is_ninth_quantifier node.around node.head ≡ false
  twice : binds_twice node.around node.head ≡ false
  unbound : is_unbound node.around node.head ≡ false
  misses : misses_a_parameter node.around node.head ≡ false

abbrev node_of : ℕ → List Binder → Head → Node
node_of d around head = record { depth = d; around = around; head = head }

-- From a walk to clean nodes and back

cleared : (code : ℕ) (b : Bool) (rest : List (ℕ × Bool)) → first_code ((code, b) ∷ rest) ≡ None → (b ≡ false) × (first_code rest ≡ None)
cleared code true rest h = cc
cleared code false rest h = (refl, h)

skipped : (code : ℕ) (b : Bool) (rest : List (ℕ × Bool)) → b ≡ false → first_code rest ≡ None → first_code ((code, b) ∷ rest) ≡ None
skipped code true rest e h = absurd (true≢false e)
skipped code false rest e h = h

under : (limit n : ℕ) → n ≤ limit → eqb n limit ≡ false → n < limit
under limit n most h = grind (arith, nat_tests)

not_at : (limit n : ℕ) → n < limit → eqb n limit ≡ false
not_at limit n below = grind (arith, nat_tests)

-- the tests of the table from each of its lines on
abbrev from_missed : List Binder → Head → List (ℕ × Bool)
from_missed around head = (7, misses_a_parameter around head) ∷ []

abbrev from_unbound : List Binder → Head → List (ℕ × Bool)
from_unbound around head = (5, is_unbound around head) ∷ from_missed around head

abbrev from_twice : List Binder → Head → List (ℕ × Bool)
from_twice around head = (6, binds_twice around head) ∷ from_unbound around head

abbrev from_ninth : List Binder → Head → List (ℕ × Bool)
from_ninth around head = (13, is_ninth_quantifier around head) ∷ from_twice around head

abbrev from_depth : ℕ → List Binder → Head → List (ℕ × Bool)
from_depth d around head = (9, eqb d 257) ∷ from_ninth around head

fault-clean : (n d : ℕ) (around : List Binder) (head : Head) → d ≤ 257 → fault_at n (node_of d around head) ≡ None → Clean (node_of d around head)
fault-clean n d around head shallow h =
    let number = cleared 8 (eqb n 512) (from_depth d around head) h in
    let depth = cleared 9 (eqb d 257) (from_ninth around head) number.1 in
    let ninth = cleared 13 (is_ninth_quantifier around head) (from_twice around head) depth.1 in
    let twice = cleared 6 (binds_twice around head) (from_unbound around head) ninth.1 in
    let unbound = cleared 5 (is_unbound around head) (from_missed around head) twice.1 in
    let missed = cleared 7 (misses_a_parameter around head) [] unbound.1 in
    record { depth = under 257 d shallow depth.0; ninth = ninth.0; twice = twice.0; unbound = unbound.0; misses = missed.0 }

clean-fault : (n : ℕ) (node : Node) → n < 512 → Clean node → fault_at n node ≡ None
clean-fault n node few c =
    skipped 8 (eqb n 512) (from_depth node.depth node.around node.head) (not_at 512 n few)
    (skipped 9 (eqb node.depth 257) (from_ninth node.around node.head) (not_at 257 node.depth c.depth)
    (skipped 13 (is_ninth_quantifier node.around node.head) (from_twice node.around node.head) c.ninth
    (skipped 6 (binds_twice node.around node.head) (from_unbound node.around node.head) c.twice
    (skipped 5 (is_unbound node.around node.head) (from_missed node.around node.head) c.unbound
    (skipped 7 (misses_a_parameter node.around node.head) [] c.misses refl)))))

behind : {n : ℕ} {node : Node} {nodes : List Node} → FreeFrom n (node ∷ nodes) → (fault_at n node ≡ None) × FreeFrom (suc n) nodes
behind (free_node none rest) = (none, rest)

-- a node at a depth of at most 257 is clean, so those below it are at most there
one-clean : (n d : ℕ) (around : List Binder) (head : Head) (xs : List Node) → d ≤ 257 → (d < 257 → FreeFrom (suc n) xs → Each Clean xs)
    → FreeFrom n (node_of d around head ∷ xs) → Each Clean (node_of d around head ∷ xs)
one-clean n d around head xs shallow below free =
    let parts = behind free in
    let clean = fault-clean n d around head shallow parts.0 in
    item clean (below clean.depth parts.1)

two-clean : (n : ℕ) (xs ys : List Node) → (FreeFrom n xs → Each Clean xs) → ((m : ℕ) → FreeFrom m ys → Each Clean ys)
    → FreeFrom n (xs ++ ys) → Each Clean (xs ++ ys)
two-clean n xs ys left right free =
    let parts = free-parts n xs ys free in
    Each-append (left parts.0) (right (n + length xs) parts.1)

-- nodes without a fault are clean
clean-nodes : (x : Form) (n d : ℕ) (around : List Binder) → d ≤ 257 → FreeFrom n (nodes_below d around x) → Each Clean (nodes_below d around x)
clean-nodes (atom x) n d around shallow free = one-clean n d around (atom_head x) [] shallow (λ _ _. no_item) free
clean-nodes (opt y) n d around shallow free =
    one-clean n d around operator_head _ shallow (λ less. clean-nodes y (suc n) (suc d) around (omega (arith, less))) free
clean-nodes (seq y z) n d around shallow free =
    one-clean n d around operator_head _ shallow
    (λ less. two-clean (suc n) _ _
    (clean-nodes y (suc n) (suc d) around (omega (arith, less)))
    (λ m. clean-nodes z m (suc d) around (omega (arith, less)))) free
clean-nodes (star y) n d around shallow free =
    one-clean n d around operator_head _ shallow (λ less. clean-nodes y (suc n) (suc d) around (omega (arith, less))) free
clean-nodes (par y z) n d around shallow free =
    one-clean n d around operator_head _ shallow
    (λ less. two-clean (suc n) _ _
    (clean-nodes y (suc n) (suc d) around (omega (arith, less)))
    (λ m. clean-nodes z m (suc d) around (omega (arith, less)))) free
clean-nodes (par_star y) n d around shallow free =
    one-clean n d around operator_head _ shallow (λ less. clean-nodes y (suc n) (suc d) around (omega (arith, less))) free
clean-nodes (or y z) n d around shallow free =
    one-clean n d around operator_head _ shallow
    (λ less. two-clean (suc n) _ _
    (clean-nodes y (suc n) (suc d) around (omega (arith, less)))
    (λ m. clean-nodes z m (suc d) around (omega (arith, less)))) free
clean-nodes (and y z) n d around shallow free =
    one-clean n d around operator_head _ shallow
    (λ less. two-clean (suc n) _ _
    (clean-nodes y (suc n) (suc d) around (omega (arith, less)))
    (λ m. clean-nodes z m (suc d) around (omega (arith, less)))) free
clean-nodes (couple y z) n d around shallow free =
    one-clean n d around operator_head _ shallow
    (λ less. two-clean (suc n) _ _
    (clean-nodes y (suc n) (suc d) around (omega (arith, less)))
    (λ m. clean-nodes z m (suc d) around (omega (arith, less)))) free
clean-nodes (any p y) n d around shallow free =
    one-clean n d around (quantifier_head p) _ shallow (λ less. clean-nodes y (suc n) (suc d) _ (omega (arith, less))) free
clean-nodes (every p y) n d around shallow free =
    one-clean n d around (quantifier_head p) _ shallow (λ less. clean-nodes y (suc n) (suc d) _ (omega (arith, less))) free
clean-nodes (sync p y) n d around shallow free =
    one-clean n d around (quantifier_head p) _ shallow (λ less. clean-nodes y (suc n) (suc d) _ (omega (arith, less))) free
clean-nodes (all p y) n d around shallow free =
    one-clean n d around (quantifier_head p) _ shallow (λ less. clean-nodes y (suc n) (suc d) _ (omega (arith, less))) free
clean-nodes (times k y) n d around shallow free =
    one-clean n d around operator_head _ shallow (λ less. clean-nodes y (suc n) (suc d) around (omega (arith, less))) free

clean-free : (n : ℕ) (nodes : List Node) → n + length nodes ≤ 512 → Each Clean nodes → FreeFrom n nodes
clean-free n [] few h = free_end
clean-free n (node ∷ nodes) few h =
    free_node (clean-fault n node (omega (arith, few)) (Each-head h)) (clean-free (suc n) nodes (omega (arith, few)) (Each-tail h))

-- Fewer quantifiers around

-- the inner quantifiers are the outer ones without some that aren't `all` and whose parameter x doesn't name
data Around (x : Form) : List Binder → List Binder → Type 0 where
  around_end : Around x [] []
  around_kept : {b : Binder} {inner outer : List Binder} → Around x inner outer → Around x (b ∷ inner) (b ∷ outer)
  around_gone : {p : List ℕ} {inner outer : List Binder} → some_names p x ≡ false → Around x inner outer
      → Around x inner (record { is_all = false; parameter = p } ∷ outer)

around-same : {x : Form} (around : List Binder) → Around x around around
around-same [] = around_end
around-same (b ∷ around) = around_kept (around-same around)

around-operand : {x y : Form} {inner outer : List Binder} → ((p : List ℕ) → some_names p x ≡ false → some_names p y ≡ false) → Around x inner outer
    → Around y inner outer
around-operand f around_end = around_end
around-operand f (around_kept r) = around_kept (around-operand f r)
around-operand f (around_gone {p} n r) = around_gone (f p n) (around-operand f r)

around-length : {x : Form} {inner outer : List Binder} → Around x inner outer → length inner ≤ length outer
around-length around_end = omega arith
around-length (around_kept r) = let less = around-length r in omega (arith, less)
around-length (around_gone n r) = let less = around-length r in omega (arith, less)

-- a test that no outer quantifier passes
around-none : {x : Form} {inner outer : List Binder} (test : Binder → Bool) → Around x inner outer → list_any test outer ≡ false
    → list_any test inner ≡ false
around-none test around_end h = h
around-none test (around_kept {b} {inner} {outer} r) h =
    let first = first_false (test b) (list_any test outer) h in
    ap (λ t. t || list_any test inner) first ∙ around-none test r (second_false (test b) (list_any test outer) h)
around-none test (around_gone {p} {inner} {outer} n r) h =
    around-none test r (second_false (test (record { is_all = false; parameter = p })) (list_any test outer) h)

-- a parameter that x names is bound inside where it is bound outside
around-bound : {x : Form} {inner outer : List Binder} (q : List ℕ) → ((p : List ℕ) → some_names p x ≡ false → text_eq p q ≡ false)
    → Around x inner outer → is_bound outer q ≡ is_bound inner q
around-bound q f around_end = refl
around-bound q f (around_kept {b} r) = ap (λ t. text_eq b.parameter q || t) (around-bound q f r)
around-bound q f (around_gone {p} {inner} {outer} n r) = ap (λ t. t || is_bound outer q) (f p n) ∙ around-bound q f r

around-arguments : {x : Form} {inner outer : List Binder} (arguments : List Arg)
    → ((p : List ℕ) → some_names p x ≡ false → list_any (is_parameter p) arguments ≡ false)
    → Around x inner outer → list_all (is_bound_argument outer) arguments ≡ list_all (is_bound_argument inner) arguments
around-arguments [] f r = refl
around-arguments {inner = inner} {outer = outer} (Fixed v ∷ arguments) f r = around-arguments arguments f r
around-arguments {inner = inner} {outer = outer} (Param q ∷ arguments) f r = λ i.
    around-bound q (λ p n. first_false (text_eq p q) (list_any (is_parameter p) arguments) (f p n)) r i
    && around-arguments arguments (λ p n. second_false (text_eq p q) (list_any (is_parameter p) arguments) (f p n)) r i

fewer_ninth : (m n : ℕ) → m ≤ n → nat_le 8 n ≡ false → nat_le 8 m ≡ false
fewer_ninth m n less h = grind (arith, nat_tests)

atom-lower : (x : PlainAtom) {f d : ℕ} {inner outer : List Binder} → f ≤ d → Around (atom x) inner outer
    → Clean (node_of d outer (atom_head x)) → Clean (node_of f inner (atom_head x))
atom-lower x less r c = record {
  depth = omega (arith, c.depth, less);
  ninth = refl;
  twice = refl;
  unbound = ap not (sym (around-arguments x.arguments (λ p n. n) r)) ∙ c.unbound;
  misses = around-none (λ b. b.is_all && not (names_parameter b.parameter x)) r c.misses;
}

operator-lower : {x : Form} {f d : ℕ} {inner outer : List Binder} → f ≤ d → Around x inner outer
    → Clean (node_of d outer operator_head) → Clean (node_of f inner operator_head)
operator-lower less r c = record { depth = omega (arith, c.depth, less); ninth = refl; twice = refl; unbound = refl; misses = refl }

quantifier-lower : {x : Form} (p : List ℕ) {f d : ℕ} {inner outer : List Binder} → f ≤ d → Around x inner outer
    → Clean (node_of d outer (quantifier_head p)) → Clean (node_of f inner (quantifier_head p))
quantifier-lower p {inner = inner} {outer = outer} less r c = record {
  depth = omega (arith, c.depth, less);
  ninth = fewer_ninth (length inner) (length outer) (around-length r) c.ninth;
  twice = around-none (λ b. text_eq b.parameter p) r c.twice;
  unbound = refl;
  misses = refl;
}

each-two : (xs ys zs ws : List Node) → (Each Clean xs → Each Clean ys) → (Each Clean zs → Each Clean ws)
    → Each Clean (xs ++ zs) → Each Clean (ys ++ ws)
each-two xs ys zs ws f g h = Each-append (f (Each-left xs zs h)) (g (Each-right xs zs h))

-- clean nodes are clean at a smaller depth and within fewer quantifiers
lower : (x : Form) {f d : ℕ} {inner outer : List Binder} → f ≤ d → Around x inner outer → Each Clean (nodes_below d outer x)
    → Each Clean (nodes_below f inner x)
lower (atom x) less r h = item (atom-lower x less r (Each-head h)) no_item
lower (opt y) less r h = item (operator-lower less r (Each-head h)) (lower y (omega (arith, less)) (around-operand (λ p n. n) r) (Each-tail h))
lower (seq y z) less r h =
    item (operator-lower less r (Each-head h))
    (each-two _ _ _ _
    (lower y (omega (arith, less)) (around-operand (λ p n. first_false (some_names p y) (some_names p z) n) r))
    (lower z (omega (arith, less)) (around-operand (λ p n. second_false (some_names p y) (some_names p z) n) r)) (Each-tail h))
lower (star y) less r h = item (operator-lower less r (Each-head h)) (lower y (omega (arith, less)) (around-operand (λ p n. n) r) (Each-tail h))
lower (par y z) less r h =
    item (operator-lower less r (Each-head h))
    (each-two _ _ _ _
    (lower y (omega (arith, less)) (around-operand (λ p n. first_false (some_names p y) (some_names p z) n) r))
    (lower z (omega (arith, less)) (around-operand (λ p n. second_false (some_names p y) (some_names p z) n) r)) (Each-tail h))
lower (par_star y) less r h = item (operator-lower less r (Each-head h)) (lower y (omega (arith, less)) (around-operand (λ p n. n) r) (Each-tail h))
lower (or y z) less r h =
    item (operator-lower less r (Each-head h))
    (each-two _ _ _ _
    (lower y (omega (arith, less)) (around-operand (λ p n. first_false (some_names p y) (some_names p z) n) r))
    (lower z (omega (arith, less)) (around-operand (λ p n. second_false (some_names p y) (some_names p z) n) r)) (Each-tail h))
lower (and y z) less r h =
    item (operator-lower less r (Each-head h))
    (each-two _ _ _ _
    (lower y (omega (arith, less)) (around-operand (λ p n. first_false (some_names p y) (some_names p z) n) r))
    (lower z (omega (arith, less)) (around-operand (λ p n. second_false (some_names p y) (some_names p z) n) r)) (Each-tail h))
lower (couple y z) less r h =
    item (operator-lower less r (Each-head h))
    (each-two _ _ _ _
    (lower y (omega (arith, less)) (around-operand (λ p n. first_false (some_names p y) (some_names p z) n) r))
    (lower z (omega (arith, less)) (around-operand (λ p n. second_false (some_names p y) (some_names p z) n) r)) (Each-tail h))
lower (any q y) less r h =
    item (quantifier-lower q less r (Each-head h)) (lower y (omega (arith, less)) (around_kept (around-operand (λ p n. n) r)) (Each-tail h))
lower (every q y) less r h =
    item (quantifier-lower q less r (Each-head h)) (lower y (omega (arith, less)) (around_kept (around-operand (λ p n. n) r)) (Each-tail h))
lower (sync q y) less r h =
    item (quantifier-lower q less r (Each-head h)) (lower y (omega (arith, less)) (around_kept (around-operand (λ p n. n) r)) (Each-tail h))
lower (all q y) less r h =
    item (quantifier-lower q less r (Each-head h)) (lower y (omega (arith, less)) (around_kept (around-operand (λ p n. n) r)) (Each-tail h))
lower (times n y) less r h = item (operator-lower less r (Each-head h)) (lower y (omega (arith, less)) (around-operand (λ p n. n) r) (Each-tail h))

-- the nodes of an expression are clean, at this depth and within these quantifiers
abbrev AreClean : ℕ → List Binder → Form → Type 0
AreClean d around x = Each Clean (nodes_below d around x)

up : (y : Form) (d : ℕ) (around : List Binder) → AreClean (suc d) around y → AreClean d around y
up y d around h = lower y (omega arith) (around-same around) h

left-up : (y : Form) (d : ℕ) (around : List Binder) → Each Clean (nodes_below (suc d) around y ++ nodes_below (suc d) around y) → AreClean d around y
left-up y d around h = up y d around (Each-left (nodes_below (suc d) around y) (nodes_below (suc d) around y) h)

out-of : (p : List ℕ) (y : Form) (d : ℕ) (around : List Binder) → some_names p y ≡ false
    → AreClean (suc d) (record { is_all = false; parameter = p } ∷ around) y → AreClean d around y
out-of p y d around n h = lower y (omega arith) (around_gone n (around-same around)) h

moved : (x l z r : Form) (d : ℕ) (around : List Binder) → x ≡ l → z ≡ r → (AreClean d around l → AreClean d around r) → AreClean d around x
    → AreClean d around z
moved x l z r d around e f g h = subst (AreClean d around) (sym f) (g (subst (AreClean d around) e h))

-- a law keeps the nodes clean: its right side is the operand, or the prefix over what stands in the operand
law-clean : (x z : Form) (d : ℕ) (around : List Binder) → Law x z → AreClean d around x → AreClean d around z
law-clean x z d around (opt_opt y e f) h = moved x _ z _ d around e f (λ g. up (opt y) d around (Each-tail g)) h
law-clean x z d around (opt_star y e f) h = moved x _ z _ d around e f (λ g. up (star y) d around (Each-tail g)) h
law-clean x z d around (opt_par_star y e f) h = moved x _ z _ d around e f (λ g. up (par_star y) d around (Each-tail g)) h
law-clean x z d around (star_star y e f) h = moved x _ z _ d around e f (λ g. up (star y) d around (Each-tail g)) h
law-clean x z d around (star_opt y e f) h = moved x _ z _ d around e f (λ g. up (opt y) d around (Each-tail g)) h
law-clean x z d around (star_par_star y e f) h = moved x _ z _ d around e f (λ g. up (par_star y) d around (Each-tail g)) h
law-clean x z d around (par_star_par_star y e f) h = moved x _ z _ d around e f (λ g. up (par_star y) d around (Each-tail g)) h
law-clean x z d around (par_star_star y e f) h = moved x _ z _ d around e f (λ g. up (star y) d around (Each-tail g)) h
law-clean x z d around (par_star_opt y e f) h = moved x _ z _ d around e f (λ g. up (opt y) d around (Each-tail g)) h
law-clean x z d around (or_same y e f) h = moved x _ z _ d around e f (λ g. left-up y d around (Each-tail g)) h
law-clean x z d around (and_same y e f) h = moved x _ z _ d around e f (λ g. left-up y d around (Each-tail g)) h
law-clean x z d around (couple_same y e f) h = moved x _ z _ d around e f (λ g. left-up y d around (Each-tail g)) h
law-clean x z d around (any_unnamed p y e n f) h = moved x _ z _ d around e f (λ g. out-of p y d around n (Each-tail g)) h
law-clean x z d around (every_unnamed p y e n f) h = moved x _ z _ d around e f (λ g. out-of p y d around n (Each-tail g)) h
law-clean x z d around (sync_unnamed p y e n f) h = moved x _ z _ d around e f (λ g. out-of p y d around n (Each-tail g)) h

root-clean : {x s : Form} (d : ℕ) (around : List Binder) → AtRoot x s → AreClean d around x → AreClean d around s
root-clean d around (rests n) h = h
root-clean d around (goes_on {x} {y} l r) h = root-clean d around r (law-clean x y d around l h)

-- what an expression becomes has clean nodes
becomes-clean : (x s : Form) (d : ℕ) (around : List Binder) → Becomes x s → AreClean d around x → AreClean d around s
becomes-clean (atom x) s d around h c = subst (AreClean d around) (sym h) c
becomes-clean (opt y) s d around h c = root-clean d around h.2 (item (Each-head c) (becomes-clean y h.0 (suc d) around h.1 (Each-tail c)))
becomes-clean (seq y z) s d around h c =
    root-clean d around h.4 (item (Each-head c) (each-two _ _ _ _
    (becomes-clean y h.0 (suc d) around h.2) (becomes-clean z h.1 (suc d) around h.3) (Each-tail c)))
becomes-clean (star y) s d around h c = root-clean d around h.2 (item (Each-head c) (becomes-clean y h.0 (suc d) around h.1 (Each-tail c)))
becomes-clean (par y z) s d around h c =
    root-clean d around h.4 (item (Each-head c) (each-two _ _ _ _
    (becomes-clean y h.0 (suc d) around h.2) (becomes-clean z h.1 (suc d) around h.3) (Each-tail c)))
becomes-clean (par_star y) s d around h c = root-clean d around h.2 (item (Each-head c) (becomes-clean y h.0 (suc d) around h.1 (Each-tail c)))
becomes-clean (or y z) s d around h c =
    root-clean d around h.4 (item (Each-head c) (each-two _ _ _ _
    (becomes-clean y h.0 (suc d) around h.2) (becomes-clean z h.1 (suc d) around h.3) (Each-tail c)))
becomes-clean (and y z) s d around h c =
    root-clean d around h.4 (item (Each-head c) (each-two _ _ _ _
    (becomes-clean y h.0 (suc d) around h.2) (becomes-clean z h.1 (suc d) around h.3) (Each-tail c)))
becomes-clean (couple y z) s d around h c =
    root-clean d around h.4 (item (Each-head c) (each-two _ _ _ _
    (becomes-clean y h.0 (suc d) around h.2) (becomes-clean z h.1 (suc d) around h.3) (Each-tail c)))
becomes-clean (any p y) s d around h c = root-clean d around h.2 (item (Each-head c) (becomes-clean y h.0 (suc d) _ h.1 (Each-tail c)))
becomes-clean (every p y) s d around h c = root-clean d around h.2 (item (Each-head c) (becomes-clean y h.0 (suc d) _ h.1 (Each-tail c)))
becomes-clean (sync p y) s d around h c = root-clean d around h.2 (item (Each-head c) (becomes-clean y h.0 (suc d) _ h.1 (Each-tail c)))
becomes-clean (all p y) s d around h c = root-clean d around h.2 (item (Each-head c) (becomes-clean y h.0 (suc d) _ h.1 (Each-tail c)))
becomes-clean (times n y) s d around h c = root-clean d around h.2 (item (Each-head c) (becomes-clean y h.0 (suc d) around h.1 (Each-tail c)))

-- The numbers behind `times`

kept-numbers : (x l z r : Form) → x ≡ l → z ≡ r → (HasNumbers l → HasNumbers r) → HasNumbers x → HasNumbers z
kept-numbers x l z r e f g h = subst HasNumbers (sym f) (g (subst HasNumbers e h))

-- a law keeps the numbers
law-numbers : (x z : Form) → Law x z → HasNumbers x → HasNumbers z
law-numbers x z (opt_opt y e f) h = kept-numbers x _ z _ e f (λ g. g) h
law-numbers x z (opt_star y e f) h = kept-numbers x _ z _ e f (λ g. g) h
law-numbers x z (opt_par_star y e f) h = kept-numbers x _ z _ e f (λ g. g) h
law-numbers x z (star_star y e f) h = kept-numbers x _ z _ e f (λ g. g) h
law-numbers x z (star_opt y e f) h = kept-numbers x _ z _ e f (λ g. g) h
law-numbers x z (star_par_star y e f) h = kept-numbers x _ z _ e f (λ g. g) h
law-numbers x z (par_star_par_star y e f) h = kept-numbers x _ z _ e f (λ g. g) h
law-numbers x z (par_star_star y e f) h = kept-numbers x _ z _ e f (λ g. g) h
law-numbers x z (par_star_opt y e f) h = kept-numbers x _ z _ e f (λ g. g) h
law-numbers x z (or_same y e f) h = kept-numbers x _ z _ e f (λ g. g.0) h
law-numbers x z (and_same y e f) h = kept-numbers x _ z _ e f (λ g. g.0) h
law-numbers x z (couple_same y e f) h = kept-numbers x _ z _ e f (λ g. g.0) h
law-numbers x z (any_unnamed p y e n f) h = kept-numbers x _ z _ e f (λ g. g) h
law-numbers x z (every_unnamed p y e n f) h = kept-numbers x _ z _ e f (λ g. g) h
law-numbers x z (sync_unnamed p y e n f) h = kept-numbers x _ z _ e f (λ g. g) h

root-numbers : {x s : Form} → AtRoot x s → HasNumbers x → HasNumbers s
root-numbers (rests n) h = h
root-numbers (goes_on {x} {y} l r) h = root-numbers r (law-numbers x y l h)

-- what an expression becomes has numbers that may stand there
becomes-numbers : (x s : Form) → Becomes x s → HasNumbers x → HasNumbers s
becomes-numbers (atom x) s h n = subst HasNumbers (sym h) n
becomes-numbers (opt y) s h n = root-numbers h.2 (becomes-numbers y h.0 h.1 n)
becomes-numbers (seq y z) s h n = root-numbers h.4 (becomes-numbers y h.0 h.2 n.0, becomes-numbers z h.1 h.3 n.1)
becomes-numbers (star y) s h n = root-numbers h.2 (becomes-numbers y h.0 h.1 n)
becomes-numbers (par y z) s h n = root-numbers h.4 (becomes-numbers y h.0 h.2 n.0, becomes-numbers z h.1 h.3 n.1)
becomes-numbers (par_star y) s h n = root-numbers h.2 (becomes-numbers y h.0 h.1 n)
becomes-numbers (or y z) s h n = root-numbers h.4 (becomes-numbers y h.0 h.2 n.0, becomes-numbers z h.1 h.3 n.1)
becomes-numbers (and y z) s h n = root-numbers h.4 (becomes-numbers y h.0 h.2 n.0, becomes-numbers z h.1 h.3 n.1)
becomes-numbers (couple y z) s h n = root-numbers h.4 (becomes-numbers y h.0 h.2 n.0, becomes-numbers z h.1 h.3 n.1)
becomes-numbers (any p y) s h n = root-numbers h.2 (becomes-numbers y h.0 h.1 n)
becomes-numbers (every p y) s h n = root-numbers h.2 (becomes-numbers y h.0 h.1 n)
becomes-numbers (sync p y) s h n = root-numbers h.2 (becomes-numbers y h.0 h.1 n)
becomes-numbers (all p y) s h n = root-numbers h.2 (becomes-numbers y h.0 h.1 n)
becomes-numbers (times m y) s h n = root-numbers h.2 (n.0, becomes-numbers y h.0 h.1 n.1)

-- what a well-formed expression becomes is well formed
pub becomes-well-formed : (x s : Form) → Becomes x s → IsWellFormed x → IsWellFormed s
becomes-well-formed x s h w =
    let clean = becomes-clean x s 1 [] h (clean-nodes x 0 1 [] (omega arith) (HaveNoFault-free (nodes_of x) w.faultless)) in
    let few : 0 + length (nodes_of s) ≤ 512 = omega (arith, becomes-nodes x s h, well-formed-few x w) in
    record {
      faultless = passed-HaveNoFault (nodes_of s) (clean-free 0 (nodes_of s) few clean);
      numbers = becomes-numbers x s h w.numbers;
    }
