-- The parts of an expression that fits an environment fit it too.
use Rattle.std.proofs.Common.{◌≡◌, ℕ, suc, ◌+◌, ◌<◌, ◌≤◌, Bool, true, false, ◌&&◌, ◌||◌, not, eqb, List, [], ◌∷◌, ◌++◌, length, Option, None, refl, ◌∙◌, ap, arith, length-append}
use Rattle.std.specs.Prelude.{nat_le}
use Rattle.std.specs.List.{list_any, list_all}
use Rattle.std.proofs.lemmas.Bool.Decides.{nat_tests}
use Rattle.std.proofs.lemmas.List.{length-map}
use Rattle.ix_values.specs.Order.{text_eq}
use Rattle.ix_expr.specs.declared.arg.Arg.{Arg}
use Rattle.ix_expr.specs.declared.arg.Arg.TheVariants.{Fixed, Param}
use Rattle.ix_expr.specs.Form.{PlainAtom, Form, atom, opt, seq, star, par, par_star, or, and, couple, any, every, sync, all, times}
use Rattle.ix_expr.specs.Environment.{Environment}
use Rattle.ix_expr.specs.FormFaults.{IsWellFormed, nodes_of, Binder, Node, Head, atom_head, quantifier_head, operator_head, nodes_below, is_bound, is_bound_argument, names_parameter, is_ninth_quantifier, binds_twice, is_unbound, misses_a_parameter, first_code, fault_at, HaveNoFault, HasNumbers, binders_of, Fits}
use Rattle.ix_expr.specs.Fitting.{FitsInside, OperandsFit}
use Rattle.ix_expr.specs.inside.Walk.{FreeFrom, free_end, free_node, operator_node, quantifier_node}
use Rattle.ix_expr.proofs.Walks.{passed-HaveNoFault, HaveNoFault-free, free-parts, free-append}

-- the same parameters, with an `all` in the first only where the second has one
data Weaker : List Binder → List Binder → Type 0 where
  weaker_end : Weaker [] []
  weaker_binder : {b c : Bool} {p : List ℕ} {inner outer : List Binder} → (c ≡ false → b ≡ false) → Weaker inner outer → Weaker (record { is_all = b; parameter = p } ∷ inner) (record { is_all = c; parameter = p } ∷ outer)

weaker_same : (inner : List Binder) → Weaker inner inner
weaker_same [] = weaker_end
weaker_same (a ∷ inner) = weaker_binder (λ h. h) (weaker_same inner)

weaker-length : {inner outer : List Binder} → Weaker inner outer → length inner ≡ length outer
weaker-length weaker_end = refl
weaker-length (weaker_binder h w) = ap suc (weaker-length w)

weaker-bound : {inner outer : List Binder} → Weaker inner outer → (p : List ℕ) → is_bound inner p ≡ is_bound outer p
weaker-bound weaker_end p = refl
weaker-bound (weaker_binder {p = q} h w) p = ap (λ t. text_eq q p || t) (weaker-bound w p)

weaker-argument : {inner outer : List Binder} → Weaker inner outer → (argument : Arg) → is_bound_argument inner argument ≡ is_bound_argument outer argument
weaker-argument w (Fixed v) = refl
weaker-argument w (Param p) = weaker-bound w p

weaker-arguments : {inner outer : List Binder} → Weaker inner outer → (arguments : List Arg) → list_all (is_bound_argument inner) arguments ≡ list_all (is_bound_argument outer) arguments
weaker-arguments w [] = refl
weaker-arguments w (argument ∷ arguments) = λ i. weaker-argument w argument i && weaker-arguments w arguments i

weaker-missed : {inner outer : List Binder} → Weaker inner outer → (x : PlainAtom) → list_any (λ b. b.is_all && not (names_parameter b.parameter x)) outer ≡ false → list_any (λ b. b.is_all && not (names_parameter b.parameter x)) inner ≡ false
weaker-missed weaker_end x h = refl
weaker-missed (weaker_binder {b} {c} {p} {inner} {outer} lead w) x h = both b c (names_parameter p x) lead (weaker-missed w x) h
  where
    both : (b c named : Bool) {s t : Bool} → (c ≡ false → b ≡ false) → (t ≡ false → s ≡ false) → ((c && not named) || t) ≡ false → ((b && not named) || s) ≡ false
    both false c true lead rest h = rest (second c h)
      where
        second : (c : Bool) {t : Bool} → ((c && false) || t) ≡ false → t ≡ false
        second true h = h
        second false h = h
    both false true false lead rest h = cc
    both false false false lead rest h = rest h
    both true false named lead rest h = let e : true ≡ false = lead refl in cc
    both true true true lead rest h = rest h
    both true true false lead rest h = cc

-- one test of the table weakened
step : (code : ℕ) (b c : Bool) (outer cs : List (ℕ × Bool)) → (b ≡ false → c ≡ false) → (first_code outer ≡ None → first_code cs ≡ None) → first_code ((code, b) ∷ outer) ≡ None → first_code ((code, c) ∷ cs) ≡ None
step code true c outer cs lead rest h = cc
step code false true outer cs lead rest h = let e : true ≡ false = lead refl in cc
step code false false outer cs lead rest h = rest h

cleared : (code : ℕ) (b : Bool) (outer : List (ℕ × Bool)) → first_code ((code, b) ∷ outer) ≡ None → (b ≡ false) × (first_code outer ≡ None)
cleared code true outer h = cc
cleared code false outer h = (refl, h)

-- below a limit that wasn't met
unmet : (limit n m : ℕ) → m ≤ n → n ≤ limit → eqb n limit ≡ false → eqb m limit ≡ false
unmet limit n m le most h = grind (arith, nat_tests)

under : (limit n : ℕ) → n ≤ limit → eqb n limit ≡ false → n < limit
under limit n most h = grind (arith, nat_tests)

-- the tests of the table from each of its lines on
abbrev from_missed : List Binder → Head → List (ℕ × Bool)
from_missed around head = (7, misses_a_parameter around head) ∷ []

abbrev from_unbound : List Binder → Head → List (ℕ × Bool)
from_unbound around head = (5, is_unbound around head) ∷ from_missed around head

abbrev from_twice : List Binder → Head → List (ℕ × Bool)
from_twice around head = (6, binds_twice around head) ∷ from_unbound around head

abbrev from_ninth : List Binder → Head → List (ℕ × Bool)
from_ninth around head = (13, is_ninth_quantifier around head) ∷ from_twice around head

abbrev from_depth : ℕ → List Binder → Head → List (ℕ × Bool)
from_depth d around head = (9, eqb d 257) ∷ from_ninth around head

-- what a node without a fault says of its number and its depth
placed : (n : ℕ) (node : Node) → n ≤ 512 → node.depth ≤ 257 → fault_at n node ≡ None → (n < 512) × (node.depth < 257)
placed n node few shallow h =
    let number = cleared 8 (eqb n 512) (from_depth node.depth node.around node.head) h in
    let depth = cleared 9 (eqb node.depth 257) (from_ninth node.around node.head) number.1 in
    (under 512 n few number.0, under 257 node.depth shallow depth.0)

-- a node without a fault has none at a smaller number, a smaller depth and within weaker quantifiers
node-lower : (n m d f : ℕ) {inner outer : List Binder} (head : Head) → m ≤ n → n ≤ 512 → f ≤ d → d ≤ 257 → Weaker inner outer
    → fault_at n (record { depth = d; around = outer; head = head }) ≡ None → fault_at m (record { depth = f; around = inner; head = head }) ≡ None
node-lower n m d f {inner} {outer} head less few above shallow w =
    step 8 (eqb n 512) (eqb m 512) (from_depth d outer head) (from_depth f inner head) (unmet 512 n m less few)
    (step 9 (eqb d 257) (eqb f 257) (from_ninth outer head) (from_ninth inner head) (unmet 257 d f above shallow)
    (step 13 (is_ninth_quantifier outer head) (is_ninth_quantifier inner head) (from_twice outer head) (from_twice inner head) (ninth head)
    (step 6 (binds_twice outer head) (binds_twice inner head) (from_unbound outer head) (from_unbound inner head) (twice head)
    (step 5 (is_unbound outer head) (is_unbound inner head) (from_missed outer head) (from_missed inner head) (unbound head)
    (step 7 (misses_a_parameter outer head) (misses_a_parameter inner head) [] [] (missed head) (λ h. h))))))
  where
    ninth : (head : Head) → is_ninth_quantifier outer head ≡ false → is_ninth_quantifier inner head ≡ false
    ninth (atom_head x) h = h
    ninth (quantifier_head p) h = ap (nat_le 8) (weaker-length w) ∙ h
    ninth operator_head h = h

    twice : (head : Head) → binds_twice outer head ≡ false → binds_twice inner head ≡ false
    twice (atom_head x) h = h
    twice (quantifier_head p) h = weaker-bound w p ∙ h
    twice operator_head h = h

    unbound : (head : Head) → is_unbound outer head ≡ false → is_unbound inner head ≡ false
    unbound (atom_head x) h = ap not (weaker-arguments w x.arguments) ∙ h
    unbound (quantifier_head p) h = h
    unbound operator_head h = h

    missed : (head : Head) → misses_a_parameter outer head ≡ false → misses_a_parameter inner head ≡ false
    missed (atom_head x) h = weaker-missed w x h
    missed (quantifier_head p) h = h
    missed operator_head h = h

two_lengths : (xs ys zs ws : List Node) → length xs ≡ length ys → length zs ≡ length ws → suc (length (xs ++ zs)) ≡ suc (length (ys ++ ws))
two_lengths xs ys zs ws e h = omega (arith, length-append xs zs, length-append ys ws, e, h)

-- how many nodes there are doesn't depend on what stands around them
length-nodes : (x : Form) (d f : ℕ) (inner outer : List Binder) → length (nodes_below d inner x) ≡ length (nodes_below f outer x)
length-nodes (atom x) d f inner outer = refl
length-nodes (opt y) d f inner outer = ap suc (length-nodes y (suc d) (suc f) inner outer)
length-nodes (seq y z) d f inner outer = two_lengths (nodes_below (suc d) inner y) (nodes_below (suc f) outer y) (nodes_below (suc d) inner z) (nodes_below (suc f) outer z) (length-nodes y (suc d) (suc f) inner outer) (length-nodes z (suc d) (suc f) inner outer)
length-nodes (star y) d f inner outer = ap suc (length-nodes y (suc d) (suc f) inner outer)
length-nodes (par y z) d f inner outer = two_lengths (nodes_below (suc d) inner y) (nodes_below (suc f) outer y) (nodes_below (suc d) inner z) (nodes_below (suc f) outer z) (length-nodes y (suc d) (suc f) inner outer) (length-nodes z (suc d) (suc f) inner outer)
length-nodes (par_star y) d f inner outer = ap suc (length-nodes y (suc d) (suc f) inner outer)
length-nodes (or y z) d f inner outer = two_lengths (nodes_below (suc d) inner y) (nodes_below (suc f) outer y) (nodes_below (suc d) inner z) (nodes_below (suc f) outer z) (length-nodes y (suc d) (suc f) inner outer) (length-nodes z (suc d) (suc f) inner outer)
length-nodes (and y z) d f inner outer = two_lengths (nodes_below (suc d) inner y) (nodes_below (suc f) outer y) (nodes_below (suc d) inner z) (nodes_below (suc f) outer z) (length-nodes y (suc d) (suc f) inner outer) (length-nodes z (suc d) (suc f) inner outer)
length-nodes (couple y z) d f inner outer = two_lengths (nodes_below (suc d) inner y) (nodes_below (suc f) outer y) (nodes_below (suc d) inner z) (nodes_below (suc f) outer z) (length-nodes y (suc d) (suc f) inner outer) (length-nodes z (suc d) (suc f) inner outer)
length-nodes (any p y) d f inner outer = ap suc (length-nodes y (suc d) (suc f) _ _)
length-nodes (every p y) d f inner outer = ap suc (length-nodes y (suc d) (suc f) _ _)
length-nodes (sync p y) d f inner outer = ap suc (length-nodes y (suc d) (suc f) _ _)
length-nodes (all p y) d f inner outer = ap suc (length-nodes y (suc d) (suc f) _ _)
length-nodes (times n y) d f inner outer = ap suc (length-nodes y (suc d) (suc f) inner outer)

-- nodes without a fault end at the number 512 at most
free-few : {n : ℕ} {nodes : List Node} → n ≤ 512 → FreeFrom n nodes → n + length nodes ≤ 512
free-few few free_end = omega arith
free-few {n} few (free_node {node = x} none rest) =
    let number = cleared 8 (eqb n 512) (from_depth x.depth x.around x.head) none in
    let below : n < 512 = under 512 n few number.0 in
    let more = free-few below rest in
    omega (arith, more)

-- a part moved to a smaller number, a smaller depth and weaker quantifiers
record Moved (n m d f : ℕ) (inner outer : List Binder) : Type 0 where
  less : m ≤ n
  few : n ≤ 512
  above : f ≤ d
  shallow : d ≤ 257
  weaker : Weaker inner outer

lower-one : {n m d f : ℕ} {inner outer : List Binder} (head : Head) (xs ys : List Node) → Moved n m d f inner outer
    → (Moved (suc n) (suc m) (suc d) (suc f) inner outer → FreeFrom (suc n) xs → FreeFrom (suc m) ys)
    → FreeFrom n (record { depth = d; around = outer; head = head } ∷ xs) → FreeFrom m (record { depth = f; around = inner; head = head } ∷ ys)
lower-one {n} {m} {d} {f} {inner} {outer} head xs ys moved below (free_node none rest) =
    let bounds = placed n (record { depth = d; around = outer; head = head }) moved.few moved.shallow none in
    free_node (node-lower n m d f head moved.less moved.few moved.above moved.shallow moved.weaker none)
    (below (record { less = omega (arith, moved.less); few = bounds.0; above = omega (arith, moved.above); shallow = bounds.1; weaker = moved.weaker }) rest)

lower-two : {n m d f : ℕ} {inner outer : List Binder} (xs ys zs ws : List Node) → length xs ≡ length ys
    → (Moved n m d f inner outer → FreeFrom n xs → FreeFrom m ys)
    → ((k l : ℕ) → Moved k l d f inner outer → FreeFrom k zs → FreeFrom l ws)
    → Moved n m d f inner outer → FreeFrom n (xs ++ zs) → FreeFrom m (ys ++ ws)
lower-two {n} {m} xs ys zs ws long left right moved free =
    let parts = free-parts n xs zs free in
    let few = free-few moved.few parts.0 in
    free-append (m + length ys) ws (left moved parts.0) refl
    (right (n + length xs) (m + length ys) (record { less = omega (arith, moved.less, long); few = few; above = moved.above; shallow = moved.shallow; weaker = moved.weaker }) parts.1)

inside-weaker : {n m d f : ℕ} {inner outer : List Binder} (b : Bool) (p : List ℕ) → Moved n m d f inner outer → Moved n m d f (record { is_all = b; parameter = p } ∷ inner) (record { is_all = b; parameter = p } ∷ outer)
inside-weaker b p moved = record { less = moved.less; few = moved.few; above = moved.above; shallow = moved.shallow; weaker = weaker_binder (λ h. h) moved.weaker }

-- a part without a fault has none where it is moved
lower : (x : Form) {n m d f : ℕ} {inner outer : List Binder} → Moved n m d f inner outer → FreeFrom n (nodes_below d outer x) → FreeFrom m (nodes_below f inner x)
lower (atom x) moved free = lower-one (atom_head x) [] [] moved (λ _ _. free_end) free
lower (opt y) moved free = lower-one operator_head _ _ moved (lower y) free
lower (seq y z) {n} {m} {d} {f} {inner} {outer} moved free =
    lower-one operator_head _ _ moved
    (lower-two _ _ _ _ (length-nodes y (suc d) (suc f) outer inner) (lower y) (λ k l. lower z)) free
lower (star y) moved free = lower-one operator_head _ _ moved (lower y) free
lower (par y z) {n} {m} {d} {f} {inner} {outer} moved free =
    lower-one operator_head _ _ moved
    (lower-two _ _ _ _ (length-nodes y (suc d) (suc f) outer inner) (lower y) (λ k l. lower z)) free
lower (par_star y) moved free = lower-one operator_head _ _ moved (lower y) free
lower (or y z) {n} {m} {d} {f} {inner} {outer} moved free =
    lower-one operator_head _ _ moved
    (lower-two _ _ _ _ (length-nodes y (suc d) (suc f) outer inner) (lower y) (λ k l. lower z)) free
lower (and y z) {n} {m} {d} {f} {inner} {outer} moved free =
    lower-one operator_head _ _ moved
    (lower-two _ _ _ _ (length-nodes y (suc d) (suc f) outer inner) (lower y) (λ k l. lower z)) free
lower (couple y z) {n} {m} {d} {f} {inner} {outer} moved free =
    lower-one operator_head _ _ moved
    (lower-two _ _ _ _ (length-nodes y (suc d) (suc f) outer inner) (lower y) (λ k l. lower z)) free
lower (any p y) moved free = lower-one (quantifier_head p) _ _ moved (λ deeper. lower y (inside-weaker false p deeper)) free
lower (every p y) moved free = lower-one (quantifier_head p) _ _ moved (λ deeper. lower y (inside-weaker false p deeper)) free
lower (sync p y) moved free = lower-one (quantifier_head p) _ _ moved (λ deeper. lower y (inside-weaker false p deeper)) free
lower (all p y) moved free = lower-one (quantifier_head p) _ _ moved (λ deeper. lower y (inside-weaker true p deeper)) free
lower (times n y) moved free = lower-one operator_head _ _ moved (lower y) free

abbrev binder_of : List ℕ → Binder
binder_of p = record { is_all = false; parameter = p }

behind : {n : ℕ} {node : Node} {nodes : List Node} → FreeFrom n (node ∷ nodes) → (fault_at n node ≡ None) × FreeFrom (suc n) nodes
behind (free_node none rest) = (none, rest)

-- the one operand of an operator
pub fits-one : (head : Head) (y : Form) (e : Environment) → HaveNoFault (record { depth = 1; around = binders_of e; head = head } ∷ nodes_below 2 (binders_of e) y) → HasNumbers y → Fits y e
fits-one head y e h numbers =
    let parts = behind (HaveNoFault-free (record { depth = 1; around = binders_of e; head = head } ∷ nodes_below 2 (binders_of e) y) h) in
    let below = lower y (record { less = omega arith; few = omega arith; above = omega arith; shallow = omega arith; weaker = weaker_same (binders_of e) }) parts.1 in
    record { faultless = passed-HaveNoFault (nodes_below 1 (binders_of e) y) below; numbers = numbers }

-- the left and the right operand of an operator
pub fits-two : (y z : Form) (e : Environment) → HaveNoFault (operator_node 1 (binders_of e) ∷ (nodes_below 2 (binders_of e) y ++ nodes_below 2 (binders_of e) z)) → HasNumbers y → HasNumbers z → Fits y e × Fits z e
fits-two y z e h m n =
    let around = binders_of e in
    let parts = behind (HaveNoFault-free (operator_node 1 around ∷ (nodes_below 2 around y ++ nodes_below 2 around z)) h) in
    let sides = free-parts 1 (nodes_below 2 around y) (nodes_below 2 around z) parts.1 in
    let one : 1 ≤ 512 = omega arith in
    let few : 1 + length (nodes_below 2 around y) ≤ 512 = free-few one sides.0 in (
      record {
        faultless = passed-HaveNoFault (nodes_below 1 around y)
            (lower y (record { less = omega arith; few = one; above = omega arith; shallow = omega arith; weaker = weaker_same around }) sides.0);
        numbers = m;
      },
      record {
        faultless = passed-HaveNoFault (nodes_below 1 around z)
            (lower z (record { less = omega arith; few = few; above = omega arith; shallow = omega arith; weaker = weaker_same around }) sides.1);
        numbers = n;
      },
    )

-- what a quantifier that fits says of the environment and of its body
pub fits-inside : (is_all : Bool) (p : List ℕ) (y : Form) (e : Environment) → HaveNoFault (quantifier_node 1 (binders_of e) p ∷ nodes_below 2 (record { is_all = is_all; parameter = p } ∷ binders_of e) y) → HasNumbers y → FitsInside p y e
fits-inside is_all p y e h numbers =
    let around = binders_of e in
    let inner = record { is_all = is_all; parameter = p } ∷ around in
    let parts = behind (HaveNoFault-free (quantifier_node 1 around p ∷ nodes_below 2 inner y) h) in
    let head = quantifier_head p in
    let number = cleared 8 false (from_depth 1 around head) parts.0 in
    let depth = cleared 9 false (from_ninth around head) number.1 in
    let ninth = cleared 13 (is_ninth_quantifier around head) (from_twice around head) depth.1 in
    let twice = cleared 6 (binds_twice around head) (from_unbound around head) ninth.1 in
    let few : length around < 8 = at_most_seven (length around) ninth.0 in
    record {
      room = omega (arith, few, length-map e (λ (entry : List ℕ × Option (List ℕ)). binder_of entry.0));
      free = twice.0;
      body = λ v. record {
        faultless = passed-HaveNoFault (nodes_below 1 (record { is_all = false; parameter = p } ∷ around) y)
            (lower y (record { less = omega arith; few = omega arith; above = omega arith; shallow = omega arith; weaker = weaker_binder (λ h. refl) (weaker_same around) }) parts.1);
        numbers = numbers;
      };
    }
  where
    at_most_seven : (n : ℕ) → nat_le 8 n ≡ false → n < 8
    at_most_seven n h = grind (arith, nat_tests)

-- the operands of an expression that fits an environment fit
pub fits-operands : (x : Form) (e : Environment) → Fits x e → OperandsFit x e
fits-operands (atom x) e h = tt
fits-operands (opt y) e h = fits-one operator_head y e h.faultless h.numbers
fits-operands (seq y z) e h = fits-two y z e h.faultless h.numbers.0 h.numbers.1
fits-operands (star y) e h = fits-one operator_head y e h.faultless h.numbers
fits-operands (par y z) e h = fits-two y z e h.faultless h.numbers.0 h.numbers.1
fits-operands (par_star y) e h = fits-one operator_head y e h.faultless h.numbers
fits-operands (or y z) e h = fits-two y z e h.faultless h.numbers.0 h.numbers.1
fits-operands (and y z) e h = fits-two y z e h.faultless h.numbers.0 h.numbers.1
fits-operands (couple y z) e h = fits-two y z e h.faultless h.numbers.0 h.numbers.1
fits-operands (any p y) e h = fits-inside false p y e h.faultless h.numbers
fits-operands (every p y) e h = fits-inside false p y e h.faultless h.numbers
fits-operands (sync p y) e h = fits-inside false p y e h.faultless h.numbers
fits-operands (all p y) e h = fits-inside true p y e h.faultless h.numbers
fits-operands (times n y) e h = fits-one operator_head y e h.faultless h.numbers.1

-- a well-formed expression has at most 512 nodes
pub well-formed-few : (x : Form) → IsWellFormed x → length (nodes_of x) ≤ 512
well-formed-few x h =
    let none : 0 ≤ 512 = omega arith in
    let few = free-few none (HaveNoFault-free (nodes_of x) h.faultless) in
    omega (arith, few)

-- an expression has at least one node
pub some-nodes : (x : Form) → 0 < length (nodes_of x)
some-nodes (atom x) = omega arith
some-nodes (opt y) = omega arith
some-nodes (seq y z) = omega arith
some-nodes (star y) = omega arith
some-nodes (par y z) = omega arith
some-nodes (par_star y) = omega arith
some-nodes (or y z) = omega arith
some-nodes (and y z) = omega arith
some-nodes (couple y z) = omega arith
some-nodes (any p y) = omega arith
some-nodes (every p y) = omega arith
some-nodes (sync p y) = omega arith
some-nodes (all p y) = omega arith
some-nodes (times n y) = omega arith
