-- In an `all` that fits, every atom names its parameter.
use Rattle.std.proofs.Common.{◌≡◌, ◌≢◌, ℕ, suc, Bool, true, false, cond, not, ◌&&◌, ◌||◌, ◌==◌, List, [], ◌∷◌, Option, Some, None, slice_get, refl, sym, ap, ◌∙◌, true≢false}
use Rattle.std.specs.List.{list_any}
use Rattle.ix_words.specs.Each.{Each, no_item, item, Member, here, there}
use Rattle.ix_words.proofs.Canon.{Member-same}
use Rattle.ix_words.proofs.Each.{Each-left, Each-right, Each-head, Each-tail}
use Rattle.ix_values.specs.Order.{text_eq}
use Rattle.ix_values.specs.lemmas.Order.{text_eq-decides}
use Rattle.ix_expr.specs.declared.arg.Arg.{Arg}
use Rattle.ix_expr.specs.declared.arg.Arg.TheVariants.{Fixed, Param}
use Rattle.ix_expr.specs.Form.{Form, atom, opt, seq, star, par, par_star, or, and, couple, any, every, sync, all, times}
use Rattle.ix_expr.specs.Environment.{Environment}
use Rattle.ix_expr.specs.FormFaults.{Binder, Node, nodes_below, is_ninth_quantifier, binds_twice, is_unbound, misses_a_parameter, is_parameter, names_parameter, first_code, fault_at, binders_of, Fits}
use Rattle.ix_expr.specs.Laws.{EachAtomNames}

-- the node binds no parameter twice and misses none
record Faultless (node : Node) : Type 0 where
  binds : binds_twice node.around node.head ≡ false
  misses : misses_a_parameter node.around node.head ≡ false

test_fails : (b : Bool) (n : ℕ) (rest : Option ℕ) → cond b (Some n) rest ≡ None → b ≡ false
test_fails true n rest e = absurd (cc)
test_fails false n rest e = refl

rest_fails : (b : Bool) (n : ℕ) (rest : Option ℕ) → cond b (Some n) rest ≡ None → rest ≡ None
rest_fails true n rest e = absurd (cc)
rest_fails false n rest e = e

tests_fail : (a b c d f g : Bool) → first_code ((8, a) ∷ (9, b) ∷ (13, c) ∷ (6, d) ∷ (5, f) ∷ (7, g) ∷ []) ≡ None → (d ≡ false) × (g ≡ false)
tests_fail a b c d f g e =
    let after : first_code ((6, d) ∷ (5, f) ∷ (7, g) ∷ []) ≡ None = rest_fails c 13 _ (rest_fails b 9 _ (rest_fails a 8 _ e)) in
    (test_fails d 6 _ after, test_fails g 7 None (rest_fails f 5 _ (rest_fails d 6 _ after)))

faultless : (k : ℕ) (node : Node) → fault_at k node ≡ None → Faultless node
faultless k node e =
    let h = tests_fail (k == 512) (node.depth == 257) (is_ninth_quantifier node.around node.head) (binds_twice node.around node.head) (is_unbound node.around node.head) (misses_a_parameter node.around node.head) e in
    record { binds = h.0; misses = h.1 }

all_faultless : (nodes : List Node) (number : ℕ → ℕ) → ((k : ℕ) (node : Node) → slice_get nodes k ≡ Some node → fault_at (number k) node ≡ None) → Each Faultless nodes
all_faultless [] number h = no_item
all_faultless (node ∷ nodes) number h =
    item (faultless (number 0) node (h 0 node refl)) (all_faultless nodes (λ k. number (suc k)) (λ k n e. h (suc k) n e))

first_false : (a b : Bool) → a || b ≡ false → a ≡ false
first_false true b e = absurd (true≢false e)
first_false false b e = refl

second_false : (a b : Bool) → a || b ≡ false → b ≡ false
second_false true b e = absurd (true≢false e)
second_false false b e = e

none_passes : {X : Type 0} (test : X → Bool) (xs : List X) {x : X} → list_any test xs ≡ false → Member x xs → test x ≡ false
none_passes test [] e m = elim m [ ]
none_passes test (x ∷ xs) e here = first_false (test x) (list_any test xs) e
none_passes test (x ∷ xs) e (there m) = none_passes test xs (second_false (test x) (list_any test xs) e) m

named : (b : Bool) → true && not b ≡ false → b ≡ true
named true e = refl
named false e = absurd (true≢false e)

one_parameter : (p q : List ℕ) (arguments : List Arg) (b rest : Bool) → (b ≡ true → p ≡ q) → (rest ≡ true → Member (Param p) arguments) → b || rest ≡ true → Member (Param p) (Param q ∷ arguments)
one_parameter p q arguments true rest same later e = Member-same arguments (ap Param (same refl))
one_parameter p q arguments false rest same later e = there (later e)

some_parameter : (p : List ℕ) (arguments : List Arg) → list_any (is_parameter p) arguments ≡ true → Member (Param p) arguments
some_parameter p [] e = absurd (true≢false (sym e))
some_parameter p (Fixed v ∷ arguments) e = there (some_parameter p arguments e)
some_parameter p (Param q ∷ arguments) e =
    one_parameter p q arguments (text_eq p q) (list_any (is_parameter p) arguments) (text_eq-decides p q).0 (some_parameter p arguments) e

other : (p q : List ℕ) (around : List Binder) → Member (record { is_all = true; parameter = p }) around → list_any (λ b. text_eq b.parameter q) around ≡ false → q ≢ p
other p q around m e same =
    let differ : text_eq p q ≡ false = none_passes (λ b. text_eq b.parameter q) around e m in
    let alike : text_eq p q ≡ true = (text_eq-decides p q).1 (sym same) in
    true≢false (sym alike ∙ differ)

names_from : (p : List ℕ) (y : Form) (d : ℕ) (around : List Binder) → Member (record { is_all = true; parameter = p }) around → Each Faultless (nodes_below d around y) → EachAtomNames p y
names_from p (atom x) d around m h =
    some_parameter p x.arguments (named (names_parameter p x) (none_passes (λ b. b.is_all && not (names_parameter b.parameter x)) around (Each-head h).misses m))
names_from p (opt y) d around m h = names_from p y (suc d) around m (Each-tail h)
names_from p (seq y z) d around m h = (names_from p y (suc d) around m (Each-left (nodes_below (suc d) around y) _ (Each-tail h)), names_from p z (suc d) around m (Each-right (nodes_below (suc d) around y) _ (Each-tail h)))
names_from p (star y) d around m h = names_from p y (suc d) around m (Each-tail h)
names_from p (par y z) d around m h = (names_from p y (suc d) around m (Each-left (nodes_below (suc d) around y) _ (Each-tail h)), names_from p z (suc d) around m (Each-right (nodes_below (suc d) around y) _ (Each-tail h)))
names_from p (par_star y) d around m h = names_from p y (suc d) around m (Each-tail h)
names_from p (or y z) d around m h = (names_from p y (suc d) around m (Each-left (nodes_below (suc d) around y) _ (Each-tail h)), names_from p z (suc d) around m (Each-right (nodes_below (suc d) around y) _ (Each-tail h)))
names_from p (and y z) d around m h = (names_from p y (suc d) around m (Each-left (nodes_below (suc d) around y) _ (Each-tail h)), names_from p z (suc d) around m (Each-right (nodes_below (suc d) around y) _ (Each-tail h)))
names_from p (couple y z) d around m h = (names_from p y (suc d) around m (Each-left (nodes_below (suc d) around y) _ (Each-tail h)), names_from p z (suc d) around m (Each-right (nodes_below (suc d) around y) _ (Each-tail h)))
names_from p (any q y) d around m h = (other p q around m (Each-head h).binds, names_from p y (suc d) _ (there m) (Each-tail h))
names_from p (every q y) d around m h = (other p q around m (Each-head h).binds, names_from p y (suc d) _ (there m) (Each-tail h))
names_from p (sync q y) d around m h = (other p q around m (Each-head h).binds, names_from p y (suc d) _ (there m) (Each-tail h))
names_from p (all q y) d around m h = (other p q around m (Each-head h).binds, names_from p y (suc d) _ (there m) (Each-tail h))
names_from p (times n y) d around m h = names_from p y (suc d) around m (Each-tail h)

-- in an `all $p y` that fits its environment, every atom of y names `$p`
pub fits-names : (p : List ℕ) (y : Form) (e : Environment) → Fits (all p y) e → EachAtomNames p y
fits-names p y e h =
    names_from p y 2 (record { is_all = true; parameter = p } ∷ binders_of e) here
    (Each-tail (all_faultless (nodes_below 1 (binders_of e) (all p y)) (λ k. k) h.faultless.none))
