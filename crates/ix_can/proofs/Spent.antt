-- Spent states: what a tree that is done tells, that no action moves a spent node, and lists without the trees that are
-- done.
use Rattle.std.proofs.Common.{◌≡◌, ℕ, ◌==◌, length, eqb-true, arith, Bool, true, false, not, cond, ◌&&◌, ◌||◌, List, [], ◌∷◌, ◌++◌, Option, Some, None, map, flat_map, filter, refl, sym, ap, ◌∙◌, true≢false, if◌then◌else◌}
use Rattle.std.specs.List.{list_any, list_all}
use Rattle.std.specs.Prelude.{nat_lt}
use Rattle.std.proofs.lemmas.Bool.{le-ltb}
use Rattle.ix_words.specs.Canon.{SameMembers}
use Rattle.ix_values.specs.Order.{text_eq}
use Rattle.ix_values.specs.PlainAction.{PlainAction}
use Rattle.ix_words.proofs.Each.{Each-member}
use Rattle.ix_expr.specs.Form.{Form, atom, opt, seq, star, par, par_star, or, and, couple, any, every, sync, all, times}
use Rattle.ix_expr.specs.Environment.{Environment, bind}
use Rattle.ix_tree.specs.Plain.{Plain, dead, start, done, opt as opt_of, seq as seq_of, star as star_of, par as par_of, par_star as par_star_of, or as or_of, and as and_of, couple as couple_of, any as any_of, every as every_of, sync as sync_of, all as all_of, times as times_of}
use Rattle.ix_tree.specs.Order.{key, first_part, second_part}
use Rattle.ix_expr.specs.Tests.{in_alphabet, values_and_outside, accepts_empty}
use Rattle.ix_can.specs.Ways.{is_empty}
use Rattle.ix_can.specs.Nodes.{is_dead, is_done, is_live, is_ended, is_open, items_of, dead_if, done_if, unless_done, only_pair_done, only_bag_done, is_spent, settled}
use Rattle.ix_can.specs.TreeOf.{is_final}
use Rattle.ix_can.specs.May.{both_move, moves_within, tree_at, may_first, may}
use Rattle.ix_can.specs.inside.Moved.{moved}
use Rattle.ix_words.proofs.Deciding.{itself, when_both, any_says, any_from}
use Rattle.ix_can.proofs.Lists.{all_to, Member-filter, filter-Member}

-- Dead, done and open

-- a tree is dead, done or open
pub data Kind (x : Plain) : Type 0 where
  is_the_dead : x ≡ dead → Kind x
  is_the_done : x ≡ done → Kind x
  stays_open : is_open x ≡ true → is_dead x ≡ false → is_done x ≡ false → Kind x

pub kind : (x : Plain) → Kind x
kind dead = is_the_dead refl
kind done = is_the_done refl
kind _ = stays_open refl refl refl

pub done_is : (x : Plain) → is_done x ≡ true → x ≡ done
done_is done e = refl
done_is _ e = absurd (true≢false (sym e))

pub dead_is : (x : Plain) → is_dead x ≡ true → x ≡ dead
dead_is dead e = refl
dead_is _ e = absurd (true≢false (sym e))

-- a live tree that is ended is done
pub live_ended : (x : Plain) → is_live x ≡ true → is_ended x ≡ true → is_done x ≡ true
live_ended dead l e = absurd (true≢false (sym l))
live_ended done l e = refl
live_ended _ l e = absurd (true≢false (sym e))

-- an open tree is live, and not done
pub open_live : (x : Plain) → is_open x ≡ true → is_dead x ≡ false
open_live dead e = absurd (true≢false (sym e))
open_live _ e = refl

pub open_not_done : (x : Plain) → is_open x ≡ true → is_done x ≡ false
open_not_done done e = absurd (true≢false (sym e))
open_not_done _ e = refl

pub open_not_ended : (x : Plain) → is_open x ≡ true → is_ended x ≡ false
open_not_ended dead e = absurd (true≢false (sym e))
open_not_ended done e = absurd (true≢false (sym e))
open_not_ended _ e = refl

pub empty_is : {A : Type 0} (xs : List A) → is_empty xs ≡ true → xs ≡ []
empty_is [] e = refl
empty_is (x ∷ xs) e = absurd (true≢false (sym e))

-- Two tests that hold

both : (a b : Bool) → a && b ≡ true → (a ≡ true) × (b ≡ true)
both a b = (when_both a b itself itself).0

-- A tree that is done

-- is final
pub final_done : (x : Form) → is_final x done ≡ true
final_done (atom x) = refl
final_done _ = refl

pub final_is_done : (x : Form) (t : Plain) → is_done t ≡ true → is_final x t ≡ true
final_is_done x t e = ap (is_final x) (done_is t e) ∙ final_done x

-- and moves no further
pub may_done : (x : Form) (e : Environment) (a : PlainAction) → may x e done a ≡ false
may_done (atom x) e a = refl
may_done _ e a = refl

pub moved_done : (x : Form) (e : Environment) (a : PlainAction) → moved x e done a ≡ dead
moved_done (atom x) e a = refl
moved_done _ e a = refl

-- nor does one that is dead
pub may_dead : (x : Form) (e : Environment) (a : PlainAction) → may x e dead a ≡ false
may_dead (atom x) e a = refl
may_dead _ e a = refl

pub moved_dead : (x : Form) (e : Environment) (a : PlainAction) → moved x e dead a ≡ dead
moved_dead (atom x) e a = refl
moved_dead _ e a = refl

pub may_is_done : (x : Form) (e : Environment) (t : Plain) (a : PlainAction) → is_done t ≡ true → may x e t a ≡ false
may_is_done x e t a h = ap (λ s. may x e s a) (done_is t h) ∙ may_done x e a

pub may_ended : (x : Form) (e : Environment) (t : Plain) (a : PlainAction) → is_ended t ≡ true → may x e t a ≡ false
may_ended x e t a h = chosen (kind t)
  where
    chosen : Kind t → may x e t a ≡ false
    chosen (is_the_dead d) = ap (λ s. may x e s a) d ∙ may_dead x e a
    chosen (is_the_done d) = ap (λ s. may x e s a) d ∙ may_done x e a
    chosen (stays_open o l n) = absurd (true≢false (sym h ∙ open_not_ended t o))

-- a tree that moves to a live one is open
pub open_before : (x : Form) (e : Environment) (t : Plain) (a : PlainAction) → is_live (moved x e t a) ≡ true → is_open t ≡ true
open_before x e t a h = chosen (kind t)
  where
    chosen : Kind t → is_open t ≡ true
    chosen (is_the_dead d) = absurd (true≢false (sym h ∙ ap (λ s. is_live (moved x e s a)) d ∙ ap is_live (moved_dead x e a)))
    chosen (is_the_done d) = absurd (true≢false (sym h ∙ ap (λ s. is_live (moved x e s a)) d ∙ ap is_live (moved_done x e a)))
    chosen (stays_open o l n) = o

-- Dead in place of done

pub unless_may : (x : Form) (e : Environment) (t : Plain) (a : PlainAction) → may x e (unless_done t) a ≡ may x e t a
unless_may x e t a = chosen (is_done t) refl
  where
    chosen : (b : Bool) → is_done t ≡ b → may x e (if b then dead else t) a ≡ may x e t a
    chosen true h = may_dead x e a ∙ sym (may_is_done x e t a h)
    chosen false h = refl

pub unless_moved : (x : Form) (e : Environment) (t : Plain) (a : PlainAction) → moved x e (unless_done t) a ≡ moved x e t a
unless_moved x e t a = chosen (is_done t) refl
  where
    chosen : (b : Bool) → is_done t ≡ b → moved x e (if b then dead else t) a ≡ moved x e t a
    chosen true h = moved_dead x e a ∙ sym (ap (λ s. moved x e s a) (done_is t h) ∙ moved_done x e a)
    chosen false h = refl

pub unless_open : (t : Plain) → is_open t ≡ true → is_dead (unless_done t) ≡ false
unless_open dead e = absurd (true≢false (sym e))
unless_open done e = absurd (true≢false (sym e))
unless_open _ e = refl

-- No action moves a spent node

-- no two sides that are stuck move
both_stuck : (i j : Bool) → both_move i j false false ≡ false
both_stuck true true = refl
both_stuck true false = refl
both_stuck false true = refl
both_stuck false false = refl

-- nothing passes a test that all fail
none_any : {A : Type 0} (test : A → Bool) → ((x : A) → test x ≡ false) → (xs : List A) → list_any test xs ≡ false
none_any test n [] = refl
none_any test n (x ∷ xs) = (λ i. n x i || none_any test n xs i)

-- nor a test that all items of which the other test holds fail
none_where : {A : Type 0} (other test : A → Bool) → ((x : A) → other x ≡ true → test x ≡ false) → (xs : List A) → list_all other xs ≡ true → list_any test xs ≡ false
none_where other test n [] h = refl
none_where other test n (x ∷ xs) h =
    let k = both (other x) (list_all other xs) h in
    (λ i. n x k.0 i || none_where other test n xs k.1 i)

-- all items of which the other test holds pass
all_where : {A : Type 0} (other test : A → Bool) → ((x : A) → other x ≡ true → test x ≡ true) → (xs : List A) → list_all other xs ≡ true → list_all test xs ≡ true
all_where other test n [] h = refl
all_where other test n (x ∷ xs) h =
    let k = both (other x) (list_all other xs) h in
    (λ i. n x k.0 i && all_where other test n xs k.1 i)

-- the tree of each value is ended
ended_at : (common : Plain) → is_ended common ≡ true → (v : List ℕ) (xs : List Plain) → list_all (λ x. is_ended (first_part x)) xs ≡ true → is_ended (tree_at v common xs) ≡ true
ended_at common c v [] h = c
ended_at common c v (x ∷ xs) h =
    let k = both (is_ended (first_part x)) (list_all (λ z. is_ended (first_part z)) xs) h in
    chosen (text_eq (key x) v) k.0 (ended_at common c v xs k.1)
  where
    chosen : (b : Bool) → is_ended (first_part x) ≡ true → is_ended (tree_at v common xs) ≡ true → is_ended (if b then first_part x else tree_at v common xs) ≡ true
    chosen true f g = f
    chosen false f g = g

-- no value in whose alphabet the action is goes on
none_inside : (inside : List ℕ → Bool) (goes_on : List ℕ → Bool) → ((v : List ℕ) → goes_on v ≡ false) → (vs : List (List ℕ)) → list_any inside vs && list_all (λ v. moves_within (inside v) (goes_on v)) vs ≡ false
none_inside inside goes_on n [] = refl
none_inside inside goes_on n (v ∷ vs) = chosen (inside v) (goes_on v) (n v) (none_inside inside goes_on n vs)
  where
    chosen : (b c : Bool) → c ≡ false → list_any inside vs && list_all (λ u. moves_within (inside u) (goes_on u)) vs ≡ false → (b || list_any inside vs) && (moves_within b c && list_all (λ u. moves_within (inside u) (goes_on u)) vs) ≡ false
    chosen true c m k = ap (λ d. d && list_all (λ u. moves_within (inside u) (goes_on u)) vs) m
    chosen false c m k = k

any_some : (test : Option (List ℕ) → Bool) (vs : List (List ℕ)) → list_any test (map Some vs) ≡ list_any (λ v. test (Some v)) vs
any_some test [] = refl
any_some test (v ∷ vs) = ap (λ b. test (Some v) || b) (any_some test vs)

sync_stuck : (inside : Option (List ℕ) → Bool) (goes_on : Option (List ℕ) → Bool) → ((v : Option (List ℕ)) → goes_on v ≡ false) → (vs : List (List ℕ)) →
    (inside None || list_any inside (map Some vs)) && (moves_within (inside None) (goes_on None) && (true && list_all (λ v. moves_within (inside (Some v)) (goes_on (Some v))) vs)) ≡ false
sync_stuck inside goes_on n vs =
    ap (λ b. (inside None || b) && (moves_within (inside None) (goes_on None) && list_all (λ v. moves_within (inside (Some v)) (goes_on (Some v))) vs)) (any_some inside vs)
    ∙ chosen (inside None) (goes_on None) (n None)
  where
    chosen : (b c : Bool) → c ≡ false → (b || list_any (λ v. inside (Some v)) vs) && (moves_within b c && list_all (λ v. moves_within (inside (Some v)) (goes_on (Some v))) vs) ≡ false
    chosen true c m = ap (λ d. d && list_all (λ v. moves_within (inside (Some v)) (goes_on (Some v))) vs) m
    chosen false c m = none_inside (λ v. inside (Some v)) (λ v. goes_on (Some v)) (λ v. n (Some v)) vs

pairs_stuck : (y z : Form) (e : Environment) (a : PlainAction) (xs : List Plain) → only_pair_done xs ≡ true → list_any (λ p. may y e (first_part p) a || may z e (second_part p) a) xs ≡ false
pairs_stuck y z e a [] h = absurd (true≢false (sym h))
pairs_stuck y z e a (p ∷ []) h =
    let k = both (is_done (first_part p)) (is_done (second_part p)) h in
    (λ i. (may_is_done y e (first_part p) a k.0 i || may_is_done z e (second_part p) a k.1 i) || false)
pairs_stuck y z e a (p ∷ q ∷ xs) h = absurd (true≢false (sym h))

-- where the common tree is done and there is no entry
alone_done : (common entries : Plain) → is_done common && is_empty (items_of entries) ≡ true → (common ≡ done) × (items_of entries ≡ [])
alone_done common entries h = let k = both (is_done common) (is_empty (items_of entries)) h in (done_is common k.0, empty_is (items_of entries) k.1)

pub spent_may : (x : Form) (e : Environment) (t : Plain) (a : PlainAction) → is_spent t ≡ true → may x e t a ≡ false
spent_may (atom x) e start a h = absurd (true≢false (sym h))
spent_may (opt y) e (opt_of empty t) a h = may_is_done y e t a h
spent_may (seq y z) e (seq_of t ended rest) a h =
    let k = both (is_dead t) (is_empty (items_of rest)) h in
    (λ i. may y e (dead_is t k.0 i) a || list_any (λ s. may z e s a) (empty_is (items_of rest) k.1 i))
    ∙ ap (λ b. b || false) (may_dead y e a)
spent_may (star y) e (star_of again rest) a h = absurd (true≢false (sym h))
spent_may (par y z) e (par_of pairs) a h = pairs_stuck y z e a (items_of pairs) h
spent_may (par_star y) e (par_star_of bags) a h = absurd (true≢false (sym h))
spent_may (or y z) e (or_of t u) a h =
    let k = both (is_ended t) (is_ended u) h in
    (λ i. may_ended y e t a k.0 i || may_ended z e u a k.1 i)
spent_may (and y z) e (and_of t u) a h =
    let k = both (is_done t) (is_done u) h in
    ap (λ b. b && may z e u a) (may_is_done y e t a k.0)
spent_may (couple y z) e (couple_of t u) a h =
    let k = both (is_done t) (is_done u) h in
    (λ i. both_move (in_alphabet y e a) (in_alphabet z e a) (may_is_done y e t a k.0 i) (may_is_done z e u a k.1 i))
    ∙ both_stuck (in_alphabet y e a) (in_alphabet z e a)
spent_may (any p y) e (any_of common entries) a h =
    let k = both (is_ended common) (list_all (λ x. is_ended (first_part x)) (items_of entries)) h in
    (λ i. may_ended y (bind p None e) common a k.0 i
    || (none_where (λ x. is_ended (first_part x)) (λ x. may y (bind p (Some (key x)) e) (first_part x) a) (λ x g. may_ended y (bind p (Some (key x)) e) (first_part x) a g) (items_of entries) k.1 i
    || none_any (λ v. may y (bind p (Some v) e) (tree_at v common (items_of entries)) a) (λ v. may_ended y (bind p (Some v) e) (tree_at v common (items_of entries)) a (ended_at common k.0 v (items_of entries) k.1)) a.values i))
spent_may (every p y) e (every_of common entries) a h =
    let k = alone_done common entries h in
    ap (λ b. b && (list_all (λ x. may y (bind p (Some (key x)) e) (first_part x) a) (items_of entries)
    && list_all (λ v. may y (bind p (Some v) e) (tree_at v common (items_of entries)) a) a.values))
    (ap (λ s. may y (bind p None e) s a) k.0 ∙ may_done y (bind p None e) a)
spent_may (sync p y) e (sync_of common entries) a h =
    let k = alone_done common entries h in
    (λ i. list_any (λ v. in_alphabet y (bind p v e) a) (values_and_outside a)
    && (moves_within (in_alphabet y (bind p None e) a) (may y (bind p None e) (k.0 i) a)
    && (list_all (λ x. moves_within (in_alphabet y (bind p (Some (key x)) e) a) (may y (bind p (Some (key x)) e) (first_part x) a)) (k.1 i)
    && list_all (λ v. moves_within (in_alphabet y (bind p (Some v) e) a) (may y (bind p (Some v) e) (tree_at v (k.0 i) (k.1 i)) a)) a.values)))
    ∙ sync_stuck (λ v. in_alphabet y (bind p v e) a) (λ v. may y (bind p v e) done a) (λ v. may_done y (bind p v e) a) a.values
spent_may (all p y) e (all_of maps) a h = absurd (true≢false (sym h))
spent_may (times n y) e (times_of bags) a h = absurd (true≢false (sym h))
spent_may _ e _ a h = refl

-- Done in place of a node where a test holds, which then is stuck and final

-- a live node stays live
pub done_live : (c : Bool) (t : Plain) → is_dead t ≡ false → is_dead (done_if c t) ≡ false
done_live true t l = refl
done_live false t l = l

pub done_may : (x : Form) (e : Environment) (c : Bool) (t : Plain) (a : PlainAction) → (c ≡ true → may x e t a ≡ false) → may x e (done_if c t) a ≡ may x e t a
done_may x e true t a f = may_done x e a ∙ sym (f refl)
done_may x e false t a f = refl

pub done_if_final : (x : Form) (c : Bool) (t : Plain) → (c ≡ true → is_final x t ≡ true) → is_final x (done_if c t) ≡ is_final x t
done_if_final x true t f = final_done x ∙ sym (f refl)
done_if_final x false t f = refl

pub done_moved : (x : Form) (e : Environment) (c : Bool) (t s : Plain) (a : PlainAction) → (c ≡ true → may x e t a ≡ false) → moved x e t a ≡ dead_if (not (may x e t a)) s → moved x e (done_if c t) a ≡ moved x e t a
done_moved x e true t s a f m = moved_done x e a ∙ sym (m ∙ ap (λ b. dead_if (not b) s) (f refl))
done_moved x e false t s a f m = refl

-- Done in place of a spent node

pub settled_live : (t : Plain) → is_dead t ≡ false → is_dead (settled t) ≡ false
settled_live t l = done_live (is_spent t) t l

-- a node that is neither dead nor spent is what it is
pub node_is : (b : Bool) (t : Plain) → b ≡ false → is_spent t ≡ false → dead_if b (settled t) ≡ t
node_is b t n s = ap (λ c. dead_if c (settled t)) n ∙ ap (λ c. done_if c t) s

pub settled_may : (x : Form) (e : Environment) (t : Plain) (a : PlainAction) → may x e (settled t) a ≡ may x e t a
settled_may x e t a = done_may x e (is_spent t) t a (spent_may x e t a)

pub settled_final : (x : Form) (t : Plain) → (is_spent t ≡ true → is_final x t ≡ true) → is_final x (settled t) ≡ is_final x t
settled_final x t f = done_if_final x (is_spent t) t f

pub settled_moved : (x : Form) (e : Environment) (t s : Plain) (a : PlainAction) → moved x e t a ≡ dead_if (not (may x e t a)) s → moved x e (settled t) a ≡ moved x e t a
settled_moved x e t s a m = done_moved x e (is_spent t) t s a (spent_may x e t a) m

-- n runs that are all done are stuck
pub full_may : (n : ℕ) (y : Form) (e : Environment) (a : PlainAction) (xs : List Plain) → only_bag_done n xs ≡ true →
    list_any (λ b. (nat_lt (length (items_of (first_part b))) n && may_first y e a) || list_any (λ s. may y e s a) (items_of (first_part b))) xs ≡ false
full_may n y e a [] h = absurd (true≢false (sym h))
full_may n y e a (b ∷ []) h =
    let runs : List Plain = items_of (first_part b) in
    let k = both (not (is_empty runs)) ((length runs == n) && list_all is_done runs) h in
    let l = both (length runs == n) (list_all is_done runs) k.1 in
    let room : nat_lt (length runs) n ≡ false = let same : length runs ≡ n = eqb-true (length runs) n l.0 in le-ltb (length runs) n (omega arith) in
    (λ i. ((room i && may_first y e a) || none_where is_done (λ s. may y e s a) (λ s g. may_is_done y e s a g) runs l.1 i) || false)
full_may n y e a (b ∷ c ∷ xs) h = absurd (true≢false (sym h))

-- What is spent is final

pub only_pair_final : (y z : Form) (xs : List Plain) → only_pair_done xs ≡ true → list_any (λ p. is_final y (first_part p) && is_final z (second_part p)) xs ≡ true
only_pair_final y z [] h = absurd (true≢false (sym h))
only_pair_final y z (p ∷ []) h =
    let k = both (is_done (first_part p)) (is_done (second_part p)) h in
    (λ i. (final_is_done y (first_part p) k.0 i && final_is_done z (second_part p) k.1 i) || false)
only_pair_final y z (p ∷ q ∷ xs) h = absurd (true≢false (sym h))

-- n runs that are all done are final
pub full_final : (n : ℕ) (y : Form) (xs : List Plain) → only_bag_done n xs ≡ true →
    list_any (λ b. list_all (is_final y) (items_of (first_part b)) && ((length (items_of (first_part b)) == n) || accepts_empty y)) xs ≡ true
full_final n y [] h = absurd (true≢false (sym h))
full_final n y (b ∷ []) h =
    let runs : List Plain = items_of (first_part b) in
    let k = both (not (is_empty runs)) ((length runs == n) && list_all is_done runs) h in
    let l = both (length runs == n) (list_all is_done runs) k.1 in
    (λ i. (all_where is_done (is_final y) (final_is_done y) runs l.1 i && (l.0 i || accepts_empty y)) || false)
full_final n y (b ∷ c ∷ xs) h = absurd (true≢false (sym h))

pub two_final : (y z : Form) (t u : Plain) → is_done t && is_done u ≡ true → is_final y t && is_final z u ≡ true
two_final y z t u h =
    let k = both (is_done t) (is_done u) h in
    (λ i. final_is_done y t k.0 i && final_is_done z u k.1 i)

pub common_final : (y : Form) (common entries : Plain) → is_done common && is_empty (items_of entries) ≡ true → is_final y common && list_all (λ x. is_final y (first_part x)) (items_of entries) ≡ true
common_final y common entries h =
    let k = alone_done common entries h in
    (λ i. is_final y (k.0 i) && list_all (λ x. is_final y (first_part x)) (k.1 i))
    ∙ ap (λ b. b && true) (final_done y)

-- of entries that are all ended, one that is live is final
pub ended_any : (y : Form) (xs : List Plain) → list_all (λ x. is_ended (first_part x)) xs ≡ true → list_any (λ x. is_live (first_part x)) xs ≡ true → list_any (λ x. is_final y (first_part x)) xs ≡ true
ended_any y xs h l =
    let k = (any_says (λ x. is_live (first_part x)) xs).0 l in
    any_from (λ x. is_final y (first_part x)) xs k.among
    (final_is_done y (first_part k.which) (live_ended (first_part k.which) k.passes (Each-member (all_to (λ x. is_ended (first_part x)) xs h) k.among)))

-- Lists without the trees that are done

pub or_turn : (a b c : Bool) → a || (b || c) ≡ b || (a || c)
or_turn true true c = refl
or_turn true false c = refl
or_turn false true c = refl
or_turn false false c = refl

module _ (test : Plain → Bool) where
  -- a test that neither the dead nor the done pass
  pub any_open : test dead ≡ false → test done ≡ false → (xs : List Plain) → list_any test (filter is_open xs) ≡ list_any test xs
  any_open d n [] = refl
  any_open d n (x ∷ xs) = chosen (kind x) (any_open d n xs)
    where
      chosen : Kind x → list_any test (filter is_open xs) ≡ list_any test xs → list_any test (cond (is_open x) (x ∷ filter is_open xs) (filter is_open xs)) ≡ test x || list_any test xs
      chosen (is_the_dead e) k = ap (λ z. list_any test (cond (is_open z) (z ∷ filter is_open xs) (filter is_open xs))) e ∙ k ∙ sym (ap (λ b. b || list_any test xs) (ap test e ∙ d))
      chosen (is_the_done e) k = ap (λ z. list_any test (cond (is_open z) (z ∷ filter is_open xs) (filter is_open xs))) e ∙ k ∙ sym (ap (λ b. b || list_any test xs) (ap test e ∙ n))
      chosen (stays_open o l m) k = ap (λ b. list_any test (cond b (x ∷ filter is_open xs) (filter is_open xs))) o ∙ ap (λ b. test x || b) k

  -- a test that the done pass and the dead don't
  pub any_ended : test dead ≡ false → test done ≡ true → (xs : List Plain) → list_any is_done xs || list_any test (filter is_open xs) ≡ list_any test xs
  any_ended d n [] = refl
  any_ended d n (x ∷ xs) = chosen (kind x) (any_ended d n xs)
    where
      chosen : Kind x → list_any is_done xs || list_any test (filter is_open xs) ≡ list_any test xs → (is_done x || list_any is_done xs) || list_any test (cond (is_open x) (x ∷ filter is_open xs) (filter is_open xs)) ≡ test x || list_any test xs
      chosen (is_the_dead e) k =
          ap (λ z. (is_done z || list_any is_done xs) || list_any test (cond (is_open z) (z ∷ filter is_open xs) (filter is_open xs))) e ∙ k ∙ sym (ap (λ b. b || list_any test xs) (ap test e ∙ d))
      chosen (is_the_done e) k =
          ap (λ z. (is_done z || list_any is_done xs) || list_any test (cond (is_open z) (z ∷ filter is_open xs) (filter is_open xs))) e ∙ sym (ap (λ b. b || list_any test xs) (ap test e ∙ n))
      chosen (stays_open o l m) k =
          (λ i. (m i || list_any is_done xs) || list_any test (cond (o i) (x ∷ filter is_open xs) (filter is_open xs)))
          ∙ or_turn (list_any is_done xs) (test x) (list_any test (filter is_open xs))
          ∙ ap (λ b. test x || b) k

  -- of live trees, a test that the done pass
  pub all_open : test done ≡ true → (xs : List Plain) → list_all is_live xs ≡ true → list_all test (filter is_open xs) ≡ list_all test xs
  all_open n [] h = refl
  all_open n (x ∷ xs) h =
      let g = both (is_live x) (list_all is_live xs) h in
      chosen (kind x) g.0 (all_open n xs g.1)
    where
      chosen : Kind x → is_live x ≡ true → list_all test (filter is_open xs) ≡ list_all test xs → list_all test (cond (is_open x) (x ∷ filter is_open xs) (filter is_open xs)) ≡ test x && list_all test xs
      chosen (is_the_dead e) g k = absurd (true≢false (sym g ∙ ap is_live e))
      chosen (is_the_done e) g k = ap (λ z. list_all test (cond (is_open z) (z ∷ filter is_open xs) (filter is_open xs))) e ∙ k ∙ sym (ap (λ b. b && list_all test xs) (ap test e ∙ n))
      chosen (stays_open o l m) g k = ap (λ b. list_all test (cond b (x ∷ filter is_open xs) (filter is_open xs))) o ∙ ap (λ b. test x && b) k

-- where nothing is made of what is dead or done
pub open_made : {B : Type 0} (f : Plain → List B) → f dead ≡ [] → f done ≡ [] → (xs : List Plain) → flat_map f (filter is_open xs) ≡ flat_map f xs
open_made f d n [] = refl
open_made f d n (x ∷ xs) = chosen (kind x) (open_made f d n xs)
  where
    chosen : Kind x → flat_map f (filter is_open xs) ≡ flat_map f xs → flat_map f (cond (is_open x) (x ∷ filter is_open xs) (filter is_open xs)) ≡ f x ++ flat_map f xs
    chosen (is_the_dead e) k = ap (λ z. flat_map f (cond (is_open z) (z ∷ filter is_open xs) (filter is_open xs))) e ∙ k ∙ sym (ap (λ w. w ++ flat_map f xs) (ap f e ∙ d))
    chosen (is_the_done e) k = ap (λ z. flat_map f (cond (is_open z) (z ∷ filter is_open xs) (filter is_open xs))) e ∙ k ∙ sym (ap (λ w. w ++ flat_map f xs) (ap f e ∙ n))
    chosen (stays_open o l m) k = ap (λ b. flat_map f (cond b (x ∷ filter is_open xs) (filter is_open xs))) o ∙ ap (λ w. f x ++ w) k

pub open_same : {xs ys : List Plain} → SameMembers xs ys → SameMembers (filter is_open xs) (filter is_open ys)
open_same {xs} {ys} s = record {
  to = λ x m. let k = Member-filter is_open xs m in filter-Member is_open (s.to x k.0) k.1;
  from = λ x m. let k = Member-filter is_open ys m in filter-Member is_open (s.from x k.0) k.1;
}
