-- The order of trees is total, and it tells trees parts_apart.
use Rattle.std.proofs.Common.{◌≡◌, ℕ, ◌==◌, Bool, true, false, not, ◌||◌, ◌&&◌, cond, List, [], ◌∷◌}
use Rattle.std.proofs.Common.{refl, sym, ap, ◌∙◌, true≢false, Ordering, Less, Equal, Greater}
use Rattle.std.specs.Prelude.{nat_le}
use Rattle.std.specs.Cmp.{IsTotalOrder, nat_cmp_total, alike_right}
use Rattle.std.specs.Cmp.Lexicographic.{lists_total}
use Rattle.std.specs.FinMap.{nat_cmp-IsAntisymmetric}
use Rattle.std.specs.Ordering.{nat_cmp, ordering_reverse, ordering_then}
use Rattle.ix_words.specs.Canon.{IsStrictOrder}
use Rattle.ix_values.specs.Order.{text_cmp}
use Rattle.ix_values.specs.lemmas.Order.{text_cmp-same}
use Rattle.ix_tree.specs.Plain.{Plain, dead, start, done, opt, seq, star, par, par_star, or, and}
use Rattle.ix_tree.specs.Plain.{couple, any, every, sync, all, times, pair, bag, map, entry, none}
use Rattle.ix_tree.specs.Plain.{more}
use Rattle.ix_tree.specs.Order.{place, key, first_part, between, second_part, in_turn, tree_cmp}

-- what holds of the empty list, and of a tree where it holds of its parts, holds of every tree
induct : (P : Plain → Type 0) → P none → ((x : Plain) → P (first_part x) → P (second_part x) → P x)
    → (x : Plain) → P x
induct P n s dead = s dead n n
induct P n s start = s start n n
induct P n s done = s done n n
induct P n s (opt empty x) = s (opt empty x) (induct P n s x) n
induct P n s (seq x ended xs) = s (seq x ended xs) (induct P n s x) (induct P n s xs)
induct P n s (star again xs) = s (star again xs) (induct P n s xs) n
induct P n s (par pairs) = s (par pairs) (induct P n s pairs) n
induct P n s (par_star bags) = s (par_star bags) (induct P n s bags) n
induct P n s (or x y) = s (or x y) (induct P n s x) (induct P n s y)
induct P n s (and x y) = s (and x y) (induct P n s x) (induct P n s y)
induct P n s (couple x y) = s (couple x y) (induct P n s x) (induct P n s y)
induct P n s (any x xs) = s (any x xs) (induct P n s x) (induct P n s xs)
induct P n s (every x xs) = s (every x xs) (induct P n s x) (induct P n s xs)
induct P n s (sync x xs) = s (sync x xs) (induct P n s x) (induct P n s xs)
induct P n s (all maps) = s (all maps) (induct P n s maps) n
induct P n s (times bags) = s (times bags) (induct P n s bags) n
induct P n s (pair x y) = s (pair x y) (induct P n s x) (induct P n s y)
induct P n s (bag xs) = s (bag xs) (induct P n s xs) n
induct P n s (map xs) = s (map xs) (induct P n s xs) n
induct P n s (entry v x) = s (entry v x) (induct P n s x) n
induct P n s none = n
induct P n s (more x xs) = s (more x xs) (induct P n s x) (induct P n s xs)

-- whether the trees of a form have a first and a second part
has_first : ℕ → Bool
has_first n = not (nat_le n 2 || n == 20)

-- whether the trees of a form have a second part
has_second : ℕ → Bool
has_second n = (n == 4) || ((nat_le 8 n && nat_le n 13) || ((n == 16) || (n == 21)))

-- a form without a first part has none there
no_first : (x : Plain) → has_first (place x) ≡ false → first_part x ≡ none
unfolding has_first
no_first dead e = refl
no_first start e = refl
no_first done e = refl
no_first none e = refl
no_first _ e = absurd (true≢false e)

-- a form without a second part has none there
no_second : (x : Plain) → has_second (place x) ≡ false → second_part x ≡ none
unfolding has_second
no_second (seq x ended xs) e = absurd (true≢false e)
no_second (or x y) e = absurd (true≢false e)
no_second (and x y) e = absurd (true≢false e)
no_second (couple x y) e = absurd (true≢false e)
no_second (any x xs) e = absurd (true≢false e)
no_second (every x xs) e = absurd (true≢false e)
no_second (sync x xs) e = absurd (true≢false e)
no_second (pair x y) e = absurd (true≢false e)
no_second (more x xs) e = absurd (true≢false e)
no_second _ e = refl

-- only what stands behind Equal counts
turn_same : (r : Ordering) {o p : Ordering} → (r ≡ Equal → o ≡ p)
    → ordering_then r o ≡ ordering_then r p
turn_same Less h = refl
turn_same Equal h = h refl
turn_same Greater h = refl

-- of two trees of one form the order asks for the parts alone
same_turn : (x y : Plain) (a b c d : Ordering) → (place x ≡ place y → a ≡ c)
    → (place x ≡ place y → b ≡ d) → in_turn x y a b ≡ in_turn x y c d
same_turn x y a b c d f g =
    turn_same (nat_cmp (place x) (place y))
    (λ e. let same : place x ≡ place y = nat_cmp-IsAntisymmetric (place x) (place y) e in
    ap (λ (o : Ordering).
    ordering_then (text_cmp (key x) (key y))
    (ordering_then o (ordering_then (text_cmp (between x) (between y)) b))) (f same)
    ∙ ap (λ (o : Ordering).
    ordering_then (text_cmp (key x) (key y))
    (ordering_then c (ordering_then (text_cmp (between x) (between y)) o))) (g same))

-- first parts of one form that has none are level
level_first : (x y : Plain) → has_first (place x) ≡ false → place x ≡ place y
    → Equal ≡ tree_cmp none (first_part y)
level_first x y e same = sym (ap (tree_cmp none) (no_first y (ap has_first (sym same) ∙ e)))

-- second parts of one form that has none are level
level_second : (x y : Plain) → has_second (place x) ≡ false → place x ≡ place y
    → Equal ≡ tree_cmp none (second_part y)
level_second x y e same = sym (ap (tree_cmp none) (no_second y (ap has_second (sym same) ∙ e)))

-- the order by the parts, whatever the form
abbrev by_parts : Plain → Plain → Ordering
by_parts x y = in_turn x y (tree_cmp (first_part x) (first_part y))
    (tree_cmp (second_part x) (second_part y))

-- a form with a first part alone
one_part : (x y : Plain) (a : Ordering) → has_second (place x) ≡ false
    → in_turn x y a Equal ≡ in_turn x y a (tree_cmp none (second_part y))
one_part x y a e = same_turn x y a Equal a (tree_cmp none (second_part y)) (λ s. refl)
    (level_second x y e)

-- a form with no parts
no_part : (x y : Plain) → has_first (place x) ≡ false → has_second (place x) ≡ false
    → in_turn x y Equal Equal
    ≡ in_turn x y (tree_cmp none (first_part y)) (tree_cmp none (second_part y))
no_part x y e f = same_turn x y Equal Equal (tree_cmp none (first_part y))
    (tree_cmp none (second_part y)) (level_first x y e) (level_second x y f)

-- the order goes by the parts
turns : (x y : Plain) → tree_cmp x y ≡ by_parts x y
unfolding has_first has_second
turns dead y = no_part dead y refl refl
turns start y = no_part start y refl refl
turns done y = no_part done y refl refl
turns (opt empty x) y = one_part (opt empty x) y _ refl
turns (seq x ended xs) y = refl
turns (star again xs) y = one_part (star again xs) y _ refl
turns (par pairs) y = one_part (par pairs) y _ refl
turns (par_star bags) y = one_part (par_star bags) y _ refl
turns (or x z) y = refl
turns (and x z) y = refl
turns (couple x z) y = refl
turns (any x xs) y = refl
turns (every x xs) y = refl
turns (sync x xs) y = refl
turns (all maps) y = one_part (all maps) y _ refl
turns (times bags) y = one_part (times bags) y _ refl
turns (pair x z) y = refl
turns (bag xs) y = one_part (bag xs) y _ refl
turns (map xs) y = one_part (map xs) y _ refl
turns (entry v x) y = one_part (entry v x) y _ refl
turns none y = no_part none y refl refl
turns (more x xs) y = refl

-- Trees that aren't told parts_apart

-- whether the first byte is 1
is_one : List ℕ → Bool
is_one [] = false
is_one (b ∷ v) = b == 1

-- the tree of a form with these bytes and parts, and with these bytes between the parts
made : ℕ → List ℕ → Plain → List ℕ → Plain → Plain
made n k x b y =
    cond (n == 0) dead (cond (n == 1) start
    (cond (n == 2) done (cond (n == 3) (opt (is_one k) x) (cond (n == 4) (seq x (is_one b) y)
    (cond (n == 5) (star (is_one k) x)
    (cond (n == 6) (par x) (cond (n == 7) (par_star x) (cond (n == 8) (or x y)
    (cond (n == 9) (and x y)
    (cond (n == 10) (couple x y) (cond (n == 11) (any x y) (cond (n == 12) (every x y)
    (cond (n == 13) (sync x y)
    (cond (n == 14) (all x)
    (cond (n == 15) (times x) (cond (n == 16) (pair x y) (cond (n == 17) (bag x)
    (cond (n == 18) (map x)
    (cond (n == 19) (entry k x) (cond (n == 20) none (more x y)))))))))))))))))))))

-- a tree is made of its form, bytes and parts
made_again : (x : Plain) → made (place x) (key x) (first_part x) (between x) (second_part x) ≡ x
unfolding made is_one
made_again (opt true x) = refl
made_again (opt false x) = refl
made_again (seq x true xs) = refl
made_again (seq x false xs) = refl
made_again (star true xs) = refl
made_again (star false xs) = refl
made_again dead = refl
made_again _ = refl

-- both of two answers in turn are Equal where the whole is
equal_both : (o p : Ordering) → ordering_then o p ≡ Equal → (o ≡ Equal) × (p ≡ Equal)
equal_both Less p e = cc
equal_both Equal p e = (refl, e)
equal_both Greater p e = cc

-- only x itself compares as equal to x
abbrev Apart : Plain → Type 0
Apart x = (y : Plain) → tree_cmp x y ≡ Equal → x ≡ y

-- so with the empty list
none_apart : Apart none
none_apart none e = refl
none_apart _ e = cc

-- so with a tree, where it holds of its parts
parts_apart : (x : Plain) → Apart (first_part x) → Apart (second_part x) → Apart x
parts_apart x f s y e =
    let a = equal_both (nat_cmp (place x) (place y)) _ (sym (turns x y) ∙ e) in
    let b = equal_both (text_cmp (key x) (key y)) _ a.1 in
    let c = equal_both (tree_cmp (first_part x) (first_part y)) _ b.1 in
    let d = equal_both (text_cmp (between x) (between y)) _ c.1 in
    let p : place x ≡ place y = nat_cmp-IsAntisymmetric (place x) (place y) a.0 in
    let k : key x ≡ key y = text_cmp-same (key x) (key y) b.0 in
    let g : first_part x ≡ first_part y = f (first_part y) c.0 in
    let w : between x ≡ between y = text_cmp-same (between x) (between y) d.0 in
    let h : second_part x ≡ second_part y = s (second_part y) d.1 in
    sym (made_again x) ∙ (λ i. made (p i) (k i) (g i) (w i) (h i)) ∙ made_again y

-- trees that compare as equal are the same
pub tree_cmp-same : (x y : Plain) → tree_cmp x y ≡ Equal → x ≡ y
tree_cmp-same = induct Apart none_apart parts_apart

-- The order the other way round

-- answers in turn, the other way round
turned_then : (o p : Ordering)
    → ordering_then (ordering_reverse o) (ordering_reverse p) ≡ ordering_reverse (ordering_then o p)
turned_then Less p = refl
turned_then Equal p = refl
turned_then Greater p = refl

-- so with answers that are turned
both_turned : (q r : Ordering) {o p : Ordering} → o ≡ ordering_reverse q → p ≡ ordering_reverse r
    → ordering_then o p ≡ ordering_reverse (ordering_then q r)
both_turned q r e f = (λ i. ordering_then (e i) (f i)) ∙ turned_then q r

-- x compares with y as y with x, the other way round
abbrev Turned : Plain → Type 0
Turned x = (y : Plain) → tree_cmp x y ≡ ordering_reverse (tree_cmp y x)

-- so with the empty list
none_turned : Turned none
none_turned none = refl
none_turned _ = refl

-- the order of texts is total
text_cmp-total : IsTotalOrder text_cmp
text_cmp-total = lists_total nat_cmp_total

-- so with a tree, where it holds of its parts
turned : (x : Plain) → Turned (first_part x) → Turned (second_part x) → Turned x
turned x f s y =
    turns x y
    ∙ both_turned _ _ (nat_cmp_total.antisymm (place x) (place y))
    (both_turned _ _ (text_cmp-total.antisymm (key x) (key y)) (both_turned _ _ (f (first_part y))
    (both_turned _ _ (text_cmp-total.antisymm (between x) (between y)) (s (second_part y)))))
    ∙ ap ordering_reverse (sym (turns y x))

-- Chains

-- answers in turn that are below and below again are below
chained : (o p q s t u : Ordering) → (o ≡ Less → p ≡ Less → q ≡ Less) → (o ≡ Equal → q ≡ p)
    → (p ≡ Equal → q ≡ o) → (s ≡ Less → t ≡ Less → u ≡ Less) →
    ordering_then o s ≡ Less → ordering_then p t ≡ Less → ordering_then q u ≡ Less
chained Less Less q s t u f g h k d e = ap (λ (r : Ordering). ordering_then r u) (f refl refl)
chained Less Equal q s t u f g h k d e = ap (λ (r : Ordering). ordering_then r u) (h refl)
chained Less Greater q s t u f g h k d e = cc
chained Equal Less q s t u f g h k d e = ap (λ (r : Ordering). ordering_then r u) (g refl)
chained Equal Equal q s t u f g h k d e = ap (λ (r : Ordering). ordering_then r u) (g refl) ∙ k d e
chained Equal Greater q s t u f g h k d e = cc
chained Greater p q s t u f g h k d e = cc

-- what is above something above x is above x
abbrev Chains : Plain → Type 0
Chains x = (y z : Plain) → tree_cmp x y ≡ Less → tree_cmp y z ≡ Less → tree_cmp x z ≡ Less

-- so with the empty list
none_chains : Chains none
none_chains (more x xs) (more y ys) d e = refl
none_chains (more x xs) _ d e = cc
none_chains _ z d e = cc

-- a tree that compares as equal may stand in the first place
tree_first : (x y z : Plain) → tree_cmp x y ≡ Equal → tree_cmp x z ≡ tree_cmp y z
tree_first x y z e = ap (λ (t : Plain). tree_cmp t z) (tree_cmp-same x y e)

-- and in the last place
tree_last : (x y z : Plain) → tree_cmp y z ≡ Equal → tree_cmp x z ≡ tree_cmp x y
tree_last x y z e = ap (tree_cmp x) (sym (tree_cmp-same y z e))

-- so with a tree, where it holds of its parts
chains : (x : Plain) → Chains (first_part x) → Chains (second_part x) → Chains x
chains x f s y z d e =
    turns x z
    ∙ chained (nat_cmp (place x) (place y)) (nat_cmp (place y) (place z))
    (nat_cmp (place x) (place z)) _ _ _
    (nat_cmp_total.trans (place x) (place y) (place z))
    (nat_cmp_total.congr (place x) (place y) (place z))
    (λ c. sym (alike_right nat_cmp_total (place y) (place z) (place x) c))
    (chained (text_cmp (key x) (key y)) (text_cmp (key y) (key z)) (text_cmp (key x) (key z)) _ _ _
    (text_cmp-total.trans (key x) (key y) (key z))
    (text_cmp-total.congr (key x) (key y) (key z))
    (λ c. sym (alike_right text_cmp-total (key y) (key z) (key x) c))
    (chained (tree_cmp (first_part x) (first_part y)) (tree_cmp (first_part y) (first_part z))
    (tree_cmp (first_part x) (first_part z)) _ _ _
    (f (first_part y) (first_part z))
    (tree_first (first_part x) (first_part y) (first_part z))
    (tree_last (first_part x) (first_part y) (first_part z))
    (chained (text_cmp (between x) (between y)) (text_cmp (between y) (between z))
    (text_cmp (between x) (between z)) _ _ _
    (text_cmp-total.trans (between x) (between y) (between z))
    (text_cmp-total.congr (between x) (between y) (between z))
    (λ c. sym (alike_right text_cmp-total (between y) (between z) (between x) c))
    (s (second_part y) (second_part z)))))
    (sym (turns x y) ∙ d) (sym (turns y z) ∙ e)

-- the order is total
pub tree_cmp-total : IsTotalOrder tree_cmp
tree_cmp-total = record {
  antisymm = induct Turned none_turned turned;
  trans = induct Chains none_chains chains;
  congr = tree_first;
}

-- a total order in which only a tree itself is equal to it
pub tree_order : IsStrictOrder tree_cmp
tree_order = record { total = tree_cmp-total; tells_apart = tree_cmp-same }
