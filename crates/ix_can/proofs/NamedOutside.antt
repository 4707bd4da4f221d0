-- Where every atom names a parameter that is outside, no action is in the alphabet, and none goes on.
use Rattle.std.proofs.Common.{◌≡◌, ◌≢◌, inl, inr, ℕ, length, Bool, true, false, ◌&&◌, ◌||◌, List, [], ◌∷◌, map, Option, Some, None, refl, sym, ap, ◌∙◌, if◌then◌else◌}
use Rattle.std.specs.List.{list_any, list_all}
use Rattle.std.specs.Prelude.{nat_lt}
use Rattle.ix_words.specs.Each.{Member}
use Rattle.ix_words.proofs.Canon.{Member-cases}
use Rattle.ix_values.specs.Order.{text_eq}
use Rattle.ix_values.specs.lemmas.Order.{text_eq-decides}
use Rattle.ix_values.specs.PlainAction.{PlainAction}
use Rattle.ix_expr.specs.declared.arg.Arg.{Arg}
use Rattle.ix_expr.specs.declared.arg.Arg.TheVariants.{Param}
use Rattle.ix_expr.specs.Form.{PlainAtom, Form, atom, opt, seq, star, par, par_star, or, and, couple, any, every, sync, all, times}
use Rattle.ix_expr.specs.Environment.{Environment, bind, value_in}
use Rattle.ix_expr.specs.Laws.{EachAtomNames}
use Rattle.ix_tree.specs.Plain.{Plain, dead, start, opt as opt_of, seq as seq_of, star as star_of, par as par_of, par_star as par_star_of, or as or_of, and as and_of, couple as couple_of, any as any_of, every as every_of, sync as sync_of, all as all_of, times as times_of}
use Rattle.ix_tree.specs.Order.{key, first_part, second_part}
use Rattle.ix_expr.specs.Tests.{is_value, has_value, have_values, is_match, in_alphabet, values_and_outside, accepts_empty}
use Rattle.ix_can.specs.Nodes.{is_dead, items_of}
use Rattle.ix_can.specs.May.{both_move, moves_within, tree_at, may_first, may}

pub and_false : (b : Bool) {c : Bool} → c ≡ false → (b && c) ≡ false
and_false true e = e
and_false false e = refl

pub or_false : {b c : Bool} → b ≡ false → c ≡ false → (b || c) ≡ false
or_false h k = λ i. h i || k i

pub and_none : (b : Bool) → (b && false) ≡ false
and_none true = refl
and_none false = refl

pub if_false : (b : Bool) {c d : Bool} → c ≡ false → d ≡ false → (if b then c else d) ≡ false
if_false true h k = h
if_false false h k = k

pub none_from : {A : Type 0} (test : A → Bool) → ((a : A) → test a ≡ false) → (w : List A) → list_any test w ≡ false
none_from test h [] = refl
none_from test h (a ∷ w) = or_false (h a) (none_from test h w)

-- a parameter that is given outside is outside
pub given_outside : (p : List ℕ) (e : Environment) → value_in (bind p None e) p ≡ None
given_outside p e = ap (λ (b : Bool). if b then None else value_in e p) ((text_eq-decides p p).1 refl)

module _ (p : List ℕ) (a : PlainAction) where
  no_values : (e : Environment) → value_in e p ≡ None → (xs : List Arg) (vs : List (List ℕ)) → Member (Param p) xs → have_values e xs vs ≡ false
  no_values e n [] vs m = elim m [ ]
  no_values e n (x ∷ xs) [] m = refl
  no_values e n (x ∷ xs) (v ∷ vs) m = elim (Member-cases m) [
    | inl same ↦ ap (λ x. has_value e x v && have_values e xs vs) (sym same) ∙ ap (λ o. is_value o v && have_values e xs vs) n
    | inr k ↦ ap (λ b. has_value e x v && b) (no_values e n xs vs k) ∙ and_none (has_value e x v)
  ]

  -- the parameter stays outside under another quantifier
  stays : (q : List ℕ) (v : Option (List ℕ)) (e : Environment) → q ≢ p → value_in e p ≡ None → value_in (bind q v e) p ≡ None
  stays q v e d n = one (text_eq q p) refl
    where
      one : (b : Bool) → text_eq q p ≡ b → (if b then v else value_in e p) ≡ None
      one true h = absurd (d ((text_eq-decides q p).0 h))
      one false h = n

  none_matches : (x : PlainAtom) (e : Environment) → Member (Param p) x.arguments → value_in e p ≡ None → is_match x e a ≡ false
  none_matches x e k n = ap (λ b. text_eq x.name a.name && b) (no_values e n x.arguments a.values k) ∙ and_none (text_eq x.name a.name)

  -- the action isn't in the alphabet
  pub none_inside : (x : Form) (e : Environment) → EachAtomNames p x → value_in e p ≡ None → in_alphabet x e a ≡ false
  none_inside (atom x) e k n = none_matches x e k n
  none_inside (opt y) e k n = none_inside y e k n
  none_inside (seq y z) e k n = or_false (none_inside y e k.0 n) (none_inside z e k.1 n)
  none_inside (star y) e k n = none_inside y e k n
  none_inside (par y z) e k n = or_false (none_inside y e k.0 n) (none_inside z e k.1 n)
  none_inside (par_star y) e k n = none_inside y e k n
  none_inside (or y z) e k n = or_false (none_inside y e k.0 n) (none_inside z e k.1 n)
  none_inside (and y z) e k n = or_false (none_inside y e k.0 n) (none_inside z e k.1 n)
  none_inside (couple y z) e k n = or_false (none_inside y e k.0 n) (none_inside z e k.1 n)
  none_inside (any q y) e k n = none_from (λ v. in_alphabet y (bind q v e) a) (λ v. none_inside y (bind q v e) k.1 (stays q v e k.0 n)) (values_and_outside a)
  none_inside (every q y) e k n = none_from (λ v. in_alphabet y (bind q v e) a) (λ v. none_inside y (bind q v e) k.1 (stays q v e k.0 n)) (values_and_outside a)
  none_inside (sync q y) e k n = none_from (λ v. in_alphabet y (bind q v e) a) (λ v. none_inside y (bind q v e) k.1 (stays q v e k.0 n)) (values_and_outside a)
  none_inside (all q y) e k n = none_from (λ v. in_alphabet y (bind q v e) a) (λ v. none_inside y (bind q v e) k.1 (stays q v e k.0 n)) (values_and_outside a)
  none_inside (times m y) e k n = none_inside y e k n

  -- it doesn't come first
  pub none_first : (x : Form) (e : Environment) → EachAtomNames p x → value_in e p ≡ None → may_first x e a ≡ false
  none_first (atom x) e k n = none_matches x e k n
  none_first (opt y) e k n = none_first y e k n
  none_first (seq y z) e k n = or_false (none_first y e k.0 n) (ap (λ b. accepts_empty y && b) (none_first z e k.1 n) ∙ and_none (accepts_empty y))
  none_first (star y) e k n = none_first y e k n
  none_first (par y z) e k n = or_false (none_first y e k.0 n) (none_first z e k.1 n)
  none_first (par_star y) e k n = none_first y e k n
  none_first (or y z) e k n = or_false (none_first y e k.0 n) (none_first z e k.1 n)
  none_first (and y z) e k n = ap (λ b. b && may_first z e a) (none_first y e k.0 n)
  none_first (couple y z) e k n = (λ i. both_move (none_inside y e k.0 n i) (none_inside z e k.1 n i) (may_first y e a) (may_first z e a))
  none_first (any q y) e k n = none_from (λ v. may_first y (bind q v e) a) (λ v. none_first y (bind q v e) k.1 (stays q v e k.0 n)) (values_and_outside a)
  none_first (every q y) e k n = ap (λ b. b && list_all (λ v. may_first y (bind q v e) a) (map Some a.values)) (none_first y (bind q None e) k.1 (stays q None e k.0 n))
  none_first (sync q y) e k n =
      ap (λ b. b && list_all (λ v. moves_within (in_alphabet y (bind q v e) a) (may_first y (bind q v e) a)) (values_and_outside a)) (none_inside (sync q y) e k n)
  none_first (all q y) e k n = none_from (λ v. may_first y (bind q (Some v) e) a) (λ v. none_first y (bind q (Some v) e) k.1 (stays q (Some v) e k.0 n)) a.values
  none_first (times m y) e k n = and_false (nat_lt 0 m) (none_first y e k n)

  -- and doesn't come next
  pub none_next : (x : Form) (e : Environment) (t : Plain) → EachAtomNames p x → value_in e p ≡ None → may x e t a ≡ false
  none_next (atom x) e start k n = none_matches x e k n
  none_next (opt y) e (opt_of empty t) k n = none_next y e t k n
  none_next (seq y z) e (seq_of t ended rest) k n = or_false (none_next y e t k.0 n) (none_from (λ s. may z e s a) (λ s. none_next z e s k.1 n) (items_of rest))
  none_next (star y) e (star_of again rest) k n = or_false (ap (λ b. again && b) (none_first y e k n) ∙ and_none again) (none_from (λ s. may y e s a) (λ s. none_next y e s k n) (items_of rest))
  none_next (par y z) e (par_of pairs) k n = none_from (λ s. may y e (first_part s) a || may z e (second_part s) a) (λ s. or_false (none_next y e (first_part s) k.0 n) (none_next z e (second_part s) k.1 n)) (items_of pairs)
  none_next (par_star y) e (par_star_of bags) k n =
      none_from (λ b. may_first y e a || list_any (λ s. may y e s a) (items_of (first_part b)))
      (λ b. or_false (none_first y e k n) (none_from (λ s. may y e s a) (λ s. none_next y e s k n) (items_of (first_part b)))) (items_of bags)
  none_next (or y z) e (or_of t u) k n = or_false (none_next y e t k.0 n) (none_next z e u k.1 n)
  none_next (and y z) e (and_of t u) k n = ap (λ b. b && may z e u a) (none_next y e t k.0 n)
  none_next (couple y z) e (couple_of t u) k n = (λ i. both_move (none_inside y e k.0 n i) (none_inside z e k.1 n i) (may y e t a) (may z e u a))
  none_next (any q y) e (any_of common entries) k n =
      or_false (none_next y (bind q None e) common k.1 (stays q None e k.0 n))
      (or_false (none_from (λ x. may y (bind q (Some (key x)) e) (first_part x) a) (λ x. none_next y (bind q (Some (key x)) e) (first_part x) k.1 (stays q (Some (key x)) e k.0 n)) (items_of entries))
      (none_from (λ v. may y (bind q (Some v) e) (tree_at v common (items_of entries)) a) (λ v. none_next y (bind q (Some v) e) (tree_at v common (items_of entries)) k.1 (stays q (Some v) e k.0 n)) a.values))
  none_next (every q y) e (every_of common entries) k n =
      ap (λ b. b && (list_all (λ x. may y (bind q (Some (key x)) e) (first_part x) a) (items_of entries) && list_all (λ v. may y (bind q (Some v) e) (tree_at v common (items_of entries)) a) a.values))
      (none_next y (bind q None e) common k.1 (stays q None e k.0 n))
  none_next (sync q y) e (sync_of common entries) k n =
      ap (λ b. b
      && (moves_within (in_alphabet y (bind q None e) a) (may y (bind q None e) common a)
      && (list_all (λ x. moves_within (in_alphabet y (bind q (Some (key x)) e) a) (may y (bind q (Some (key x)) e) (first_part x) a)) (items_of entries)
      && list_all (λ v. moves_within (in_alphabet y (bind q (Some v) e) a) (may y (bind q (Some v) e) (tree_at v common (items_of entries)) a)) a.values)))
      (none_inside (sync q y) e k n)
  none_next (all q y) e (all_of maps) k n =
      none_from (λ m. list_any (λ v. if is_dead (tree_at v dead (items_of (first_part m))) then may_first y (bind q (Some v) e) a else may y (bind q (Some v) e) (tree_at v dead (items_of (first_part m))) a) a.values)
      (λ m. none_from (λ v. if is_dead (tree_at v dead (items_of (first_part m))) then may_first y (bind q (Some v) e) a else may y (bind q (Some v) e) (tree_at v dead (items_of (first_part m))) a)
      (λ v. if_false (is_dead (tree_at v dead (items_of (first_part m)))) (none_first y (bind q (Some v) e) k.1 (stays q (Some v) e k.0 n)) (none_next y (bind q (Some v) e) (tree_at v dead (items_of (first_part m))) k.1 (stays q (Some v) e k.0 n)))
      a.values) (items_of maps)
  none_next (times m y) e (times_of bags) k n =
      none_from (λ b. (nat_lt (length (items_of (first_part b))) m && may_first y e a) || list_any (λ s. may y e s a) (items_of (first_part b)))
      (λ b. or_false (and_false (nat_lt (length (items_of (first_part b))) m) (none_first y e k n)) (none_from (λ s. may y e s a) (λ s. none_next y e s k n) (items_of (first_part b)))) (items_of bags)
  none_next _ e _ k n = refl
