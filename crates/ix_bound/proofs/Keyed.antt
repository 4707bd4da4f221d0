-- In a keyed expression the parameter's value is read off each action.
use Rattle.std.proofs.Common.{◌≡◌, inl, inr, ℕ, zero, suc, true, not, ◌==◌, List, [], ◌∷◌, ◌++◌, Some, length, get_or, nat_lt, refl, sym, ap, ◌∙◌, true≢false, eq-eqb}
use Rattle.std.specs.List.{list_all}
use Rattle.ix_words.specs.Each.{Member, here, EachPair, no_pair, pair}
use Rattle.ix_words.proofs.Each.{Each-member, Member-left, Member-right}
use Rattle.ix_values.specs.Order.{text_eq}
use Rattle.ix_values.specs.lemmas.Order.{text_eq-decides}
use Rattle.ix_values.specs.PlainAction.{PlainAction}
use Rattle.ix_expr.specs.declared.arg.Arg.{Arg}
use Rattle.ix_expr.specs.declared.arg.Arg.TheVariants.{Fixed, Param}
use Rattle.ix_expr.specs.Form.{PlainAtom, Form, atom, opt, seq, star, par, par_star, or, and, couple, any, every, sync, all, times}
use Rattle.ix_expr.specs.FormFaults.{is_parameter}
use Rattle.ix_expr.specs.Environment.{Environment, bind, value_in, HasValue, HaveValues, Matches}
use Rattle.ix_expr.specs.Meaning.{InAlphabet}
use Rattle.ix_expr.specs.Laws.{EachAtomNames}
use Rattle.ix_expr.proofs.LawsOfMeaning.{bind-other, bind-own}
use Rattle.ix_words.proofs.Deciding.{itself, when_both, when_either, any_says}
use Rattle.ix_can.proofs.Lists.{all_to}
use Rattle.ix_expr.specs.Atoms.{atoms_of, are_alike}
use Rattle.ix_bound.specs.Keys.{is_at, keeps_key, has_key, is_keyed}

-- an atom of the list that matches the action in an environment where p is v
pub record Matching (p v : List ℕ) (a : PlainAction) (xs : List PlainAtom) : Type 0 where
  pub which : PlainAtom
  pub among : Member which xs
  pub around : Environment
  pub value : value_in around p ≡ Some v
  pub matches : Matches which around a

in_left : {p v : List ℕ} {a : PlainAction} {xs : List PlainAtom} → Matching p v a xs → (ys : List PlainAtom) → Matching p v a (xs ++ ys)
in_left h ys = record { which = h.which; among = Member-left h.among ys; around = h.around; value = h.value; matches = h.matches }

in_right : {p v : List ℕ} {a : PlainAction} {ys : List PlainAtom} → (xs : List PlainAtom) → Matching p v a ys → Matching p v a (xs ++ ys)
in_right xs h = record { which = h.which; among = Member-right xs h.among; around = h.around; value = h.value; matches = h.matches }

-- where every atom names p, an action of the alphabet is matched by an atom with p's value
pub matching : (p v : List ℕ) (y : Form) (e : Environment) (a : PlainAction) → EachAtomNames p y → value_in e p ≡ Some v → InAlphabet y e a → Matching p v a (atoms_of y)
matching p v (atom x) e a n h i = record { which = x; among = here; around = e; value = h; matches = i }
matching p v (opt y) e a n h i = matching p v y e a n h i
matching p v (seq y z) e a n h i = elim i [ inl k ↦ in_left (matching p v y e a n.0 h k) (atoms_of z) | inr k ↦ in_right (atoms_of y) (matching p v z e a n.1 h k) ]
matching p v (star y) e a n h i = matching p v y e a n h i
matching p v (par y z) e a n h i = elim i [ inl k ↦ in_left (matching p v y e a n.0 h k) (atoms_of z) | inr k ↦ in_right (atoms_of y) (matching p v z e a n.1 h k) ]
matching p v (par_star y) e a n h i = matching p v y e a n h i
matching p v (or y z) e a n h i = elim i [ inl k ↦ in_left (matching p v y e a n.0 h k) (atoms_of z) | inr k ↦ in_right (atoms_of y) (matching p v z e a n.1 h k) ]
matching p v (and y z) e a n h i = elim i [ inl k ↦ in_left (matching p v y e a n.0 h k) (atoms_of z) | inr k ↦ in_right (atoms_of y) (matching p v z e a n.1 h k) ]
matching p v (couple y z) e a n h i = elim i [ inl k ↦ in_left (matching p v y e a n.0 h k) (atoms_of z) | inr k ↦ in_right (atoms_of y) (matching p v z e a n.1 h k) ]
matching p v (any q y) e a n h i = matching p v y (bind q (Some i.0) e) a n.1 (bind-other p q (Some i.0) (Some v) e n.0 h) i.1
matching p v (every q y) e a n h i = matching p v y (bind q (Some i.0) e) a n.1 (bind-other p q (Some i.0) (Some v) e n.0 h) i.1
matching p v (sync q y) e a n h i = matching p v y (bind q (Some i.0) e) a n.1 (bind-other p q (Some i.0) (Some v) e n.0 h) i.1
matching p v (all q y) e a n h i = matching p v y (bind q (Some i.0) e) a n.1 (bind-other p q (Some i.0) (Some v) e n.0 h) i.1
matching p v (times m y) e a n h i = matching p v y e a n h i

own_value : (e : Environment) (p v u : List ℕ) (x : Arg) → is_parameter p x ≡ true → value_in e p ≡ Some v → HasValue e x u → u ≡ v
own_value e p v u (Fixed w) i h k = absurd (true≢false (sym i))
own_value e p v u (Param q) i h k =
    let same : value_in e q ≡ Some v = ap (value_in e) (sym ((text_eq-decides p q).0 i)) ∙ h in
    cc

-- the value in a place that holds the parameter is the parameter's value
at_place : (e : Environment) (p v : List ℕ) (place : ℕ) (xs : List Arg) (values : List (List ℕ)) → is_parameter p (get_or xs place (Fixed [])) ≡ true → value_in e p ≡ Some v → HaveValues e xs values → get_or values place [] ≡ v
at_place e p v place [] values i h k = absurd (true≢false (sym i))
at_place e p v place (x ∷ xs) [] i h k = absurd k
at_place e p v zero (x ∷ xs) (u ∷ values) i h k = own_value e p v u x i h k.0
at_place e p v (suc place) (x ∷ xs) (u ∷ values) i h k = at_place e p v place xs values i h k.1

same_count : (e : Environment) (xs : List Arg) (values : List (List ℕ)) → HaveValues e xs values → length xs ≡ length values
same_count e [] [] h = refl
same_count e [] (u ∷ values) h = absurd h
same_count e (x ∷ xs) [] h = absurd h
same_count e (x ∷ xs) (u ∷ values) h = ap suc (same_count e xs values h.1)

-- atoms that match one action are alike
alike : (x y : PlainAtom) (e f : Environment) (a : PlainAction) → Matches x e a → Matches y f a → are_alike x y ≡ true
alike x y e f a h k = (when_both (text_eq x.name y.name) (length x.arguments == length y.arguments) itself itself).1 (
  (text_eq-decides x.name y.name).1 (h.0 ∙ sym k.0),
  eq-eqb (length x.arguments) (length y.arguments) (same_count e x.arguments a.values h.1 ∙ sym (same_count f y.arguments a.values k.1)),
)

-- an alike atom that keeps the key holds the parameter there
kept : (p : List ℕ) (x y : PlainAtom) (place : ℕ) → are_alike x y ≡ true → keeps_key p x place y ≡ true → is_parameter p (get_or y.arguments place (Fixed [])) ≡ true
kept p x y place h k =
    elim ((when_either (not (are_alike x y)) (is_at p place y.arguments) itself itself).0 k) [
      | inl n ↦ absurd (true≢false (sym n ∙ ap not h))
      | inr i ↦ ((when_both (nat_lt place (length y.arguments)) (is_parameter p (get_or y.arguments place (Fixed []))) itself itself).0 i).1
    ]

-- an action of a keyed `all` has one owner
pub one_owner : (p : List ℕ) (y : Form) (e : Environment) (a : PlainAction) (v u : List ℕ) → is_keyed p y ≡ true → EachAtomNames p y → InAlphabet y (bind p (Some v) e) a → InAlphabet y (bind p (Some u) e) a → v ≡ u
one_owner p y e a v u h n i j =
    let first : Matching p v a (atoms_of y) = matching p v y (bind p (Some v) e) a n (bind-own p (Some v) e) i in
    let second : Matching p u a (atoms_of y) = matching p u y (bind p (Some u) e) a n (bind-own p (Some u) e) j in
    let key = (any_says (λ place. list_all (keeps_key p first.which place) (atoms_of y)) (0 ∷ 1 ∷ 2 ∷ 3 ∷ [])).0 (Each-member (all_to (has_key p (atoms_of y)) (atoms_of y) h) first.among) in
    let keeps = all_to (keeps_key p first.which key.which) (atoms_of y) key.passes in
    let here_first = kept p first.which first.which key.which (alike first.which first.which first.around first.around a first.matches first.matches) (Each-member keeps first.among) in
    let here_second = kept p first.which second.which key.which (alike first.which second.which first.around second.around a first.matches second.matches) (Each-member keeps second.among) in
    sym (at_place first.around p v key.which first.which.arguments a.values here_first first.value first.matches.1)
    ∙ at_place second.around p u key.which second.which.arguments a.values here_second second.value second.matches.1

-- owners that are told by what they own are one list
pub one_list : {K A : Type 0} {G : K → A → Type 0} {owners others : List K} {w : List A} → ((v u : K) (a : A) → G v a → G u a → v ≡ u) → EachPair G owners w → EachPair G others w → owners ≡ others
one_list tell no_pair no_pair = refl
one_list tell (pair {owner} {a} {owners} {w} g h) (pair {owner = u} {owners = others} k l) =
    let first : owner ≡ u = tell owner u a g k in
    let rest : owners ≡ others = one_list tell h l in
    cc
