-- The actions of an expression have names of its atoms, so operands that share no name divide words in one way.
use Rattle.std.proofs.Common.{◌≡◌, ◌≢◌, ◌⊎◌, inl, inr, ℕ, Bool, true, false, not, ◌||◌, List, [], ◌∷◌, ◌++◌, Some, refl, sym, ap, ◌∙◌, subst, true≢false, append-nil}
use Rattle.std.specs.List.{list_any}
use Rattle.ix_words.specs.Each.{Each, no_item, Member, here}
use Rattle.ix_words.specs.Canon.{splits, give_start}
use Rattle.ix_words.proofs.Each.{Each-head, Each-tail, Each-left, Each-right, Each-same, Each-weaker, Each-append, Member-left, Member-right}
use Rattle.ix_words.proofs.Canon.{Member-cases, Member-flat_map}
use Rattle.ix_words.proofs.Words.{Reach, reach}
use Rattle.ix_values.specs.Order.{text_eq}
use Rattle.ix_values.specs.lemmas.Order.{text_eq-decides}
use Rattle.ix_values.specs.PlainAction.{PlainAction, Word}
use Rattle.ix_expr.specs.Form.{PlainAtom, Form, atom, opt, seq, star, par, par_star, or, and, couple, any, every, sync, all, times}
use Rattle.ix_expr.specs.Environment.{Environment, bind, Matches}
use Rattle.ix_expr.specs.Meaning.{InAlphabet, IsComplete, IsPartial}
use Rattle.ix_expr.proofs.LawsOfMeaning.{complete-partial, partial-alphabet}
use Rattle.ix_expr.specs.Tests.{accepts_empty}
use Rattle.ix_words.proofs.Deciding.{itself, when_both, when_either, any_from}
use Rattle.ix_expr.proofs.Testing.{empty_complete}
use Rattle.ix_expr.specs.Atoms.{atoms_of}
use Rattle.ix_bound.specs.Names.{has_name, share_a_name}
use Rattle.ix_bound.specs.Heads.{has_heads, is_head, is_in_rest, comes_again, is_headed}

-- an atom of the list that has this name
pub record NamedBy (name : List ℕ) (xs : List PlainAtom) : Type 0 where
  pub which : PlainAtom
  pub among : Member which xs
  pub same : which.name ≡ name

in_left : {name : List ℕ} {xs : List PlainAtom} → NamedBy name xs → (ys : List PlainAtom) → NamedBy name (xs ++ ys)
in_left h ys = record { which = h.which; among = Member-left h.among ys; same = h.same }

in_right : {name : List ℕ} {ys : List PlainAtom} → (xs : List PlainAtom) → NamedBy name ys → NamedBy name (xs ++ ys)
in_right xs h = record { which = h.which; among = Member-right xs h.among; same = h.same }

-- an action of the alphabet has the name of an atom
pub named : (x : Form) (e : Environment) (a : PlainAction) → InAlphabet x e a → NamedBy a.name (atoms_of x)
named (atom x) e a i = record { which = x; among = here; same = i.0 }
named (opt y) e a i = named y e a i
named (seq y z) e a i = elim i [ inl k ↦ in_left (named y e a k) (atoms_of z) | inr k ↦ in_right (atoms_of y) (named z e a k) ]
named (star y) e a i = named y e a i
named (par y z) e a i = elim i [ inl k ↦ in_left (named y e a k) (atoms_of z) | inr k ↦ in_right (atoms_of y) (named z e a k) ]
named (par_star y) e a i = named y e a i
named (or y z) e a i = elim i [ inl k ↦ in_left (named y e a k) (atoms_of z) | inr k ↦ in_right (atoms_of y) (named z e a k) ]
named (and y z) e a i = elim i [ inl k ↦ in_left (named y e a k) (atoms_of z) | inr k ↦ in_right (atoms_of y) (named z e a k) ]
named (couple y z) e a i = elim i [ inl k ↦ in_left (named y e a k) (atoms_of z) | inr k ↦ in_right (atoms_of y) (named z e a k) ]
named (any p y) e a i = named y (bind p (Some i.0) e) a i.1
named (every p y) e a i = named y (bind p (Some i.0) e) a i.1
named (sync p y) e a i = named y (bind p (Some i.0) e) a i.1
named (all p y) e a i = named y (bind p (Some i.0) e) a i.1
named (times n y) e a i = named y e a i

pub has_its_name : (x : Form) (e : Environment) (a : PlainAction) → InAlphabet x e a → has_name x a.name ≡ true
has_its_name x e a i =
    let h = named x e a i in
    any_from (λ b. text_eq b.name a.name) (atoms_of x) h.among ((text_eq-decides h.which.name a.name).1 h.same)

-- an action of both alphabets has a name that both have
pub shares : (y z : Form) (e : Environment) (a : PlainAction) → InAlphabet y e a → InAlphabet z e a → share_a_name y z ≡ true
shares y z e a i j =
    let h = named y e a i in
    any_from (λ b. has_name z b.name) (atoms_of y) h.among (ap (has_name z) h.same ∙ has_its_name z e a j)

-- a word of both alphabets is empty where no name is shared
none_of_both : (y z : Form) (e : Environment) (w : Word) → share_a_name y z ≡ false → Each (InAlphabet y e) w → Each (InAlphabet z e) w → w ≡ []
none_of_both y z e [] n h k = refl
none_of_both y z e (a ∷ w) n h k = absurd (true≢false (sym (shares y z e a (Each-head h) (Each-head k)) ∙ n))

one_cut_from : (y z : Form) (e : Environment) (u v s t : Word) → share_a_name y z ≡ false → Reach s t u v → Each (InAlphabet z e) v → Each (InAlphabet y e) s → (u ≡ s) × (v ≡ t)
one_cut_from y z e u v s t n r k h =
    let m : r.middle ≡ [] = none_of_both y z e r.middle n (Each-right u r.middle (Each-same r.over h)) (Each-left r.middle t (Each-same r.rest k)) in
    (sym (r.over ∙ ap (λ m. u ++ m) m ∙ append-nil u), r.rest ∙ ap (λ m. m ++ t) m)

-- where no name is shared, a word is cut into a complete front and a partial back in one way
pub one_cut : (y z : Form) (e : Environment) (u v s t : Word) → share_a_name y z ≡ false → u ++ v ≡ s ++ t → IsComplete y e u → IsPartial z e v → IsComplete y e s → IsPartial z e t → (u ≡ s) × (v ≡ t)
one_cut y z e u v s t n h cu pv cs pt =
    elim (reach s t u v h) [
      | inl r ↦ one_cut_from y z e u v s t n r (partial-alphabet z e v pv) (partial-alphabet y e s (complete-partial y e s cs))
      | inr r ↦ let k = one_cut_from y z e s t u v n r (partial-alphabet z e t pt) (partial-alphabet y e u (complete-partial y e u cu)) in (sym k.0, sym k.1)
    ]

-- Splits

-- the left part is in the alphabet of y, and the right part in that of z
abbrev pub AreApart : Form → Form → Environment → Word × Word → Type 0
AreApart y z e s = Each (InAlphabet y e) s.0 × Each (InAlphabet z e) s.1

-- where no name is shared, a word is split in one way
pub one_split : (y z : Form) (e : Environment) (w : Word) (s t : Word × Word) → share_a_name y z ≡ false → Member s (splits w) → AreApart y z e s → Member t (splits w) → AreApart y z e t → s ≡ t
one_split y z e [] s t n i h j k = only (Member-cases i) (Member-cases j)
  where
    only : (s ≡ ([], [])) ⊎ Member s [] → (t ≡ ([], [])) ⊎ Member t [] → s ≡ t
    only (inl f) (inl g) = f ∙ sym g
    only (inr m) g = elim m [ ]
    only f (inr m) = elim m [ ]
one_split y z e (a ∷ w) s t n i h j k =
    let f = Member-flat_map (give_start a) (splits w) i in
    let g = Member-flat_map (give_start a) (splits w) j in
    given f.0 g.0 f.1 g.1 (Member-cases f.2) (Member-cases g.2) (λ q r. one_split y z e w q r n)
  where
    Same : Word × Word → Word × Word → Type 0
    Same q r = Member q (splits w) → AreApart y z e q → Member r (splits w) → AreApart y z e r → q ≡ r

    left : (q : Word × Word) (s : Word × Word) → s ≡ (a ∷ q.0, q.1) → AreApart y z e s → InAlphabet y e a × AreApart y z e q
    left q s m h = let c = subst (AreApart y z e) m h in (Each-head c.0, (Each-tail c.0, c.1))

    right : (q : Word × Word) (s : Word × Word) → s ≡ (q.0, a ∷ q.1) → AreApart y z e s → InAlphabet z e a × AreApart y z e q
    right q s m h = let c = subst (AreApart y z e) m h in (Each-head c.1, (c.0, Each-tail c.1))

    last : (q : Word × Word) (s : Word × Word) → Member s ((q.0, a ∷ q.1) ∷ []) → s ≡ (q.0, a ∷ q.1)
    last q s m = elim (Member-cases m) [ inl f ↦ f | inr r ↦ elim r [ ] ]

    given : (q r : Word × Word) → Member q (splits w) → Member r (splits w) → (s ≡ (a ∷ q.0, q.1)) ⊎ Member s ((q.0, a ∷ q.1) ∷ []) → (t ≡ (a ∷ r.0, r.1)) ⊎ Member t ((r.0, a ∷ r.1) ∷ []) → ((q r : Word × Word) → Same q r) → s ≡ t
    given q r mq mr (inl f) (inl g) again =
        let e = again q r mq (left q s f h).1 mr (left r t g k).1 in f ∙ ap (λ c. (a ∷ c.0, c.1)) e ∙ sym g
    given q r mq mr (inl f) (inr g) again = absurd (true≢false (sym (shares y z e a (left q s f h).0 (right r t (last r t g) k).0) ∙ n))
    given q r mq mr (inr f) (inl g) again = absurd (true≢false (sym (shares y z e a (left r t g k).0 (right q s (last q s f) h).0) ∙ n))
    given q r mq mr (inr f) (inr g) again =
        let e = again q r mq (right q s (last q s f) h).1 mr (right r t (last r t g) k).1 in last q s f ∙ ap (λ c. (c.0, a ∷ c.1)) e ∙ sym (last r t g)

-- Heads

-- the action is a head, and all names behind it are in the rest
abbrev pub BeginsWithAHead : Form → PlainAction → Word → Type 0
BeginsWithAHead x a w = (is_head x a.name ≡ true) × Each (λ b. is_in_rest x b.name ≡ true) w

either_left : (a b : Bool) → a ≡ true → a || b ≡ true
either_left a b h = (when_either a b itself itself).1 (inl h)

either_right : (a b : Bool) → b ≡ true → a || b ≡ true
either_right a b h = (when_either a b itself itself).1 (inr h)

or_left : (y z : Form) (a : PlainAction) (w : Word) → BeginsWithAHead y a w → BeginsWithAHead (or y z) a w
or_left y z a w h = (either_left (is_head y a.name) (is_head z a.name) h.0, Each-weaker (λ b i. either_left (is_in_rest y b.name) (is_in_rest z b.name) i) h.1)

or_right : (y z : Form) (a : PlainAction) (w : Word) → BeginsWithAHead z a w → BeginsWithAHead (or y z) a w
or_right y z a w h = (either_right (is_head y a.name) (is_head z a.name) h.0, Each-weaker (λ b i. either_right (is_in_rest y b.name) (is_in_rest z b.name) i) h.1)

-- a partial word of an expression with heads begins with one, and what is behind it is in the rest
pub headed : (x : Form) (e : Environment) (a : PlainAction) (w : Word) → has_heads x ≡ true → IsPartial x e (a ∷ w) → BeginsWithAHead x a w
headed (atom x) e a w h p = elim p [ inl n ↦ absurd (cc) | inr m ↦ single m.0 m.1 m.2 ]
  where
    single : (b : PlainAction) → a ∷ w ≡ b ∷ [] → Matches x e b → BeginsWithAHead (atom x) a w
    single b m k =
        let same : a ≡ b = cc in
        let none : w ≡ [] = cc in
        ((text_eq-decides x.name a.name).1 (k.0 ∙ ap (λ c. c.name) (sym same)), Each-same (sym none) no_item)
headed (opt y) e a w h p = headed y e a w h p
headed (seq y z) e a w h p =
    let k = (when_both (has_heads y) (not (accepts_empty y)) itself itself).0 h in
    elim p [
      | inl q ↦ let r = headed y e a w k.0 q in (r.0, Each-weaker (λ b i. either_left (is_in_rest y b.name) (has_name z b.name) i) r.1)
      | inr j ↦ behind j.front j.back j.whole k.1 j.front_has j.back_has (λ b u. headed y e b u k.0)
    ]
  where
    behind : (u v : Word) → a ∷ w ≡ u ++ v → not (accepts_empty y) ≡ true → IsComplete y e u → IsPartial z e v → ((b : PlainAction) (u : Word) → IsPartial y e (b ∷ u) → BeginsWithAHead y b u) → BeginsWithAHead (seq y z) a w
    behind [] v m n c q again = absurd (true≢false (sym n ∙ ap not ((empty_complete y e).1 c)))
    behind (b ∷ u) v m n c q again =
        let same : a ≡ b = cc in
        let rest : w ≡ u ++ v = cc in
        let r = again b u (complete-partial y e (b ∷ u) c) in (
          ap (λ d. is_head y d.name) same ∙ r.0,
          Each-same (sym rest) (Each-append
              (Each-weaker (λ d i. either_left (is_in_rest y d.name) (has_name z d.name) i) r.1)
              (Each-weaker (λ d i. either_right (is_in_rest y d.name) (has_name z d.name) (has_its_name z e d i)) (partial-alphabet z e v q))),
        )
headed (star y) e a w h p = absurd (true≢false (sym h))
headed (par y z) e a w h p = absurd (true≢false (sym h))
headed (par_star y) e a w h p = absurd (true≢false (sym h))
headed (or y z) e a w h p =
    let k = (when_both (has_heads y) (has_heads z) itself itself).0 h in
    elim p [ inl q ↦ or_left y z a w (headed y e a w k.0 q) | inr q ↦ or_right y z a w (headed z e a w k.1 q) ]
headed (and y z) e a w h p =
    let k = (when_both (has_heads y) (has_heads z) itself itself).0 h in or_left y z a w (headed y e a w k.0 p.0)
headed (couple y z) e a w h p = absurd (true≢false (sym h))
headed (any q y) e a w h p = headed y (bind q (Some p.0) e) a w h p.1
headed (every q y) e a w h p = headed y (bind q (Some []) e) a w h (p [])
headed (sync q y) e a w h p = absurd (true≢false (sym h))
headed (all q y) e a w h p = absurd (true≢false (sym h))
headed (times n y) e a w h p = absurd (true≢false (sym h))

-- no action comes first and again behind the first
no_return : (y : Form) (e : Environment) (a : PlainAction) → is_headed y ≡ true → InAlphabet y e a → is_head y a.name ≡ true → is_in_rest y a.name ≡ true → ⊥
no_return y e a h i first behind =
    let found = named y e a i in
    let k = (when_both (has_heads y) (not (list_any (λ b. comes_again y b.name) (atoms_of y))) itself itself).0 h in
    let again : comes_again y found.which.name ≡ true = ap (comes_again y) found.same ∙ (when_both (is_head y a.name) (is_in_rest y a.name) itself itself).1 (first, behind) in
    true≢false (sym k.1 ∙ ap not (any_from (λ b. comes_again y b.name) (atoms_of y) found.among again))

nothing_before : (y : Form) (e : Environment) (m v t : Word) → is_headed y ≡ true → v ≡ m ++ t → IsPartial y e v → IsPartial y e t → t ≢ [] → m ≡ []
nothing_before y e [] v t h r p q n = refl
nothing_before y e (c ∷ m) v [] h r p q n = absurd (n refl)
nothing_before y e (c ∷ m) v (b ∷ t) h r p q n =
    let heads = ((when_both (has_heads y) (not (list_any (λ b. comes_again y b.name) (atoms_of y))) itself itself).0 h).0 in
    let late = (headed y e c (m ++ b ∷ t) heads (subst (IsPartial y e) r p)).1 in
    let first = (headed y e b t heads q).0 in
    absurd (no_return y e b h (Each-head (partial-alphabet y e (b ∷ t) q)) first (Each-head (Each-right m (b ∷ t) late)))

-- of a headed expression a word has one back that is partial and not empty
pub one_back : (y : Form) (e : Environment) (u v s t : Word) → is_headed y ≡ true → u ++ v ≡ s ++ t → IsPartial y e v → v ≢ [] → IsPartial y e t → t ≢ [] → v ≡ t
one_back y e u v s t h m p n q o =
    elim (reach s t u v m) [
      | inl r ↦ r.rest ∙ ap (λ k. k ++ t) (nothing_before y e r.middle v t h r.rest p q o)
      | inr r ↦ sym (r.rest ∙ ap (λ k. k ++ v) (nothing_before y e r.middle t v h r.rest q p n))
    ]
