-- The laws of meaning, one clause for each form.
use Rattle.std.proofs.Common.{◌≡◌, ◌≢◌, ◌⊎◌, ◌↔◌, inl, inr, ℕ, Bool, true, false, cond, List, [], ◌∷◌, ◌++◌, Option, Some, None, append-nil, refl, sym, subst, true≢false}
use Rattle.ix_words.specs.Each.{Each, no_item, item, Member, here, there}
use Rattle.ix_words.specs.Words.{GivesEach}
use Rattle.ix_words.proofs.Each.{Each-left, Each-same, Each-weaker, Each-both, Each-anything}
use Rattle.ix_words.proofs.Canon.{Member-same}
use Rattle.ix_words.proofs.Words.{Joined-leads, Split-leads, Numbered-leads, Shared-leads, Owned-leads, Projected-leads, Joined-front, Repeated-front, Split-closed, Numbered-closed, Shared-closed, Owned-closed, Projected-closed, Joined-gives, Repeated-gives, Split-gives, Numbered-gives, Shared-gives, Owned-gives, Joined-empty, Repeated-empty, Split-empty, Numbered-empty, Shared-empty, Owned-empty, Projected-empty}
use Rattle.ix_words.proofs.Owners.{EachPair-long, Owned-pairs}
use Rattle.ix_values.specs.Order.{text_eq}
use Rattle.ix_values.specs.lemmas.Order.{text_eq-decides}
use Rattle.ix_values.specs.PlainAction.{PlainAction, Word}
use Rattle.ix_expr.specs.declared.arg.Arg.{Arg}
use Rattle.ix_expr.specs.declared.arg.Arg.TheVariants.{Param}
use Rattle.ix_expr.specs.Form.{PlainAtom, Form, atom, opt, seq, star, par, par_star, or, and, couple, any, every, sync, all, times}
use Rattle.ix_expr.specs.Environment.{Environment, value_in, bind, HaveValues, Matches}
use Rattle.ix_expr.specs.Meaning.{InAlphabet, IsOneMatch, IsComplete, IsPartial}
use Rattle.ix_expr.specs.Laws.{AgreeAt, AgreeOn, AtomsAgreeAt, MeansTheSame, EachAtomNames, IsFresh, WithinTheValues}
use Rattle.ix_expr.proofs.Agreement as Agreement
use Rattle.ix_expr.proofs.Agreement.{alphabet-leads}
use Rattle.ix_expr.proofs.AgreeingAtoms.{complete-same, partial-same, atoms-same}

-- the empty word is partial
pub empty-partial : (x : Form) (e : Environment) → IsPartial x e []
empty-partial (atom x) e = inl refl
empty-partial (opt y) e = empty-partial y e
empty-partial (seq y z) e = inl (empty-partial y e)
empty-partial (star y) e = Joined-empty Repeated-empty (empty-partial y e)
empty-partial (par y z) e = Split-empty (empty-partial y e) (empty-partial z e)
empty-partial (par_star y) e = Numbered-empty
empty-partial (or y z) e = inl (empty-partial y e)
empty-partial (and y z) e = (empty-partial y e, empty-partial z e)
empty-partial (couple y z) e = (no_item, Projected-empty (empty-partial y e), Projected-empty (empty-partial z e))
empty-partial (any p y) e = ([], empty-partial y (bind p (Some []) e))
empty-partial (every p y) e = λ v. empty-partial y (bind p (Some v) e)
empty-partial (sync p y) e = (no_item, λ v. Projected-empty (empty-partial y (bind p (Some v) e)))
empty-partial (all p y) e = Owned-empty (λ v. empty-partial y (bind p (Some v) e))
empty-partial (times n y) e = Shared-empty (empty-partial y e)

-- anything
abbrev Whatever : PlainAction → Type 0
Whatever a = Unit {0}

whatever : (w : Word) → Each Whatever w
whatever w = Each-anything (λ a. tt) w

-- complete words are partial
pub complete-partial : (x : Form) (e : Environment) (w : Word) → IsComplete x e w → IsPartial x e w
complete-partial (atom x) e w h = inr h
complete-partial (opt y) e w h = elim h [ inl n ↦ subst (IsPartial y e) (sym n) (empty-partial y e) | inr c ↦ complete-partial y e w c ]
complete-partial (seq y z) e w h =
    inr (Joined-leads {G = Whatever} (λ u g c. c) (λ u g c. complete-partial z e u c) w (whatever w) h)
complete-partial (star y) e w h =
    record { front = w; back = []; whole = sym (append-nil w); front_has = h; back_has = empty-partial y e }
complete-partial (par y z) e w h =
    Split-leads {G = Whatever} (λ u g c. complete-partial y e u c) (λ u g c. complete-partial z e u c) w (whatever w) h
complete-partial (par_star y) e w h =
    Numbered-leads {G = Whatever} (λ u g c. complete-partial y e u c) w (whatever w) h
complete-partial (or y z) e w h = elim h [ inl c ↦ inl (complete-partial y e w c) | inr c ↦ inr (complete-partial z e w c) ]
complete-partial (and y z) e w h = (complete-partial y e w h.0, complete-partial z e w h.1)
complete-partial (couple y z) e w h = (
  h.0,
  Projected-leads {G = Whatever} (λ a g i. i) (λ a g i. i) (λ u g c. complete-partial y e u c) w (whatever w) h.1,
  Projected-leads {G = Whatever} (λ a g i. i) (λ a g i. i) (λ u g c. complete-partial z e u c) w (whatever w) h.2,
)
complete-partial (any p y) e w h = (h.0, complete-partial y (bind p (Some h.0) e) w h.1)
complete-partial (every p y) e w h = λ v. complete-partial y (bind p (Some v) e) w (h v)
complete-partial (sync p y) e w h = (
  h.0,
  λ v. Projected-leads {G = Whatever} (λ a g i. i) (λ a g i. i) (λ u g c. complete-partial y (bind p (Some v) e) u c) w (whatever w) (h.1 v),
)
complete-partial (all p y) e w h =
    Owned-leads {G = Whatever} (λ v u g c. complete-partial y (bind p (Some v) e) u c) w (whatever w) h
complete-partial (times n y) e w h =
    Shared-leads {G = Whatever} (λ u g c. complete-partial y e u c) w (whatever w) h

nothing_before : (u v : Word) → u ++ v ≡ [] → u ≡ []
nothing_before [] v e = refl
nothing_before (a ∷ u) v e = absurd (cc)

front_of_match : (x : PlainAtom) (e : Environment) (u v : Word) → (u ++ v ≡ []) ⊎ IsOneMatch x e (u ++ v) → (u ≡ []) ⊎ IsOneMatch x e u
front_of_match x e [] v h = inl refl
front_of_match x e (b ∷ u) v (inl n) = inl (nothing_before (b ∷ u) v n)
front_of_match x e (b ∷ u) v (inr h) =
    let one : b ∷ (u ++ v) ≡ h.0 ∷ [] = h.1 in
    let first : b ≡ h.0 = cc in
    let none : u ≡ [] = nothing_before u v (cc) in
    inr (h.0, cc, h.2)

-- each prefix of a partial word is partial
pub prefix-partial : (x : Form) (e : Environment) (u v : Word) → IsPartial x e (u ++ v) → IsPartial x e u
prefix-partial (atom x) e u v h = front_of_match x e u v h
prefix-partial (opt y) e u v h = prefix-partial y e u v h
prefix-partial (seq y z) e u v h =
    elim h [
      | inl p ↦ inl (prefix-partial y e u v p)
      | inr j ↦ elim (Joined-front (prefix-partial z e) u v j) [
        | inl k ↦ inl (prefix-partial y e u k.0 (complete-partial y e (u ++ k.0) k.1))
        | inr k ↦ inr k
      ]
    ]
prefix-partial (star y) e u v h =
    elim (Joined-front (prefix-partial y e) u v h) [
      | inl k ↦ Repeated-front (complete-partial y e) (prefix-partial y e) (empty-partial y e) u k.0 k.1
      | inr k ↦ k
    ]
prefix-partial (par y z) e u v h = Split-closed (prefix-partial y e) (prefix-partial z e) u v h
prefix-partial (par_star y) e u v h = Numbered-closed (prefix-partial y e) u v h
prefix-partial (or y z) e u v h = elim h [ inl p ↦ inl (prefix-partial y e u v p) | inr p ↦ inr (prefix-partial z e u v p) ]
prefix-partial (and y z) e u v h = (prefix-partial y e u v h.0, prefix-partial z e u v h.1)
prefix-partial (couple y z) e u v h =
    (Each-left u v h.0, Projected-closed (prefix-partial y e) u v h.1, Projected-closed (prefix-partial z e) u v h.2)
prefix-partial (any p y) e u v h = (h.0, prefix-partial y (bind p (Some h.0) e) u v h.1)
prefix-partial (every p y) e u v h = λ x. prefix-partial y (bind p (Some x) e) u v (h x)
prefix-partial (sync p y) e u v h = (Each-left u v h.0, λ x. Projected-closed (prefix-partial y (bind p (Some x) e)) u v (h.1 x))
prefix-partial (all p y) e u v h = Owned-closed (λ x. prefix-partial y (bind p (Some x) e)) u v h
prefix-partial (times n y) e u v h = Shared-closed (prefix-partial y e) u v h

match_gives : (x : PlainAtom) (e : Environment) (w : Word) → (w ≡ []) ⊎ IsOneMatch x e w → Each (Matches x e) w
match_gives x e w (inl n) = Each-same (sym n) no_item
match_gives x e w (inr h) = Each-same (sym h.1) (item h.2 no_item)

-- each action of a partial word is in the alphabet
pub partial-alphabet : (x : Form) (e : Environment) (w : Word) → IsPartial x e w → Each (InAlphabet x e) w
partial-alphabet (atom x) e w h = match_gives x e w h
partial-alphabet (opt y) e w h = partial-alphabet y e w h
partial-alphabet (seq y z) e w h =
    elim h [
      | inl p ↦ Each-weaker (λ a i. inl i) (partial-alphabet y e w p)
      | inr j ↦ Joined-gives
          (λ u c. Each-weaker (λ a i. inl i) (partial-alphabet y e u (complete-partial y e u c)))
          (λ u p. Each-weaker (λ a i. inr i) (partial-alphabet z e u p))
          w j
    ]
partial-alphabet (star y) e w h =
    Joined-gives (Repeated-gives (λ u c. partial-alphabet y e u (complete-partial y e u c))) (partial-alphabet y e) w h
partial-alphabet (par y z) e w h =
    Split-gives
    (λ u p. Each-weaker (λ a i. inl i) (partial-alphabet y e u p))
    (λ u p. Each-weaker (λ a i. inr i) (partial-alphabet z e u p))
    w h
partial-alphabet (par_star y) e w h = Numbered-gives (partial-alphabet y e) w h
partial-alphabet (or y z) e w h =
    elim h [
      | inl p ↦ Each-weaker (λ a i. inl i) (partial-alphabet y e w p)
      | inr p ↦ Each-weaker (λ a i. inr i) (partial-alphabet z e w p)
    ]
partial-alphabet (and y z) e w h = Each-weaker (λ a i. inl i) (partial-alphabet y e w h.0)
partial-alphabet (couple y z) e w h = h.0
partial-alphabet (any p y) e w h = Each-weaker (λ a i. (h.0, i)) (partial-alphabet y (bind p (Some h.0) e) w h.1)
partial-alphabet (every p y) e w h = Each-weaker (λ a i. ([], i)) (partial-alphabet y (bind p (Some []) e) w (h []))
partial-alphabet (sync p y) e w h = h.0
partial-alphabet (all p y) e w h =
    Owned-gives (λ v. (text_eq-decides v v).1 refl) (λ v. partial-alphabet y (bind p (Some v) e)) w h
partial-alphabet (times n y) e w h = Shared-gives (partial-alphabet y e) w h

-- Environments that agree

forth : {e f : Environment} {a : PlainAction} → AgreeAt e f a → Agreement.Leads e f a.values
forth g = record { at = λ p v m. (g.agree p v m).0 }

back : {e f : Environment} {a : PlainAction} → AgreeAt e f a → Agreement.Leads f e a.values
back g = record { at = λ p v m. (g.agree p v m).1 }

pub agree-sym : {e f : Environment} {a : PlainAction} → AgreeAt e f a → AgreeAt f e a
agree-sym g = record { agree = λ p v m. ((g.agree p v m).1, (g.agree p v m).0) }

bound_alike : (b : Bool) (v : List ℕ) (u x y : Option (List ℕ)) → (x ≡ Some v) ↔ (y ≡ Some v) → (cond b u x ≡ Some v) ↔ (cond b u y ≡ Some v)
bound_alike true v u x y k = (λ h. h, λ h. h)
bound_alike false v u x y k = k

-- giving a parameter the same value keeps the agreement
pub bind-agree : {e f : Environment} (q : List ℕ) (u : Option (List ℕ)) (a : PlainAction) → AgreeAt e f a → AgreeAt (bind q u e) (bind q u f) a
bind-agree {e} {f} q u a g = record { agree = λ p v m. bound_alike (text_eq q p) v u (value_in e p) (value_in f p) (g.agree p v m) }

-- where environments agree, so do the atoms of every expression
pub agree-atoms : (x : Form) (e f : Environment) (a : PlainAction) → AgreeAt e f a → AtomsAgreeAt x e f a
agree-atoms (atom x) e f a g = (λ h. alphabet-leads (atom x) a (forth g) h, λ h. alphabet-leads (atom x) a (back g) h)
agree-atoms (opt y) e f a g = agree-atoms y e f a g
agree-atoms (seq y z) e f a g = (agree-atoms y e f a g, agree-atoms z e f a g)
agree-atoms (star y) e f a g = agree-atoms y e f a g
agree-atoms (par y z) e f a g = (agree-atoms y e f a g, agree-atoms z e f a g)
agree-atoms (par_star y) e f a g = agree-atoms y e f a g
agree-atoms (or y z) e f a g = (agree-atoms y e f a g, agree-atoms z e f a g)
agree-atoms (and y z) e f a g = (agree-atoms y e f a g, agree-atoms z e f a g)
agree-atoms (couple y z) e f a g = (agree-atoms y e f a g, agree-atoms z e f a g)
agree-atoms (any p y) e f a g = λ v. agree-atoms y (bind p v e) (bind p v f) a (bind-agree p v a g)
agree-atoms (every p y) e f a g = λ v. agree-atoms y (bind p v e) (bind p v f) a (bind-agree p v a g)
agree-atoms (sync p y) e f a g = λ v. agree-atoms y (bind p v e) (bind p v f) a (bind-agree p v a g)
agree-atoms (all p y) e f a g = λ v. agree-atoms y (bind p v e) (bind p v f) a (bind-agree p v a g)
agree-atoms (times n y) e f a g = agree-atoms y e f a g

pub complete-leads : (x : Form) (e f : Environment) (w : Word) → AgreeOn e f w → IsComplete x e w → IsComplete x f w
complete-leads x e f w g h = complete-same x e f w (Each-weaker (agree-atoms x e f) g) h

pub partial-leads : (x : Form) (e f : Environment) (w : Word) → AgreeOn e f w → IsPartial x e w → IsPartial x f w
partial-leads x e f w g h = partial-same x e f w (Each-weaker (agree-atoms x e f) g) h

-- environments that agree on a word mean the same of it
pub agree-same : (x : Form) (e f : Environment) (w : Word) → AgreeOn e f w → MeansTheSame x e f w
agree-same x e f w g = atoms-same x e f w (Each-weaker (agree-atoms x e f) g)

-- Owners

one_value : (e : Environment) (p v : List ℕ) (arguments : List Arg) (values : List (List ℕ)) → Member (Param p) arguments → value_in e p ≡ Some v → HaveValues e arguments values → Member v values
one_value e p v (argument ∷ arguments) [] m k h = absurd h
one_value e p v (argument ∷ arguments) (u ∷ values) here k h = Member-same values (cc)
one_value e p v (argument ∷ arguments) (u ∷ values) (there m) k h = there (one_value e p v arguments values m k h.1)
one_value e p v [] values m k h = elim m [ ]

other_bound : (b : Bool) (u x y : Option (List ℕ)) → b ≡ false → x ≡ y → cond b u x ≡ y
other_bound true u x y e f = absurd (true≢false e)
other_bound false u x y e f = f

not_same : (b : Bool) {A : Type 0} → (b ≡ true → A) → ¬ A → b ≡ false
not_same true f n = absurd (n (f refl))
not_same false f n = refl

-- under another parameter p keeps its value
pub bind-other : (p q : List ℕ) (u x : Option (List ℕ)) (e : Environment) → q ≢ p → value_in e p ≡ x → value_in (bind q u e) p ≡ x
bind-other p q u x e n h = other_bound (text_eq q p) u (value_in e p) x (not_same (text_eq q p) (text_eq-decides q p).0 n) h

bound_to : (b : Bool) (u x : Option (List ℕ)) → b ≡ true → cond b u x ≡ u
bound_to true u x e = refl
bound_to false u x e = absurd (true≢false (sym e))

-- the parameter that was given a value has it
pub bind-own : (p : List ℕ) (u : Option (List ℕ)) (e : Environment) → value_in (bind p u e) p ≡ u
bind-own p u e = bound_to (text_eq p p) u (value_in e p) ((text_eq-decides p p).1 refl)

-- where each atom names p, the value of p is a value of each action of the alphabet
pub named-value : (y : Form) (e : Environment) (p v : List ℕ) (a : PlainAction) → EachAtomNames p y → value_in e p ≡ Some v → InAlphabet y e a → Member v a.values
named-value (atom x) e p v a n h i = one_value e p v x.arguments a.values n h i.1
named-value (opt y) e p v a n h i = named-value y e p v a n h i
named-value (seq y z) e p v a n h i = elim i [ inl k ↦ named-value y e p v a n.0 h k | inr k ↦ named-value z e p v a n.1 h k ]
named-value (star y) e p v a n h i = named-value y e p v a n h i
named-value (par y z) e p v a n h i = elim i [ inl k ↦ named-value y e p v a n.0 h k | inr k ↦ named-value z e p v a n.1 h k ]
named-value (par_star y) e p v a n h i = named-value y e p v a n h i
named-value (or y z) e p v a n h i = elim i [ inl k ↦ named-value y e p v a n.0 h k | inr k ↦ named-value z e p v a n.1 h k ]
named-value (and y z) e p v a n h i = elim i [ inl k ↦ named-value y e p v a n.0 h k | inr k ↦ named-value z e p v a n.1 h k ]
named-value (couple y z) e p v a n h i = elim i [ inl k ↦ named-value y e p v a n.0 h k | inr k ↦ named-value z e p v a n.1 h k ]
named-value (any q y) e p v a n h i = named-value y (bind q (Some i.0) e) p v a n.1 (bind-other p q (Some i.0) (Some v) e n.0 h) i.1
named-value (every q y) e p v a n h i = named-value y (bind q (Some i.0) e) p v a n.1 (bind-other p q (Some i.0) (Some v) e n.0 h) i.1
named-value (sync q y) e p v a n h i = named-value y (bind q (Some i.0) e) p v a n.1 (bind-other p q (Some i.0) (Some v) e n.0 h) i.1
named-value (all q y) e p v a n h i = named-value y (bind q (Some i.0) e) p v a n.1 (bind-other p q (Some i.0) (Some v) e n.0 h) i.1
named-value (times m y) e p v a n h i = named-value y e p v a n h i

-- an owner whose part is partial is a value of each action that it owns
pub owner-value : (p : List ℕ) (y : Form) (e : Environment) (w : Word) (v : List ℕ) → EachAtomNames p y → IsPartial y (bind p (Some v) e) w → Each (λ a. Member v a.values) w
owner-value p y e w v n h =
    Each-weaker
    (λ a i. named-value y (bind p (Some v) e) p v a n (bind-own p (Some v) e) i)
    (partial-alphabet y (bind p (Some v) e) w h)

-- Fresh values

fresh_alike : (b : Bool) (u v w : List ℕ) (x : Option (List ℕ)) → u ≢ w → v ≢ w → (cond b (Some u) x ≡ Some w) ↔ (cond b (Some v) x ≡ Some w)
fresh_alike true u v w x m n = (λ e. absurd (m (cc)), λ e. absurd (n (cc)))
fresh_alike false u v w x m n = (λ h. h, λ h. h)

fresh_outside : (b : Bool) (v w : List ℕ) (x : Option (List ℕ)) → v ≢ w → (cond b (Some v) x ≡ Some w) ↔ (cond b None x ≡ Some w)
fresh_outside true v w x n = (λ e. absurd (n (cc)), λ e. absurd (cc))
fresh_outside false v w x n = (λ h. h, λ h. h)

differs : {v w : List ℕ} {values : List (List ℕ)} → ¬ Member v values → Member w values → v ≢ w
differs {values = values} n m e = n (subst (λ u. Member u values) (sym e) m)

-- values that the action doesn't have are alike
pub fresh-agree : (e : Environment) (p u v : List ℕ) (a : PlainAction) → ¬ Member u a.values → ¬ Member v a.values → AgreeAt (bind p (Some u) e) (bind p (Some v) e) a
fresh-agree e p u v a m n = record { agree = λ q w k. fresh_alike (text_eq p q) u v w (value_in e q) (differs m k) (differs n k) }

-- a value that the action doesn't have is as outside
pub outside-agree : (e : Environment) (p v : List ℕ) (a : PlainAction) → ¬ Member v a.values → AgreeAt (bind p (Some v) e) (bind p None e) a
outside-agree e p v a n = record { agree = λ q w k. fresh_outside (text_eq p q) v w (value_in e q) (differs n k) }

pub fresh-same : (x : Form) (e : Environment) (p u v : List ℕ) (w : Word) → IsFresh u w → IsFresh v w → MeansTheSame x (bind p (Some u) e) (bind p (Some v) e) w
fresh-same x e p u v w g h =
    agree-same x (bind p (Some u) e) (bind p (Some v) e) w (Each-weaker (λ a k. fresh-agree e p u v a k.0 k.1) (Each-both g h))

pub outside-same : (x : Form) (e : Environment) (p v : List ℕ) (w : Word) → IsFresh v w → MeansTheSame x (bind p (Some v) e) (bind p None e) w
outside-same x e p v w g =
    agree-same x (bind p (Some v) e) (bind p None e) w (Each-weaker (λ a k. outside-agree e p v a k) g)

-- owners among the values of their actions

complete-values : (p : List ℕ) (y : Form) (e : Environment) → EachAtomNames p y → (v : List ℕ) → GivesEach (λ a. Member v a.values) (IsComplete y (bind p (Some v) e))
complete-values p y e n v u c = owner-value p y e u v n (complete-partial y (bind p (Some v) e) u c)

own-value : (v : List ℕ) → text_eq v v ≡ true
own-value v = (text_eq-decides v v).1 refl

pub owners-among : (p : List ℕ) (y : Form) (e : Environment) (w : Word) → EachAtomNames p y → WithinTheValues p y e w
owners-among p y e w n = record {
  complete = (
    λ h. record { owners = h.owners; are_values = Owned-pairs own-value (complete-values p y e n) w h; each_has = h.each_has },
    λ h. record { owners = h.owners; as_long = EachPair-long h.are_values; each_has = h.each_has },
  );
  partial = (
    λ h. record { owners = h.owners; are_values = Owned-pairs own-value (λ v u q. owner-value p y e u v n q) w h; each_has = h.each_has },
    λ h. record { owners = h.owners; as_long = EachPair-long h.are_values; each_has = h.each_has },
  );
}

-- the empty word means the same under all environments
pub empty-same : (x : Form) (e f : Environment) → MeansTheSame x e f []
empty-same x e f = agree-same x e f [] no_item
