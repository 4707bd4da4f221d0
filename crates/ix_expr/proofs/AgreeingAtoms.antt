-- Environments under which the atoms of an expression match the same of a word's actions mean the
-- same of it, one clause for each form.
use Rattle.std.proofs.Common.{inl, inr, ℕ, List, Option, Some}
use Rattle.ix_words.specs.Each.{Each}
use Rattle.ix_words.specs.Words.{Projected}
use Rattle.ix_words.specs.inside.Leads.{Leads}
use Rattle.ix_words.proofs.Each.{Each-head, Each-same, Each-weaker, Each-both}
use Rattle.ix_words.proofs.Words.{Joined-leads, Repeated-leads, Split-leads, Numbered-leads, Shared-leads}
use Rattle.ix_words.proofs.Words.{Owned-leads, Projected-leads}
use Rattle.ix_values.specs.PlainAction.{PlainAction, Word}
use Rattle.ix_expr.specs.Form.{PlainAtom, Form, atom, opt, seq, star, par, par_star, or, and, couple}
use Rattle.ix_expr.specs.Form.{any, every, sync, all, times}
use Rattle.ix_expr.specs.Environment.{Environment, bind}
use Rattle.ix_expr.specs.Meaning.{InAlphabet, IsOneMatch, IsComplete, IsPartial}
use Rattle.ix_expr.specs.Laws.{AtomsAgreeAt, AtomsAgreeOn, MeansTheSame}

-- with the environments changed over
pub atoms-back : (x : Form) (e f : Environment) (a : PlainAction)
    → AtomsAgreeAt x e f a → AtomsAgreeAt x f e a
atoms-back (atom x) e f a g = (g.1, g.0)
atoms-back (opt y) e f a g = atoms-back y e f a g
atoms-back (seq y z) e f a g = (atoms-back y e f a g.0, atoms-back z e f a g.1)
atoms-back (star y) e f a g = atoms-back y e f a g
atoms-back (par y z) e f a g = (atoms-back y e f a g.0, atoms-back z e f a g.1)
atoms-back (par_star y) e f a g = atoms-back y e f a g
atoms-back (or y z) e f a g = (atoms-back y e f a g.0, atoms-back z e f a g.1)
atoms-back (and y z) e f a g = (atoms-back y e f a g.0, atoms-back z e f a g.1)
atoms-back (couple y z) e f a g = (atoms-back y e f a g.0, atoms-back z e f a g.1)
atoms-back (any p y) e f a g = λ v. atoms-back y (bind p v e) (bind p v f) a (g v)
atoms-back (every p y) e f a g = λ v. atoms-back y (bind p v e) (bind p v f) a (g v)
atoms-back (sync p y) e f a g = λ v. atoms-back y (bind p v e) (bind p v f) a (g v)
atoms-back (all p y) e f a g = λ v. atoms-back y (bind p v e) (bind p v f) a (g v)
atoms-back (times n y) e f a g = atoms-back y e f a g

-- what is in the alphabet under e is in it under f
pub alphabet-same : (x : Form) (e f : Environment) (a : PlainAction)
    → AtomsAgreeAt x e f a → InAlphabet x e a → InAlphabet x f a
alphabet-same (atom x) e f a g i = g.0 i
alphabet-same (opt y) e f a g i = alphabet-same y e f a g i
alphabet-same (seq y z) e f a g i =
    elim i [ inl k ↦ inl (alphabet-same y e f a g.0 k) | inr k ↦ inr (alphabet-same z e f a g.1 k) ]
alphabet-same (star y) e f a g i = alphabet-same y e f a g i
alphabet-same (par y z) e f a g i =
    elim i [ inl k ↦ inl (alphabet-same y e f a g.0 k) | inr k ↦ inr (alphabet-same z e f a g.1 k) ]
alphabet-same (par_star y) e f a g i = alphabet-same y e f a g i
alphabet-same (or y z) e f a g i =
    elim i [ inl k ↦ inl (alphabet-same y e f a g.0 k) | inr k ↦ inr (alphabet-same z e f a g.1 k) ]
alphabet-same (and y z) e f a g i =
    elim i [ inl k ↦ inl (alphabet-same y e f a g.0 k) | inr k ↦ inr (alphabet-same z e f a g.1 k) ]
alphabet-same (couple y z) e f a g i =
    elim i [ inl k ↦ inl (alphabet-same y e f a g.0 k) | inr k ↦ inr (alphabet-same z e f a g.1 k) ]
alphabet-same (any p y) e f a g i =
    (i.0, alphabet-same y (bind p (Some i.0) e) (bind p (Some i.0) f) a (g (Some i.0)) i.1)
alphabet-same (every p y) e f a g i =
    (i.0, alphabet-same y (bind p (Some i.0) e) (bind p (Some i.0) f) a (g (Some i.0)) i.1)
alphabet-same (sync p y) e f a g i =
    (i.0, alphabet-same y (bind p (Some i.0) e) (bind p (Some i.0) f) a (g (Some i.0)) i.1)
alphabet-same (all p y) e f a g i =
    (i.0, alphabet-same y (bind p (Some i.0) e) (bind p (Some i.0) f) a (g (Some i.0)) i.1)
alphabet-same (times n y) e f a g i = alphabet-same y e f a g i

stay_in : (x : Form) (e f : Environment) (w : Word)
    → AtomsAgreeOn x e f w → Each (InAlphabet x e) w → Each (InAlphabet x f) w
stay_in x e f w g h = Each-weaker (λ a k. alphabet-same x e f a k.0 k.1) (Each-both g h)

-- the atoms of both operands agree
abbrev Both : Form → Form → Environment → Environment → PlainAction → Type 0
Both y z e f a = AtomsAgreeAt y e f a × AtomsAgreeAt z e f a

left : (y z : Form) (e f : Environment) (w : Word) → Each (Both y z e f) w → AtomsAgreeOn y e f w
left y z e f w g = Each-weaker (λ a k. k.0) g

right : (y z : Form) (e f : Environment) (w : Word) → Each (Both y z e f) w → AtomsAgreeOn z e f w
right y z e f w g = Each-weaker (λ a k. k.1) g

-- the atoms of the body agree, whatever p is given
abbrev Inside : List ℕ → Form → Environment → Environment → PlainAction → Type 0
Inside p y e f a = (v : Option (List ℕ)) → AtomsAgreeAt y (bind p v e) (bind p v f) a

given : (p v : List ℕ) (y : Form) (e f : Environment) (w : Word)
    → Each (Inside p y e f) w → AtomsAgreeOn y (bind p (Some v) e) (bind p (Some v) f) w
given p v y e f w g = Each-weaker (λ a k. k (Some v)) g

one_match : (x : PlainAtom) (e f : Environment) (w : Word)
    → AtomsAgreeOn (atom x) e f w → IsOneMatch x e w → IsOneMatch x f w
one_match x e f w g h = (h.0, h.1, (Each-head (Each-same h.1 g)).0 h.2)

projected : (x : Form) (e f : Environment) {Q R : Word → Type 0} → Leads (AtomsAgreeAt x e f) Q R
    → (w : Word) → AtomsAgreeOn x e f w → Projected (InAlphabet x e) Q w → Projected (InAlphabet x f) R w
projected x e f l w g h =
    Projected-leads (alphabet-same x e f) (λ a k. alphabet-same x f e a (atoms-back x e f a k)) l w g h

-- what is complete under e is complete under f
pub complete-same : (x : Form) (e f : Environment) (w : Word)
    → AtomsAgreeOn x e f w → IsComplete x e w → IsComplete x f w
complete-same (atom x) e f w g h = one_match x e f w g h
complete-same (opt y) e f w g h = elim h [ inl n ↦ inl n | inr c ↦ inr (complete-same y e f w g c) ]
complete-same (seq y z) e f w g h =
    Joined-leads {G = Both y z e f}
    (λ u k. complete-same y e f u (left y z e f u k))
    (λ u k. complete-same z e f u (right y z e f u k)) w g h
complete-same (star y) e f w g h = Repeated-leads (complete-same y e f) w g h
complete-same (par y z) e f w g h =
    Split-leads {G = Both y z e f}
    (λ u k. complete-same y e f u (left y z e f u k))
    (λ u k. complete-same z e f u (right y z e f u k)) w g h
complete-same (par_star y) e f w g h = Numbered-leads (complete-same y e f) w g h
complete-same (or y z) e f w g h = elim h [
  | inl c ↦ inl (complete-same y e f w (left y z e f w g) c)
  | inr c ↦ inr (complete-same z e f w (right y z e f w g) c)
]
complete-same (and y z) e f w g h =
    (complete-same y e f w (left y z e f w g) h.0, complete-same z e f w (right y z e f w g) h.1)
complete-same (couple y z) e f w g h = (
  stay_in (couple y z) e f w g h.0,
  projected y e f (complete-same y e f) w (left y z e f w g) h.1,
  projected z e f (complete-same z e f) w (right y z e f w g) h.2,
)
complete-same (any p y) e f w g h =
    (h.0, complete-same y (bind p (Some h.0) e) (bind p (Some h.0) f) w (given p h.0 y e f w g) h.1)
complete-same (every p y) e f w g h =
    λ v. complete-same y (bind p (Some v) e) (bind p (Some v) f) w (given p v y e f w g) (h v)
complete-same (sync p y) e f w g h = (
  stay_in (sync p y) e f w g h.0,
  λ v.
      let e' = bind p (Some v) e in
      let f' = bind p (Some v) f in
      projected y e' f' (complete-same y e' f') w (given p v y e f w g) (h.1 v),
)
complete-same (all p y) e f w g h =
    Owned-leads {G = Inside p y e f}
    (λ v u k. complete-same y (bind p (Some v) e) (bind p (Some v) f) u (given p v y e f u k)) w g h
complete-same (times n y) e f w g h = Shared-leads (complete-same y e f) w g h

-- what is partial under e is partial under f
pub partial-same : (x : Form) (e f : Environment) (w : Word)
    → AtomsAgreeOn x e f w → IsPartial x e w → IsPartial x f w
partial-same (atom x) e f w g h = elim h [ inl n ↦ inl n | inr m ↦ inr (one_match x e f w g m) ]
partial-same (opt y) e f w g h = partial-same y e f w g h
partial-same (seq y z) e f w g h = elim h [
  | inl p ↦ inl (partial-same y e f w (left y z e f w g) p)
  | inr j ↦ inr (Joined-leads {G = Both y z e f}
      (λ u k. complete-same y e f u (left y z e f u k))
      (λ u k. partial-same z e f u (right y z e f u k)) w g j)
]
partial-same (star y) e f w g h =
    Joined-leads (Repeated-leads (complete-same y e f)) (partial-same y e f) w g h
partial-same (par y z) e f w g h =
    Split-leads {G = Both y z e f}
    (λ u k. partial-same y e f u (left y z e f u k))
    (λ u k. partial-same z e f u (right y z e f u k)) w g h
partial-same (par_star y) e f w g h = Numbered-leads (partial-same y e f) w g h
partial-same (or y z) e f w g h = elim h [
  | inl p ↦ inl (partial-same y e f w (left y z e f w g) p)
  | inr p ↦ inr (partial-same z e f w (right y z e f w g) p)
]
partial-same (and y z) e f w g h =
    (partial-same y e f w (left y z e f w g) h.0, partial-same z e f w (right y z e f w g) h.1)
partial-same (couple y z) e f w g h = (
  stay_in (couple y z) e f w g h.0,
  projected y e f (partial-same y e f) w (left y z e f w g) h.1,
  projected z e f (partial-same z e f) w (right y z e f w g) h.2,
)
partial-same (any p y) e f w g h =
    (h.0, partial-same y (bind p (Some h.0) e) (bind p (Some h.0) f) w (given p h.0 y e f w g) h.1)
partial-same (every p y) e f w g h =
    λ v. partial-same y (bind p (Some v) e) (bind p (Some v) f) w (given p v y e f w g) (h v)
partial-same (sync p y) e f w g h = (
  stay_in (sync p y) e f w g h.0,
  λ v.
      let e' = bind p (Some v) e in
      let f' = bind p (Some v) f in
      projected y e' f' (partial-same y e' f') w (given p v y e f w g) (h.1 v),
)
partial-same (all p y) e f w g h =
    Owned-leads {G = Inside p y e f}
    (λ v u k. partial-same y (bind p (Some v) e) (bind p (Some v) f) u (given p v y e f u k)) w g h
partial-same (times n y) e f w g h = Shared-leads (partial-same y e f) w g h

-- environments under which the atoms agree on a word mean the same of it
pub atoms-same : (x : Form) (e f : Environment) (w : Word)
    → AtomsAgreeOn x e f w → MeansTheSame x e f w
atoms-same x e f w g =
    let to = alphabet-same x e f in
    let from = λ (a : PlainAction) (k : AtomsAgreeAt x e f a). alphabet-same x f e a (atoms-back x e f a k) in
    let back : AtomsAgreeOn x f e w = Each-weaker (atoms-back x e f) g in
    record {
      complete = (complete-same x e f w g, complete-same x f e w back);
      partial = (partial-same x e f w g, partial-same x f e w back);
      alphabet = Each-weaker (λ a k. (to a k, from a k)) g;
    }
