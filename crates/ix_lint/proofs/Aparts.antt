-- What one side of a `&` doesn't know never comes.
use Rattle.std.proofs.Common.{◌≡◌, ◌⊎◌, inl, inr, ℕ, ◌==◌, eq-eqb, Bool, true, false, cond, ◌&&◌, ◌||◌, List, [], ◌∷◌, ◌++◌, Option, Some, None, length, refl, sym, ◌∙◌, true≢false}
use Rattle.std.specs.List.{list_any, flat_map}
use Rattle.ix_words.specs.Each.{Each, Member, here, there}
use Rattle.ix_words.proofs.Canon.{Member-same}
use Rattle.ix_words.proofs.Each.{Each-weaker, Member-either}
use Rattle.ix_values.specs.Order.{text_eq}
use Rattle.ix_values.specs.lemmas.Order.{text_eq-decides}
use Rattle.ix_values.specs.PlainAction.{PlainAction, Word}
use Rattle.ix_expr.specs.Form.{PlainAtom, Form, atom, opt, seq, star, par, par_star, or, and, couple, any, every, sync, all, times}
use Rattle.ix_expr.specs.Environment.{Environment, Matches, bind}
use Rattle.ix_expr.specs.Meaning.{InAlphabet, IsPartial}
use Rattle.ix_expr.proofs.LawsOfMeaning.{partial-alphabet}
use Rattle.ix_expr.proofs.Places.{have-as-many}
use Rattle.ix_lint.specs.declared.finding.FindingKind.TheVariants as kind
use Rattle.ix_lint.specs.Nodes.{forms, first}
use Rattle.ix_lint.specs.Apart.{is_alike, has_alike, lone_at, lone_atoms, apart_for, apart}
use Rattle.ix_lint.proofs.Lists.{any_left, any_right}

-- the name and the number of values of an action that the atom matches
abbrev pub IsKind : PlainAtom → PlainAction → Type 0
IsKind s a = (a.name ≡ s.name) × (length a.values ≡ length s.arguments)

two : (s : PlainAtom) (y z : Form) → (list_any (is_alike s) (forms y) ≡ true) ⊎ (list_any (is_alike s) (forms z) ≡ true) → list_any (is_alike s) (forms y ++ forms z) ≡ true
two s y z (inl h) = any_left (is_alike s) (forms y) (forms z) h
two s y z (inr h) = any_right (is_alike s) (forms y) (forms z) h

matched : (s x : PlainAtom) (e : Environment) (a : PlainAction) → IsKind s a → Matches x e a → list_any (is_alike s) (atom x ∷ []) ≡ true
matched s x e a k m =
    let n : text_eq s.name x.name ≡ true = (text_eq-decides s.name x.name).1 (sym k.0 ∙ sym m.0) in
    let c : (length s.arguments == length x.arguments) ≡ true = eq-eqb (length s.arguments) (length x.arguments) (sym k.1 ∙ sym (have-as-many e x.arguments a.values m.1)) in
    (λ i. (n i && c i) || false)

-- an action of this name and number in the alphabet is that of some atom
pub in-alike : (s : PlainAtom) (x : Form) (e : Environment) (a : PlainAction) → IsKind s a → InAlphabet x e a → has_alike x s ≡ true
in-alike s (atom x) e a k h = matched s x e a k h
in-alike s (opt y) e a k h = in-alike s y e a k h
in-alike s (seq y z) e a k h = two s y z (elim h [ inl l ↦ inl (in-alike s y e a k l) | inr r ↦ inr (in-alike s z e a k r) ])
in-alike s (star y) e a k h = in-alike s y e a k h
in-alike s (par y z) e a k h = two s y z (elim h [ inl l ↦ inl (in-alike s y e a k l) | inr r ↦ inr (in-alike s z e a k r) ])
in-alike s (par_star y) e a k h = in-alike s y e a k h
in-alike s (or y z) e a k h = two s y z (elim h [ inl l ↦ inl (in-alike s y e a k l) | inr r ↦ inr (in-alike s z e a k r) ])
in-alike s (and y z) e a k h = two s y z (elim h [ inl l ↦ inl (in-alike s y e a k l) | inr r ↦ inr (in-alike s z e a k r) ])
in-alike s (couple y z) e a k h = two s y z (elim h [ inl l ↦ inl (in-alike s y e a k l) | inr r ↦ inr (in-alike s z e a k r) ])
in-alike s (any p y) e a k h = in-alike s y (bind p (Some h.0) e) a k h.1
in-alike s (every p y) e a k h = in-alike s y (bind p (Some h.0) e) a k h.1
in-alike s (sync p y) e a k h = in-alike s y (bind p (Some h.0) e) a k h.1
in-alike s (all p y) e a k h = in-alike s y (bind p (Some h.0) e) a k h.1
in-alike s (times n y) e a k h = in-alike s y e a k h

-- an atom that is listed as alone has none that is alike
at_atom : (other : Form) (x s : PlainAtom) (b : Bool) → has_alike other x ≡ b → Member s (cond b [] (x ∷ [])) → has_alike other s ≡ false
at_atom other x s true e m = elim m [ ]
at_atom other x s false e here = e
at_atom other x s false e (there m) = elim m [ ]

alone_at : (other f : Form) (s : PlainAtom) → Member s (lone_at other f) → has_alike other s ≡ false
alone_at other (atom x) s m = at_atom other x s (has_alike other x) refl m
alone_at other _ s m = elim m [ ]

alone_among : (other : Form) (fs : List Form) (s : PlainAtom) → Member s (flat_map (lone_at other) fs) → has_alike other s ≡ false
alone_among other [] s m = elim m [ ]
alone_among other (f ∷ fs) s m = elim (Member-either (lone_at other f) (flat_map (lone_at other) fs) m) [
  | inl l ↦ alone_at other f s l
  | inr r ↦ alone_among other fs s r
]

-- of a partial word no action has the name and number of an atom that none is alike to
none_comes : (x : Form) (e : Environment) (w : Word) (s : PlainAtom) → has_alike x s ≡ false → IsPartial x e w → Each (λ a. ¬ IsKind s a) w
none_comes x e w s n p = Each-weaker (λ a i k. true≢false (sym (in-alike s x e a k i) ∙ n)) (partial-alphabet x e w p)

pub first-member : {A : Type 0} (xs : List A) {s : A} → first xs ≡ Some s → Member s xs
first-member [] e = absurd (cc)
first-member (x ∷ xs) e = Member-same xs (cc)

either_side : (y z : Form) (e : Environment) (w : Word) (s : PlainAtom) → Member s (lone_atoms z y ++ lone_atoms y z) → IsPartial (and y z) e w → Each (λ a. ¬ IsKind s a) w
either_side y z e w s m p = elim (Member-either (lone_atoms z y) (lone_atoms y z) m) [
  | inl l ↦ none_comes z e w s (alone_among z (forms y) s l) p.1
  | inr r ↦ none_comes y e w s (alone_among y (forms z) s r) p.0
]

of_and : (y z : Form) (e : Environment) (w : Word) (name : List ℕ) (number : ℕ) (found : Option PlainAtom) → first (lone_atoms z y ++ lone_atoms y z) ≡ found → apart_for found ≡ Some (kind.Apart name number) → IsPartial (and y z) e w → Each (λ a. ¬ ((a.name ≡ name) × (length a.values ≡ number))) w
of_and y z e w name number None f h p = absurd (cc)
of_and y z e w name number (Some s) f h p =
    let n : s.name ≡ name = cc in
    let c : length s.arguments ≡ number = cc in
    Each-weaker (λ a none k. none (k.0 ∙ sym n, k.1 ∙ sym c)) (either_side y z e w s (first-member (lone_atoms z y ++ lone_atoms y z) f) p)

pub apart-never-comes : (x : Form) (e : Environment) (w : Word) (name : List ℕ) (number : ℕ) → apart x ≡ Some (kind.Apart name number) → IsPartial x e w → Each (λ a. ¬ ((a.name ≡ name) × (length a.values ≡ number))) w
apart-never-comes (and y z) e w name number h p = of_and y z e w name number (first (lone_atoms z y ++ lone_atoms y z)) refl h p
apart-never-comes _ e w name number h p = absurd (cc)
