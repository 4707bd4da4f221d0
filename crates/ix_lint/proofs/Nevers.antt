-- Of a node of which no word is complete by its form, no word is complete.
use Rattle.std.proofs.Common.{◌≡◌, inl, inr, ℕ, zero, suc, ◌<◌, ◌==◌, Bool, true, false, not, cond, ◌&&◌, List, [], ◌∷◌, Some, refl, sym, ◌∙◌, subst, true≢false, arith}
use Rattle.ix_words.specs.Each.{Each, no_item, item, Member, there}
use Rattle.ix_words.specs.Parts.{part, Projection, ended, kept, left_out}
use Rattle.ix_words.specs.Words.{Owned, Projected}
use Rattle.ix_words.proofs.Canon.{Member-same}
use Rattle.ix_words.proofs.Each.{Member-left, Member-right, Each-head}
use Rattle.ix_values.specs.Order.{text_eq}
use Rattle.ix_values.specs.lemmas.Order.{text_eq-decides}
use Rattle.ix_values.specs.PlainAction.{PlainAction, Word, values_of}
use Rattle.ix_expr.specs.Form.{Form, atom, opt, seq, star, par, par_star, or, and, couple, any, every, sync, all, times}
use Rattle.ix_expr.specs.Environment.{Environment, bind}
use Rattle.ix_expr.specs.Meaning.{InAlphabet, IsComplete}
use Rattle.ix_expr.specs.Laws.{EachAtomNames, IsFresh}
use Rattle.ix_expr.proofs.LawsOfMeaning.{complete-partial, owner-value, named-value, bind-own}
use Rattle.ix_expr.specs.Tests.{accepts_empty}
use Rattle.ix_expr.proofs.Testing.{empty_complete}
use Rattle.ix_can.proofs.Nodes.{fresh, fresh-new}
use Rattle.ix_lint.specs.Names.{each_names}
use Rattle.ix_lint.specs.Never.{is_never}
use Rattle.ix_lint.proofs.Lists.{both, either, not_true, each-atom}

-- a value that no action of a word has
value_outside : (w : Word) (v : List ℕ) → ¬ Member v (values_of w) → IsFresh v w
value_outside [] v n = no_item
value_outside (a ∷ w) v n = item (λ m. n (Member-left m (values_of w))) (value_outside w v (λ m. n (Member-right a.values m)))

pub new_value : Word → List ℕ
new_value w = fresh (values_of w)

pub new-fresh : (w : Word) → IsFresh (new_value w) w
unfolding new_value
new-fresh w = value_outside w (fresh (values_of w)) (fresh-new (values_of w))

-- what owns nothing has the empty part
pub unowned : (v : List ℕ) (owners : List (List ℕ)) (w : Word) → ¬ Member v owners → part (text_eq v) owners w ≡ []
unowned v [] w n = refl
unowned v (owner ∷ owners) [] n = refl
unowned v (owner ∷ owners) (a ∷ w) n = chosen (unowned v owners w (λ m. n (there m))) (text_eq v owner) (text_eq-decides v owner).0
  where
    chosen : part (text_eq v) owners w ≡ [] → (b : Bool) → (b ≡ true → v ≡ owner) → cond b (a ∷ part (text_eq v) owners w) (part (text_eq v) owners w) ≡ []
    chosen later true same = absurd (n (Member-same owners (same refl)))
    chosen later false same = later

-- a projection to what no action is in is empty
nothing_in : {In : PlainAction → Type 0} {w u : Word} → Each (λ a. ¬ In a) w → Projection In w u → u ≡ []
nothing_in no_item ended = refl
nothing_in (item n h) (kept i p) = absurd (n i)
nothing_in (item n h) (left_out o p) = nothing_in h p

module _ (p : List ℕ) (y : Form) (e : Environment) (n : EachAtomNames p y) where
  -- of a value that no action of the word has, none is in the alphabet
  outside : (v : List ℕ) (w : Word) → IsFresh v w → Each (λ a. ¬ InAlphabet y (bind p (Some v) e) a) w
  outside v [] h = no_item
  outside v (a ∷ w) (item f h) = item (λ i. f (named-value y (bind p (Some v) e) p v a n (bind-own p (Some v) e) i)) (outside v w h)

  sync_empty : (w : Word) → Projected (InAlphabet y (bind p (Some (new_value w)) e)) (IsComplete y (bind p (Some (new_value w)) e)) w → IsComplete y (bind p (Some (new_value w)) e) []
  sync_empty w h = subst (IsComplete y (bind p (Some (new_value w)) e)) (nothing_in (outside (new_value w) w (new-fresh w)) h.projection) h.rest_has

  every_empty : (w : Word) → IsComplete y (bind p (Some (new_value w)) e) w → IsComplete y (bind p (Some (new_value w)) e) []
  every_empty [] h = h
  every_empty (a ∷ w) h =
      let v : List ℕ = new_value (a ∷ w) in
      absurd (Each-head (new-fresh (a ∷ w)) (Each-head (owner-value p y e (a ∷ w) v n (complete-partial y (bind p (Some v) e) (a ∷ w) h))))

-- the body doesn't accept the empty word
unaccepted : (y : Form) (e : Environment) → not (accepts_empty y) ≡ true → ¬ IsComplete y e []
unaccepted y e h c = true≢false (sym ((empty_complete y e).1 c) ∙ not_true (accepts_empty y) h)

all_empty : (p : List ℕ) (y : Form) (e : Environment) (w : Word) (h : Owned text_eq (λ v. IsComplete y (bind p (Some v) e)) w) → IsComplete y (bind p (Some (fresh h.owners)) e) []
all_empty p y e w h = subst (IsComplete y (bind p (Some (fresh h.owners)) e)) (unowned (fresh h.owners) h.owners w (fresh-new h.owners)) (h.each_has (fresh h.owners))

some_run : (n : ℕ) → not (n == 0) ≡ true → 0 < n
some_run zero h = absurd (true≢false (sym h))
some_run (suc n) h = omega arith

-- no word is complete
pub never-complete : (x : Form) (e : Environment) (w : Word) → is_never x ≡ true → ¬ IsComplete x e w
never-complete (atom x) e w n h = true≢false (sym n)
never-complete (opt y) e w n h = true≢false (sym n)
never-complete (seq y z) e w n h = elim (either (is_never y) (is_never z) n) [
  | inl l ↦ never-complete y e h.front l h.front_has
  | inr r ↦ never-complete z e h.back r h.back_has
]
never-complete (star y) e w n h = true≢false (sym n)
never-complete (par y z) e w n h = elim (either (is_never y) (is_never z) n) [
  | inl l ↦ never-complete y e (part (λ mark. mark) h.marks w) l h.left_has
  | inr r ↦ never-complete z e (part not h.marks w) r h.right_has
]
never-complete (par_star y) e w n h = true≢false (sym n)
never-complete (or y z) e w n h =
    let k = both (is_never y) (is_never z) n in
    elim h [
      | inl c ↦ never-complete y e w k.0 c
      | inr c ↦ never-complete z e w k.1 c
    ]
never-complete (and y z) e w n h = elim (either (is_never y) (is_never z) n) [
  | inl l ↦ never-complete y e w l h.0
  | inr r ↦ never-complete z e w r h.1
]
never-complete (couple y z) e w n h = elim (either (is_never y) (is_never z) n) [
  | inl l ↦ never-complete y e h.1.rest l h.1.rest_has
  | inr r ↦ never-complete z e h.2.rest r h.2.rest_has
]
never-complete (any p y) e w n h = never-complete y (bind p (Some h.0) e) w n h.1
never-complete (every p y) e w n h = elim (either (each_names p y && not (accepts_empty y)) (is_never y) n) [
  | inl l ↦
      let k = both (each_names p y) (not (accepts_empty y)) l in
      unaccepted y (bind p (Some (new_value w)) e) k.1 (every_empty p y e (each-atom p y k.0) w (h (new_value w)))
  | inr r ↦ never-complete y (bind p (Some []) e) w r (h [])
]
never-complete (sync p y) e w n h = elim (either (each_names p y && not (accepts_empty y)) (is_never y) n) [
  | inl l ↦
      let k = both (each_names p y) (not (accepts_empty y)) l in
      unaccepted y (bind p (Some (new_value w)) e) k.1 (sync_empty p y e (each-atom p y k.0) w (h.1 (new_value w)))
  | inr r ↦ never-complete y (bind p (Some []) e) (h.1 []).rest r (h.1 []).rest_has
]
never-complete (all p y) e w n h = unaccepted y (bind p (Some (fresh h.owners)) e) n (all_empty p y e w h)
never-complete (times n y) e w m h =
    let k = both (not (n == 0)) (is_never y) m in
    never-complete y e (part (λ other. 0 == other) h.owners w) k.1 (h.each_has 0 (some_run n k.0))
