-- What expressions mean doesn't hang on which values stand for what: exchanged by a renaming that
-- keeps what is fixed in the expression, complete words stay complete, and partial ones partial.
use Rattle.std.proofs.Common.{◌≡◌, ℕ, Bool, true, false, cond, List, [], ◌∷◌, ◌++◌, map, Option, Some, None, ◌⊎◌, inl, inr, refl, sym, ap, ◌∙◌, subst}
use Rattle.std.specs.Option.{option_map}
use Rattle.ix_words.specs.Each.{Each, Member, here, there}
use Rattle.ix_words.specs.Words.{Projected}
use Rattle.ix_words.proofs.Each.{Each-weaker, Each-left, Each-right, Each-head}
use Rattle.ix_values.specs.Order.{text_eq}
use Rattle.ix_values.specs.lemmas.Order.{text_eq-decides}
use Rattle.ix_values.specs.PlainAction.{PlainAction, Word}
use Rattle.ix_expr.specs.declared.arg.Arg.{Arg}
use Rattle.ix_expr.specs.declared.arg.Arg.TheVariants.{Fixed, Param}
use Rattle.ix_expr.specs.Form.{PlainAtom, Form, atom, opt, seq, star, par, par_star, or, and, couple, any, every, sync, all, times}
use Rattle.ix_expr.specs.Environment.{Environment, bind, value_in, HaveValues, Matches}
use Rattle.ix_expr.specs.Meaning.{InAlphabet, IsOneMatch, IsComplete, IsPartial}
use Rattle.ix_expr.specs.Atoms.{atoms_of}
use Rattle.ix_next.proofs.Mapped.{Exchanges, Each_map, Joined_map, Repeated_map, Split_map, Numbered_map, Shared_map, Projected_map, Owned_map}

-- an exchange of values that can be undone
pub record Renaming : Type 0 where
  pub to : List ℕ → List ℕ
  pub back : List ℕ → List ℕ
  pub forth_again : (v : List ℕ) → to (back v) ≡ v
  pub back_again : (v : List ℕ) → back (to v) ≡ v

-- the way back
abbrev pub undone : Renaming → Renaming
undone r = record { to = r.back; back = r.to; forth_again = r.back_again; back_again = r.forth_again }

abbrev pub renamed_action : Renaming → PlainAction → PlainAction
renamed_action r a = record { name = a.name; values = map r.to a.values }

abbrev pub renamed : Renaming → Word → Word
renamed r w = map (renamed_action r) w

abbrev pub renamed_in : Renaming → Environment → Environment
renamed_in r e = map (λ entry. (entry.0, option_map r.to entry.1)) e

-- the renaming keeps the values that are fixed in the expression
abbrev pub KeepsAt : Renaming → PlainAtom → Type 0
KeepsAt r s = (v : List ℕ) → Member (Fixed v) s.arguments → r.to v ≡ v

abbrev pub Keeps : Renaming → Form → Type 0
Keeps r x = Each (KeepsAt r) (atoms_of x)

pub undone_keeps : (r : Renaming) {atoms : List PlainAtom} → Each (KeepsAt r) atoms → Each (KeepsAt (undone r)) atoms
undone_keeps r keeps = Each-weaker (λ s k v m. ap r.back (sym (k v m)) ∙ r.back_again v) keeps

values_back : (r : Renaming) (values : List (List ℕ)) → map r.back (map r.to values) ≡ values
values_back r [] = refl
values_back r (v ∷ values) = λ i. r.back_again v i ∷ values_back r values i

pub action_back : (r : Renaming) (a : PlainAction) → renamed_action (undone r) (renamed_action r a) ≡ a
action_back r a = λ i. record { name = a.name; values = values_back r a.values i }

value_back : (r : Renaming) (v : Option (List ℕ)) → option_map r.back (option_map r.to v) ≡ v
value_back r None = refl
value_back r (Some v) = ap Some (r.back_again v)

environment_back : (r : Renaming) (e : Environment) → renamed_in (undone r) (renamed_in r e) ≡ e
environment_back r [] = refl
environment_back r (entry ∷ e) = λ i. (entry.0, value_back r entry.1 i) ∷ environment_back r e i

-- values

value_renamed : (r : Renaming) (e : Environment) (p v : List ℕ) → value_in e p ≡ Some v → value_in (renamed_in r e) p ≡ Some (r.to v)
value_renamed r [] p v h = cc
value_renamed r (entry ∷ e) p v h = chosen (text_eq entry.0 p) (value_renamed r e p v) h
  where
    chosen : (b : Bool) → (value_in e p ≡ Some v → value_in (renamed_in r e) p ≡ Some (r.to v))
        → cond b entry.1 (value_in e p) ≡ Some v → cond b (option_map r.to entry.1) (value_in (renamed_in r e) p) ≡ Some (r.to v)
    chosen true rest h = ap (option_map r.to) h
    chosen false rest h = rest h

have_renamed : (r : Renaming) (e : Environment) (arguments : List Arg) (values : List (List ℕ)) → ((v : List ℕ) → Member (Fixed v) arguments → r.to v ≡ v)
    → HaveValues e arguments values → HaveValues (renamed_in r e) arguments (map r.to values)
have_renamed r e [] [] keeps h = h
have_renamed r e [] (v ∷ values) keeps h = h
have_renamed r e (argument ∷ arguments) [] keeps h = h
have_renamed r e (Fixed u ∷ arguments) (v ∷ values) keeps h = (sym (keeps u here) ∙ ap r.to h.0, have_renamed r e arguments values (λ v m. keeps v (there m)) h.1)
have_renamed r e (Param q ∷ arguments) (v ∷ values) keeps h = (value_renamed r e q v h.0, have_renamed r e arguments values (λ v m. keeps v (there m)) h.1)

matches_renamed : (r : Renaming) (e : Environment) (s : PlainAtom) (a : PlainAction) → KeepsAt r s → Matches s e a → Matches s (renamed_in r e) (renamed_action r a)
matches_renamed r e s a keeps h = (h.0, have_renamed r e s.arguments a.values keeps h.1)

-- both sides keep what the whole keeps
left_keeps : (r : Renaming) (y z : Form) → Each (KeepsAt r) (atoms_of y ++ atoms_of z) → Keeps r y
left_keeps r y z k = Each-left (atoms_of y) (atoms_of z) k

right_keeps : (r : Renaming) (y z : Form) → Each (KeepsAt r) (atoms_of y ++ atoms_of z) → Keeps r z
right_keeps r y z k = Each-right (atoms_of y) (atoms_of z) k

-- the alphabet

pub alphabet_renamed : (r : Renaming) (x : Form) → Keeps r x → (e : Environment) (a : PlainAction) → InAlphabet x e a → InAlphabet x (renamed_in r e) (renamed_action r a)
alphabet_renamed r (atom s) k e a h = matches_renamed r e s a (Each-head k) h
alphabet_renamed r (opt y) k e a h = alphabet_renamed r y k e a h
alphabet_renamed r (seq y z) k e a h = elim h [ inl g ↦ inl (alphabet_renamed r y (left_keeps r y z k) e a g) | inr g ↦ inr (alphabet_renamed r z (right_keeps r y z k) e a g) ]
alphabet_renamed r (star y) k e a h = alphabet_renamed r y k e a h
alphabet_renamed r (par y z) k e a h = elim h [ inl g ↦ inl (alphabet_renamed r y (left_keeps r y z k) e a g) | inr g ↦ inr (alphabet_renamed r z (right_keeps r y z k) e a g) ]
alphabet_renamed r (par_star y) k e a h = alphabet_renamed r y k e a h
alphabet_renamed r (or y z) k e a h = elim h [ inl g ↦ inl (alphabet_renamed r y (left_keeps r y z k) e a g) | inr g ↦ inr (alphabet_renamed r z (right_keeps r y z k) e a g) ]
alphabet_renamed r (and y z) k e a h = elim h [ inl g ↦ inl (alphabet_renamed r y (left_keeps r y z k) e a g) | inr g ↦ inr (alphabet_renamed r z (right_keeps r y z k) e a g) ]
alphabet_renamed r (couple y z) k e a h = elim h [ inl g ↦ inl (alphabet_renamed r y (left_keeps r y z k) e a g) | inr g ↦ inr (alphabet_renamed r z (right_keeps r y z k) e a g) ]
alphabet_renamed r (any p y) k e a h = (r.to h.0, alphabet_renamed r y k (bind p (Some h.0) e) a h.1)
alphabet_renamed r (every p y) k e a h = (r.to h.0, alphabet_renamed r y k (bind p (Some h.0) e) a h.1)
alphabet_renamed r (sync p y) k e a h = (r.to h.0, alphabet_renamed r y k (bind p (Some h.0) e) a h.1)
alphabet_renamed r (all p y) k e a h = (r.to h.0, alphabet_renamed r y k (bind p (Some h.0) e) a h.1)
alphabet_renamed r (times n y) k e a h = alphabet_renamed r y k e a h

alphabet_back : (r : Renaming) (x : Form) → Keeps r x → (e : Environment) (a : PlainAction) → InAlphabet x (renamed_in r e) (renamed_action r a) → InAlphabet x e a
alphabet_back r x k e a h =
    subst (λ f. InAlphabet x f a) (environment_back r e)
    (subst (λ b. InAlphabet x (renamed_in (undone r) (renamed_in r e)) b) (action_back r a)
    (alphabet_renamed (undone r) x (undone_keeps r k) (renamed_in r e) (renamed_action r a) h))

-- the projection to the alphabet
projected_renamed : (r : Renaming) (y : Form) → Keeps r y → (e : Environment) {Q Q' : Word → Type 0} → Exchanges (renamed_action r) Q Q'
    → Exchanges (renamed_action r) (Projected (InAlphabet y e) Q) (Projected (InAlphabet y (renamed_in r e)) Q')
projected_renamed r y k e l = Projected_map (renamed_action r) (λ a. alphabet_renamed r y k e a) (λ a. alphabet_back r y k e a) l

-- for each value of a parameter
each_renamed : (r : Renaming) (P : List ℕ → Type 0) → ((u : List ℕ) → P (r.to u)) → (v : List ℕ) → P v
each_renamed r P f v = subst P (r.forth_again v) (f (r.back v))

-- owners are the same where their names are
alike : (r : Renaming) (v owner : List ℕ) → text_eq v (r.to owner) ≡ text_eq (r.back v) owner
alike r v owner = both (text_eq v (r.to owner)) (text_eq (r.back v) owner)
    (λ h. (text_eq-decides (r.back v) owner).1 (ap r.back ((text_eq-decides v (r.to owner)).0 h) ∙ r.back_again owner))
    (λ h. (text_eq-decides v (r.to owner)).1 (sym (r.forth_again v) ∙ ap r.to ((text_eq-decides (r.back v) owner).0 h)))
  where
    both : (b c : Bool) → (b ≡ true → c ≡ true) → (c ≡ true → b ≡ true) → b ≡ c
    both true c f g = sym (f refl)
    both false true f g = g refl
    both false false f g = refl

-- what is in one alphabet or the other, and what is in it for some value
either_renamed : (r : Renaming) (y z : Form) → Each (KeepsAt r) (atoms_of y ++ atoms_of z) → (e : Environment) {w : Word} → Each (λ a. InAlphabet y e a ⊎ InAlphabet z e a) w
    → Each (λ a. InAlphabet y (renamed_in r e) a ⊎ InAlphabet z (renamed_in r e) a) (renamed r w)
either_renamed r y z k e h = Each_map (renamed_action r) (λ a g. alphabet_renamed r (or y z) k e a g) h

some_renamed : (r : Renaming) (p : List ℕ) (y : Form) → Keeps r y → (e : Environment) {w : Word} → Each (λ a. (v : List ℕ) × InAlphabet y (bind p (Some v) e) a) w
    → Each (λ a. (v : List ℕ) × InAlphabet y (bind p (Some v) (renamed_in r e)) a) (renamed r w)
some_renamed r p y k e h = Each_map (renamed_action r) (λ a g. alphabet_renamed r (any p y) k e a g) h

one_renamed : (r : Renaming) (s : PlainAtom) → KeepsAt r s → (e : Environment) → Exchanges (renamed_action r) (IsOneMatch s e) (IsOneMatch s (renamed_in r e))
one_renamed r s k e w h = (renamed_action r h.0, ap (renamed r) h.1, matches_renamed r e s h.0 k h.2)

pub complete_renamed : (r : Renaming) (x : Form) → Keeps r x → (e : Environment) → Exchanges (renamed_action r) (IsComplete x e) (IsComplete x (renamed_in r e))
complete_renamed r (atom s) k e w h = one_renamed r s (Each-head k) e w h
complete_renamed r (opt y) k e w h = elim h [ inl g ↦ inl (ap (renamed r) g) | inr g ↦ inr (complete_renamed r y k e w g) ]
complete_renamed r (seq y z) k e w h = Joined_map (renamed_action r) (complete_renamed r y (left_keeps r y z k) e) (complete_renamed r z (right_keeps r y z k) e) w h
complete_renamed r (star y) k e w h = Repeated_map (renamed_action r) (complete_renamed r y k e) w h
complete_renamed r (par y z) k e w h = Split_map (renamed_action r) (complete_renamed r y (left_keeps r y z k) e) (complete_renamed r z (right_keeps r y z k) e) w h
complete_renamed r (par_star y) k e w h = Numbered_map (renamed_action r) (complete_renamed r y k e) w h
complete_renamed r (or y z) k e w h = elim h [ inl g ↦ inl (complete_renamed r y (left_keeps r y z k) e w g) | inr g ↦ inr (complete_renamed r z (right_keeps r y z k) e w g) ]
complete_renamed r (and y z) k e w h = (complete_renamed r y (left_keeps r y z k) e w h.0, complete_renamed r z (right_keeps r y z k) e w h.1)
complete_renamed r (couple y z) k e w h = (
  either_renamed r y z k e h.0,
  projected_renamed r y (left_keeps r y z k) e (complete_renamed r y (left_keeps r y z k) e) w h.1,
  projected_renamed r z (right_keeps r y z k) e (complete_renamed r z (right_keeps r y z k) e) w h.2,
)
complete_renamed r (any p y) k e w h = (r.to h.0, complete_renamed r y k (bind p (Some h.0) e) w h.1)
complete_renamed r (every p y) k e w h = each_renamed r (λ v. IsComplete y (bind p (Some v) (renamed_in r e)) (renamed r w)) (λ u. complete_renamed r y k (bind p (Some u) e) w (h u))
complete_renamed r (sync p y) k e w h = (
  some_renamed r p y k e h.0,
  each_renamed r (λ v. Projected (InAlphabet y (bind p (Some v) (renamed_in r e))) (IsComplete y (bind p (Some v) (renamed_in r e))) (renamed r w))
      (λ u. projected_renamed r y k (bind p (Some u) e) (complete_renamed r y k (bind p (Some u) e)) w (h.1 u)),
)
complete_renamed r (all p y) k e w h =
    Owned_map (renamed_action r) r.to r.back (alike r)
    (λ v u q. subst (λ o. IsComplete y (bind p (Some o) (renamed_in r e)) (renamed r u)) (r.forth_again v) (complete_renamed r y k (bind p (Some (r.back v)) e) u q)) w h
complete_renamed r (times n y) k e w h = Shared_map (renamed_action r) (complete_renamed r y k e) w h

pub partial_renamed : (r : Renaming) (x : Form) → Keeps r x → (e : Environment) → Exchanges (renamed_action r) (IsPartial x e) (IsPartial x (renamed_in r e))
partial_renamed r (atom s) k e w h = elim h [ inl g ↦ inl (ap (renamed r) g) | inr g ↦ inr (one_renamed r s (Each-head k) e w g) ]
partial_renamed r (opt y) k e w h = partial_renamed r y k e w h
partial_renamed r (seq y z) k e w h = elim h [
  | inl g ↦ inl (partial_renamed r y (left_keeps r y z k) e w g)
  | inr g ↦ inr (Joined_map (renamed_action r) (complete_renamed r y (left_keeps r y z k) e) (partial_renamed r z (right_keeps r y z k) e) w g)
]
partial_renamed r (star y) k e w h = Joined_map (renamed_action r) (Repeated_map (renamed_action r) (complete_renamed r y k e)) (partial_renamed r y k e) w h
partial_renamed r (par y z) k e w h = Split_map (renamed_action r) (partial_renamed r y (left_keeps r y z k) e) (partial_renamed r z (right_keeps r y z k) e) w h
partial_renamed r (par_star y) k e w h = Numbered_map (renamed_action r) (partial_renamed r y k e) w h
partial_renamed r (or y z) k e w h = elim h [ inl g ↦ inl (partial_renamed r y (left_keeps r y z k) e w g) | inr g ↦ inr (partial_renamed r z (right_keeps r y z k) e w g) ]
partial_renamed r (and y z) k e w h = (partial_renamed r y (left_keeps r y z k) e w h.0, partial_renamed r z (right_keeps r y z k) e w h.1)
partial_renamed r (couple y z) k e w h = (
  either_renamed r y z k e h.0,
  projected_renamed r y (left_keeps r y z k) e (partial_renamed r y (left_keeps r y z k) e) w h.1,
  projected_renamed r z (right_keeps r y z k) e (partial_renamed r z (right_keeps r y z k) e) w h.2,
)
partial_renamed r (any p y) k e w h = (r.to h.0, partial_renamed r y k (bind p (Some h.0) e) w h.1)
partial_renamed r (every p y) k e w h = each_renamed r (λ v. IsPartial y (bind p (Some v) (renamed_in r e)) (renamed r w)) (λ u. partial_renamed r y k (bind p (Some u) e) w (h u))
partial_renamed r (sync p y) k e w h = (
  some_renamed r p y k e h.0,
  each_renamed r (λ v. Projected (InAlphabet y (bind p (Some v) (renamed_in r e))) (IsPartial y (bind p (Some v) (renamed_in r e))) (renamed r w))
      (λ u. projected_renamed r y k (bind p (Some u) e) (partial_renamed r y k (bind p (Some u) e)) w (h.1 u)),
)
partial_renamed r (all p y) k e w h =
    Owned_map (renamed_action r) r.to r.back (alike r)
    (λ v u q. subst (λ o. IsPartial y (bind p (Some o) (renamed_in r e)) (renamed r u)) (r.forth_again v) (partial_renamed r y k (bind p (Some (r.back v)) e) u q)) w h
partial_renamed r (times n y) k e w h = Shared_map (renamed_action r) (partial_renamed r y k e) w h
