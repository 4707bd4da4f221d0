-- Environments that give a parameter a value of the action alike have the same alphabets at that action.
use Rattle.std.proofs.Common.{◌≡◌, ℕ, suc, ◌<◌, length, get_or, arith, Bool, true, false, cond, Option, Some, None, List, [], ◌∷◌, ◌⊎◌, ◌≢◌, inl, inr, refl, sym, subst}
use Rattle.ix_words.specs.Each.{Member, here, there}
use Rattle.ix_values.specs.Order.{text_eq}
use Rattle.ix_values.specs.lemmas.Order.{text_eq-decides}
use Rattle.ix_values.specs.PlainAction.{PlainAction}
use Rattle.ix_expr.specs.declared.arg.Arg.{Arg}
use Rattle.ix_expr.specs.declared.arg.Arg.TheVariants.{Fixed, Param}
use Rattle.ix_expr.specs.Form.{Form, atom, opt, seq, star, par, par_star, or, and, couple, any, every, sync, all, times}
use Rattle.ix_expr.specs.Environment.{Environment, value_in, bind, HaveValues}
use Rattle.ix_expr.specs.Meaning.{InAlphabet}

-- a parameter that has one of the values in e has it in f
pub record Leads (e f : Environment) (values : List (List ℕ)) : Type 0 where
  pub at : (p v : List ℕ) → Member v values → value_in e p ≡ Some v → value_in f p ≡ Some v

leads-rest : {e f : Environment} {v : List ℕ} {values : List (List ℕ)} → Leads e f (v ∷ values) → Leads e f values
leads-rest leads = record { at = λ p w m. leads.at p w (there m) }

have-values : {e f : Environment} (arguments : List Arg) (values : List (List ℕ)) → Leads e f values → HaveValues e arguments values → HaveValues f arguments values
have-values [] [] leads h = h
have-values [] (v ∷ values) leads h = h
have-values (argument ∷ arguments) [] leads h = h
have-values (Fixed u ∷ arguments) (v ∷ values) leads h = (h.0, have-values arguments values (leads-rest leads) h.1)
have-values (Param q ∷ arguments) (v ∷ values) leads h = (leads.at q v here h.0, have-values arguments values (leads-rest leads) h.1)

bind-leads : {e f : Environment} {values : List (List ℕ)} (q : List ℕ) (u : Option (List ℕ)) → Leads e f values → Leads (bind q u e) (bind q u f) values
bind-leads {e} {f} q u leads = record { at = λ p v m. chosen v (text_eq q p) (value_in e p) (value_in f p) (leads.at p v m) }
  where
    chosen : (v : List ℕ) (b : Bool) (x y : Option (List ℕ)) → (x ≡ Some v → y ≡ Some v) → cond b u x ≡ Some v → cond b u y ≡ Some v
    chosen v true x y lead h = h
    chosen v false x y lead h = lead h

-- what is in the alphabet under e is in it under f
pub alphabet-leads : (x : Form) {e f : Environment} (a : PlainAction) → Leads e f a.values → InAlphabet x e a → InAlphabet x f a
alphabet-leads (atom x) a leads h = (h.0, have-values x.arguments a.values leads h.1)
alphabet-leads (opt y) a leads h = alphabet-leads y a leads h
alphabet-leads (seq y z) a leads h = elim h [ inl g ↦ inl (alphabet-leads y a leads g) | inr g ↦ inr (alphabet-leads z a leads g) ]
alphabet-leads (star y) a leads h = alphabet-leads y a leads h
alphabet-leads (par y z) a leads h = elim h [ inl g ↦ inl (alphabet-leads y a leads g) | inr g ↦ inr (alphabet-leads z a leads g) ]
alphabet-leads (par_star y) a leads h = alphabet-leads y a leads h
alphabet-leads (or y z) a leads h = elim h [ inl g ↦ inl (alphabet-leads y a leads g) | inr g ↦ inr (alphabet-leads z a leads g) ]
alphabet-leads (and y z) a leads h = elim h [ inl g ↦ inl (alphabet-leads y a leads g) | inr g ↦ inr (alphabet-leads z a leads g) ]
alphabet-leads (couple y z) a leads h = elim h [ inl g ↦ inl (alphabet-leads y a leads g) | inr g ↦ inr (alphabet-leads z a leads g) ]
alphabet-leads (any p y) a leads h = (h.0, alphabet-leads y a (bind-leads p (Some h.0) leads) h.1)
alphabet-leads (every p y) a leads h = (h.0, alphabet-leads y a (bind-leads p (Some h.0) leads) h.1)
alphabet-leads (sync p y) a leads h = (h.0, alphabet-leads y a (bind-leads p (Some h.0) leads) h.1)
alphabet-leads (all p y) a leads h = (h.0, alphabet-leads y a (bind-leads p (Some h.0) leads) h.1)
alphabet-leads (times n y) a leads h = alphabet-leads y a leads h

-- what is in the alphabet with p outside is in it with any value of p
pub outside-leads : (p v : List ℕ) (e : Environment) (values : List (List ℕ)) → Leads (bind p None e) (bind p (Some v) e) values
outside-leads p v e values = record { at = λ q w m. chosen w (text_eq p q) (value_in e q) }
  where
    chosen : (w : List ℕ) (b : Bool) (x : Option (List ℕ)) → cond b None x ≡ Some w → cond b (Some v) x ≡ Some w
    chosen w true x h = cc
    chosen w false x h = h

-- with a value of p that the action doesn't have it is as with p outside
pub unused-leads : (p v : List ℕ) (e : Environment) (values : List (List ℕ)) → ¬ Member v values → Leads (bind p (Some v) e) (bind p None e) values
unused-leads p v e values unused = record { at = λ q w m. chosen w m (text_eq p q) (value_in e q) }
  where
    chosen : (w : List ℕ) → Member w values → (b : Bool) (x : Option (List ℕ)) → cond b (Some v) x ≡ Some w → cond b None x ≡ Some w
    chosen w m true x h = let same : w ≡ v = cc in absurd (unused (subst (λ u. Member u values) same m))
    chosen w m false x h = h

-- a value is one of the values or not
pub member-or-not : (v : List ℕ) (values : List (List ℕ)) → Member v values ⊎ (¬ Member v values)
member-or-not v [] = inr (λ m. elim m [ ])
member-or-not v (u ∷ values) = chosen (text_eq v u) refl (member-or-not v values)
  where
    either : (Member v values) ⊎ (v ≡ u) → Member v (u ∷ values)
    either (inl m) = there m
    either (inr e) = subst (λ w. Member v (w ∷ values)) e here

    neither : {w : List ℕ} {ws : List (List ℕ)} → w ≢ u → ¬ Member w ws → ¬ Member w (u ∷ ws)
    neither differs absent here = differs refl
    neither differs absent (there m) = absent m

    chosen : (b : Bool) → text_eq v u ≡ b → Member v values ⊎ (¬ Member v values) → Member v (u ∷ values) ⊎ (¬ Member v (u ∷ values))
    chosen b same (inl m) = inl (there m)
    chosen true same (inr absent) = inl (either (inr ((text_eq-decides v u).0 same)))
    chosen false same (inr absent) = inr (neither (λ e. let h : text_eq v u ≡ true = (text_eq-decides v u).1 e in cc) absent)

-- a member stands at some place
pub record StandsAt (v : List ℕ) (values : List (List ℕ)) : Type 0 where
  pub place : ℕ
  pub within : place < length values
  pub is : (d : List ℕ) → get_or values place d ≡ v

pub member-stands : {v : List ℕ} {values : List (List ℕ)} → Member v values → StandsAt v values
member-stands here = record { place = 0; within = omega arith; is = λ d. refl }
member-stands (there m) = let rest = member-stands m in record { place = suc rest.place; within = omega (arith, rest.within); is = rest.is }

-- what is in the alphabet with some value of p is in it with p outside, if that holds of the action's own values
pub outside-in-alphabet : (y : Form) (p : List ℕ) (e : Environment) (a : PlainAction)
    → ((k : ℕ) → k < length a.values → (d : List ℕ) → InAlphabet y (bind p (Some (get_or a.values k d)) e) a → InAlphabet y (bind p None e) a)
    → ((v : List ℕ) × InAlphabet y (bind p (Some v) e) a) → InAlphabet y (bind p None e) a
outside-in-alphabet y p e a own w = elim (member-or-not w.0 a.values) [
  | inl m ↦ let at = member-stands m in own at.place at.within [] (subst (λ v. InAlphabet y (bind p (Some v) e) a) (sym (at.is [])) w.1)
  | inr absent ↦ alphabet-leads y a (unused-leads p w.0 e a.values absent) w.1
]

-- what is in the alphabet with p outside is in it with some value of p
pub some-in-alphabet : (y : Form) (p : List ℕ) (e : Environment) (a : PlainAction) → InAlphabet y (bind p None e) a → (v : List ℕ) × InAlphabet y (bind p (Some v) e) a
some-in-alphabet y p e a h = ([], alphabet-leads y a (outside-leads p [] e a.values) h)
