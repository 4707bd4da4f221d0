-- Operators over operands that mean the same mean the same.
use Rattle.std.proofs.Common.{inl, inr, ℕ, List, Some}
use Rattle.ix_words.specs.Each.{Each}
use Rattle.ix_words.specs.inside.Leads.{Leads}
use Rattle.ix_words.specs.Words.{Projected}
use Rattle.ix_words.proofs.Each.{Each-weaker, Each-anything}
use Rattle.ix_words.proofs.Words.{Joined-leads, Repeated-leads, Split-leads, Numbered-leads, Shared-leads, Owned-leads, Projected-leads}
use Rattle.ix_values.specs.PlainAction.{PlainAction, Word}
use Rattle.ix_expr.specs.Form.{Form, opt, seq, star, par, par_star, or, and, couple, any, every, sync, all, times}
use Rattle.ix_expr.specs.Environment.{Environment, bind}
use Rattle.ix_expr.specs.Meaning.{InAlphabet, IsComplete, IsPartial}
use Rattle.ix_simplify.specs.Laws.{MeanTheSame}

pub same_itself : (x : Form) → MeanTheSame x x
same_itself x = record {
  complete = λ e w. (λ h. h, λ h. h);
  partial = λ e w. (λ h. h, λ h. h);
  alphabet = λ e a. (λ h. h, λ h. h);
}

pub same_back : {x y : Form} → MeanTheSame x y → MeanTheSame y x
same_back m = record {
  complete = λ e w. ((m.complete e w).1, (m.complete e w).0);
  partial = λ e w. ((m.partial e w).1, (m.partial e w).0);
  alphabet = λ e a. ((m.alphabet e a).1, (m.alphabet e a).0);
}

pub same_through : {x y z : Form} → MeanTheSame x y → MeanTheSame y z → MeanTheSame x z
same_through m n = record {
  complete = λ e w. (λ h. (n.complete e w).0 ((m.complete e w).0 h), λ h. (m.complete e w).1 ((n.complete e w).1 h));
  partial = λ e w. (λ h. (n.partial e w).0 ((m.partial e w).0 h), λ h. (m.partial e w).1 ((n.partial e w).1 h));
  alphabet = λ e a. (λ h. (n.alphabet e a).0 ((m.alphabet e a).0 h), λ h. (m.alphabet e a).1 ((n.alphabet e a).1 h));
}

-- the same operator over operands that mean the same
pub data Alike : Form → Form → Type 0 where
  alike_opt : {y z : Form} → MeanTheSame y z → Alike (opt y) (opt z)
  alike_seq : {y z u v : Form} → MeanTheSame y z → MeanTheSame u v → Alike (seq y u) (seq z v)
  alike_star : {y z : Form} → MeanTheSame y z → Alike (star y) (star z)
  alike_par : {y z u v : Form} → MeanTheSame y z → MeanTheSame u v → Alike (par y u) (par z v)
  alike_par_star : {y z : Form} → MeanTheSame y z → Alike (par_star y) (par_star z)
  alike_or : {y z u v : Form} → MeanTheSame y z → MeanTheSame u v → Alike (or y u) (or z v)
  alike_and : {y z u v : Form} → MeanTheSame y z → MeanTheSame u v → Alike (and y u) (and z v)
  alike_couple : {y z u v : Form} → MeanTheSame y z → MeanTheSame u v → Alike (couple y u) (couple z v)
  alike_any : {y z : Form} (p : List ℕ) → MeanTheSame y z → Alike (any p y) (any p z)
  alike_every : {y z : Form} (p : List ℕ) → MeanTheSame y z → Alike (every p y) (every p z)
  alike_sync : {y z : Form} (p : List ℕ) → MeanTheSame y z → Alike (sync p y) (sync p z)
  alike_all : {y z : Form} (p : List ℕ) → MeanTheSame y z → Alike (all p y) (all p z)
  alike_times : {y z : Form} (n : ℕ) → MeanTheSame y z → Alike (times n y) (times n z)

alike-back : {x z : Form} → Alike x z → Alike z x
alike-back (alike_opt m) = alike_opt (same_back m)
alike-back (alike_seq m n) = alike_seq (same_back m) (same_back n)
alike-back (alike_star m) = alike_star (same_back m)
alike-back (alike_par m n) = alike_par (same_back m) (same_back n)
alike-back (alike_par_star m) = alike_par_star (same_back m)
alike-back (alike_or m n) = alike_or (same_back m) (same_back n)
alike-back (alike_and m n) = alike_and (same_back m) (same_back n)
alike-back (alike_couple m n) = alike_couple (same_back m) (same_back n)
alike-back (alike_any p m) = alike_any p (same_back m)
alike-back (alike_every p m) = alike_every p (same_back m)
alike-back (alike_sync p m) = alike_sync p (same_back m)
alike-back (alike_all p m) = alike_all p (same_back m)
alike-back (alike_times n m) = alike_times n (same_back m)

-- anything
abbrev Whatever : PlainAction → Type 0
Whatever a = Unit {0}

whatever : (w : Word) → Each Whatever w
whatever w = Each-anything (λ a. tt) w

to_complete : {y z : Form} → MeanTheSame y z → (e : Environment) → Leads Whatever (IsComplete y e) (IsComplete z e)
to_complete m e u g h = (m.complete e u).0 h

to_partial : {y z : Form} → MeanTheSame y z → (e : Environment) → Leads Whatever (IsPartial y e) (IsPartial z e)
to_partial m e u g h = (m.partial e u).0 h

projected : {y z : Form} → MeanTheSame y z → (e : Environment) {Q R : Word → Type 0} → Leads Whatever Q R → (w : Word)
    → Projected (InAlphabet y e) Q w → Projected (InAlphabet z e) R w
projected m e l w h = Projected-leads {G = Whatever} (λ a g i. (m.alphabet e a).0 i) (λ a g i. (m.alphabet e a).1 i) l w (whatever w) h

alike-alphabet : {x z : Form} → Alike x z → (e : Environment) (a : PlainAction) → InAlphabet x e a → InAlphabet z e a
alike-alphabet (alike_opt m) e a h = (m.alphabet e a).0 h
alike-alphabet (alike_seq m n) e a h = elim h [ inl i ↦ inl ((m.alphabet e a).0 i) | inr i ↦ inr ((n.alphabet e a).0 i) ]
alike-alphabet (alike_star m) e a h = (m.alphabet e a).0 h
alike-alphabet (alike_par m n) e a h = elim h [ inl i ↦ inl ((m.alphabet e a).0 i) | inr i ↦ inr ((n.alphabet e a).0 i) ]
alike-alphabet (alike_par_star m) e a h = (m.alphabet e a).0 h
alike-alphabet (alike_or m n) e a h = elim h [ inl i ↦ inl ((m.alphabet e a).0 i) | inr i ↦ inr ((n.alphabet e a).0 i) ]
alike-alphabet (alike_and m n) e a h = elim h [ inl i ↦ inl ((m.alphabet e a).0 i) | inr i ↦ inr ((n.alphabet e a).0 i) ]
alike-alphabet (alike_couple m n) e a h = elim h [ inl i ↦ inl ((m.alphabet e a).0 i) | inr i ↦ inr ((n.alphabet e a).0 i) ]
alike-alphabet (alike_any p m) e a h = (h.0, (m.alphabet (bind p (Some h.0) e) a).0 h.1)
alike-alphabet (alike_every p m) e a h = (h.0, (m.alphabet (bind p (Some h.0) e) a).0 h.1)
alike-alphabet (alike_sync p m) e a h = (h.0, (m.alphabet (bind p (Some h.0) e) a).0 h.1)
alike-alphabet (alike_all p m) e a h = (h.0, (m.alphabet (bind p (Some h.0) e) a).0 h.1)
alike-alphabet (alike_times n m) e a h = (m.alphabet e a).0 h

alike-complete : {x z : Form} → Alike x z → (e : Environment) (w : Word) → IsComplete x e w → IsComplete z e w
alike-complete (alike_opt m) e w h = elim h [ inl n ↦ inl n | inr c ↦ inr ((m.complete e w).0 c) ]
alike-complete (alike_seq m n) e w h = Joined-leads (to_complete m e) (to_complete n e) w (whatever w) h
alike-complete (alike_star m) e w h = Repeated-leads (to_complete m e) w (whatever w) h
alike-complete (alike_par m n) e w h = Split-leads (to_complete m e) (to_complete n e) w (whatever w) h
alike-complete (alike_par_star m) e w h = Numbered-leads (to_complete m e) w (whatever w) h
alike-complete (alike_or m n) e w h = elim h [ inl c ↦ inl ((m.complete e w).0 c) | inr c ↦ inr ((n.complete e w).0 c) ]
alike-complete (alike_and m n) e w h = ((m.complete e w).0 h.0, (n.complete e w).0 h.1)
alike-complete (alike_couple m n) e w h =
    (Each-weaker (alike-alphabet (alike_couple m n) e) h.0, projected m e (to_complete m e) w h.1, projected n e (to_complete n e) w h.2)
alike-complete (alike_any p m) e w h = (h.0, (m.complete (bind p (Some h.0) e) w).0 h.1)
alike-complete (alike_every p m) e w h = λ v. (m.complete (bind p (Some v) e) w).0 (h v)
alike-complete (alike_sync p m) e w h =
    (Each-weaker (alike-alphabet (alike_sync p m) e) h.0, λ v. projected m (bind p (Some v) e) (to_complete m (bind p (Some v) e)) w (h.1 v))
alike-complete (alike_all p m) e w h = Owned-leads {G = Whatever} (λ v. to_complete m (bind p (Some v) e)) w (whatever w) h
alike-complete (alike_times n m) e w h = Shared-leads (to_complete m e) w (whatever w) h

alike-partial : {x z : Form} → Alike x z → (e : Environment) (w : Word) → IsPartial x e w → IsPartial z e w
alike-partial (alike_opt m) e w h = (m.partial e w).0 h
alike-partial (alike_seq m n) e w h =
    elim h [ inl q ↦ inl ((m.partial e w).0 q) | inr j ↦ inr (Joined-leads (to_complete m e) (to_partial n e) w (whatever w) j) ]
alike-partial (alike_star m) e w h = Joined-leads (Repeated-leads (to_complete m e)) (to_partial m e) w (whatever w) h
alike-partial (alike_par m n) e w h = Split-leads (to_partial m e) (to_partial n e) w (whatever w) h
alike-partial (alike_par_star m) e w h = Numbered-leads (to_partial m e) w (whatever w) h
alike-partial (alike_or m n) e w h = elim h [ inl q ↦ inl ((m.partial e w).0 q) | inr q ↦ inr ((n.partial e w).0 q) ]
alike-partial (alike_and m n) e w h = ((m.partial e w).0 h.0, (n.partial e w).0 h.1)
alike-partial (alike_couple m n) e w h =
    (Each-weaker (alike-alphabet (alike_couple m n) e) h.0, projected m e (to_partial m e) w h.1, projected n e (to_partial n e) w h.2)
alike-partial (alike_any p m) e w h = (h.0, (m.partial (bind p (Some h.0) e) w).0 h.1)
alike-partial (alike_every p m) e w h = λ v. (m.partial (bind p (Some v) e) w).0 (h v)
alike-partial (alike_sync p m) e w h =
    (Each-weaker (alike-alphabet (alike_sync p m) e) h.0, λ v. projected m (bind p (Some v) e) (to_partial m (bind p (Some v) e)) w (h.1 v))
alike-partial (alike_all p m) e w h = Owned-leads {G = Whatever} (λ v. to_partial m (bind p (Some v) e)) w (whatever w) h
alike-partial (alike_times n m) e w h = Shared-leads (to_partial m e) w (whatever w) h

-- the same operator over operands that mean the same means the same
pub alike-same : {x z : Form} → Alike x z → MeanTheSame x z
alike-same k = record {
  complete = λ e w. (alike-complete k e w, alike-complete (alike-back k) e w);
  partial = λ e w. (alike-partial k e w, alike-partial (alike-back k) e w);
  alphabet = λ e a. (alike-alphabet k e a, alike-alphabet (alike-back k) e a);
}
