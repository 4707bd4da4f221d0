-- A parameter that no atom of an expression names may have any value.
use Rattle.std.proofs.Common.{◌≡◌, ◌≢◌, ◌↔◌, ◌||◌, ℕ, Bool, true, false, cond, List, [], ◌∷◌, Option, Some, refl, sym, ap, ◌∙◌, true≢false}
use Rattle.std.specs.List.{list_any}
use Rattle.ix_words.proofs.Each.{Each-anything}
use Rattle.ix_values.specs.Order.{text_eq}
use Rattle.ix_values.specs.lemmas.Order.{text_eq-decides}
use Rattle.ix_values.specs.PlainAction.{PlainAction, Word}
use Rattle.ix_expr.specs.declared.arg.Arg.{Arg}
use Rattle.ix_expr.specs.declared.arg.Arg.TheVariants.{Fixed, Param}
use Rattle.ix_expr.specs.Form.{Form, atom, opt, seq, star, par, par_star, or, and, couple, any, every, sync, all, times}
use Rattle.ix_expr.specs.Environment.{Environment, value_in, bind, HaveValues}
use Rattle.ix_expr.specs.FormFaults.{is_parameter}
use Rattle.ix_expr.specs.Meaning.{InAlphabet, IsComplete, IsPartial}
use Rattle.ix_expr.specs.Laws.{AtomsAgreeAt, MeansTheSame}
use Rattle.ix_expr.proofs.AgreeingAtoms.{alphabet-same, atoms-back, atoms-same}
use Rattle.ix_expr.proofs.LawsOfMeaning.{bind-other}
use Rattle.ix_expr.specs.Mentions.{some_names}

-- the environments give each parameter but p the same
record AgreeBeside (p : List ℕ) (e f : Environment) : Type 0 where
  agree : (q : List ℕ) → q ≢ p → value_in e q ≡ value_in f q

back : {p : List ℕ} {e f : Environment} → AgreeBeside p e f → AgreeBeside p f e
back g = record { agree = λ q n. sym (g.agree q n) }

bound : {p : List ℕ} {e f : Environment} (q : List ℕ) (v : Option (List ℕ)) → AgreeBeside p e f → AgreeBeside p (bind q v e) (bind q v f)
bound q v g = record { agree = λ r n. ap (cond (text_eq q r) v) (g.agree r n) }

given : (p : List ℕ) (v : Option (List ℕ)) (e : Environment) → AgreeBeside p (bind p v e) e
given p v e = record { agree = λ q n. bind-other q p v (value_in e q) e (λ s. n (sym s)) refl }

pub first_false : (a b : Bool) → a || b ≡ false → a ≡ false
first_false true b e = absurd (true≢false e)
first_false false b e = refl

pub second_false : (a b : Bool) → a || b ≡ false → b ≡ false
second_false true b e = absurd (true≢false e)
second_false false b e = e

other : (p q : List ℕ) → text_eq p q ≡ false → q ≢ p
other p q e s = true≢false (sym ((text_eq-decides p q).1 (sym s)) ∙ e)

values-same : {e f : Environment} (p : List ℕ) (arguments : List Arg) (values : List (List ℕ)) → AgreeBeside p e f
    → list_any (is_parameter p) arguments ≡ false
    → HaveValues e arguments values → HaveValues f arguments values
values-same p [] [] g n h = h
values-same p [] (v ∷ values) g n h = h
values-same p (argument ∷ arguments) [] g n h = h
values-same p (Fixed u ∷ arguments) (v ∷ values) g n h = (h.0, values-same p arguments values g n h.1)
values-same p (Param q ∷ arguments) (v ∷ values) g n h = (
  sym (g.agree q (other p q (first_false (text_eq p q) (list_any (is_parameter p) arguments) n))) ∙ h.0,
  values-same p arguments values g (second_false (text_eq p q) (list_any (is_parameter p) arguments) n) h.1,
)

-- where no atom names p, the atoms match alike under environments that agree beside p
unnamed-atoms : (x : Form) {e f : Environment} (p : List ℕ) (a : PlainAction) → AgreeBeside p e f → some_names p x ≡ false → AtomsAgreeAt x e f a
unnamed-atoms (atom x) p a g n =
    (λ h. (h.0, values-same p x.arguments a.values g n h.1), λ h. (h.0, values-same p x.arguments a.values (back g) n h.1))
unnamed-atoms (opt y) p a g n = unnamed-atoms y p a g n
unnamed-atoms (seq y z) p a g n =
    (unnamed-atoms y p a g (first_false (some_names p y) (some_names p z) n), unnamed-atoms z p a g (second_false (some_names p y) (some_names p z) n))
unnamed-atoms (star y) p a g n = unnamed-atoms y p a g n
unnamed-atoms (par y z) p a g n =
    (unnamed-atoms y p a g (first_false (some_names p y) (some_names p z) n), unnamed-atoms z p a g (second_false (some_names p y) (some_names p z) n))
unnamed-atoms (par_star y) p a g n = unnamed-atoms y p a g n
unnamed-atoms (or y z) p a g n =
    (unnamed-atoms y p a g (first_false (some_names p y) (some_names p z) n), unnamed-atoms z p a g (second_false (some_names p y) (some_names p z) n))
unnamed-atoms (and y z) p a g n =
    (unnamed-atoms y p a g (first_false (some_names p y) (some_names p z) n), unnamed-atoms z p a g (second_false (some_names p y) (some_names p z) n))
unnamed-atoms (couple y z) p a g n =
    (unnamed-atoms y p a g (first_false (some_names p y) (some_names p z) n), unnamed-atoms z p a g (second_false (some_names p y) (some_names p z) n))
unnamed-atoms (any q y) p a g n = λ v. unnamed-atoms y p a (bound q v g) n
unnamed-atoms (every q y) p a g n = λ v. unnamed-atoms y p a (bound q v g) n
unnamed-atoms (sync q y) p a g n = λ v. unnamed-atoms y p a (bound q v g) n
unnamed-atoms (all q y) p a g n = λ v. unnamed-atoms y p a (bound q v g) n
unnamed-atoms (times m y) p a g n = unnamed-atoms y p a g n

agree : (p v : List ℕ) (y : Form) → some_names p y ≡ false → (e : Environment) (a : PlainAction) → AtomsAgreeAt y (bind p (Some v) e) e a
agree p v y n e a = unnamed-atoms y p a (given p (Some v) e) n

means : (p v : List ℕ) (y : Form) → some_names p y ≡ false → (e : Environment) (w : Word) → MeansTheSame y (bind p (Some v) e) e w
means p v y n e w = atoms-same y (bind p (Some v) e) e w (Each-anything (agree p v y n e) w)

-- with p given a value the words and the alphabet are the same
pub given-complete : (p v : List ℕ) (y : Form) → some_names p y ≡ false → (e : Environment) (w : Word)
    → IsComplete y (bind p (Some v) e) w ↔ IsComplete y e w
given-complete p v y n e w = (means p v y n e w).complete

pub given-partial : (p v : List ℕ) (y : Form) → some_names p y ≡ false → (e : Environment) (w : Word) → IsPartial y (bind p (Some v) e) w ↔ IsPartial y e w
given-partial p v y n e w = (means p v y n e w).partial

pub given-alphabet : (p v : List ℕ) (y : Form) → some_names p y ≡ false → (e : Environment) (a : PlainAction)
    → InAlphabet y (bind p (Some v) e) a ↔ InAlphabet y e a
given-alphabet p v y n e a =
    let f = bind p (Some v) e in
    let g = agree p v y n e a in
    (alphabet-same y f e a g, alphabet-same y e f a (atoms-back y f e a g))
