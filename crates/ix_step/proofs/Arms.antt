-- What is asked of the parts of a tree before they are moved.
use Rattle.std.proofs.Common.{◌≡◌, ◌≤◌, Bool, List, [], ◌∷◌, subst, arith}
use Rattle.ix_expr.specs.Form.{Form, opt, seq, star, or, and, couple}
use Rattle.ix_expr.specs.Environment.{Environment}
use Rattle.ix_expr.specs.FormFaults.{Fits}
use Rattle.ix_expr.proofs.Parts.{fits-operands}
use Rattle.ix_tree.specs.Plain.{Plain, listed, opt as opt_of, seq as seq_of, star as star_of, or as or_of, and as and_of, couple as couple_of}
use Rattle.ix_tree.specs.Size.{size_of}
use Rattle.ix_tree.proofs.PlainLists.{items_of-listed}
use Rattle.ix_words.specs.Each.{Each, no_item, item}
use Rattle.ix_words.proofs.Each.{Each-head, Each-tail}
use Rattle.ix_can.specs.Laws.{IsProper}
use Rattle.ix_step.specs.inside.Initial.{initial_tree}
use Rattle.ix_step.specs.inside.Ready.{Ready}
use Rattle.ix_step.proofs.Beginnings.{initial_proper, initial_small}

-- the same is asked of equal expressions, environments and trees
pub asked : {x y : Form} {e f : Environment} {t u : Plain} → x ≡ y → e ≡ f → t ≡ u → Ready x e t → Ready y f u
asked {x} {y} {e} {f} {t} {u} a b c h = subst (λ s. Ready y f s) c (subst (λ g. Ready y g t) b (subst (λ z. Ready z e t) a h))

-- what fits begins with a small and proper tree
pub first_ready : {x : Form} {e : Environment} → Fits x e → Ready x e (initial_tree x)
first_ready {x} {e} f = record { fits = f; proper = initial_proper x; small = initial_small x e f }

alike_ready : (x : Form) (e : Environment) (ts : List Plain) → Fits x e → Each (IsProper x) ts → size_of (listed ts) ≤ 1000000 → Each (Ready x e) ts
alike_ready x e [] f h le = no_item
alike_ready x e (t ∷ ts) f h le =
    item (record { fits = f; proper = Each-head h; small = omega (arith, le) })
    (alike_ready x e ts f (Each-tail h) (omega (arith, le)))

module _ {e : Environment} where
  pub opt_ready : {y : Form} {b : Bool} {t : Plain} → Ready (opt y) e (opt_of b t) → Ready y e t
  opt_ready {y} r = record { fits = fits-operands (opt y) e r.fits; proper = r.proper; small = omega (arith, r.small) }

  pub or_first : {y z : Form} {t u : Plain} → Ready (or y z) e (or_of t u) → Ready y e t
  or_first {y} {z} r = record { fits = (fits-operands (or y z) e r.fits).0; proper = r.proper.0; small = omega (arith, r.small) }

  pub or_second : {y z : Form} {t u : Plain} → Ready (or y z) e (or_of t u) → Ready z e u
  or_second {y} {z} r = record { fits = (fits-operands (or y z) e r.fits).1; proper = r.proper.1; small = omega (arith, r.small) }

  pub and_first : {y z : Form} {t u : Plain} → Ready (and y z) e (and_of t u) → Ready y e t
  and_first {y} {z} r = record { fits = (fits-operands (and y z) e r.fits).0; proper = r.proper.0; small = omega (arith, r.small) }

  pub and_second : {y z : Form} {t u : Plain} → Ready (and y z) e (and_of t u) → Ready z e u
  and_second {y} {z} r = record { fits = (fits-operands (and y z) e r.fits).1; proper = r.proper.1; small = omega (arith, r.small) }

  pub couple_first : {y z : Form} {t u : Plain} → Ready (couple y z) e (couple_of t u) → Ready y e t
  couple_first {y} {z} r = record { fits = (fits-operands (couple y z) e r.fits).0; proper = r.proper.0; small = omega (arith, r.small) }

  pub couple_second : {y z : Form} {t u : Plain} → Ready (couple y z) e (couple_of t u) → Ready z e u
  couple_second {y} {z} r = record { fits = (fits-operands (couple y z) e r.fits).1; proper = r.proper.1; small = omega (arith, r.small) }

  pub seq_first : {y z : Form} {t us : Plain} {b : Bool} → Ready (seq y z) e (seq_of t b us) → Ready y e t
  seq_first {y} {z} r = record { fits = (fits-operands (seq y z) e r.fits).0; proper = r.proper.0; small = omega (arith, r.small) }

  pub seq_rest : {y z : Form} {t : Plain} {b : Bool} (us : List Plain) → Ready (seq y z) e (seq_of t b (listed us)) → Each (Ready z e) us
  seq_rest {y} {z} {t} us r =
      alike_ready z e us (fits-operands (seq y z) e r.fits).1 (subst (Each (IsProper z)) (items_of-listed us) r.proper.1.each) (omega (arith, r.small))

  -- what fits in the second place of a sequence begins with a small tree
  pub second_small : {y z : Form} {t : Plain} → Ready (seq y z) e t → size_of (initial_tree z) ≤ 1000000
  second_small {y} {z} r = initial_small z e (fits-operands (seq y z) e r.fits).1

  pub star_begins : {y : Form} {t : Plain} → Ready (star y) e t → Ready y e (initial_tree y)
  star_begins {y} r = first_ready (fits-operands (star y) e r.fits)

  pub star_rest : {y : Form} {b : Bool} (us : List Plain) → Ready (star y) e (star_of b (listed us)) → Each (Ready y e) us
  star_rest {y} {b} us r =
      alike_ready y e us (fits-operands (star y) e r.fits) (subst (Each (IsProper y)) (items_of-listed us) r.proper.each) (omega (arith, r.small))
