-- What may be asked of a node may be asked of its parts.
use Rattle.std.proofs.Common.{◌≡◌, ℕ, zero, suc, ◌<◌, Bool, List, [], ◌∷◌, length, get_or, Option, map, sym, subst, arith, false, true≢false}
use Rattle.ix_words.specs.Canon.{Ascending}
use Rattle.ix_words.specs.Each.{Each, no_item, item}
use Rattle.ix_words.proofs.Each.{Each-head, Each-tail, Each-weaker}
use Rattle.ix_values.specs.Order.{text_cmp}
use Rattle.ix_expr.specs.Environment.{Environment, bind}
use Rattle.ix_expr.specs.Fitting.{FitsInside}
use Rattle.ix_expr.specs.FormFaults.{Fits}
use Rattle.ix_expr.specs.Form.{Form, opt, seq, star, par, par_star, or, and, couple, any, every, sync, all, times}
use Rattle.ix_expr.proofs.Parts.{fits-operands}
use Rattle.ix_tree.specs.Order.{key, first_part, second_part}
use Rattle.ix_tree.specs.Plain.{Plain, dead, is_dead, listed, items_of, opt as opt_of, seq as seq_of, star as star_of, par as par_of, par_star as par_star_of, or as or_of, and as and_of, couple as couple_of, any as any_of, every as every_of, sync as sync_of, all as all_of, times as times_of}
use Rattle.ix_tree.specs.PlainOf.{plain_entry, plain_entries}
use Rattle.ix_tree.proofs.PlainLists.{items_of-listed}
use Rattle.ix_can.specs.inside.CanAsk.{CanAsk, AreProper}
use Rattle.ix_can.specs.May.{tree_at}
use Rattle.ix_can.specs.Laws.{IsProper, IsRising, ProperEntries}
use Rattle.ix_can.specs.TreeOf.{tree_of}
use Rattle.ix_can.proofs.Keys.{keys_ascend, tree_at_has}

-- Lists

-- what each made item has, each item of which it is made has
each_made : {A : Type 0} (G : Plain → Type 0) (f : A → Plain) (xs : List A) → Each G (map f xs) → Each (λ x. G (f x)) xs
each_made G f [] h = no_item
each_made G f (x ∷ xs) h = item (Each-head h) (each_made G f xs (Each-tail h))

-- what each item has, the item at a place has
each_at : {A : Type 0} (G : A → Type 0) (xs : List A) (i : ℕ) (x : A) → Each G xs → i < length xs → x ≡ get_or xs i x → G x
each_at G [] i x h lt e = absurd (omega arith)
each_at G (y ∷ xs) zero x h lt e = subst G (sym e) (Each-head h)
each_at G (y ∷ xs) (suc i) x h lt e = each_at G xs i x (Each-tail h) (omega arith) e

-- so with the trees of a list, and with the parts
pub tree_has : {G : Plain → Type 0} (xs : List Plain) (i : ℕ) (x : Plain) → Each G (items_of (listed xs)) → i < length xs → x ≡ get_or xs i x → G x
tree_has {G} xs i x h lt e = each_at G xs i x (subst (Each G) (items_of-listed xs) h) lt e

pub part_has : {A : Type 0} {G : Plain → Type 0} (f : A → Plain) (xs : List A) (i : ℕ) (x : A) → Each G (items_of (listed (map f xs))) → i < length xs → x ≡ get_or xs i x → G (f x)
part_has {A} {G} f xs i x h lt e = each_at (λ z. G (f z)) xs i x (each_made G f xs (subst (Each G) (items_of-listed (map f xs)) h)) lt e

-- Entries

-- what each of the entries to come has, the next one has, and each of those behind it
pub next_entry : {G : Plain → Type 0} {es rest : List (List ℕ × Plain)} {entry : List ℕ × Plain} → es ≡ entry ∷ rest → Each G (items_of (plain_entries es)) → G (plain_entry entry) × Each G (items_of (plain_entries rest))
next_entry {G} {es} {rest} {entry} e h =
    let k : Each G (items_of (plain_entries (entry ∷ rest))) = subst (λ xs. Each G (items_of (plain_entries xs))) e h in
    (Each-head k, Each-tail k)

pub entries_proper : {y : Form} {common : Plain} {es : List (List ℕ × Plain)} → ProperEntries (IsProper y) common (items_of (plain_entries es)) → AreProper y es
entries_proper {y} {common} {es} h = record {
  ascending = keys_ascend es (subst (Ascending (λ x y. text_cmp (key x) (key y))) (items_of-listed (map plain_entry es)) h.ascending);
  each = h.each;
}

-- the tree of every value is proper
pub state_proper : {y : Form} {es : List (List ℕ × Plain)} (common : Plain) (v : List ℕ) → IsProper y common → AreProper y es → IsProper y (tree_at v common (items_of (plain_entries es)))
state_proper {y} {es} common v h k = tree_at_has (IsProper y) common v (items_of (plain_entries es)) h k.each

-- so with an entry's tree where it is live
pub own_proper : {y : Form} {es : List (List ℕ × Plain)} (v : List ℕ) (x : Plain) → AreProper y es → x ≡ tree_at v dead (items_of (plain_entries es)) → is_dead x ≡ false → IsProper y x
own_proper {y} {es} v x k e live =
    let G : Plain → Type 0 = λ s. is_dead s ≡ false → IsProper y s in
    let own : G (tree_at v dead (items_of (plain_entries es))) = tree_at_has G dead v (items_of (plain_entries es)) (λ d. absurd (true≢false d)) (Each-weaker (λ x h _. h) k.each) in
    subst G (sym e) own live

-- Each form's parts

module _ {e : Environment} where
  pub opt_asked : {y : Form} {b : Bool} {t : Plain} → CanAsk (opt y) e (opt_of b t) → CanAsk y e t
  opt_asked {y} h = record { fits = fits-operands (opt y) e h.fits; proper = h.proper }

  pub seq_first : {y z : Form} {t s : Plain} {b : Bool} → CanAsk (seq y z) e (seq_of t b s) → CanAsk y e t
  seq_first {y} {z} h = record { fits = (fits-operands (seq y z) e h.fits).0; proper = h.proper.0 }

  pub seq_rest : {y z : Form} {t s : Plain} {b : Bool} → CanAsk (seq y z) e (seq_of t b s) → Fits z e × Each (IsProper z) (items_of s)
  seq_rest {y} {z} h = ((fits-operands (seq y z) e h.fits).1, h.proper.1.each)

  pub star_rest : {y : Form} {b : Bool} {s : Plain} → CanAsk (star y) e (star_of b s) → Fits y e × Each (IsProper y) (items_of s)
  star_rest {y} h = (fits-operands (star y) e h.fits, h.proper.each)

  pub par_pairs : {y z : Form} {s : Plain} → CanAsk (par y z) e (par_of s) → Fits y e × (Fits z e × Each (λ p. IsProper y (first_part p) × IsProper z (second_part p)) (items_of s))
  par_pairs {y} {z} h = let f = fits-operands (par y z) e h.fits in (f.0, (f.1, h.proper.each))

  pub par_star_bags : {y : Form} {s : Plain} → CanAsk (par_star y) e (par_star_of s) → Fits y e × Each (λ b. IsRising (items_of (first_part b)) × Each (IsProper y) (items_of (first_part b))) (items_of s)
  par_star_bags {y} h = (fits-operands (par_star y) e h.fits, h.proper.each)

  pub times_bags : {n : ℕ} {y : Form} {s : Plain} → CanAsk (times n y) e (times_of s) → Fits y e × Each (λ b. IsRising (items_of (first_part b)) × Each (IsProper y) (items_of (first_part b))) (items_of s)
  times_bags {n} {y} h = (fits-operands (times n y) e h.fits, h.proper.each)

  pub or_first : {y z : Form} {t u : Plain} → CanAsk (or y z) e (or_of t u) → CanAsk y e t
  or_first {y} {z} h = record { fits = (fits-operands (or y z) e h.fits).0; proper = h.proper.0 }

  pub or_second : {y z : Form} {t u : Plain} → CanAsk (or y z) e (or_of t u) → CanAsk z e u
  or_second {y} {z} h = record { fits = (fits-operands (or y z) e h.fits).1; proper = h.proper.1 }

  pub and_first : {y z : Form} {t u : Plain} → CanAsk (and y z) e (and_of t u) → CanAsk y e t
  and_first {y} {z} h = record { fits = (fits-operands (and y z) e h.fits).0; proper = h.proper.0 }

  pub and_second : {y z : Form} {t u : Plain} → CanAsk (and y z) e (and_of t u) → CanAsk z e u
  and_second {y} {z} h = record { fits = (fits-operands (and y z) e h.fits).1; proper = h.proper.1 }

  pub couple_first : {y z : Form} {t u : Plain} → CanAsk (couple y z) e (couple_of t u) → CanAsk y e t
  couple_first {y} {z} h = record { fits = (fits-operands (couple y z) e h.fits).0; proper = h.proper.0 }

  pub couple_second : {y z : Form} {t u : Plain} → CanAsk (couple y z) e (couple_of t u) → CanAsk z e u
  couple_second {y} {z} h = record { fits = (fits-operands (couple y z) e h.fits).1; proper = h.proper.1 }

  pub any_values : {p : List ℕ} {y : Form} {t : Plain} {es : List (List ℕ × Plain)} → CanAsk (any p y) e (any_of t (plain_entries es)) → FitsInside p y e × (IsProper y t × AreProper y es)
  any_values {p} {y} h = (fits-operands (any p y) e h.fits, (h.proper.0, entries_proper h.proper.1))

  pub every_values : {p : List ℕ} {y : Form} {t : Plain} {es : List (List ℕ × Plain)} → CanAsk (every p y) e (every_of t (plain_entries es)) → FitsInside p y e × (IsProper y t × AreProper y es)
  every_values {p} {y} h = (fits-operands (every p y) e h.fits, (h.proper.0, entries_proper h.proper.1))

  pub sync_values : {p : List ℕ} {y : Form} {t : Plain} {es : List (List ℕ × Plain)} → CanAsk (sync p y) e (sync_of t (plain_entries es)) → FitsInside p y e × (IsProper y t × AreProper y es)
  sync_values {p} {y} h = (fits-operands (sync p y) e h.fits, (h.proper.0, entries_proper h.proper.1))

  pub all_maps : {p : List ℕ} {y : Form} {s : Plain} → CanAsk (all p y) e (all_of s) → FitsInside p y e × Each (λ m. ProperEntries (IsProper y) (tree_of y [] []) (items_of (first_part m))) (items_of s)
  all_maps {p} {y} h = (fits-operands (all p y) e h.fits, h.proper.each)

-- the body of a quantifier fits under each value
pub inside_fits : {p : List ℕ} {y : Form} {e : Environment} (v : Option (List ℕ)) → FitsInside p y e → Fits y (bind p v e)
inside_fits v h = h.body v
