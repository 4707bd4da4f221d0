-- What may be asked of an expression may be asked of its operands.
use Rattle.std.proofs.Common.{◌≡◌, ℕ, List, [], ◌∷◌, Option, Some, None, sym, subst}
use Rattle.ix_words.specs.Canon.{ascending_end}
use Rattle.ix_words.specs.Each.{Each, no_item, item}
use Rattle.ix_words.proofs.Each.{Each-head, Each-weaker}
use Rattle.ix_expr.specs.Environment.{Environment}
use Rattle.ix_expr.specs.Fitting.{FitsInside}
use Rattle.ix_expr.specs.Form.{Form, atom, opt, seq, star, par, par_star, or, and, couple, any, every, sync, all, times}
use Rattle.ix_expr.proofs.Parts.{fits-operands}
use Rattle.ix_tree.specs.Plain.{Plain, done, none, items_of, opt as opt_of, and as and_of, couple as couple_of, every as every_of, sync as sync_of, all as all_of}
use Rattle.ix_tree.specs.Order.{first_part, second_part}
use Rattle.ix_can.specs.Laws.{IsProper, EachOnce, ProperEntries}
use Rattle.ix_can.specs.TreeOf.{tree_of}
use Rattle.ix_can.specs.inside.CanAsk.{CanAsk}
use Rattle.ix_can.proofs.Keys.{tree_at_has}
use Rattle.ix_can.proofs.Proper.{proper}
use Rattle.ix_why.specs.Blames.{only}
use Rattle.ix_why.specs.Trees.{left, right, entries, owner_maps, tree_for}
use Rattle.ix_why.specs.inside.Held.{tree_held, left_held, right_held, maps_held, AscendByValue, BodiesProper, MapsProper, IsOwned}

nothing_once : {G : Plain → Type 0} → EachOnce G []
nothing_once = record { ascending = ascending_end; each = no_item }

no_entries : {G : Plain → Type 0} {common : Plain} → ProperEntries G common []
no_entries = record { ascending = ascending_end; differ = no_item; each = no_item }

-- a tree without parts is proper
proper_none : (x : Form) → IsProper x none
proper_none (atom x) = tt
proper_none (opt y) = proper_none y
proper_none (seq y z) = (proper_none y, nothing_once)
proper_none (star y) = nothing_once
proper_none (par y z) = nothing_once
proper_none (par_star y) = nothing_once
proper_none (or y z) = (proper_none y, proper_none z)
proper_none (and y z) = (proper_none y, proper_none z)
proper_none (couple y z) = (proper_none y, proper_none z)
proper_none (any p y) = (proper_none y, no_entries)
proper_none (every p y) = (proper_none y, no_entries)
proper_none (sync p y) = (proper_none y, no_entries)
proper_none (all p y) = nothing_once
proper_none (times n y) = nothing_once

pub proper_done : (x : Form) → IsProper x done
proper_done (atom x) = tt
proper_done (opt y) = proper_none y
proper_done (seq y z) = (proper_none y, nothing_once)
proper_done (star y) = nothing_once
proper_done (par y z) = nothing_once
proper_done (par_star y) = nothing_once
proper_done (or y z) = (proper_none y, proper_none z)
proper_done (and y z) = (proper_none y, proper_none z)
proper_done (couple y z) = (proper_none y, proper_none z)
proper_done (any p y) = (proper_none y, no_entries)
proper_done (every p y) = (proper_none y, no_entries)
proper_done (sync p y) = (proper_none y, no_entries)
proper_done (all p y) = nothing_once
proper_done (times n y) = nothing_once

-- Operands' trees

pub proper_left : (y : Form) (t : Plain) → IsProper y (first_part t) → IsProper y (left t)
proper_left y (opt_of b t) h = h
proper_left y (and_of t u) h = h
proper_left y (couple_of t u) h = h
proper_left y (every_of c es) h = h
proper_left y (sync_of c es) h = h
proper_left y _ h = proper_done y

pub proper_right : (z : Form) (t : Plain) → IsProper z (second_part t) → IsProper z (right t)
proper_right z (and_of t u) h = h
proper_right z (couple_of t u) h = h
proper_right z _ h = proper_done z

entries_each : {G : Plain → Type 0} (t : Plain) → Each G (items_of (second_part t)) → Each G (entries t)
entries_each (every_of c es) h = h
entries_each (sync_of c es) h = h
entries_each _ h = no_item

entries_ascend : (t : Plain) → AscendByValue (items_of (second_part t)) → AscendByValue (entries t)
entries_ascend (every_of c es) h = h
entries_ascend (sync_of c es) h = h
entries_ascend _ h = ascending_end

maps_each : {G : Plain → Type 0} (t : Plain) → Each G (items_of (first_part t)) → Each G (owner_maps t)
maps_each (all_of ms) h = h
maps_each _ h = no_item

pub body_proper : {common : Plain} (y : Form) (t : Plain) (v : Option (List ℕ)) → IsProper y (first_part t) → ProperEntries (IsProper y) common (items_of (second_part t)) → IsProper y (tree_for v t)
body_proper y t None h k = proper_left y t h
body_proper y t (Some v) h k = tree_at_has (IsProper y) (left t) v (entries t) (proper_left y t h) (entries_each t k.each)

-- What is asked

module _ {e : Environment} where
  pub asks_opt : {y : Form} (s : Option Plain) → CanAsk (opt y) e (tree_held (opt y) s) → CanAsk y e (left_held y s)
  asks_opt {y} None h = record { fits = fits-operands (opt y) e h.fits; proper = proper y [] [] }
  asks_opt {y} (Some t) h = record { fits = fits-operands (opt y) e h.fits; proper = proper_left y t h.proper }

  pub asks_and : {y z : Form} (s : Option Plain) → CanAsk (and y z) e (tree_held (and y z) s) → CanAsk y e (left_held y s) × CanAsk z e (right_held z s)
  asks_and {y} {z} None h =
      let f = fits-operands (and y z) e h.fits in
      (record { fits = f.0; proper = proper y [] [] }, record { fits = f.1; proper = proper z [] [] })
  asks_and {y} {z} (Some t) h =
      let f = fits-operands (and y z) e h.fits in
      (record { fits = f.0; proper = proper_left y t h.proper.0 }, record { fits = f.1; proper = proper_right z t h.proper.1 })

  pub asks_couple : {y z : Form} (s : Option Plain) → CanAsk (couple y z) e (tree_held (couple y z) s) → CanAsk y e (left_held y s) × CanAsk z e (right_held z s)
  asks_couple {y} {z} None h =
      let f = fits-operands (couple y z) e h.fits in
      (record { fits = f.0; proper = proper y [] [] }, record { fits = f.1; proper = proper z [] [] })
  asks_couple {y} {z} (Some t) h =
      let f = fits-operands (couple y z) e h.fits in
      (record { fits = f.0; proper = proper_left y t h.proper.0 }, record { fits = f.1; proper = proper_right z t h.proper.1 })

  pub asks_every : {p : List ℕ} {y : Form} (s : Option Plain) → CanAsk (every p y) e (tree_held (every p y) s) → FitsInside p y e × BodiesProper y s
  asks_every {p} {y} None h = (fits-operands (every p y) e h.fits, record { ascending = ascending_end; each = λ v. proper y [] [] })
  asks_every {p} {y} (Some t) h = (
    fits-operands (every p y) e h.fits,
    record { ascending = entries_ascend t h.proper.1.ascending; each = λ v. body_proper y t v h.proper.0 h.proper.1 },
  )

  pub asks_sync : {p : List ℕ} {y : Form} (s : Option Plain) → CanAsk (sync p y) e (tree_held (sync p y) s) → FitsInside p y e × BodiesProper y s
  asks_sync {p} {y} None h = (fits-operands (sync p y) e h.fits, record { ascending = ascending_end; each = λ v. proper y [] [] })
  asks_sync {p} {y} (Some t) h = (
    fits-operands (sync p y) e h.fits,
    record { ascending = entries_ascend t h.proper.1.ascending; each = λ v. body_proper y t v h.proper.0 h.proper.1 },
  )

  pub asks_all : {p : List ℕ} {y : Form} (s : Option Plain) → CanAsk (all p y) e (tree_held (all p y) s) → FitsInside p y e × MapsProper y s
  asks_all {p} {y} None h = (fits-operands (all p y) e h.fits, item (ascending_end, no_item) no_item)
  asks_all {p} {y} (Some t) h = (
    fits-operands (all p y) e h.fits,
    maps_each t (Each-weaker (λ m k. (k.ascending, k.each)) h.proper.each),
  )

-- what each item has, the only one has
only_has : {A : Type 0} (G : A → Type 0) (xs : List A) (x : A) → Each G xs → only xs ≡ Some x → G x
only_has G [] x h e = absurd (cc)
only_has G (y ∷ []) x h e = let same : y ≡ x = cc in subst G same (Each-head h)
only_has G (y ∷ z ∷ xs) x h e = absurd (cc)

-- the tree of a value in the only map is proper
pub owned_proper : (y : Form) (v : List ℕ) (s r : Option Plain) → MapsProper y s → IsOwned v (maps_held s) r → IsProper y (tree_held y r)
owned_proper y v s r h k =
    let m : Plain = k.in_map in
    let each = only_has (λ m. AscendByValue (items_of (first_part m)) × Each (λ x. IsProper y (first_part x)) (items_of (first_part m))) (maps_held s) m h k.alone in
    subst (IsProper y) (sym (k.tree (tree_of y [] []))) (tree_at_has (IsProper y) (tree_of y [] []) v (items_of (first_part m)) (proper y [] []) each.1)
