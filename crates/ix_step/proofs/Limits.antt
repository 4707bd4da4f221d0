-- What is made within a limit: what is above it, and the tree after an action.
use Rattle.std.proofs.Common.{◌≡◌, ℕ, ◌<◌, ◌≤◌, Bool, true, false, not, refl, ap, ◌∙◌, true≢false, arith}
use Rattle.ix_values.specs.PlainAction.{PlainAction}
use Rattle.ix_expr.specs.Form.{Form}
use Rattle.ix_expr.specs.Environment.{Environment}
use Rattle.ix_tree.specs.Plain.{Plain, dead}
use Rattle.ix_tree.specs.Size.{size_of}
use Rattle.ix_can.specs.Nodes.{is_dead}
use Rattle.ix_expr.specs.Tests.{in_alphabet}
use Rattle.ix_can.specs.May.{may}
use Rattle.ix_can.specs.inside.Moved.{moved, moved_inside}
use Rattle.ix_can.proofs.Spent.{dead_is}
use Rattle.ix_can.proofs.MovesShared.{moved_live}
use Rattle.ix_can.proofs.OutsideAlphabet.{outside_next}
use Rattle.ix_step.specs.inside.Makes.{IsAboveLimit}
use Rattle.ix_step.specs.declared.fault.Unbuilt.{Unbuilt}

-- a part above the limit puts the whole above it
pub over_grows : (limit : ℕ) (x y : Plain) (fault : Unbuilt) → size_of x ≤ size_of y → IsAboveLimit limit x fault → IsAboveLimit limit y fault
over_grows limit x y fault le h = λ e. let lt : limit < size_of x = h e in omega arith

-- where the action may not come next the moved tree is dead
pub moved_is_dead : (x : Form) (e : Environment) (t : Plain) (a : PlainAction) → may x e t a ≡ false → moved x e t a ≡ dead
moved_is_dead x e t a h = dead_is (moved x e t a) (dead_here (is_dead (moved x e t a)) (moved_live x e t a ∙ h))
  where
    dead_here : (b : Bool) → not b ≡ false → b ≡ true
    dead_here true h = refl
    dead_here false h = absurd (true≢false h)

module _ (x : Form) (e : Environment) (t : Plain) (a : PlainAction) where
  -- a dead tree isn't above the limit
  pub inside_over : (limit : ℕ) → 1 ≤ limit → limit < size_of (moved x e t a) → limit < size_of (moved_inside (in_alphabet x e a) (moved x e t a) t)
  inside_over limit least lt = one (in_alphabet x e a) refl
    where
      one : (i : Bool) → in_alphabet x e a ≡ i → limit < size_of (moved_inside i (moved x e t a) t)
      one true i = lt
      one false i =
          let size : size_of (moved x e t a) ≡ 1 = ap size_of (moved_is_dead x e t a (outside_next a x e t i)) in
          omega arith
