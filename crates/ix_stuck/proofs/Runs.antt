-- What some actions lead to from the tree of a word.
use Rattle.std.proofs.Common.{◌≡◌, ◌↔◌, true, false, [], ◌∷◌, ◌++◌, refl, sym, ap, ◌∙◌, true≢false, append_assoc}
use Rattle.std.proofs.lemmas.List.{append-nil}
use Rattle.ix_values.specs.PlainAction.{Word}
use Rattle.ix_expr.specs.Form.{Form}
use Rattle.ix_expr.specs.FormFaults.{Fits}
use Rattle.ix_expr.specs.Meaning.{IsComplete, IsPartial}
use Rattle.ix_tree.specs.Plain.{Plain, dead, is_dead}
use Rattle.ix_can.specs.TreeOf.{tree_of, is_final}
use Rattle.ix_can.specs.inside.Moved.{moved}
use Rattle.ix_can.proofs.MovesTell.{each_step}
use Rattle.ix_can.proofs.Naming.{fits_name}
use Rattle.ix_can.proofs.Spent.{dead_is, moved_dead}
use Rattle.ix_can.proofs.TreesTell.{tree_tells}
use Rattle.ix_stuck.specs.inside.Graphs.{run_of}

-- one action behind others
pub run_append : (x : Form) (t : Plain) (u v : Word) → run_of x t (u ++ v) ≡ run_of x (run_of x t u) v
run_append x t [] v = refl
run_append x t (a ∷ u) v = run_append x (moved x [] t a) u v

-- the dead tree stays dead
pub run_dead : (x : Form) (v : Word) → run_of x dead v ≡ dead
run_dead x [] = refl
run_dead x (a ∷ v) = ap (λ t. run_of x t v) (moved_dead x [] a) ∙ run_dead x v

still_dead : (x : Form) (t : Plain) (v : Word) → is_dead t ≡ true → is_dead (run_of x t v) ≡ true
still_dead x t v e = ap (λ u. is_dead (run_of x u v)) (dead_is t e) ∙ ap is_dead (run_dead x v)

-- of a live tree each tree on the way is live
pub live_on_the_way : (x : Form) (t : Plain) (v : Word) → is_dead (run_of x t v) ≡ false → is_dead t ≡ false
live_on_the_way x t v live = elim (is_dead t) as (λ b. is_dead t ≡ b → b ≡ false) [
  | true ↦ λ e. absurd (true≢false (sym (still_dead x t v e) ∙ live))
  | false ↦ λ e. refl
] refl

-- of an expression that fits, the trees of words
module _ (x : Form) (fits : Fits x []) where
  pub run_word : (w v : Word) → run_of x (tree_of x [] w) v ≡ tree_of x [] (w ++ v)
  run_word w [] = ap (tree_of x []) (sym (append-nil w))
  run_word w (a ∷ v) = ap (λ t. run_of x t v) ((each_step x [] a fits).moves w) ∙ run_word (w ++ a ∷ []) v ∙ ap (tree_of x []) (append_assoc w (a ∷ []) v)

  pub live_says : (w : Word) → (is_dead (tree_of x [] w) ≡ false) ↔ IsPartial x [] w
  live_says w = (tree_tells x (fits_name x [] fits) [] w).partial

  pub final_says : (w : Word) → (is_final x (tree_of x [] w) ≡ true) ↔ IsComplete x [] w
  final_says w = (tree_tells x (fits_name x [] fits) [] w).complete
