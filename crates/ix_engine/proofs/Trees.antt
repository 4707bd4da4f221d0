-- What the tree of an engine's history tells.
use Rattle.std.proofs.Common.{◌≡◌, false, [], sym, subst}
use Rattle.ix_values.specs.PlainAction.{Word}
use Rattle.ix_expr.specs.Form.{Form}
use Rattle.ix_expr.specs.FormFaults.{Fits}
use Rattle.ix_expr.specs.Meaning.{IsPartial}
use Rattle.ix_tree.specs.Plain.{Plain}
use Rattle.ix_can.specs.Nodes.{is_dead}
use Rattle.ix_can.specs.TreeOf.{tree_of}
use Rattle.ix_can.specs.Laws.{IsProper}
use Rattle.ix_can.proofs.Naming.{fits_name}
use Rattle.ix_can.proofs.Proper.{proper}
use Rattle.ix_can.proofs.TreesTell.{tree_tells}

-- the tree of a word is proper
pub tree_proper : (x : Form) (w : Word) (t : Plain) → t ≡ tree_of x [] w → IsProper x t
tree_proper x w t e = subst (IsProper x) (sym e) (proper x [] w)

-- the tree of a partial word is live
pub partial_live : (x : Form) (w : Word) (t : Plain) → Fits x [] → t ≡ tree_of x [] w → IsPartial x [] w → is_dead t ≡ false
partial_live x w t fits e p = subst (λ s. is_dead s ≡ false) (sym e) ((tree_tells x (fits_name x [] fits) [] w).partial.1 p)

-- and a word whose tree is live is partial
pub live_partial : (x : Form) (w : Word) (t : Plain) → Fits x [] → t ≡ tree_of x [] w → is_dead t ≡ false → IsPartial x [] w
live_partial x w t fits e live = (tree_tells x (fits_name x [] fits) [] w).partial.0 (subst (λ s. is_dead s ≡ false) e live)
