-- What is asked of an expression, an environment and a tree before the tree is moved.
use Rattle.std.specs.Prelude.{◌≤◌}
use Rattle.ix_expr.specs.Form.{Form}
use Rattle.ix_expr.specs.Environment.{Environment}
use Rattle.ix_expr.specs.FormFaults.{Fits}
use Rattle.ix_tree.specs.Plain.{Plain}
use Rattle.ix_tree.specs.Size.{size_of}
use Rattle.ix_can.specs.Laws.{IsProper}
use Rattle.ix_step.specs.inside.Limits.{most_size}

-- the expression fits the environment, and the tree is a proper one of it and not too large
pub record Ready (x : Form) (e : Environment) (t : Plain) : Type 0 where
  pub fits : Fits x e
  pub proper : IsProper x t
  pub small : size_of t ≤ most_size
