-- The nodes above a node, as the code keeps them, as a list.
use Rattle.std.specs.Prelude.{List, [], ◌∷◌}
use Rattle.ix_expr.specs.Form.{Form}
use Rattle.ix_expr.specs.inside.FormOf.{form_of}
use Rattle.ix_lint.specs.declared.above.Above.{Above, Top, Under'}

-- the inmost first
abbrev pub forms_of : Above → List Form
forms_of Top = []
forms_of (Under' node place above) = form_of node.now ∷ forms_of above
