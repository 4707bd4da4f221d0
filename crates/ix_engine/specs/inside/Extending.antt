-- What comes of extending a history by one action.
use Rattle.std.specs.Prelude.{◌≡◌, ℕ, [], ◌∷◌, ◌++◌, Result, Ok, Err}
use Rattle.ix_values.specs.PlainAction.{PlainAction, Word}
use Rattle.ix_expr.specs.Form.{Form}
use Rattle.ix_tree.specs.Plain.{Plain}
use Rattle.ix_can.specs.TreeOf.{tree_of}
use Rattle.ix_engine.specs.Allowed.{IsAllowed}
use Rattle.ix_engine.specs.Histories.{IsRefused}
use Rattle.ix_engine.specs.declared.faults.PrepareFault.{PrepareFault}

-- the tree of a history with an allowed action behind it, or why the action isn't taken
abbrev pub Extends : Form → ℕ → Word → PlainAction → Result Plain PrepareFault → Type 0
Extends x limit history a (Ok t) =
    (t ≡ tree_of x [] (history ++ a ∷ [])) × IsAllowed x limit history a
Extends x limit history a (Err why) = IsRefused x limit history a why
