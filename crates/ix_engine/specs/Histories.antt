-- Which actions are taken as a history, and which is the first that isn't.
use Rattle.std.specs.Prelude.{◌≡◌, ℕ, ◌+◌, ◌<◌, [], ◌∷◌, ◌++◌, length}
use Rattle.ix_engine.specs.Limits.{most_actions}
use Rattle.ix_values.specs.PlainAction.{PlainAction, Word}
use Rattle.ix_expr.specs.Form.{Form}
use Rattle.ix_can.specs.TreeOf.{tree_size}
use Rattle.ix_engine.specs.Allowed.{IsPermitted, IsAllowed}
use Rattle.ix_engine.specs.declared.faults.PrepareFault.{PrepareFault}
use Rattle.ix_engine.specs.declared.faults.PrepareFault.TheVariants.{NotPartial, Full, Over, Memory}
use Rattle.ix_engine.specs.declared.faults.ResumeFault.{ResumeFault}

-- why an action isn't taken behind a history; memory may run out for one that is permitted and for
-- which there is room
abbrev pub IsRefused : Form → ℕ → Word → PlainAction → PrepareFault → Type 0
IsRefused x limit history a NotPartial = ¬ IsPermitted x history a
IsRefused x limit history a Full = IsPermitted x history a × (length history ≡ most_actions)
IsRefused x limit history a (Over l) =
    (l ≡ limit) × IsPermitted x history a × (length history < most_actions)
    × (limit < tree_size x (history ++ a ∷ []))
IsRefused x limit history a Memory = IsPermitted x history a × (length history < most_actions)

-- each action of the list is allowed behind those in front of it
pub data AreAllowed (x : Form) (limit : ℕ) : Word → Type 0 where
  none : AreAllowed x limit []
  more : {before : Word} {a : PlainAction}
      → AreAllowed x limit before → IsAllowed x limit before a
      → AreAllowed x limit (before ++ a ∷ [])

-- the first action of the list that isn't taken behind those in front of it, by its number from 1,
-- and why
pub record StopsAt (x : Form) (limit : ℕ) (actions : Word) (fault : ResumeFault) : Type 0 where
  pub before : Word
  pub action : PlainAction
  pub behind : Word
  pub parts : actions ≡ before ++ action ∷ behind
  pub number : fault.number ≡ length before + 1
  pub allowed : AreAllowed x limit before
  pub refused : IsRefused x limit before action fault.why
