-- What is held of the connections' texts.
use Rattle.std.specs.Prelude.{◌≡◌, ℕ, List, [], length}
use Rattle.ix_lines.specs.Feeding.{UnfinishedLine, completes}
use Rattle.ix_manager.specs.Handled.{held_at}

-- what is held of a text completes nothing by itself
abbrev pub IsClean : UnfinishedLine → Type 0
IsClean held = completes held [] ≡ []

-- there are 64 connections, and what is held of each one's text completes nothing by itself
pub record AreClean (lines : List UnfinishedLine) : Type 0 where
  pub count : length lines ≡ 64
  pub clean : (conn : ℕ) → IsClean (held_at conn lines)
