-- What a feed answers.
use Rattle.std.specs.Prelude.{◌≡◌, ◌≤◌, ℕ, List, [], Option, Some, None, length, take}
use Rattle.std.specs.Borrow.{Fml, MutBor}
use Rattle.std.specs.Io.BufRead.{Rests}
use Rattle.ix_lines.specs.Items.{Item, line, too_long}
use Rattle.ix_lines.specs.Feeding.{UnfinishedLine, unfinished, skipping, completes, holds_after}
use Rattle.ix_lines.specs.declared.FedKind.{FedKind}
use Rattle.ix_lines.specs.declared.FedKind.TheVariants.{Line, TooLong, More}
use Rattle.ix_lines.specs.contracts.Lines.{the_row}

-- the item that a kind tells
abbrev pub told_item : FedKind → Option Item
told_item (Line bytes) = Some (line bytes.now)
told_item TooLong = Some too_long
told_item More = None

-- once a lent line is let go, what is held is what is held behind these bytes
abbrev pub HoldsAfter : MutBor UnfinishedLine → List ℕ → Fml
HoldsAfter lines bytes = Rests the_row lines (λ new. new ≡ holds_after lines.now bytes)

-- no line is skipped
abbrev pub IsTaking : UnfinishedLine → Type 0
IsTaking (unfinished part) = Unit {0}
IsTaking skipping = ⊥

-- the bytes of a piece before the place completed nothing, and no line is skipped there
pub record ResumesAt (old : UnfinishedLine) (piece : List ℕ) (place : ℕ)
    (new : UnfinishedLine) : Type 0 where
  pub within : place ≤ length piece
  pub before : (count : ℕ) → count ≤ place → completes old (take count piece) ≡ []
  pub after : new ≡ holds_after old (take place piece)
  pub open_there : IsTaking new
