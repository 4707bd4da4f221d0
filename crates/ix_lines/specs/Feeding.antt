-- What is held of a text between its pieces, and what a piece completes.
use Rattle.std.specs.Prelude.{◌≡◌, ℕ, ◌<◌, ◌≤◌, List, [], ◌∷◌, ◌++◌, length, take, drop, nat_le}
use Rattle.std.specs.Prelude.{◌==◌, if◌then◌else◌, Option, Some, None, IsNone}
use Rattle.std.specs.List.{list_any}
use Rattle.std.specs.Option.{option_to_list}
use Rattle.std.specs.Io.BufRead.{drop_through}
use Rattle.ix_lines.specs.Items.{Item, cut, items}

-- the bytes of the unfinished line, or that the rest of a line which is too long is skipped
pub data UnfinishedLine : Type 0 where
  unfinished : List ℕ → UnfinishedLine
  skipping : UnfinishedLine

-- what is held behind a last part
abbrev pub held_of_last : List ℕ → UnfinishedLine
held_of_last part = if nat_le (length part) 512 then unfinished part else skipping

-- what is held behind a text
abbrev pub held : List ℕ → UnfinishedLine
held text = held_of_last (cut text).last

-- the items that a piece completes
abbrev pub completes : UnfinishedLine → List ℕ → List Item
completes (unfinished part) piece = items (part ++ piece)
completes skipping piece = items (drop_through 10 piece)

-- what is held behind a piece
abbrev pub holds_after : UnfinishedLine → List ℕ → UnfinishedLine
holds_after (unfinished part) piece = held (part ++ piece)
holds_after skipping piece = if list_any (λ byte. byte == 10) piece
    then held (drop_through 10 piece) else skipping

-- what one feed of a piece tells: the first item that it completes, at the very byte that completes
-- it, or none
pub record Feeds (old : UnfinishedLine) (piece : List ℕ) (item : Option Item)
    (used : ℕ) : Type 0 where
  pub within : used ≤ length piece
  pub told : completes old (take used piece) ≡ option_to_list item
  pub soonest : (count : ℕ) → count < used → completes old (take count piece) ≡ []
  pub whole : IsNone item → used ≡ length piece

-- a piece fed again and again, each time the rest of it, until a feed completes no item
pub data IsFed : UnfinishedLine → List ℕ → List Item → UnfinishedLine → Type 0 where
  at_end : (old : UnfinishedLine) (piece : List ℕ) (used : ℕ)
      → Feeds old piece None used → IsFed old piece [] (holds_after old (take used piece))
  going_on : (old : UnfinishedLine) (piece : List ℕ) (item : Item) (used : ℕ) (later : List Item)
      (new : UnfinishedLine)
      → Feeds old piece (Some item) used
      → IsFed (holds_after old (take used piece)) (drop used piece) later new
      → IsFed old piece (item ∷ later) new

-- the items of a text and a piece are those of the text, and behind them those that the piece
-- completes
abbrev pub CompletesTheRest : Type 0
CompletesTheRest = (text piece : List ℕ)
    → (items (text ++ piece) ≡ items text ++ completes (held text) piece)
    × (held (text ++ piece) ≡ holds_after (held text) piece)

-- a piece that is cut in two gives the same items, and the same is held
abbrev pub AnyCutting : Type 0
AnyCutting = (old : UnfinishedLine) (front back : List ℕ)
    → (completes old (front ++ back)
    ≡ completes old front ++ completes (holds_after old front) back)
    × (holds_after old (front ++ back) ≡ holds_after (holds_after old front) back)

-- a piece that is fed to its end gives exactly the items that it completes
abbrev pub FedToItsEnd : Type 0
FedToItsEnd = (old : UnfinishedLine) (piece : List ℕ) (told : List Item) (new : UnfinishedLine)
    → IsFed old piece told new
    → (told ≡ completes old piece) × (new ≡ holds_after old piece)
