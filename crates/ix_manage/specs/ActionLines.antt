-- The lines of an actions file.
use Rattle.std.specs.Prelude.{◌≡◌, ℕ, List, [], ◌∷◌, ◌++◌, map}
use Rattle.ix_words.specs.Each.{Each}
use Rattle.ix_lines.specs.LineFaults.{IsFirstLineFault}
use Rattle.ix_lines.specs.TextLines.{lines_of}
use Rattle.ix_values.specs.Faults.{IsActionText, IsFault}
use Rattle.ix_values.specs.PlainAction.{Word, text_of}
use Rattle.ix_values.specs.Texts.{IsAction}

-- the line of a text, with its byte 10
abbrev pub line : List ℕ → List ℕ
line text = text ++ 10 ∷ []

-- the lines are the texts of these actions
pub record HasActions (bytes : List ℕ) (actions : Word) : Type 0 where
  pub valid : Each IsAction actions
  pub lines : lines_of bytes ≡ map text_of actions

-- the first line that is no action's text has this fault, whose place is counted in the bytes
abbrev pub IsFirstActionFault : List ℕ → ℕ → ℕ → Type 0
IsFirstActionFault bytes code at = IsFirstLineFault IsActionText IsFault bytes code at
