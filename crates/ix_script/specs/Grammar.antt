-- The grammar of a script's lines, and the faults of those that aren't in it.
use Rattle.std.specs.Prelude.{◌≡◌, ◌≢◌, ℕ, ◌^◌, List, [], ◌∷◌}
use Rattle.ix_lines.specs.LineFaults.{IsFirstLineFault}
use Rattle.ix_lines.specs.Numbers.{Begins, BeginsWithNumber}

-- the line is a moment, a space, a connection from 0 to 63, a space and a text that isn't `\` alone
pub record IsScriptLine (line : List ℕ) (moment conn : ℕ) (text : List ℕ) : Type 0 where
  pub behind : List ℕ
  pub begins : BeginsWithNumber (2 ^ 64) line moment behind
  pub goes_on : BeginsWithNumber 64 behind conn text
  pub more : text ≢ 92 ∷ []

-- the line is in the grammar
abbrev pub InGrammar : List ℕ → Type 0
InGrammar line = (moment : ℕ) × (conn : ℕ) × (text : List ℕ) × IsScriptLine line moment conn text

-- 31 where no moment and a space come first, 32 where no connection and a space follow, 33 where
-- the rest is `\` alone
pub data IsLineFault (line : List ℕ) : ℕ → Type 0 where
  no_moment : ¬ Begins (2 ^ 64) line → IsLineFault line 31
  no_connection : {moment : ℕ} {behind : List ℕ} → BeginsWithNumber (2 ^ 64) line moment behind
      → ¬ Begins 64 behind → IsLineFault line 32
  no_text : {moment conn : ℕ} {behind : List ℕ} → BeginsWithNumber (2 ^ 64) line moment behind
      → BeginsWithNumber 64 behind conn (92 ∷ []) → IsLineFault line 33

-- a line's fault is told at its first byte
abbrev pub IsFaultAtFront : List ℕ → ℕ → ℕ → Type 0
IsFaultAtFront line code at = IsLineFault line code × (at ≡ 0)

-- the first line that isn't in the grammar has this fault
abbrev pub IsFirstScriptFault : List ℕ → ℕ → ℕ → Type 0
IsFirstScriptFault bytes code at = IsFirstLineFault InGrammar IsFaultAtFront bytes code at
