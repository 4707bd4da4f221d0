-- Why a run ends before it has its answer, and what it puts then.
use Rattle.std.specs.Prelude.{◌≡◌, ℕ, ◌<◌, List, [], ◌++◌, codes, decimal, ⊤, Option}
use Rattle.ix_manage.specs.Limits.{most_file_bytes}
use Rattle.ix_manage.specs.declared.refusal.Refusal.{Refusal}
use Rattle.ix_manage.specs.declared.refusal.Input.{Input}
use Rattle.ix_manage.specs.declared.refusal.Input.TheVariants.{Expression, Actions, Script, Lines}
use Rattle.ix_manage.specs.declared.refusal.Input.TheVariants.{Values}
use Rattle.ix_manage.specs.declared.refusal.Input.TheVariants as input
use Rattle.ix_manage.specs.declared.refusal.Refusal.TheVariants.{Bad, Lost, Large, Unfollowed}
use Rattle.ix_manage.specs.declared.refusal.Refusal.TheVariants.{NotAllowed, Words, Candidates}
use Rattle.ix_manage.specs.declared.refusal.Refusal.TheVariants.{Disk, Wire, Journal, Turns, Memory}
use Rattle.ix_manage.specs.declared.refusal.JournalRefusal.{JournalRefusal}
use Rattle.ix_manage.specs.declared.refusal.JournalRefusal.TheVariants.{Foreign, Damaged, Many}
use Rattle.ix_manage.specs.declared.refusal.JournalRefusal.TheVariants.{Word, Heavy, Unopened}
use Rattle.ix_manage.specs.declared.refusal.JournalRefusal.TheVariants.{There}
use Rattle.ix_outside.specs.Counts.{Rose}
use Rattle.ix_outside.specs.Files.{HasLonger, Listing}
use Rattle.ix_outside.specs.FilesState.{FilesState}
use Rattle.ix_parse.specs.Faults.{IsFirstFault, StandsFor}
use Rattle.ix_script.specs.Grammar.{IsFirstScriptFault}
use Rattle.ix_expr.specs.Form.{Form}
use Rattle.ix_can.specs.TreeOf.{tree_size}
use Rattle.ix_generate.specs.Workload.{examinations}
use Rattle.ix_manage.specs.ActionLines.{line}
use Rattle.ix_manage.specs.Journal.{journal_line}
use Rattle.ix_manage.specs.Replay.{HasBadScript}
use Rattle.ix_manage.specs.Trace.{fault_line, large_line, HasBadText, HasBadActions, StartsAbove}

-- what a journal's refusal says of the file
abbrev pub journal_words : JournalRefusal → List ℕ
journal_words Foreign = codes "foreign"
journal_words (Damaged at) = codes "damaged " ++ decimal at
journal_words Many = codes "many"
journal_words Unopened = codes "unopened"
journal_words There = codes "there"
journal_words (Word number) = codes "word " ++ decimal number
journal_words (Heavy number limit) =
    codes "large " ++ decimal number ++ codes " " ++ decimal limit

-- the line that says that the journal is that of another expression, of this text
abbrev pub other_line : List ℕ → List ℕ
other_line kept = journal_line (codes "other " ++ kept)

-- the word by which a line names a file
abbrev pub input_word : Input → List ℕ
input_word Expression = codes "expression"
input_word Actions = codes "actions"
input_word Script = codes "script"
input_word Lines = codes "lines"
input_word Values = codes "values"
input_word input.Journal = codes "journal"

-- the line that says that a file couldn't be read
abbrev pub lost_line : List ℕ → List ℕ
lost_line file = line (codes "refused file " ++ file)

-- the line that says why
abbrev pub refusal_line : Refusal → List ℕ
refusal_line (Bad file code at) = fault_line (input_word file) code at
refusal_line (Lost file) = lost_line (input_word file)
refusal_line (Large limit) = large_line limit
refusal_line (Unfollowed code number) = fault_line (codes "follow") code number
refusal_line (NotAllowed code number) = fault_line (codes "history") code number
refusal_line Words = line (codes "refused words")
refusal_line Candidates = line (codes "refused candidates")
refusal_line Disk = line (codes "refused disk")
refusal_line Wire = line (codes "refused wire")
refusal_line (Journal why) = journal_line (journal_words why)
refusal_line Turns = line (codes "refused turns")
refusal_line Memory = line (codes "refused memory")

-- the status of the run
abbrev pub refusal_status : Refusal → ℕ
refusal_status (Bad file code at) = 3
refusal_status (Lost file) = 4
refusal_status (Large limit) = 3
refusal_status (Unfollowed code number) = 11
refusal_status (NotAllowed code number) = 11
refusal_status Words = 2
refusal_status Candidates = 3
refusal_status Disk = 5
refusal_status Wire = 6
refusal_status (Journal why) = 8
refusal_status Turns = 7
refusal_status Memory = 9

-- why a text of an expression is refused
abbrev pub RefusesText : List ℕ → Refusal → Type 0
RefusesText text (Bad Expression code at) = IsFirstFault text code at
RefusesText text Memory = ⊤
RefusesText text _ = ⊥

-- why an expression file of this name is refused
abbrev pub RefusesExpression : FilesState → FilesState → List ℕ → Refusal → Type 0
RefusesExpression old new name (Bad Expression code at) = HasBadText old.contents name code at
RefusesExpression old new name (Lost Expression) = Rose old.faults new.faults
RefusesExpression old new name Memory = ⊤
RefusesExpression old new name _ = ⊥

-- why no engine is made of an expression file of this name under a limit
abbrev pub RefusesStart : FilesState → FilesState → List ℕ → ℕ → Refusal → Type 0
RefusesStart old new name limit (Bad Expression code at) = HasBadText old.contents name code at
RefusesStart old new name limit (Large most) =
    (most ≡ limit) × StartsAbove old.contents name limit
RefusesStart old new name limit (Lost Expression) = Rose old.faults new.faults
RefusesStart old new name limit Memory = ⊤
RefusesStart old new name limit _ = ⊥

-- why no engine is made of a form under a limit
abbrev pub RefusesForm : Form → ℕ → Refusal → Type 0
RefusesForm x limit (Large most) = (most ≡ limit) × (limit < tree_size x [])
RefusesForm x limit Memory = ⊤
RefusesForm x limit _ = ⊥

-- why no engine is made for a workload under a limit
abbrev pub RefusesWorkload : ℕ → Refusal → Type 0
RefusesWorkload limit (Large most) =
    (most ≡ limit) × ((x : Form) × StandsFor examinations x × (limit < tree_size x []))
RefusesWorkload limit Memory = ⊤
RefusesWorkload limit _ = ⊥

-- why an actions file of this name is refused
abbrev pub RefusesActions : FilesState → FilesState → List ℕ → Refusal → Type 0
RefusesActions old new name (Bad Actions code at) = HasBadActions old.contents name code at
RefusesActions old new name (Lost Actions) = Rose old.faults new.faults
RefusesActions old new name Memory = ⊤
RefusesActions old new name _ = ⊥

-- why a script of this name is refused
abbrev pub RefusesScript : FilesState → FilesState → List ℕ → Refusal → Type 0
RefusesScript old new name (Bad Script code at) = HasBadScript old.contents name code at
RefusesScript old new name (Lost Script) = Rose old.faults new.faults
RefusesScript old new name Memory = ⊤
RefusesScript old new name _ = ⊥

-- a file of lines of this name is too long
pub data HasLongLines (files : Option Listing) (name : List ℕ) : ℕ → ℕ → Type 0 where
  longer : HasLonger files name most_file_bytes → HasLongLines files name 7 most_file_bytes

-- why a file of lines of this name is refused
abbrev pub RefusesLines : FilesState → FilesState → List ℕ → Refusal → Type 0
RefusesLines old new name (Bad Lines code at) = HasLongLines old.contents name code at
RefusesLines old new name (Lost Lines) = Rose old.faults new.faults
RefusesLines old new name Memory = ⊤
RefusesLines old new name _ = ⊥

-- why bytes are refused as a script
abbrev pub IsBadScript : List ℕ → Refusal → Type 0
IsBadScript bytes (Bad Script code at) = IsFirstScriptFault bytes code at
IsBadScript bytes _ = ⊥
