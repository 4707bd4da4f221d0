-- What `trace` puts.
use Rattle.std.specs.Prelude.{◌≡◌, ℕ, ◌<◌, ◌≤◌, List, [], ◌∷◌, ◌++◌, length, Option, codes, decimal}
use Rattle.ix_manage.specs.Limits.{most_file_bytes}
use Rattle.ix_engine.specs.Limits.{most_actions}
use Rattle.ix_values.specs.PlainAction.{PlainAction, Word}
use Rattle.ix_expr.specs.Form.{Form}
use Rattle.ix_expr.specs.Meaning.{IsComplete}
use Rattle.ix_parse.specs.Limits.{most_text}
use Rattle.ix_parse.specs.Faults.{StandsFor, IsPlaced, IsFirstFault}
use Rattle.ix_parse.specs.Symbols.{Meaning}
use Rattle.ix_outside.specs.Files.{Listing, HasFile, HasLonger}
use Rattle.ix_can.specs.TreeOf.{tree_size}
use Rattle.ix_engine.specs.Allowed.{IsPermitted}
use Rattle.ix_manage.specs.ActionLines.{HasActions, IsFirstActionFault, line}
use Rattle.ix_manage.specs.Puts.{LastLine}

-- The lines for actions after a history, and the history after them, under a limit of Size. An
-- action that isn't permitted is answered `no`; any other `full` where the history has 1,000,000
-- actions, else `large` where the Size of the tree of the history with it is above the limit, and
-- else `yes`. A `yes` action joins the history.
pub data TraceAnswers (x : Form) (limit : ℕ) : Word → Word → List ℕ → Word → Type 0 where
  done : {history : Word} → TraceAnswers x limit history [] [] history
  no : {history actions after : Word} {action : PlainAction} {text : List ℕ}
      → (IsPermitted x history action → ⊥)
      → TraceAnswers x limit history actions text after
      → TraceAnswers x limit history (action ∷ actions) (line (codes "no") ++ text) after
  full : {history actions after : Word} {action : PlainAction} {text : List ℕ}
      → IsPermitted x history action → length history ≡ most_actions
      → TraceAnswers x limit history actions text after
      → TraceAnswers x limit history (action ∷ actions) (line (codes "full") ++ text) after
  large : {history actions after : Word} {action : PlainAction} {text : List ℕ}
      → IsPermitted x history action → length history < most_actions
      → limit < tree_size x (history ++ action ∷ [])
      → TraceAnswers x limit history actions text after
      → TraceAnswers x limit history (action ∷ actions) (line (codes "large") ++ text) after
  yes : {history actions after : Word} {action : PlainAction} {text : List ℕ}
      → IsPermitted x history action → length history < most_actions
      → tree_size x (history ++ action ∷ []) ≤ limit
      → TraceAnswers x limit (history ++ action ∷ []) actions text after
      → TraceAnswers x limit history (action ∷ actions) (line (codes "yes") ++ text) after

-- the last line
pub data Verdict (x : Form) (history : Word) : List ℕ → Type 0 where
  complete : IsComplete x [] history → Verdict x history (line (codes "complete"))
  partial : (IsComplete x [] history → ⊥) → Verdict x history (line (codes "partial"))

-- the file of this name stands for the form
pub record ReadsForm (files : Option Listing) (name : List ℕ) (x : Form) : Type 0 where
  pub text : List ℕ
  pub file : HasFile files name text
  pub stands : StandsFor text x

-- the file of this name stands for the form, and its nodes start at these places
pub record ReadsPlaced (files : Option Listing) (name : List ℕ) (x : Meaning) : Type 0 where
  pub text : List ℕ
  pub file : HasFile files name text
  pub placed : IsPlaced text x

-- the file of this name stands for the form, and the Size of its initial tree is within the limit
pub record Starts (files : Option Listing) (name : List ℕ) (limit : ℕ) (x : Form) : Type 0 where
  pub reads : ReadsForm files name x
  pub small : tree_size x [] ≤ limit

-- the file of this name stands for a form, and the Size of its initial tree is above the limit
pub record StartsAbove (files : Option Listing) (name : List ℕ) (limit : ℕ) : Type 0 where
  pub form : Form
  pub reads : ReadsForm files name form
  pub above : limit < tree_size form []

-- the file of this name has these actions
pub record ReadsActions (files : Option Listing) (name : List ℕ) (actions : Word) : Type 0 where
  pub bytes : List ℕ
  pub file : HasFile files name bytes
  pub short : length bytes ≤ most_file_bytes
  pub has : HasActions bytes actions

-- the text of the expression file of this name has this fault
pub data HasBadText (files : Option Listing) (name : List ℕ) : ℕ → ℕ → Type 0 where
  longer : HasLonger files name most_text → HasBadText files name 1 most_text
  within : {text : List ℕ} {code at : ℕ}
      → HasFile files name text → IsFirstFault text code at
      → HasBadText files name code at

-- the actions file of this name has this fault: its length, or that of its first line that is no
-- action's text
pub data HasBadActions (files : Option Listing) (name : List ℕ) : ℕ → ℕ → Type 0 where
  too_long : HasLonger files name most_file_bytes → HasBadActions files name 6 most_file_bytes
  bad_line : {bytes : List ℕ} {code at : ℕ}
      → HasFile files name bytes → length bytes ≤ most_file_bytes → IsFirstActionFault bytes code at
      → HasBadActions files name code at

-- the line that says which of the two files has a fault, and which
abbrev pub fault_line : List ℕ → ℕ → ℕ → List ℕ
fault_line file code at = line
    (codes "refused " ++ file ++ codes " " ++ decimal code ++ codes " at " ++ decimal at)

-- the line that says that the initial tree is above the limit
abbrev pub large_line : ℕ → List ℕ
large_line limit = line (codes "refused expression 14 large " ++ decimal limit)

-- What `trace` may put for a form, a limit and actions, by the status: the answers to all actions
-- and the last line; where memory ran out, the answers to a front of them and the line that says
-- so; where the put of an answer failed, the answers before it.
pub data Traces (x : Form) (limit : ℕ) (actions : Word) : ℕ → List ℕ → List ℕ → Type 0 where
  answered : {history : Word} {text last : List ℕ} {status : ℕ} {whole part : List ℕ}
      → TraceAnswers x limit [] actions text history → Verdict x history last
      → LastLine 0 text last status whole part
      → Traces x limit actions status whole part
  short : {front history : Word} {text : List ℕ} {status : ℕ} {whole part : List ℕ} (rest : Word)
      → front ++ rest ≡ actions → TraceAnswers x limit [] front text history
      → LastLine 9 text (line (codes "refused memory")) status whole part
      → Traces x limit actions status whole part
  lost_answer : {front history after : Word} {action : PlainAction} {whole part : List ℕ}
      (rest : Word)
      → front ++ action ∷ rest ≡ actions → TraceAnswers x limit [] front whole history
      → TraceAnswers x limit history (action ∷ []) part after
      → Traces x limit actions 10 whole part
