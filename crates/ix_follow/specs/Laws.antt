-- The laws of following, as statements over lists of lines that are fed one behind the other.
use Rattle.std.specs.Prelude.{◌≡◌, ◌≢◌, ℕ, ◌+◌, ◌<◌, ◌≤◌, List, [], ◌∷◌, ◌++◌, length}
use Rattle.std.specs.Prelude.{Result, Err, IfErr}
use Rattle.ix_words.specs.Each.{Each}
use Rattle.ix_values.specs.PlainAction.{PlainAction, Word}
use Rattle.ix_expr.specs.Form.{Form}
use Rattle.ix_engine.specs.Allowed.{IsAllowed}
use Rattle.ix_follow.specs.declared.answers.Fed.{Fed}
use Rattle.ix_follow.specs.declared.answers.FollowFault.{FollowFault}
use Rattle.ix_follow.specs.declared.answers.FollowFault.TheVariants.{Memory}
use Rattle.ix_follow.specs.Following.{FollowsLine, HasAt, IsEntryLine}

-- lines fed one behind the other: the answers in their order, and the history behind all
pub data FeedsAll (x : Form) (limit : ℕ) : Word → List (List ℕ) → List (Result Fed FollowFault)
    → Word → Type 0 where
  none : {history : Word} → FeedsAll x limit history [] [] history
  more : {history next last : Word} {line : List ℕ} {lines : List (List ℕ)}
      {answer : Result Fed FollowFault} {answers : List (Result Fed FollowFault)}
      → FollowsLine x limit history line answer next → FeedsAll x limit next lines answers last
      → FeedsAll x limit history (line ∷ lines) (answer ∷ answers) last

-- a history of a manager with this expression and limit: each action is allowed behind those
-- before it
abbrev pub IsManaged : Form → ℕ → Word → Type 0
IsManaged x limit history = (before : Word) (a : PlainAction) (behind : Word)
    → history ≡ before ++ a ∷ behind → IsAllowed x limit before a

-- a line, where it is an entry, tells the history's action of its number
abbrev pub TellsOf : Word → List ℕ → Type 0
TellsOf history line = (number : ℕ) (a : PlainAction) → IsEntryLine line number a
    → HasAt history number a

-- the whole begins with the history
abbrev pub IsPrefix : Word → Word → Type 0
IsPrefix history whole = (behind : Word) × (whole ≡ history ++ behind)

-- the lines have the entries from the first number to the last one among them, in their order
pub data HasInOrder (last : ℕ) : ℕ → List (List ℕ) → Type 0 where
  all : {first : ℕ} {lines : List (List ℕ)} → last < first → HasInOrder last first lines
  here : {first : ℕ} {a : PlainAction} {line : List ℕ} {lines : List (List ℕ)}
      → IsEntryLine line first a → HasInOrder last (first + 1) lines
      → HasInOrder last first (line ∷ lines)
  later : {first : ℕ} {line : List ℕ} {lines : List (List ℕ)}
      → HasInOrder last first lines → HasInOrder last first (line ∷ lines)

-- fed lines that tell of a manager's history, whatever is lost, repeated or out of order, a new
-- follower with at least the manager's limit has a prefix of that history, and no fault but want of
-- memory came
abbrev pub FollowersHoldAPrefix : Type 0
FollowersHoldAPrefix =
    (x : Form) (limit most : ℕ) (whole history : Word) (lines : List (List ℕ))
    (answers : List (Result Fed FollowFault))
    → most ≤ limit → IsManaged x most whole → Each (TellsOf whole) lines
    → FeedsAll x limit [] lines answers history
    → IsPrefix history whole × Each (λ answer. IfErr answer (λ fault. fault ≡ Memory)) answers

-- where memory never ran out and the lines have the entries from 1 to a number among them, in their
-- order, the follower has at least so many actions
abbrev pub FollowersCatchUp : Type 0
FollowersCatchUp =
    (x : Form) (limit most : ℕ) (whole history : Word) (lines : List (List ℕ))
    (answers : List (Result Fed FollowFault)) (number : ℕ)
    → most ≤ limit → IsManaged x most whole → Each (TellsOf whole) lines
    → FeedsAll x limit [] lines answers history
    → Each (λ answer. answer ≢ Err Memory) answers → HasInOrder number 1 lines
    → number ≤ length history
