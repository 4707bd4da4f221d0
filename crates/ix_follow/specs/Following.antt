-- What a follower of the log answers to a line, and what its history is then.
use Rattle.std.specs.Prelude.{◌≡◌, ◌≢◌, ℕ, ◌+◌, ◌-◌, ◌<◌, ◌≤◌, List, [], ◌∷◌, ◌++◌, length}
use Rattle.std.specs.Prelude.{slice_get, Result, Ok, Err, Some}
use Rattle.ix_engine.specs.Limits.{most_actions}
use Rattle.ix_values.specs.PlainAction.{PlainAction, Word}
use Rattle.ix_expr.specs.Form.{Form}
use Rattle.ix_can.specs.TreeOf.{tree_size}
use Rattle.ix_engine.specs.Allowed.{IsPermitted, IsAllowed}
use Rattle.ix_proto.specs.Replies.{IsReply, reply_text}
use Rattle.ix_proto.specs.declared.reply.Reply.TheVariants.{Entry, Refused}
use Rattle.ix_follow.specs.declared.answers.Fed.{Fed}
use Rattle.ix_follow.specs.declared.answers.Fed.TheVariants.{Other, LeftOut, Early, Old, Taken}
use Rattle.ix_follow.specs.declared.answers.FollowFault.{FollowFault}
use Rattle.ix_follow.specs.declared.answers.FollowFault.TheVariants.{Differs, NotPartial, Full}
use Rattle.ix_follow.specs.declared.answers.FollowFault.TheVariants.{Over, Memory}

-- the line is the text of an entry with this number, from 1, and this action
pub record IsEntryLine (line : List ℕ) (number : ℕ) (a : PlainAction) : Type 0 where
  pub entry : IsReply (Entry number a)
  pub from_one : 1 ≤ number
  pub text : reply_text (Entry number a) ≡ line

-- the line refuses an entry that is left out of the journal
abbrev pub IsLeftOut : List ℕ → Type 0
IsLeftOut line = line ≡ reply_text (Refused 33 0)

-- the history has this action at this number, counted from 1
abbrev pub HasAt : Word → ℕ → PlainAction → Type 0
HasAt history number a = slice_get history (number - 1) ≡ Some a

-- the number is the next one of the history
abbrev pub IsNextNumber : Word → ℕ → Type 0
IsNextNumber history number = number ≡ length history + 1

-- What is answered to the entry of this number and this action, for an expression and a limit of
-- Size, by a follower with this history. Memory may run out only where the entry is the next one,
-- its action is permitted and there is room for it.
abbrev pub Meets : Form → ℕ → Word → ℕ → PlainAction → Result Fed FollowFault → Type 0
Meets x limit history n a (Ok Other) = ⊥
Meets x limit history n a (Ok LeftOut) = ⊥
Meets x limit history n a (Ok (Early m)) = (m ≡ n) × (length history + 1 < n)
Meets x limit history n a (Ok (Old m)) = (m ≡ n) × HasAt history n a
Meets x limit history n a (Ok (Taken m)) =
    (m ≡ n) × IsNextNumber history n × IsAllowed x limit history a
Meets x limit history n a (Err (Differs m)) =
    (m ≡ n) × ((kept : PlainAction) × HasAt history n kept × (kept ≢ a))
Meets x limit history n a (Err (NotPartial m)) =
    (m ≡ n) × IsNextNumber history n × ¬ IsPermitted x history a
Meets x limit history n a (Err (Full m)) =
    (m ≡ n) × IsNextNumber history n × IsPermitted x history a × (length history ≡ most_actions)
Meets x limit history n a (Err (Over m most)) =
    (m ≡ n) × (most ≡ limit) × IsNextNumber history n × IsPermitted x history a
    × (length history < most_actions) × (limit < tree_size x (history ++ a ∷ []))
Meets x limit history n a (Err Memory) =
    IsNextNumber history n × IsPermitted x history a × (length history < most_actions)

-- the history behind the answer: a taken action is appended, and nothing else changes
abbrev pub LeavesFollowed : Word → PlainAction → Result Fed FollowFault → Word → Type 0
LeavesFollowed history a (Ok (Taken m)) after = after ≡ history ++ a ∷ []
LeavesFollowed history a _ after = after ≡ history

-- a line fed to a follower with this history: its answer, and the history after it
pub data FollowsLine (x : Form) (limit : ℕ) (history : Word) (line : List ℕ)
    (answer : Result Fed FollowFault) (after : Word) : Type 0 where
  no_entry : ((number : ℕ) (a : PlainAction) → ¬ IsEntryLine line number a) → ¬ IsLeftOut line
      → answer ≡ Ok Other → after ≡ history → FollowsLine x limit history line answer after
  left_out : IsLeftOut line
      → answer ≡ Ok LeftOut → after ≡ history → FollowsLine x limit history line answer after
  entry : {number : ℕ} {a : PlainAction}
      → IsEntryLine line number a → Meets x limit history number a answer
      → LeavesFollowed history a answer after
      → FollowsLine x limit history line answer after
