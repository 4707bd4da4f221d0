-- What `follow` puts.
use Rattle.std.specs.Prelude.{◌≡◌, ℕ, ◌≤◌, List, [], ◌∷◌, ◌++◌, length, Option, codes, decimal}
use Rattle.std.specs.Prelude.{Ok, Err}
use Rattle.ix_manage.specs.Limits.{most_file_bytes}
use Rattle.ix_values.specs.PlainAction.{Word}
use Rattle.ix_expr.specs.Form.{Form}
use Rattle.ix_outside.specs.Files.{Listing, HasFile}
use Rattle.ix_follow.specs.declared.answers.Fed.{Fed}
use Rattle.ix_follow.specs.declared.answers.Fed.TheVariants.{Other, LeftOut, Early, Old, Taken}
use Rattle.ix_follow.specs.declared.answers.FollowFault.{FollowFault}
use Rattle.ix_follow.specs.declared.answers.FollowFault.TheVariants.{Differs, NotPartial, Full}
use Rattle.ix_follow.specs.declared.answers.FollowFault.TheVariants.{Over, Memory}
use Rattle.ix_follow.specs.Following.{FollowsLine}
use Rattle.ix_manage.specs.ActionLines.{line}
use Rattle.ix_manage.specs.Puts.{LastLine}
use Rattle.ix_manage.specs.Trace.{Verdict, fault_line}

-- the line of an answer
abbrev pub fed_line : Fed → List ℕ
fed_line Other = line (codes "other")
fed_line LeftOut = line (codes "left out")
fed_line (Early number) = line (codes "early " ++ decimal number)
fed_line (Old number) = line (codes "old " ++ decimal number)
fed_line (Taken number) = line (codes "taken " ++ decimal number)

-- a fault has this code, at the entry of this number
abbrev pub HasCode : FollowFault → ℕ → ℕ → Type 0
HasCode (Differs at) code number = (code ≡ 61) × (number ≡ at)
HasCode (NotPartial at) code number = (code ≡ 62) × (number ≡ at)
HasCode (Full at) code number = (code ≡ 63) × (number ≡ at)
HasCode (Over at limit) code number = (code ≡ 64) × (number ≡ at)
HasCode Memory code number = ⊥

-- lines that are fed to a new follower: the lines of their answers, and the history behind them
pub data Follows (x : Form) (limit : ℕ) : List (List ℕ) → List ℕ → Word → Type 0 where
  none : Follows x limit [] [] []
  more : {lines : List (List ℕ)} {text bytes : List ℕ} {history next : Word} (answer : Fed)
      → Follows x limit lines text history → FollowsLine x limit history bytes (Ok answer) next
      → Follows x limit (lines ++ bytes ∷ []) (text ++ fed_line answer) next

-- How feeding the lines ends: its status, what is put of the answers, and the last line. All are
-- answered; an entry is refused; or memory runs out for one.
pub data FollowsTo (x : Form) (limit : ℕ) (lines : List (List ℕ)) : ℕ → List ℕ → List ℕ → Type 0
  where
    answered : {history : Word} {text last : List ℕ}
        → Follows x limit lines text history → Verdict x history last
        → FollowsTo x limit lines 0 text last
    refused : {front : List (List ℕ)} {bytes text : List ℕ} {history after : Word}
        (rest : List (List ℕ)) (fault : FollowFault) (code number : ℕ)
        → front ++ bytes ∷ rest ≡ lines → Follows x limit front text history
        → FollowsLine x limit history bytes (Err fault) after → HasCode fault code number
        → FollowsTo x limit lines 11 text (fault_line (codes "follow") code number)
    short : {front : List (List ℕ)} {bytes text : List ℕ} {history after : Word}
        (rest : List (List ℕ))
        → front ++ bytes ∷ rest ≡ lines → Follows x limit front text history
        → FollowsLine x limit history bytes (Err Memory) after
        → FollowsTo x limit lines 9 text (line (codes "refused memory"))

-- what `follow` may put for a form, a limit and lines, by the status: where the put of an answer
-- failed, the answers before it
pub data FollowEnds (x : Form) (limit : ℕ) (lines : List (List ℕ)) : ℕ → List ℕ → List ℕ → Type 0
  where
    ends : {end status : ℕ} {text last whole part : List ℕ}
        → FollowsTo x limit lines end text last → LastLine end text last status whole part
        → FollowEnds x limit lines status whole part
    lost_answer : {front : List (List ℕ)} {bytes whole : List ℕ} {history after : Word}
        (rest : List (List ℕ)) (answer : Fed)
        → front ++ bytes ∷ rest ≡ lines → Follows x limit front whole history
        → FollowsLine x limit history bytes (Ok answer) after
        → FollowEnds x limit lines 10 whole (fed_line answer)

-- the file of this name has these bytes, within the length of a file of lines
pub record ReadsLines (files : Option Listing) (name bytes : List ℕ) : Type 0 where
  pub file : HasFile files name bytes
  pub short : length bytes ≤ most_file_bytes
