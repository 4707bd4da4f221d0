-- What a call makes of a link to a manager in memory, beside what each link says of its calls.
use Rattle.std.specs.Prelude.{◌≡◌, ◌⊎◌, ℕ, ◌<◌, false, List, [], Option, Some}
use Rattle.std.specs.Prelude.{Result, IsOk, IsErr, IsSome, is_none, if◌then◌else◌}
use Rattle.ix_can.specs.TreeOf.{tree_size}
use Rattle.ix_expr.specs.Form.{Form}
use Rattle.ix_outside.specs.Counts.{one_more, Rose}
use Rattle.ix_parse.specs.Faults.{StandsFor}
use Rattle.ix_proto.specs.Requests.{PlainRequest}
use Rattle.ix_manager.specs.Handled.{ManagerState}
use Rattle.ix_manager.specs.declared.faults.StartFault.{StartFault}
use Rattle.ix_manager.specs.declared.faults.StartFault.TheVariants as fault
use Rattle.ix_manager.specs.inside.StartAnswers.{IsStartFault}
use Rattle.ix_client.specs.Links.{IsExpected, IsLineWith}
use Rattle.ix_client.specs.declared.link.LinkFailed.{LinkFailed}
use Rattle.ix_client.specs.inside.ManagerLinks.{ManagerLinkState, told_at}
use Rattle.ix_client.specs.inside.Passing.{StartedFrom}

-- why no manager of the expression starts from this image of the file
abbrev pub FailsToStart : Form → ℕ → List ℕ → StartFault → Type 0
FailsToStart x limit image (fault.Large l) = (l ≡ limit) × (limit < tree_size x [])
FailsToStart x limit image why = IsStartFault x limit image why

-- and none of the expression that the text stands for
abbrev pub MakesNone : List ℕ → ℕ → List ℕ → StartFault → Type 0
MakesNone text limit image why = (x : Form) → StandsFor text x → FailsToStart x limit image why

-- one more fault was counted where no manager is there
abbrev pub CountsNone : Option ManagerState → ℕ → ℕ → Type 0
CountsNone manager old new = new ≡ (if is_none manager then one_more old else old)

-- What a call of a link that had a manager counts. No manager is left only where a start failed,
-- which is counted. A call that works counts no other failure, and no unexpected line where an
-- expected one came; one that fails counts no line.
pub record CountsCall (asked : PlainRequest) (result : Result (Unit {0}) LinkFailed)
    (line : List ℕ) (old new : ManagerLinkState) : Type 0 where
  pub kept : IsSome new.manager ⊎ Rose old.faults new.faults
  pub faults : IsOk result → IsSome new.manager → new.faults ≡ old.faults
  pub balks : IsOk result → IsLineWith (IsExpected asked) line → new.balks ≡ old.balks
  pub lines : IsErr result → new.balks ≡ old.balks

-- Such a call fails where it is told to, and counts so. Where it is told to fail in front of its
-- step, a manager was started from the file as it was.
pub record CallsManager (asked : PlainRequest) (result : Result (Unit {0}) LinkFailed)
    (line : List ℕ) (old new : ManagerLinkState) : Type 0 where
  pub counts : CountsCall asked result line old new
  pub fails : IsSome (told_at old.calls old.fail) → IsErr result
  pub front : told_at old.calls old.fail ≡ Some false → (m : ManagerState)
      → new.manager ≡ Some m → StartedFrom old.text old.limit m old.site new.site
