-- How a part of a run leaves the output, a refusal's line not put yet; and how that line is put.
use Rattle.std.specs.Prelude.{◌≡◌, ℕ, List, Option, Result, Ok, Err, string_bytes}
use Rattle.std.specs.Io.KnownBytes.{append_known}
use Rattle.ix_outside.specs.Counts.{Rose}
use Rattle.ix_outside.specs.Sink.{AppendsPart}
use Rattle.ix_outside.specs.SinkState.{SinkState}
use Rattle.ix_manage.specs.declared.early_end.EarlyEnd.{EarlyEnd}
use Rattle.ix_manage.specs.declared.early_end.EarlyEnd.TheVariants.{Refused, Words, OtherExpression}
use Rattle.ix_manage.specs.declared.early_end.EarlyEnd.TheVariants.{Output}
use Rattle.ix_manage.specs.Ends.{Ended}
use Rattle.ix_manage.specs.Puts.{LastLine}
use Rattle.ix_manage.specs.Session.{Session}
use Rattle.ix_manage.specs.inside.Refusal.{other_line, refusal_line, refusal_status}

-- a text was put, behind which the run may end with this status and line
pub record AwaitsLine (May : ℕ → List ℕ → List ℕ → Option Session → Type 0) (end : ℕ)
    (line : List ℕ) (old new : SinkState) : Type 0 where
  pub before : List ℕ
  pub session : Option Session
  pub may : (status : ℕ) (whole part : List ℕ)
      → LastLine end before line status whole part
      → May status whole part session
  pub put : new.written ≡ append_known old.written before

-- where it stops: all was put but the refusal's line, or a put failed
abbrev pub StopsAfter : (ℕ → List ℕ → List ℕ → Option Session → Type 0)
    → SinkState → SinkState → EarlyEnd → Type 0
StopsAfter May old new (Refused refusal) =
    AwaitsLine May (refusal_status refusal) (refusal_line refusal) old new
StopsAfter May old new (Words text) = AwaitsLine May 2 (string_bytes text) old new
StopsAfter May old new (OtherExpression kept) =
    AwaitsLine May 8 (other_line kept.items) old new
StopsAfter May old new Output = Ended May 10 old new

-- all was put, with status 0, or it stopped
abbrev pub LeavesOutput : {T : Type 0} → (ℕ → List ℕ → List ℕ → Option Session → Type 0)
    → SinkState → SinkState → Result T EarlyEnd → Type 0
LeavesOutput May old new (Ok done) = Ended May 0 old new
LeavesOutput May old new (Err stop) = StopsAfter May old new stop

-- a last line was put, and the run has this status; or its put failed, and the run has status 10
pub data PutsLastLine (end : ℕ) (line : List ℕ) (old new : SinkState) : ℕ → Type 0 where
  written : new.written ≡ append_known old.written line → PutsLastLine end line old new end
  cut : AppendsPart old.written line new.written → Rose old.faults new.faults
      → PutsLastLine end line old new 10

-- the last line of a run that ended or stopped so was put, where it has one; by the status
abbrev pub Finishes : {T : Type 0} → Result T EarlyEnd → SinkState → SinkState → ℕ → Type 0
Finishes (Ok done) old new status = (status ≡ 0) × (new ≡ old)
Finishes (Err (Refused refusal)) old new status =
    PutsLastLine (refusal_status refusal) (refusal_line refusal) old new status
Finishes (Err (Words text)) old new status = PutsLastLine 2 (string_bytes text) old new status
Finishes (Err (OtherExpression kept)) old new status =
    PutsLastLine 8 (other_line kept.items) old new status
Finishes (Err Output) old new status = (status ≡ 10) × (new ≡ old)
