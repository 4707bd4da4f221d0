-- From how a part of a run may end to how the run may, and what a refusal's line makes of it.
use Rattle.std.proofs.Common.{◌≡◌, ◌≢◌, ℕ, ◌≤◌, List, [], ◌++◌, Option, None, Result, Ok, Err, IfErr, IsErrAnd, string_bytes, refl, sym, ◌∙◌, ap, subst, arith}
use Rattle.std.specs.Io.KnownBytes.{append_known}
use Rattle.ix_outside.specs.Counts.{Rose}
use Rattle.ix_outside.specs.Sink.{AppendsPart}
use Rattle.ix_outside.specs.SinkState.{SinkState}
use Rattle.ix_outside.proofs.Counting.{Rose-earlier}
use Rattle.ix_manage.specs.declared.refusal.Refusal.{Refusal}
use Rattle.ix_manage.specs.declared.refusal.Refusal.TheVariants as refusals
use Rattle.ix_manage.specs.declared.refusal.Refusal.TheVariants.{Bad, Lost, Large, Unfollowed, NotAllowed, Candidates, Disk, Wire, Journal, Turns, Memory}
use Rattle.ix_manage.specs.declared.early_end.EarlyEnd.{EarlyEnd}
use Rattle.ix_manage.specs.declared.early_end.EarlyEnd.TheVariants.{Refused, Words, OtherExpression, Output}
use Rattle.ix_manage.specs.Ends.{Ended}
use Rattle.ix_manage.specs.Puts.{LastLine, Puts, put, lost}
use Rattle.ix_manage.specs.Session.{Session}
use Rattle.ix_manage.specs.inside.Leaves.{AwaitsLine, Finishes, LeavesOutput, PutsLastLine, StopsAfter, cut, written}
use Rattle.ix_manage.specs.inside.Refusal.{other_line, refusal_line, refusal_status}
use Rattle.ix_manage.proofs.Tracing.{append_nothing, append_twice}

-- what a `?` hands on has what holds of the fault that it hands on
pub handed_on : {T E : Type 0} (r : Result T E) (fault : E) (P : E → Type 0)
    → IsErrAnd r (λ e. e ≡ fault) → P fault → IfErr r P
handed_on (Ok x) fault P is it = absurd is
handed_on (Err e) fault P is it = subst P (sym is) it

-- a run that a `?` ends early leaves the output as one that ended so
pub ends_early : (May : ℕ → List ℕ → List ℕ → Option Session → Type 0) (old new : SinkState)
    {T : Type 0} (r : Result T EarlyEnd) (end : EarlyEnd)
    → IsErrAnd r (λ e. e ≡ end) → StopsAfter May old new end → LeavesOutput May old new r
ends_early May old new (Ok x) end is it = absurd is
ends_early May old new (Err e) end is it = subst (StopsAfter May old new) (sym is) it

-- a text was put whole, and nothing in part
pub puts_whole : (old new : SinkState) (whole : List ℕ) → new.written ≡ append_known old.written whole → Puts whole [] old new
puts_whole old new whole is = ([], ([], refl), is ∙ append_nothing _)

module _ {Part Whole : ℕ → List ℕ → List ℕ → Option Session → Type 0}
    (on : (status : ℕ) (whole part : List ℕ) (session : Option Session)
    → Part status whole part session → Whole status whole part session)
    (old new : SinkState)
  where
    ended_on : (status : ℕ) → Ended Part status old new → Ended Whole status old new
    ended_on status it = record {
      whole = it.whole;
      part = it.part;
      session = it.session;
      may = on status it.whole it.part it.session it.may;
      puts = it.puts;
      put_failed = it.put_failed;
    }

    awaits_on : (end : ℕ) (line : List ℕ) → AwaitsLine Part end line old new
        → AwaitsLine Whole end line old new
    awaits_on end line it = record {
      before = it.before;
      session = it.session;
      may = λ status whole part last. on status whole part it.session (it.may status whole part last);
      put = it.put;
    }

    pub leaves_on : {T : Type 0} (r : Result T EarlyEnd) → LeavesOutput Part old new r → LeavesOutput Whole old new r
    leaves_on (Ok done) it = ended_on 0 it
    leaves_on (Err (Refused refusal)) it = awaits_on (refusal_status refusal) (refusal_line refusal) it
    leaves_on (Err (Words text)) it = awaits_on 2 (string_bytes text) it
    leaves_on (Err (OtherExpression kept)) it = awaits_on 8 (other_line kept.items) it
    leaves_on (Err Output) it = ended_on 10 it

-- all was put
pub ended_whole : {May : ℕ → List ℕ → List ℕ → Option Session → Type 0} (old new : SinkState) (whole : List ℕ)
    (session : Option Session) → May 0 whole [] session → new.written ≡ append_known old.written whole
    → Ended May 0 old new
ended_whole old new whole session may is = record {
  whole = whole;
  part = [];
  session = session;
  may = may;
  puts = puts_whole old new whole is;
  put_failed = λ same. absurd (omega (arith, same));
}

-- a put failed
pub ended_cut : {May : ℕ → List ℕ → List ℕ → Option Session → Type 0} (old new : SinkState) (whole part : List ℕ)
    (session : Option Session) → May 10 whole part session → AppendsPart (append_known old.written whole) part new.written
    → Rose old.faults new.faults → Ended May 10 old new
ended_cut old new whole part session may puts rose = record {
  whole = whole;
  part = part;
  session = session;
  may = may;
  puts = puts;
  put_failed = λ same. rose;
}

-- the sink at the end, by another name
pub leaves_same : (May : ℕ → List ℕ → List ℕ → Option Session → Type 0) (start : SinkState)
    {sink final : SinkState} {T : Type 0} (r : Result T EarlyEnd)
    → LeavesOutput May start sink r → sink ≡ final → LeavesOutput May start final r
leaves_same May start r it same = subst (λ s. LeavesOutput May start s r) same it

module _ {May : ℕ → List ℕ → List ℕ → Option Session → Type 0} (end : ℕ) (line : List ℕ) where
  -- a refusal before anything was put
  pub nothing_put_of : (sink : SinkState)
      → ((status : ℕ) (whole part : List ℕ)
      → LastLine end [] line status whole part
      → May status whole part None)
      → AwaitsLine May end line sink sink
  nothing_put_of sink may = record {
    before = [];
    session = None;
    may = may;
    put = append_nothing sink.written;
  }

  -- its line is put, or its put fails
  line_finishes : (old mid new : SinkState) (status : ℕ) → AwaitsLine May end line old mid → end ≢ 10
      → old.faults ≤ mid.faults → PutsLastLine end line mid new status → Ended May status old new
  line_finishes old mid new status it below le (written is) =
      let whole : List ℕ = it.before ++ line in record {
        whole = whole;
        part = [];
        session = it.session;
        may = it.may end whole [] put;
        puts = puts_whole old new whole
            (is ∙ ap (λ known. append_known known line) it.put ∙ append_twice old.written it.before line);
        put_failed = λ same. absurd (below same);
      }
  line_finishes old mid new status it below le (cut part rose) =
      ended_cut old new it.before line it.session (it.may 10 it.before line lost)
      (subst (λ known. AppendsPart known line new.written) it.put part)
      (Rose-earlier old.faults mid.faults new.faults le rose)

-- a refusal before anything was put
pub nothing_put : {May : ℕ → List ℕ → List ℕ → Option Session → Type 0} (refusal : Refusal)
    (sink : SinkState)
    → ((status : ℕ) (whole part : List ℕ)
    → LastLine (refusal_status refusal) [] (refusal_line refusal) status whole part
    → May status whole part None)
    → AwaitsLine May (refusal_status refusal) (refusal_line refusal) sink sink
nothing_put refusal = nothing_put_of (refusal_status refusal) (refusal_line refusal)

-- no refusal has the status of a put that failed
not_ten : (refusal : Refusal) → refusal_status refusal ≢ 10
not_ten (Bad file code at) = λ same. omega (arith, same)
not_ten (Lost file) = λ same. omega (arith, same)
not_ten (Large limit) = λ same. omega (arith, same)
not_ten (Unfollowed code number) = λ same. omega (arith, same)
not_ten (NotAllowed code number) = λ same. omega (arith, same)
not_ten refusals.Words = λ same. omega (arith, same)
not_ten Candidates = λ same. omega (arith, same)
not_ten Disk = λ same. omega (arith, same)
not_ten Wire = λ same. omega (arith, same)
not_ten (Journal why) = λ same. omega (arith, same)
not_ten Turns = λ same. omega (arith, same)
not_ten Memory = λ same. omega (arith, same)

-- how a run ends whose last line is put where it stopped, or whose put fails
pub finish_ends : {May : ℕ → List ℕ → List ℕ → Option Session → Type 0} {T : Type 0} (how : Result T EarlyEnd)
    (old mid new : SinkState) (status : ℕ) → LeavesOutput May old mid how → old.faults ≤ mid.faults
    → Finishes how mid new status → Ended May status old new
finish_ends {May = May} (Ok done) old mid new status it le is =
    subst (λ s. Ended May status old s) (sym is.1) (subst (λ n. Ended May n old mid) (sym is.0) it)
finish_ends (Err (Refused refusal)) old mid new status it le is =
    line_finishes (refusal_status refusal) (refusal_line refusal) old mid new status it (not_ten refusal) le is
finish_ends (Err (Words text)) old mid new status it le is =
    line_finishes 2 (string_bytes text) old mid new status it (λ same. omega (arith, same)) le is
finish_ends (Err (OtherExpression kept)) old mid new status it le is =
    line_finishes 8 (other_line kept.items) old mid new status it (λ same. omega (arith, same)) le is
finish_ends {May = May} (Err Output) old mid new status it le is =
    subst (λ s. Ended May status old s) (sym is.1) (subst (λ n. Ended May n old mid) (sym is.0) it)
