-- Feeding the lines of a file, so far and to the end.
use Rattle.std.proofs.Common.{◌≡◌, ℕ, ◌≤◌, List, [], ◌∷◌, ◌++◌, length, None, Result, Ok, Err, IsErrAnd, refl, sym, ap, subst, ◌∙◌, append_assoc}
use Rattle.std.specs.Io.KnownBytes.{append_known}
use Rattle.std.proofs.lemmas.List.{append-nil}
use Rattle.std.proofs.lemmas.Result.{err_from_is_err_and}
use Rattle.ix_values.specs.PlainAction.{Word}
use Rattle.ix_expr.specs.Form.{Form}
use Rattle.ix_engine.specs.inside.Engine.{EngineState}
use Rattle.ix_lines.specs.TextLines.{lines_of}
use Rattle.ix_lines.proofs.LineLists.{lines_of-none}
use Rattle.ix_outside.specs.Counts.{Rose}
use Rattle.ix_outside.specs.Sink.{AppendsPart}
use Rattle.ix_outside.specs.SinkState.{SinkState}
use Rattle.ix_outside.proofs.Counting.{Rose-earlier}
use Rattle.ix_follow.specs.declared.answers.Fed.{Fed}
use Rattle.ix_follow.specs.declared.answers.FollowFault.{FollowFault}
use Rattle.ix_follow.specs.declared.answers.FollowFault.TheVariants.{Differs, NotPartial, Full, Over, Memory}
use Rattle.ix_follow.specs.Following.{FollowsLine}
use Rattle.ix_manage.specs.FollowLines.{Follows, FollowsTo, fed_line, answered, refused, short, ends, lost_answer}
use Rattle.ix_manage.specs.Puts.{LastLine}
use Rattle.ix_manage.specs.Trace.{Verdict}
use Rattle.ix_manage.specs.declared.early_end.EarlyEnd.{EarlyEnd}
use Rattle.ix_manage.specs.declared.early_end.EarlyEnd.TheVariants.{Refused, Words, OtherExpression, Output}
use Rattle.ix_manage.specs.inside.Following.{FollowsLines, PutsFed, StopsFed, follow_end, refusal_of}
use Rattle.ix_manage.specs.inside.Leaves.{AwaitsLine, StopsAfter}
use Rattle.ix_manage.specs.inside.Refusal.{refusal_line, refusal_status}

-- the same under an equal form and an equal limit
pub feeds_same : {x y : Form} {limit most : ℕ} {history after : Word} {bytes : List ℕ} {answer : Result Fed FollowFault}
    → y ≡ x → most ≡ limit → FollowsLine y most history bytes answer after → FollowsLine x limit history bytes answer after
feeds_same {x = x} {most = most} {history = history} {after = after} {bytes = bytes} {answer = answer} form bound fed =
    subst (λ l. FollowsLine x l history bytes answer after) bound (subst (λ z. FollowsLine z most history bytes answer after) form fed)

module _ {T : Type 0} (r : Result T EarlyEnd) (s : EngineState) (bytes : List ℕ) (after : Word) (old new : SinkState) where
  -- a line was refused, and nothing was put
  pub fed_refused : (why : FollowFault) → IsErrAnd r (λ e. e ≡ follow_end why)
      → FollowsLine s.form s.limit s.history bytes (Err why) after → new.written ≡ old.written
      → PutsFed s bytes after old new r
  fed_refused why is fed still =
      let p = err_from_is_err_and r is in
      subst (PutsFed s bytes after old new) (sym p.1)
      (subst (StopsFed s bytes after old new) (sym p.2) (why, fed, refl, still))

  -- the put of a line's answer failed
  pub fed_unput : (answer : Fed) → IsErrAnd r (λ e. e ≡ Output)
      → FollowsLine s.form s.limit s.history bytes (Ok answer) after
      → AppendsPart old.written (fed_line answer) new.written → Rose old.faults new.faults
      → PutsFed s bytes after old new r
  fed_unput answer is fed part rose =
      let p = err_from_is_err_and r is in
      subst (PutsFed s bytes after old new) (sym p.1)
      (subst (StopsFed s bytes after old new) (sym p.2) (answer, fed, part, rose))

-- one line more stands before what is left
pub fed_step : (all rest next bytes : List ℕ) (front : List (List ℕ)) → lines_of rest ≡ bytes ∷ lines_of next
    → lines_of all ≡ front ++ lines_of rest → lines_of all ≡ (front ++ bytes ∷ []) ++ lines_of next
fed_step all rest next bytes front cut so_far =
    so_far ∙ ap (λ lines. front ++ lines) cut ∙ sym (append_assoc front (bytes ∷ []) (lines_of next))

module _ (x : Form) (limit : ℕ) (all rest : List ℕ) (front : List (List ℕ)) (history : Word) (text : List ℕ) where
  -- all lines are answered
  pub follow_ends : (last : List ℕ) → length rest ≡ 0 → lines_of all ≡ front ++ lines_of rest
      → Follows x limit front text history → Verdict x history last
      → (status : ℕ) (whole part : List ℕ) → LastLine 0 text last status whole part
      → FollowsLines x limit all status whole part None
  follow_ends last none so_far follows verdict status whole part put_last =
      let every = so_far ∙ ap (λ lines. front ++ lines) (lines_of-none rest none) ∙ append-nil front in
      record {
        ends = ends (answered (subst (λ lines. Follows x limit lines text history) (sym every) follows) verdict) put_last;
        no_session = refl;
      }

  module _ (next bytes : List ℕ) (cut : lines_of rest ≡ bytes ∷ lines_of next) (so_far : lines_of all ≡ front ++ lines_of rest)
      (follows : Follows x limit front text history)
    where
      split : front ++ bytes ∷ lines_of next ≡ lines_of all
      split = sym (so_far ∙ ap (λ lines. front ++ lines) cut)

      -- a line that is refused ends it with the refusal's line
      refuses : (why : FollowFault) (after : Word) → FollowsLine x limit history bytes (Err why) after
          → FollowsTo x limit (lines_of all) (refusal_status (refusal_of why)) text (refusal_line (refusal_of why))
      refuses (Differs number) after fed = refused (lines_of next) (Differs number) 61 number split follows fed (refl, refl)
      refuses (NotPartial number) after fed = refused (lines_of next) (NotPartial number) 62 number split follows fed (refl, refl)
      refuses (Full number) after fed = refused (lines_of next) (Full number) 63 number split follows fed (refl, refl)
      refuses (Over number most) after fed = refused (lines_of next) (Over number most) 64 number split follows fed (refl, refl)
      refuses Memory after fed = short (lines_of next) split follows fed

      -- a line is refused, or the put of its answer fails
      pub follow_stops : (s : EngineState) (after : Word) (start was now : SinkState)
          → s.form ≡ x → s.limit ≡ limit → s.history ≡ history
          → was.written ≡ append_known start.written text → start.faults ≤ was.faults
          → (stop : EarlyEnd) → StopsFed s bytes after was now stop
          → StopsAfter (FollowsLines x limit all) start now stop
      follow_stops s after start was now form most same put_before le (Refused refusal) it =
          let fed = subst (λ (h : Word). FollowsLine x limit h bytes (Err it.0) after) same (feeds_same form most it.1) in
          subst (λ r. AwaitsLine (FollowsLines x limit all) (refusal_status r) (refusal_line r) start now) (sym it.2)
          (record {
            before = text;
            session = None;
            may = λ status whole part last. record { ends = ends (refuses it.0 after fed) last; no_session = refl };
            put = it.3 ∙ put_before;
          })
      follow_stops s after start was now form most same put_before le (Words words) it = absurd it
      follow_stops s after start was now form most same put_before le (OtherExpression kept) it = absurd it
      follow_stops s after start was now form most same put_before le Output it =
          let fed = subst (λ (h : Word). FollowsLine x limit h bytes (Ok it.0) after) same (feeds_same form most it.1) in
          record {
            whole = text;
            part = fed_line it.0;
            session = None;
            may = record { ends = lost_answer (lines_of next) it.0 split follows fed; no_session = refl };
            puts = subst (λ known. AppendsPart known (fed_line it.0) now.written) put_before it.2;
            put_failed = λ ten. Rose-earlier _ _ _ le it.3;
          }
