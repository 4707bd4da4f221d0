-- A trace so far, and how it goes on.
use Rattle.std.proofs.Common.{◌≡◌, ◌≢◌, ℕ, ◌≤◌, List, [], ◌∷◌, ◌++◌, length, map, Option, Some, None, refl, sym, ap, subst}
use Rattle.std.proofs.Common.{◌∙◌, append_assoc, arith}
use Rattle.std.specs.Prelude.{codes}
use Rattle.std.specs.Io.KnownBytes.{append_known}
use Rattle.std.proofs.lemmas.List.{append-nil, map-append}
use Rattle.ix_words.specs.Each.{Each, no_item, item}
use Rattle.ix_words.proofs.Each.{Each-append}
use Rattle.ix_values.specs.Faults.{IsActionText}
use Rattle.ix_values.specs.PlainAction.{PlainAction, Word, text_of}
use Rattle.ix_values.specs.Texts.{IsAction}
use Rattle.ix_expr.specs.Form.{Form}
use Rattle.ix_outside.specs.Counts.{Rose}
use Rattle.ix_outside.specs.Sink.{AppendsPart}
use Rattle.ix_outside.specs.SinkState.{SinkState}
use Rattle.ix_outside.proofs.Counting.{Rose-earlier}
use Rattle.ix_manage.specs.ActionLines.{HasActions, line}
use Rattle.ix_lines.specs.TextLines.{lines_of}
use Rattle.ix_manage.specs.Trace.{TraceAnswers, Verdict, answered, short, lost_answer}
use Rattle.ix_manage.specs.Ends.{Ended}
use Rattle.ix_manage.specs.Puts.{LastLine}
use Rattle.ix_manage.specs.declared.early_end.EarlyEnd.{EarlyEnd}
use Rattle.ix_manage.specs.declared.early_end.EarlyEnd.TheVariants.{Refused, Words, OtherExpression, Output}
use Rattle.ix_manage.specs.inside.Leaves.{AwaitsLine, StopsAfter}
use Rattle.ix_manage.specs.inside.Refusal.{refusal_line, refusal_status}
use Rattle.ix_manage.specs.inside.TracesLines.{StopsAnswer, TracesLines}
use Rattle.ix_manage.proofs.Answering.{answers_none, ends_within}
use Rattle.ix_lines.proofs.LineLists.{lines_of-none}

pub append_nothing : (known : Option (List ℕ)) → known ≡ append_known known []
append_nothing None = refl
append_nothing (Some bytes) = ap Some (sym (append-nil bytes))

pub append_twice : (known : Option (List ℕ)) (first second : List ℕ) → append_known (append_known known first) second ≡ append_known known (first ++ second)
append_twice None first second = refl
append_twice (Some bytes) first second = ap Some (append_assoc bytes first second)

-- what was put before, and then what is appended
pub append_on : (start now after : Option (List ℕ)) (first second : List ℕ) → now ≡ append_known start first → after ≡ append_known now second → after ≡ append_known start (first ++ second)
append_on start now after first second put more = more ∙ ap (λ known. append_known known second) put ∙ append_twice start first second

-- what was put before, and then a part of what is appended
pub part_on : (start now after : Option (List ℕ)) (first second behind : List ℕ) → now ≡ append_known start first → AppendsPart now second after → AppendsPart start ((first ++ second) ++ behind) after
part_on start now after first second behind put part =
    let front = part.0 in
    let rest = part.1.0 in (
      first ++ front,
      (
        rest ++ behind,
        append_assoc first front (rest ++ behind) ∙ ap (λ bytes. first ++ bytes) (sym (append_assoc front rest behind) ∙ ap (λ bytes. bytes ++ behind) part.1.1) ∙ sym (append_assoc first second behind),
      ),
      append_on start now after first front put part.2,
    )

-- the same, with nothing behind
pub part_last : (start now after : Option (List ℕ)) (first second : List ℕ) → now ≡ append_known start first → AppendsPart now second after → AppendsPart start (first ++ second) after
part_last start now after first second put part = subst (λ text. AppendsPart start text after) (append-nil (first ++ second)) (part_on start now after first second [] put part)

none_behind : (put held : List ℕ) → put ++ held ≡ [] → held ≡ []
none_behind [] held none = none
none_behind (byte ∷ put) held none = absurd (omega (arith, ap length none))

-- an answer more, where some front of what is held with it is put
pub held_on : (put held text more left : List ℕ) → more ++ left ≡ held ++ text → (put ++ held) ++ text ≡ (put ++ more) ++ left
held_on put held text more left same =
    append_assoc put held text ∙ ap (λ bytes. put ++ bytes) (sym same) ∙ sym (append_assoc put more left)

-- the lines before what is left are the texts of these actions
pub record StandBefore (all rest : List ℕ) (front : Word) : Type 0 where
  pub valid : Each IsAction front
  pub lines : lines_of all ≡ map text_of front ++ lines_of rest

pub front_start : (all : List ℕ) → StandBefore all all []
front_start all = record { valid = no_item; lines = refl }

-- one action more stands before what is left
pub front_step : (all rest next text : List ℕ) (front : Word) (action : PlainAction) → lines_of rest ≡ text ∷ lines_of next
    → IsAction action → text_of action ≡ text → StandBefore all rest front → StandBefore all next (front ++ action ∷ [])
front_step all rest next text front action cut valid named so_far = record {
  valid = Each-append so_far.valid (item valid no_item);
  lines =
      so_far.lines ∙ ap (λ lines. map text_of front ++ lines) (cut ∙ ap (λ t. t ∷ lines_of next) (sym named))
      ∙ sym (append_assoc (map text_of front) (text_of action ∷ []) (lines_of next))
      ∙ ap (λ lines. lines ++ lines_of next) (sym (map-append text_of front (action ∷ [])));
}

-- nothing is left
pub front_end : (all rest : List ℕ) (front : Word) → length rest ≡ 0 → StandBefore all rest front → HasActions all front
front_end all rest front none so_far = record {
  valid = so_far.valid;
  lines = so_far.lines ∙ ap (λ lines. map text_of front ++ lines) (lines_of-none rest none) ∙ append-nil (map text_of front);
}

-- lines that are texts of actions are those of some word
word_of : (lines : List (List ℕ)) → Each IsActionText lines → (word : Word) × Each IsAction word × (lines ≡ map text_of word)
word_of [] no_item = ([], no_item, refl)
word_of (text ∷ lines) (item good more) =
    let rest = word_of lines more in
    (good.action ∷ rest.0, item good.valid rest.1, ap (λ t. t ∷ lines) good.same ∙ ap (λ ts. text_of good.action ∷ ts) rest.2)

-- the lines before what is left are texts of actions, and so are those that are left
all_actions : (all rest : List ℕ) (front : Word) → StandBefore all rest front → Each IsActionText (lines_of rest)
    → (behind : Word) × HasActions all (front ++ behind)
all_actions all rest front so_far good =
    let behind = word_of (lines_of rest) good in (
      behind.0,
      record {
        valid = Each-append so_far.valid behind.1;
        lines = so_far.lines ∙ ap (λ lines. map text_of front ++ lines) behind.2 ∙ sym (map-append text_of front behind.0);
      },
    )

module _ (x : Form) (limit : ℕ) (all rest : List ℕ) (front history : Word) (text : List ℕ) where
  -- memory runs out with some lines left
  trace_short : StandBefore all rest front → Each IsActionText (lines_of rest)
      → TraceAnswers x limit [] front text history
      → (status : ℕ) (whole part : List ℕ)
      → LastLine 9 text (line (codes "refused memory")) status whole part
      → TracesLines x limit all status whole part None
  trace_short so_far good answers status whole part last =
      let named = all_actions all rest front so_far good in record {
        actions = front ++ named.0;
        has = named.1;
        traces = short named.0 refl answers last;
        no_session = refl;
      }

  -- the put of the answers that are held fails
  trace_lost : (start now : SinkState)
      → StandBefore all rest front → Each IsActionText (lines_of rest)
      → TraceAnswers x limit [] front text history → front ≢ []
      → AppendsPart start.written text now.written → Rose start.faults now.faults
      → Ended (TracesLines x limit all) 10 start now
  trace_lost start now so_far good answers some part rose =
      let named = all_actions all rest front so_far good in
      let cut = ends_within answers part.0 part.1 some in record {
        whole = cut.whole;
        part = cut.part;
        session = None;
        may = record {
          actions = front ++ named.0;
          has = named.1;
          traces = lost_answer (cut.behind ++ named.0)
              (sym (append_assoc cut.before (cut.action ∷ cut.behind) named.0) ∙ ap (λ word. word ++ named.0) cut.split)
              cut.answers cut.next;
          no_session = refl;
        };
        puts = (
          cut.end,
          cut.is_front,
          part.2 ∙ ap (λ bytes. append_known start.written bytes) cut.same ∙ sym (append_twice start.written cut.whole cut.end),
        );
        put_failed = λ ten. rose;
      }

  -- all actions are answered
  pub trace_ends : (last : List ℕ) → length rest ≡ 0 → StandBefore all rest front
      → TraceAnswers x limit [] front text history → Verdict x history last
      → (status : ℕ) (whole part : List ℕ) → LastLine 0 text last status whole part
      → TracesLines x limit all status whole part None
  trace_ends last none so_far answers verdict status whole part put_last = record {
    actions = front;
    has = front_end all rest front none so_far;
    traces = answered answers verdict put_last;
    no_session = refl;
  }

  -- an action isn't answered, since memory ran out, or the put of the answers that are held failed
  pub trace_stops : (put held : List ℕ) (start was now : SinkState) → put ++ held ≡ text
      → StandBefore all rest front → Each IsActionText (lines_of rest)
      → TraceAnswers x limit [] front text history
      → was.written ≡ append_known start.written put → start.faults ≤ was.faults
      → (stop : EarlyEnd) → StopsAnswer held was now stop
      → StopsAfter (TracesLines x limit all) start now stop
  trace_stops put held start was now same so_far good answers put_before le (Refused refusal) is =
      subst (λ r. AwaitsLine (TracesLines x limit all) (refusal_status r) (refusal_line r) start now) (sym is.0)
      (record {
        before = text;
        session = None;
        may = trace_short so_far good answers;
        put = append_on start.written was.written now.written put held put_before is.1 ∙ ap (λ bytes. append_known start.written bytes) same;
      })
  trace_stops put held start was now same so_far good answers put_before le (Words text) is = absurd is
  trace_stops put held start was now same so_far good answers put_before le (OtherExpression kept) is = absurd is
  trace_stops put held start was now same so_far good answers put_before le Output is =
      trace_lost start now so_far good answers
      (λ none. is.0 (none_behind put held (same ∙ answers_none answers none)))
      (subst (λ bytes. AppendsPart start.written bytes now.written) same (part_last start.written was.written now.written put held put_before is.1))
      (Rose-earlier start.faults was.faults now.faults le is.2)
