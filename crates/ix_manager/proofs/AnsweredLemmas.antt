-- A request that a run answered: its step, and what comes behind it.
use Rattle.std.proofs.Common.{◌≡◌, ◌≢◌, ◌⊎◌, inl, inr, ℕ, List, [], ◌∷◌, ◌++◌, length, append-nil, refl, sym, ◌∙◌, ap, subst, arith}
use Rattle.std.proofs.lemmas.List.{append_cancel_left, length-append, length_push, same_from_push}
use Rattle.ix_journal.specs.History.{PlainHistory}
use Rattle.ix_expr.specs.Form.{Form}
use Rattle.ix_lines.specs.Items.{Item, items, line}
use Rattle.ix_lines.specs.Words.{words_of}
use Rattle.ix_outside.specs.Contents.{GivenEvent}
use Rattle.ix_proto.specs.RequestFaults.{IsRequestFault}
use Rattle.ix_proto.specs.Requests.{PlainRequest, IsRequest, request_words}
use Rattle.ix_proto.specs.declared.reply.Reply.{Reply}
use Rattle.ix_proto.proofs.FaultLemmas.{faults_tell_no_request}
use Rattle.ix_manager.specs.Answered as answered
use Rattle.ix_manager.specs.Answered.{AnswersAmong, HasAnswered}
use Rattle.ix_manager.specs.Images.{with_failed}
use Rattle.ix_manager.specs.Later.{Later, MayKeep, stays, rises, whole}
use Rattle.ix_manager.specs.Later as later
use Rattle.ix_manager.specs.Machine.{MachineState, Step, start_of}
use Rattle.ix_manager.specs.Refusals.{disk}
use Rattle.ix_manager.specs.Runs.{Completes, Ending, ItemStep, Opening, Run, Steps, begin, disk_failed, last, more, none, over_long, refused, requested, takes, text_behind}
use Rattle.ix_manager.proofs.Changing.{item_changes, item_renewed, steps_renewed}
use Rattle.ix_manager.proofs.GrowingLemmas.{none_failed, steps_grow}
use Rattle.ix_manager.proofs.LaterLemmas.{changes_boot, crashes_come_later, later_join, runs_go_on, steps_boot, steps_later}
use Rattle.ix_manager.proofs.RequestsApart.{IsAlone}

-- the first item is the request's line, and its replies are these
abbrev IsFirst : PlainRequest → List Reply → Item → List Reply → Type 0
IsFirst asked replies it one = (bytes : List ℕ) × (it ≡ line bytes) × (one ≡ replies)
    × IsRequest asked × (words_of bytes ≡ request_words asked)

first_or_later : {asked : PlainRequest} {replies : List Reply} {it : Item} {others : List Item} {one : List Reply} {answers : List (List Reply)}
    → AnswersAmong asked replies (it ∷ others) (one ∷ answers) → IsFirst asked replies it one ⊎ AnswersAmong asked replies others answers
first_or_later (answered.first {bytes = bytes} valid words) = inl (bytes, refl, refl, valid, words)
first_or_later (answered.later rest) = inr rest

none_among : {asked : PlainRequest} {replies : List Reply} {others : List Item} → AnswersAmong asked replies others [] → ⊥
none_among is = elim is [ ]

among_request : {asked : PlainRequest} {replies : List Reply} {others : List Item} {answers : List (List Reply)}
    → AnswersAmong asked replies others answers → IsRequest asked
among_request (answered.first valid words) = valid
among_request (answered.later rest) = among_request rest

pub answered_request : {asked : PlainRequest} {replies : List Reply} {events : List GivenEvent} {answers : List (List (List Reply))}
    → HasAnswered asked replies events answers → IsRequest asked
answered_request (answered.lastly events answers given completed told completes among) = among_request among
answered_request (answered.earlier given told before) = answered_request before

-- the last event completed the request's line
abbrev IsLast : PlainRequest → List Reply → List GivenEvent → GivenEvent → List (List Reply) → Type 0
IsLast asked replies events given told = (completed : List Item) × Completes (text_behind given.event.conn [] events) given completed
    × AnswersAmong asked replies completed told

last_or_earlier : {asked : PlainRequest} {replies : List Reply} {run : List GivenEvent} {all : List (List (List Reply))}
    (events : List GivenEvent) (answers : List (List (List Reply))) (given : GivenEvent) (told : List (List Reply))
    → HasAnswered asked replies run all → run ≡ events ++ given ∷ [] → all ≡ answers ++ told ∷ []
    → IsLast asked replies events given told ⊎ HasAnswered asked replies events answers
last_or_earlier {asked = asked} {replies = replies} events answers given told
    (answered.lastly others firsts one completed final completes among) is is' =
    let e = same_from_push others events one given is in
    let a = same_from_push firsts answers final told is' in
    inl (
      completed,
      subst (λ (g : GivenEvent). Completes (text_behind g.event.conn [] events) g completed) e.1
          (subst (λ (es : List GivenEvent). Completes (text_behind one.event.conn [] es) one completed) e.0 completes),
      subst (λ (l : List (List Reply)). AnswersAmong asked replies completed l) a.1 among,
    )
last_or_earlier {asked = asked} {replies = replies} events answers given told
    (answered.earlier {events = others} {answers = firsts} one final before) is is' =
    let e = same_from_push others events one given is in
    let a = same_from_push firsts answers final told is' in
    inr (subst (λ (l : List (List (List Reply))). HasAnswered asked replies events l) a.0
    (subst (λ (es : List GivenEvent). HasAnswered asked replies es firsts) e.0 before))

none_answered : {asked : PlainRequest} {replies : List Reply} {events : List GivenEvent} {answers : List (List (List Reply))}
    → HasAnswered asked replies events answers → events ≡ [] → ⊥
none_answered (answered.lastly events answers given completed told completes among) is =
    let long = ap length is in let push = length_push events given in omega (arith, long, push)
none_answered (answered.earlier {events = events} given told before) is =
    let long = ap length is in let push = length_push events given in omega (arith, long, push)

-- what a crash in a later state may leave
abbrev pub MayBeKept : Form → MachineState → PlainHistory → Type 0
MayBeKept x s kept = (at : MachineState) × Later x s at × MayKeep at kept × (at.renewed ≡ s.renewed)
    × (at.boot ≡ s.boot)

steps_kept : {x : Form} {limit : ℕ} {s after : MachineState} {its : List Item} {answers : List (List Reply)} {ending : Ending}
    → Steps x limit s its answers after ending → MayBeKept x s (with_failed ending after.history)
steps_kept {x = x} {limit = limit} {s = s} {after = after} {its = its} {answers = answers} {ending = ending} steps =
    let grows = steps_grow steps in
    let kept = with_failed ending after.history in
    crashes_come_later x limit s after its answers ending kept [] steps (append-nil kept)
    (let long = ap length grows.1 in let counts = length-append s.history grows.0 in omega (arith, long, counts))

pub run_boot : {opening : Opening} {events : List GivenEvent} {answers : List (List (List Reply))} {final : MachineState} {ending : Ending}
    → Run opening events answers final ending → final.boot ≡ opening.boot
run_boot begin = refl
run_boot (takes given completed told run completes steps) = steps_boot steps ∙ run_boot run

pub run_renewed : {opening : Opening} {events : List GivenEvent} {answers : List (List (List Reply))} {final : MachineState} {ending : Ending}
    → Run opening events answers final ending → final.renewed ≡ opening.renewed
run_renewed begin = refl
run_renewed (takes given completed told run completes steps) = steps_renewed steps ∙ run_renewed run

-- what is kept of a run
pub run_kept : {opening : Opening} {events : List GivenEvent} {answers : List (List (List Reply))} {final : MachineState} {ending : Ending}
    → Run opening events answers final ending
    → MayBeKept opening.form (start_of opening.history opening.renewed opening.boot) (with_failed ending final.history)
run_kept begin = (_, stays, whole, refl, refl)
run_kept {opening = opening} (takes {events = events} {answers = answers} {s = s} given completed told run completes steps) =
    let kept = steps_kept steps in (
      kept.0,
      later_join (runs_go_on opening events answers s _ run) (rises given.event.moment kept.1),
      kept.2,
      kept.3 ∙ run_renewed run,
      kept.4 ∙ run_boot run,
    )

-- the step of a request that was answered: the states in front of it and behind it, what comes later,
-- and what is kept behind it
pub record Stands (x : Form) (limit : ℕ) (asked : PlainRequest) (replies : List Reply) (start final : MachineState)
    (kept : PlainHistory) : Type 0 where
  pub before : MachineState
  pub behind : MachineState
  pub reached : Later x start before
  pub step : Step x limit before asked replies behind
  pub rest : Later x behind final
  pub at : MachineState
  pub comes : Later x behind at
  pub keeps : MayKeep at kept
  pub renewed : at.renewed ≡ start.renewed
  pub boot : at.boot ≡ start.boot

module _ {asked : PlainRequest} {replies : List Reply} (alone : IsAlone asked) (apart : replies ≢ disk ∷ []) where
  -- an item that is the request's line makes its step
  item_step : {x : Form} {limit : ℕ} {s after : MachineState} {it : Item} {one : List Reply} {ending : Ending} (bytes : List ℕ)
      → ItemStep x limit s it one after ending → it ≡ line bytes → one ≡ replies → IsRequest asked → words_of bytes ≡ request_words asked
      → Step x limit s asked replies after × (with_failed ending after.history ≡ after.history)
  item_step {x = x} {limit = limit} {s = s} {after = after} {one = one} bytes (requested {bytes = other} request valid words step) is told asks are =
      let same : other ≡ bytes = cc in
      let same_words : request_words asked ≡ request_words request = sym are ∙ ap words_of (sym same) ∙ words in (
        subst (λ (rs : List Reply). Step x limit s asked rs after) told
            (subst (λ (r : PlainRequest). Step x limit s r one after) (sym (alone request valid same_words)) step),
        none_failed request after.history,
      )
  item_step bytes (refused {bytes = other} {code = code} fault) is told asks are =
      let same : other ≡ bytes = cc in
      absurd (faults_tell_no_request asked code asks (subst (λ (w : List (List ℕ)). IsRequestFault w code) (ap words_of same ∙ are) fault))
  item_step bytes over_long is told asks are = cc
  item_step bytes (disk_failed valid words held open_still) is told asks are = absurd (apart (sym told))

  steps_stand : {x : Form} {limit : ℕ} {s after : MachineState} {its : List Item} {answers : List (List Reply)} {ending : Ending}
      → Steps x limit s its answers after ending → AnswersAmong asked replies its answers
      → Stands x limit asked replies s after (with_failed ending after.history)
  steps_stand none among = absurd (none_among among)
  steps_stand {s = s} {after = after} (last step ends) among = elim (first_or_later among) [
    | inl it ↦
        let made = item_step it.0 step it.1 it.2 it.3 it.4 in record {
          before = s;
          behind = after;
          reached = stays;
          step = made.0;
          rest = stays;
          at = after;
          comes = stays;
          keeps = subst (MayKeep after) (sym made.1) whole;
          renewed = item_renewed step;
          boot = changes_boot (item_changes step);
        }
    | inr rest ↦ absurd (none_among rest)
  ]
  steps_stand {s = s} (more {between = between} step steps) among = elim (first_or_later among) [
    | inl it ↦
        let made = item_step it.0 step it.1 it.2 it.3 it.4 in
        let kept = steps_kept steps in record {
          before = s;
          behind = between;
          reached = stays;
          step = made.0;
          rest = steps_later steps;
          at = kept.0;
          comes = kept.1;
          keeps = kept.2;
          renewed = kept.3 ∙ item_renewed step;
          boot = kept.4 ∙ changes_boot (item_changes step);
        }
    | inr rest ↦
        let it = steps_stand steps rest in record {
          before = it.before;
          behind = it.behind;
          reached = later.answered step it.reached;
          step = it.step;
          rest = it.rest;
          at = it.at;
          comes = it.comes;
          keeps = it.keeps;
          renewed = it.renewed ∙ item_renewed step;
          boot = it.boot ∙ changes_boot (item_changes step);
        }
  ]

  pub runs_stand : {opening : Opening} {events : List GivenEvent} {answers : List (List (List Reply))} {final : MachineState} {ending : Ending}
      → Run opening events answers final ending → HasAnswered asked replies events answers
      → Stands opening.form opening.limit asked replies (start_of opening.history opening.renewed opening.boot) final (with_failed ending final.history)
  runs_stand begin has = absurd (none_answered has refl)
  runs_stand {opening = opening} (takes {events = events} {answers = answers} {s = s} given completed told run completes steps) has =
      elim (last_or_earlier events answers given told has refl refl) [
        | inl it ↦
            let text = text_behind given.event.conn [] events in
            let same : it.0 ≡ completed = append_cancel_left (items text) it.0 completed (sym it.1.items_are ∙ completes.items_are) in
            let here = steps_stand steps (subst (λ (its : List Item). AnswersAmong asked replies its told) same it.2) in record {
              before = here.before;
              behind = here.behind;
              reached = later_join (runs_go_on opening events answers s _ run) (rises given.event.moment here.reached);
              step = here.step;
              rest = here.rest;
              at = here.at;
              comes = here.comes;
              keeps = here.keeps;
              renewed = here.renewed ∙ run_renewed run;
              boot = here.boot ∙ run_boot run;
            }
        | inr before ↦
            let it = runs_stand run before in
            let kept = steps_kept steps in record {
              before = it.before;
              behind = it.behind;
              reached = it.reached;
              step = it.step;
              rest = later_join it.rest (rises given.event.moment (steps_later steps));
              at = kept.0;
              comes = later_join it.rest (rises given.event.moment kept.1);
              keeps = kept.2;
              renewed = kept.3 ∙ run_renewed run;
              boot = kept.4 ∙ run_boot run;
            }
      ]
