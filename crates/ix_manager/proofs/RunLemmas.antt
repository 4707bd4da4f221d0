-- A manager that takes events goes along a run.
use Rattle.std.proofs.Common.{◌≡◌, inl, inr, ℕ, ◌+◌, ◌<◌, cond, eqb, List, [], ◌∷◌, ◌++◌, length, set, refl, sym, ◌∙◌, ap, subst}
use Rattle.std.proofs.lemmas.Bool.{eq-eqb, ne_eqb, cases_eq}
use Rattle.std.proofs.lemmas.List.{append-nil, length-set, length_push, length-replicate, get_or-set_same, get_or-set_other, get_or-replicate}
use Rattle.ix_lines.specs.Items.{Item, items}
use Rattle.ix_lines.specs.Feeding.{UnfinishedLine, unfinished, held}
use Rattle.ix_lines.proofs.FeedLemmas.{completes_the_rest}
use Rattle.ix_outside.specs.Contents.{GivenEvent}
use Rattle.ix_outside.specs.declared.event.Event.{Event}
use Rattle.ix_outside.specs.declared.event.EventKind.{EventKind}
use Rattle.ix_outside.specs.declared.event.EventKind.TheVariants.{Bytes, Closed, End}
use Rattle.ix_store.specs.Keeping.{Keeping}
use Rattle.ix_proto.specs.declared.reply.Reply.{Reply}
use Rattle.ix_manager.specs.Machine.{MachineState}
use Rattle.ix_manager.specs.Runs.{Opening, Ending, going, Steps, Run, begin, takes, raised, with_piece, text_behind}
use Rattle.ix_manager.specs.Handled.{ManagerState, completed_by, held_after, held_at, has_ended, TakesEvent, KindHas, FitsEvent, started}
use Rattle.ix_manager.specs.RunLaws.{given_event, FollowsRun, CallsMakeARun}

-- a run has replies to each of its events
pub run_lengths : {opening : Opening} {events : List GivenEvent} {answers : List (List (List Reply))} {s : MachineState} {ending : Ending}
    → Run opening events answers s ending → length events ≡ length answers
run_lengths begin = refl
run_lengths (takes {events = events} {answers = answers} given completed last run completes_them steps) =
    length_push events given ∙ ap (λ n. n + 1) (run_lengths run) ∙ sym (length_push answers last)

-- a connection's text behind one more event
text_behind-push : (conn : ℕ) (text : List ℕ) (events : List GivenEvent) (given : GivenEvent)
    → text_behind conn text (events ++ given ∷ [])
    ≡ cond (eqb given.event.conn conn) (with_piece given.event.kind (text_behind conn text events) given.bytes) (text_behind conn text events)
text_behind-push conn text [] given = refl
text_behind-push conn text (first ∷ events) given =
    text_behind-push conn (cond (eqb first.event.conn conn) (with_piece first.event.kind text first.bytes) text) events given

-- a connection's text behind further events
pub text_behind-append : (conn : ℕ) (text : List ℕ) (events later : List GivenEvent)
    → text_behind conn text (events ++ later) ≡ text_behind conn (text_behind conn text events) later
text_behind-append conn text [] later = refl
text_behind-append conn text (first ∷ events) later =
    text_behind-append conn (cond (eqb first.event.conn conn) (with_piece first.event.kind text first.bytes) text) events later

-- an event of the connection
pub text_behind-same : (text : List ℕ) (events : List GivenEvent) (given : GivenEvent)
    → text_behind given.event.conn text (events ++ given ∷ [])
    ≡ with_piece given.event.kind (text_behind given.event.conn text events) given.bytes
text_behind-same text events given =
    let conn = given.event.conn in
    let behind = text_behind conn text events in
    text_behind-push conn text events given ∙ ap (λ t. cond t (with_piece given.event.kind behind given.bytes) behind) (eq-eqb conn conn refl)

-- an event of another connection
pub text_behind-other : (conn : ℕ) (text : List ℕ) (events : List GivenEvent) (given : GivenEvent) → (given.event.conn ≡ conn → ⊥)
    → text_behind conn text (events ++ given ∷ []) ≡ text_behind conn text events
text_behind-other conn text events given isnt =
    let behind = text_behind conn text events in
    text_behind-push conn text events given ∙ ap (λ t. cond t (with_piece given.event.kind behind given.bytes) behind) (ne_eqb given.event.conn conn isnt)

-- the items that an event completes behind a text
completes_next : (kind : EventKind) (text bytes : List ℕ) → KindHas kind bytes → items (text ++ bytes) ≡ items text ++ completed_by kind (held text) bytes
completes_next (Bytes n) text bytes has = (completes_the_rest text bytes).0
completes_next Closed text bytes none = ap (λ b. items (text ++ b)) none ∙ ap items (append-nil text) ∙ sym (append-nil (items text))
completes_next End text bytes none = ap (λ b. items (text ++ b)) none ∙ ap items (append-nil text) ∙ sym (append-nil (items text))

-- what is held behind it
held_next : (kind : EventKind) (text bytes : List ℕ) → held_after kind (held text) bytes ≡ held (with_piece kind text bytes)
held_next (Bytes n) text bytes = sym (completes_the_rest text bytes).1
held_next Closed text bytes = refl
held_next End text bytes = refl

-- a manager that was just started
pub started_follows : (opening : Opening) (store : Keeping) → FollowsRun opening [] [] (started opening store)
started_follows opening store = record {
  run = begin;
  form_is = refl;
  limit_is = refl;
  not_ended = refl;
  connections = length-replicate 64 (unfinished []);
  lines = λ conn below. get_or-replicate 64 conn (unfinished []) (unfinished []) below;
}

module _ (opening : Opening) (events : List GivenEvent) (answers : List (List (List Reply)))
    (old : ManagerState) (event : Event) (bytes : List ℕ) (last : List (List Reply)) (new : ManagerState) (ending : Ending)
    (follows : FollowsRun opening events answers old) (fits : FitsEvent event bytes) (taken : TakesEvent old event bytes last new ending) where
  -- the connection's text before the event
  abbrev text : List ℕ
  text = text_behind event.conn [] events

  held_before : held_at event.conn old.lines ≡ held text
  held_before = follows.lines event.conn fits.0

  -- an event that a manager takes goes on the run
  pub taken_goes_on : Run opening (events ++ given_event event bytes ∷ []) (answers ++ last ∷ []) new.machine ending
  taken_goes_on =
      let completed : List Item = completed_by event.kind (held_at event.conn old.lines) bytes in
      let state : MachineState = raised event.moment old.machine in
      takes (given_event event bytes) completed last follows.run
      (record { items_are = completes_next event.kind text bytes fits.1 ∙ ap (λ h. items text ++ completed_by event.kind h bytes) (sym held_before) })
      (subst (λ f. Steps f opening.limit state completed last new.machine ending) follows.form_is
      (subst (λ l. Steps old.form l state completed last new.machine ending) follows.limit_is taken.steps))

  abbrev now_held : UnfinishedLine
  now_held = held_after event.kind (held_at event.conn old.lines) bytes

  -- what is held of a connection after it
  held_behind : ending ≡ going → (conn : ℕ) → conn < 64 → held_at conn new.lines ≡ held (text_behind conn [] (events ++ given_event event bytes ∷ []))
  held_behind on conn below = elim (cases_eq conn event.conn) [
    | inl same ↦ ap (held_at conn) (taken.lines on) ∙ held_same same
    | inr other ↦
        ap (held_at conn) (taken.lines on)
        ∙ get_or-set_other old.lines event.conn conn now_held (unfinished []) other
        ∙ follows.lines conn below
        ∙ ap held (sym (text_behind-other conn [] events (given_event event bytes) (λ e. other (sym e))))
  ]
    where
      held_same : conn ≡ event.conn → held_at conn (set old.lines event.conn now_held) ≡ held (text_behind conn [] (events ++ given_event event bytes ∷ []))
      held_same same =
          subst (λ c. held_at c (set old.lines event.conn now_held) ≡ held (text_behind c [] (events ++ given_event event bytes ∷ []))) (sym same)
          (get_or-set_same old.lines event.conn now_held (unfinished []) (subst (λ n. event.conn < n) (sym follows.connections) fits.0)
          ∙ ap (λ h. held_after event.kind h bytes) held_before ∙ held_next event.kind text bytes
          ∙ ap held (sym (text_behind-same [] events (given_event event bytes))))

  -- the manager follows the longer run
  pub taken_follows : ending ≡ going → FollowsRun opening (events ++ given_event event bytes ∷ []) (answers ++ last ∷ []) new
  taken_follows on = record {
    run = subst (Run opening (events ++ given_event event bytes ∷ []) (answers ++ last ∷ []) new.machine) on taken_goes_on;
    form_is = taken.form ∙ follows.form_is;
    limit_is = taken.limit ∙ follows.limit_is;
    not_ended = taken.ended ∙ ap has_ended on;
    connections = ap length (taken.lines on) ∙ length-set old.lines event.conn (held_after event.kind (held_at event.conn old.lines) bytes) ∙ follows.connections;
    lines = held_behind on;
  }

pub calls_make_a_run : CallsMakeARun
calls_make_a_run = (
  started_follows,
  λ opening events answers old event bytes last new ending follows fits taken. (
    taken_goes_on opening events answers old event bytes last new ending follows fits taken,
    taken_follows opening events answers old event bytes last new ending follows fits taken,
  ),
)
