-- A piece that is cut in two has the runs of the whole piece.
use Rattle.std.proofs.Common.{◌≡◌, ◌≢◌, inl, inr, ℕ, max, List, [], ◌∷◌, ◌++◌, length, refl, sym, ◌∙◌, ap, subst, append_assoc, arith, length-append, Bool, true, false, cond, eqb}
use Rattle.std.proofs.lemmas.List.{append_cancel_left, same_from_push}
use Rattle.ix_expr.specs.Form.{Form}
use Rattle.ix_lines.specs.Items.{Item, items}
use Rattle.ix_lines.specs.Feeding.{held, completes}
use Rattle.ix_lines.proofs.FeedLemmas.{completes_the_rest}
use Rattle.ix_outside.specs.Contents.{GivenEvent}
use Rattle.ix_proto.specs.Requests.{PlainRequest}
use Rattle.ix_proto.specs.declared.reply.Reply.{Reply}
use Rattle.ix_manager.specs.Machine.{MachineState, Step}
use Rattle.ix_manager.proofs.Changing.{Changes, step_changes, keeps, empties, grants, stores}
use Rattle.ix_manager.specs.Runs.{Opening, Ending, going, ItemStep, requested, refused, over_long, disk_failed, Steps, none, last, more, Run, begin, takes, raised, text_behind, Completes}
use Rattle.ix_manager.specs.RunLaws.{piece, RunsOverBoth, AnyCuttingGivesTheSameRun}
use Rattle.ix_manager.proofs.RunLemmas.{run_lengths, text_behind-append, text_behind-same}

-- no step changes the moment
step_moment : {x : Form} {limit : ℕ} {s after : MachineState} {request : PlainRequest} {replies : List Reply}
    → Step x limit s request replies after → after.moment ≡ s.moment
step_moment step = stays (step_changes step)
  where
    stays : {s after : MachineState} → Changes s after → after.moment ≡ s.moment
    stays (keeps history slot boot number moment) = moment
    stays (empties history slot boot number moment) = moment
    stays (grants a deadline history slot boot number moment) = moment
    stays (stores ticket a deadline held within history slot boot number moment) = moment

item_moment : {x : Form} {limit : ℕ} {s after : MachineState} {item : Item} {replies : List Reply} {ending : Ending}
    → ItemStep x limit s item replies after ending → after.moment ≡ s.moment
item_moment (requested _ _ _ step) = step_moment step
item_moment (refused _) = refl
item_moment over_long = refl
item_moment (disk_failed _ _ _ _) = refl

steps_moment : {x : Form} {limit : ℕ} {s after : MachineState} {whole : List Item} {answers : List (List Reply)} {ending : Ending}
    → Steps x limit s whole answers after ending → after.moment ≡ s.moment
steps_moment none = refl
steps_moment (last step _) = item_moment step
steps_moment (more step rest) = steps_moment rest ∙ item_moment step

-- a moment that was raised before is raised no more
raised_once : (s mid : MachineState) (moment : ℕ) → mid.moment ≡ max s.moment moment → raised moment mid ≡ mid
raised_once s mid moment is =
    let same : max mid.moment moment ≡ mid.moment = omega arith in
    ap (λ m. record mid { moment = m }) same

-- items that are cut in two
data CutSteps (x : Form) (limit : ℕ) (s : MachineState) (front back : List Item) (answers : List (List Reply)) (after : MachineState) (ending : Ending) : Type 0 where
  in_front : ending ≢ going → Steps x limit s front answers after ending → CutSteps x limit s front back answers after ending
  over_both : (one two : List (List Reply)) (mid : MachineState) → answers ≡ one ++ two
      → Steps x limit s front one mid going → Steps x limit mid back two after ending → CutSteps x limit s front back answers after ending

module _ {x : Form} {limit : ℕ} where
  -- items in order, and further items behind them; and behind the run's end
  steps_join : {s mid after : MachineState} {front back : List Item} {one two : List (List Reply)} {ending : Ending}
      → Steps x limit s front one mid going → Steps x limit mid back two after ending → Steps x limit s (front ++ back) (one ++ two) after ending
  steps_join none others = others
  steps_join (last step ends) others = absurd (ends refl)
  steps_join (more step rest) others = more step (steps_join rest others)

  end_joins : {s after : MachineState} {front : List Item} {answers : List (List Reply)} {ending : Ending} (back : List Item)
      → ending ≢ going → Steps x limit s front answers after ending → Steps x limit s (front ++ back) answers after ending
  end_joins back ends none = absurd (ends refl)
  end_joins back ends (last step is) = last step is
  end_joins back ends (more step rest) = more step (end_joins back ends rest)

  cut_more : {s between after : MachineState} {item : Item} {front back : List Item} {replies : List Reply} {answers : List (List Reply)} {ending : Ending}
      → ItemStep x limit s item replies between going → CutSteps x limit between front back answers after ending
      → CutSteps x limit s (item ∷ front) back (replies ∷ answers) after ending
  cut_more step (in_front is rest) = in_front is (more step rest)
  cut_more {replies = replies} step (over_both one two mid is rest others) =
      over_both (replies ∷ one) two mid (ap (λ a. replies ∷ a) is) (more step rest) others

  cut_steps : (front : List Item) {s after : MachineState} {back : List Item} {answers : List (List Reply)} {ending : Ending}
      → Steps x limit s (front ++ back) answers after ending → CutSteps x limit s front back answers after ending
  cut_steps [] {s = s} {answers = answers} steps = over_both [] answers s refl none steps
  cut_steps (item ∷ front) (last step ends) = in_front ends (last step ends)
  cut_steps (item ∷ front) (more step rest) = cut_more step (cut_steps front rest)

-- the last event of a run
record LastEvent (opening : Opening) (events : List GivenEvent) (answers : List (List (List Reply))) (given : GivenEvent) (replies : List (List Reply)) (after : MachineState) (ending : Ending) : Type 0 where
  pub state : MachineState
  pub completed : List Item
  pub run : Run opening events answers state going
  pub completes_them : Completes (text_behind given.event.conn [] events) given completed
  pub steps : Steps opening.form opening.limit (raised given.event.moment state) completed replies after ending

module _ {opening : Opening} where
  last_event : {whole : List GivenEvent} {all : List (List (List Reply))} {after : MachineState} {ending : Ending}
      (events : List GivenEvent) (answers : List (List (List Reply))) (given : GivenEvent) (replies : List (List Reply))
      → Run opening whole all after ending → whole ≡ events ++ given ∷ [] → all ≡ answers ++ replies ∷ []
      → LastEvent opening events answers given replies after ending
  last_event events answers given replies begin is is' = absurd (omega (arith, ap length is, length-append events (given ∷ [])))
  last_event {after = after} {ending = ending} events answers given replies (takes {events = events'} {answers = answers'} {s = s} given' completed replies' run completes_them steps) is is' =
      let e = same_from_push events' events given' given is in
      let a = same_from_push answers' answers replies' replies is' in
      subst (λ es. LastEvent opening es answers given replies after ending) e.0
      (subst (λ g. LastEvent opening events' answers g replies after ending) e.1
      (subst (λ told. LastEvent opening events' told given' replies after ending) a.0
      (subst (λ r. LastEvent opening events' answers' given' r after ending) a.1
      (record { state = s; completed = completed; run = run; completes_them = completes_them; steps = steps }))))

  -- a run whose lists are joined otherwise
  runs_append : {after : MachineState} {ending : Ending}
      (events later : List GivenEvent) (next : GivenEvent) (answers behind : List (List (List Reply))) (told : List (List Reply))
      → Run opening ((events ++ later) ++ next ∷ []) ((answers ++ behind) ++ told ∷ []) after ending
      → Run opening (events ++ (later ++ next ∷ [])) (answers ++ (behind ++ told ∷ [])) after ending
  runs_append {after = after} {ending = ending} events later next answers behind told run =
      subst (λ es. Run opening es (answers ++ (behind ++ told ∷ [])) after ending) (append_assoc events later (next ∷ []))
      (subst (λ all. Run opening ((events ++ later) ++ next ∷ []) all after ending) (append_assoc answers behind (told ∷ [])) run)

-- events and replies to each of them, from the end
data Ends : List GivenEvent → List (List (List Reply)) → Type 0 where
  empty : Ends [] []
  pushed : {later : List GivenEvent} {behind : List (List (List Reply))} → Ends later behind → (next : GivenEvent) (told : List (List Reply))
      → Ends (later ++ next ∷ []) (behind ++ told ∷ [])

ends_in_front : {later : List GivenEvent} {behind : List (List (List Reply))} (next : GivenEvent) (told : List (List Reply))
    → Ends later behind → Ends (next ∷ later) (told ∷ behind)
ends_in_front next told empty = pushed empty next told
ends_in_front next told (pushed rows another others) = pushed (ends_in_front next told rows) another others

ends : (later : List GivenEvent) (behind : List (List (List Reply))) → length later ≡ length behind → Ends later behind
ends [] [] same = empty
ends [] (told ∷ behind) same = absurd (omega arith)
ends (next ∷ later) [] same = absurd (omega arith)
ends (next ∷ later) (told ∷ behind) same = ends_in_front next told (ends later behind (omega arith))

-- a text with both pieces, or of another connection
both_pieces : (test : Bool) (text front back : List ℕ)
    → cond test (text ++ (front ++ back)) text ≡ cond test (cond test (text ++ front) text ++ back) (cond test (text ++ front) text)
both_pieces true text front back = sym (append_assoc text front back)
both_pieces false text front back = refl

module _ (opening : Opening) (events : List GivenEvent) (answers : List (List (List Reply)))
    (conn moment : ℕ) (front back : List ℕ) where
  abbrev text : List ℕ
  text = text_behind conn [] events

  abbrev first : GivenEvent
  first = piece conn moment front

  abbrev second : GivenEvent
  second = piece conn moment back

  abbrev uncut : GivenEvent
  uncut = piece conn moment (front ++ back)

  -- the text before the second piece
  text_between : text_behind conn [] (events ++ first ∷ []) ≡ text ++ front
  text_between = text_behind-same [] events first

  -- what both pieces complete is what the whole piece completes
  both_complete : (one two : List Item) → Completes text first one → Completes (text ++ front) second two → Completes text uncut (one ++ two)
  both_complete one two its others = record {
    items_are = ap items (sym (append_assoc text front back)) ∙ others.items_are
        ∙ ap (λ all. all ++ two) its.items_are ∙ append_assoc (items text) one two;
  }

  first_completes : Completes text first (completes (held text) front)
  first_completes = record { items_are = (completes_the_rest text front).0 }

  second_completes : Completes (text ++ front) second (completes (held (text ++ front)) back)
  second_completes = record { items_are = (completes_the_rest (text ++ front) back).0 }

  module _ (replies : List (List Reply)) (after : MachineState) (ending : Ending) where
    over_cut : (s mid : MachineState) (one two : List (List Reply)) → Run opening events answers s going
        → Steps opening.form opening.limit (raised moment s) (completes (held text) front) one mid going
        → Steps opening.form opening.limit mid (completes (held (text ++ front)) back) two after ending
        → Run opening (events ++ first ∷ second ∷ []) (answers ++ one ∷ two ∷ []) after ending
    over_cut s mid one two run steps others =
        let through = takes first (completes (held text) front) one run first_completes steps in
        let again : Steps opening.form opening.limit (raised moment mid) (completes (held (text ++ front)) back) two after ending =
        subst (λ m. Steps opening.form opening.limit m (completes (held (text ++ front)) back) two after ending) (sym (raised_once s mid moment (steps_moment steps))) others in
        let whole = takes second (completes (held (text ++ front)) back) two through
        (subst (λ t. Completes t second (completes (held (text ++ front)) back)) (sym text_between) second_completes) again in
        subst (λ told. Run opening (events ++ first ∷ second ∷ []) told after ending) (append_assoc answers (one ∷ []) (two ∷ []))
        (subst (λ es. Run opening es ((answers ++ one ∷ []) ++ two ∷ []) after ending) (append_assoc events (first ∷ []) (second ∷ [])) whole)

    by_cut : (s : MachineState) → Run opening events answers s going
        → CutSteps opening.form opening.limit (raised moment s) (completes (held text) front) (completes (held (text ++ front)) back) replies after ending
        → RunsOverBoth opening events answers first second replies [] [] after ending
    by_cut s run (in_front is steps) = inl (refl, refl, is, takes first (completes (held text) front) replies run first_completes steps)
    by_cut s run (over_both one two mid is steps others) = inr (one, two, is, over_cut s mid one two run steps others)

    cut_runs : Run opening (events ++ uncut ∷ []) (answers ++ replies ∷ []) after ending
        → RunsOverBoth opening events answers first second replies [] [] after ending
    cut_runs run =
        let event = last_event events answers uncut replies run refl refl in
        let both = both_complete (completes (held text) front) (completes (held (text ++ front)) back) first_completes second_completes in
        let same : event.completed ≡ completes (held text) front ++ completes (held (text ++ front)) back =
        append_cancel_left (items text) event.completed (completes (held text) front ++ completes (held (text ++ front)) back)
        (sym event.completes_them.items_are ∙ both.items_are) in
        by_cut event.state event.run
        (cut_steps (completes (held text) front) (subst (λ its. Steps opening.form opening.limit (raised moment event.state) its replies after ending) same event.steps))

    -- and back
    uncut_ends : ending ≢ going → Run opening (events ++ first ∷ []) (answers ++ replies ∷ []) after ending
        → Run opening (events ++ uncut ∷ []) (answers ++ replies ∷ []) after ending
    uncut_ends ends run =
        let event = last_event events answers first replies run refl refl in
        let steps = end_joins (completes (held (text ++ front)) back) ends event.steps in
        takes uncut (event.completed ++ completes (held (text ++ front)) back) replies event.run
        (both_complete event.completed (completes (held (text ++ front)) back) event.completes_them second_completes) steps

    uncut_goes_on : (one two : List (List Reply)) → replies ≡ one ++ two
        → Run opening (events ++ first ∷ second ∷ []) (answers ++ one ∷ two ∷ []) after ending
        → Run opening (events ++ uncut ∷ []) (answers ++ replies ∷ []) after ending
    uncut_goes_on one two is run =
        let later = last_event (events ++ first ∷ []) (answers ++ one ∷ []) second two run
        (sym (append_assoc events (first ∷ []) (second ∷ []))) (sym (append_assoc answers (one ∷ []) (two ∷ []))) in
        let event = last_event events answers first one later.run refl refl in
        let others = subst (λ m. Steps opening.form opening.limit m later.completed two after ending) (raised_once event.state later.state moment (steps_moment event.steps)) later.steps in
        takes uncut (event.completed ++ later.completed) replies event.run
        (both_complete event.completed later.completed event.completes_them (subst (λ t. Completes t second later.completed) text_between later.completes_them))
        (subst (λ r. Steps opening.form opening.limit (raised moment event.state) (event.completed ++ later.completed) r after ending) (sym is) (steps_join event.steps others))

  -- a connection's text doesn't depend on the cutting
  both_texts : (c : ℕ) (later : List GivenEvent) → text_behind c [] (events ++ uncut ∷ later) ≡ text_behind c [] (events ++ first ∷ second ∷ later)
  both_texts c later =
      text_behind-append c [] events (uncut ∷ later)
      ∙ ap (λ t. text_behind c t later) (both_pieces (eqb conn c) (text_behind c [] events) front back)
      ∙ sym (text_behind-append c [] events (first ∷ second ∷ later))

  module _ (replies : List (List Reply)) where
    -- one more event behind both pieces
    cut_step : (later : List GivenEvent) (behind : List (List (List Reply))) (next : GivenEvent) (told : List (List Reply))
        {s after : MachineState} {ending : Ending} (completed : List Item)
        → RunsOverBoth opening events answers first second replies later behind s going
        → Completes (text_behind next.event.conn [] (events ++ uncut ∷ later)) next completed
        → Steps opening.form opening.limit (raised next.event.moment s) completed told after ending
        → RunsOverBoth opening events answers first second replies (later ++ next ∷ []) (behind ++ told ∷ []) after ending
    cut_step later behind next told completed (inl (_, _, is, _)) its steps = absurd (is refl)
    cut_step later behind next told {after = after} {ending = ending} completed (inr (one, two, is, run)) its steps =
        let whole = takes next completed told run (subst (λ t. Completes t next completed) (both_texts next.event.conn later) its) steps in
        inr (one, two, is, runs_append events (first ∷ second ∷ later) next answers (one ∷ two ∷ behind) told whole)

    cut_later : {later : List GivenEvent} {behind : List (List (List Reply))} {after : MachineState} {ending : Ending} → Ends later behind
        → Run opening (events ++ uncut ∷ later) (answers ++ replies ∷ behind) after ending
        → RunsOverBoth opening events answers first second replies later behind after ending
    cut_later {after = after} {ending = ending} empty run = cut_runs replies after ending run
    cut_later (pushed {later = later} {behind = behind} rows next told) run =
        let event = last_event (events ++ uncut ∷ later) (answers ++ replies ∷ behind) next told run
        (sym (append_assoc events (uncut ∷ later) (next ∷ []))) (sym (append_assoc answers (replies ∷ behind) (told ∷ []))) in
        cut_step later behind next told event.completed (cut_later rows event.run) event.completes_them event.steps

    -- and back
    uncut_later : {later : List GivenEvent} {behind : List (List (List Reply))} {after : MachineState} {ending : Ending} → Ends later behind
        → (one two : List (List Reply)) → replies ≡ one ++ two
        → Run opening (events ++ first ∷ second ∷ later) (answers ++ one ∷ two ∷ behind) after ending
        → Run opening (events ++ uncut ∷ later) (answers ++ replies ∷ behind) after ending
    uncut_later {after = after} {ending = ending} empty one two is run = uncut_goes_on replies after ending one two is run
    uncut_later (pushed {later = later} {behind = behind} rows next told) one two is run =
        let event = last_event (events ++ first ∷ second ∷ later) (answers ++ one ∷ two ∷ behind) next told run
        (sym (append_assoc events (first ∷ second ∷ later) (next ∷ []))) (sym (append_assoc answers (one ∷ two ∷ behind) (told ∷ []))) in
        runs_append events (uncut ∷ later) next answers (replies ∷ behind) told
        (takes next event.completed told (uncut_later rows one two is event.run)
        (subst (λ t. Completes t next event.completed) (sym (both_texts next.event.conn later)) event.completes_them) event.steps)

    module _ (later : List GivenEvent) (behind : List (List (List Reply))) (after : MachineState) (ending : Ending) (same : length events ≡ length answers) where
      cut_everywhere : Run opening (events ++ uncut ∷ later) (answers ++ replies ∷ behind) after ending
          → RunsOverBoth opening events answers first second replies later behind after ending
      cut_everywhere run =
          cut_later (ends later behind (omega (arith, same, run_lengths run, length-append events (uncut ∷ later), length-append answers (replies ∷ behind)))) run

      uncut_everywhere : RunsOverBoth opening events answers first second replies later behind after ending
          → Run opening (events ++ uncut ∷ later) (answers ++ replies ∷ behind) after ending
      uncut_everywhere (inl (none_later, none_more, is, run)) =
          subst (λ l. Run opening (events ++ uncut ∷ l) (answers ++ replies ∷ behind) after ending) (sym none_later)
          (subst (λ m. Run opening (events ++ uncut ∷ []) (answers ++ replies ∷ m) after ending) (sym none_more) (uncut_ends replies after ending is run))
      uncut_everywhere (inr (one, two, is, run)) =
          uncut_later (ends later behind (omega (arith, same, run_lengths run, length-append events (first ∷ second ∷ later), length-append answers (one ∷ two ∷ behind)))) one two is run

pub any_cutting_gives_the_same_run : AnyCuttingGivesTheSameRun
any_cutting_gives_the_same_run opening events answers conn moment front back replies later behind after ending same = (
  cut_everywhere opening events answers conn moment front back replies later behind after ending same,
  uncut_everywhere opening events answers conn moment front back replies later behind after ending same,
)
