-- Every prefix of a run's history is within the limit.
use Rattle.std.proofs.Common.{◌≡◌, ℕ, ◌+◌, List, [], ◌∷◌, ◌++◌, Some, length, take, inl, inr, refl, sym, ◌∙◌}
use Rattle.std.proofs.Common.{ap, subst, arith}
use Rattle.std.proofs.lemmas.Bool.{cases_lt}
use Rattle.std.proofs.lemmas.List.{length-append, map-append, take-append-le, take_all}
use Rattle.ix_values.specs.PlainAction.{PlainAction, Word}
use Rattle.ix_values.specs.declared.tickets.Ticket.{Ticket}
use Rattle.ix_journal.specs.Entries.{marks_of, renewed_of}
use Rattle.ix_journal.specs.History.{PlainHistory, Spent, actions_of}
use Rattle.ix_expr.specs.Form.{Form}
use Rattle.ix_lease.specs.declared.Slot.TheVariants.{Free, Held}
use Rattle.ix_lines.specs.Items.{Item}
use Rattle.ix_outside.specs.Contents.{GivenEvent}
use Rattle.ix_proto.specs.Requests.{PlainRequest}
use Rattle.ix_proto.specs.declared.reply.Reply.{Reply}
use Rattle.ix_manager.specs.ImageLaws.{RunsStayWithin, KeptImagesAreStartable}
use Rattle.ix_manager.specs.Images.{IsWithin, EachPrefixIsWithin, with_failed}
use Rattle.ix_manager.specs.Machine.{MachineState, Step, not_permitted, full, large, granted, word_of}
use Rattle.ix_manager.specs.Machine.{ask_memory, confirmed, cancelled}
use Rattle.ix_manager.specs.Runs.{Opening, Ending, ItemStep, requested, refused, over_long}
use Rattle.ix_manager.specs.Runs.{disk_failed, Steps, none, last, more, Run, begin, takes, raised}
use Rattle.ix_manager.proofs.SlotLemmas.{free_holds, same_action}
use Rattle.ix_manager.proofs.GrowingLemmas.{none_failed}
use Rattle.ix_manager.proofs.RecoverLemmas.{few_kept}

-- the actions of a history with one more behind it
actions_more : (h : PlainHistory) (spent : Spent) → actions_of (h ++ spent ∷ []) ≡ actions_of h ++ spent.1 ∷ []
actions_more h spent = map-append (λ (s : Spent). s.1) h (spent ∷ [])

-- each prefix of a word, and the word with one more action
each_more : (x : Form) (limit : ℕ) (w : Word) (a : PlainAction) → EachPrefixIsWithin x limit w
    → IsWithin x limit (w ++ a ∷ [])
    → EachPrefixIsWithin x limit (w ++ a ∷ [])
each_more x limit w a each whole count = elim (cases_lt (length w) count) [
  | inl behind ↦
      let counts = length-append w (a ∷ []) in
      subst (IsWithin x limit) (sym (take_all count (w ++ a ∷ []) (omega (arith, counts, behind))))
      whole
  | inr within ↦ subst (IsWithin x limit) (sym (take-append-le count w (a ∷ []) within))
      (each count)
]

-- each prefix of the actions is within the limit, and so are the actions with that of the
-- reservation behind them
record StaysWithin (x : Form) (limit : ℕ) (s : MachineState) : Type 0 where
  pub each : EachPrefixIsWithin x limit (word_of s)
  pub held : (ticket : Ticket) (deadline : ℕ) (a : PlainAction) → s.slot ≡ Held ticket a deadline
      → IsWithin x limit (word_of s ++ a ∷ [])

free_within : (x : Form) (limit : ℕ) (s : MachineState) → EachPrefixIsWithin x limit (word_of s)
    → s.slot ≡ Free → StaysWithin x limit s
free_within x limit s each free =
    record {
      each = each;
      held = λ ticket deadline a is. free_holds ticket a deadline
          (sym free ∙ is);
    }

step_within : {x : Form} {limit : ℕ} {s after : MachineState} {asked : PlainRequest}
    {replies : List Reply}
    → Step x limit s asked replies after → StaysWithin x limit s → StaysWithin x limit after
step_within {x = x} {limit = limit} {s = s} (not_permitted free isnt) within =
    free_within x limit (record s { slot = Free }) within.each refl
step_within {x = x} {limit = limit} {s = s} (full free is count) within =
    free_within x limit (record s { slot = Free }) within.each refl
step_within {x = x} {limit = limit} {s = s} (large free is room above) within =
    free_within x limit (record s { slot = Free }) within.each refl
step_within {x = x} {limit = limit} {s = s} (ask_memory free is room) within =
    free_within x limit (record s { slot = Free }) within.each refl
step_within {x = x} {limit = limit} {s = s} (cancelled a deadline held open_still) within =
    free_within x limit (record s { slot = Free }) within.each refl
step_within {x = x} {limit = limit} {s = s} (granted {a = a} free allowed) within = record {
  each = within.each;
  held = λ ticket deadline b is.
      subst (λ (c : PlainAction). IsWithin x limit (word_of s ++ c ∷ []))
      (same_action is)
      (record { partial = allowed.permitted; size = allowed.within });
}
step_within {x = x} {limit = limit} {s = s} (confirmed {ticket = ticket} a deadline held open_still)
    within =
    free_within x limit (record s { history = s.history ++ (Some ticket, a) ∷ []; slot = Free })
    (subst (EachPrefixIsWithin x limit) (sym (actions_more s.history (Some ticket, a)))
    (each_more x limit (word_of s) a within.each (within.held ticket deadline a held))) refl
step_within _ within = record { each = within.each; held = within.held }

-- an item's step, also where its confirm failed
item_within : {x : Form} {limit : ℕ} {s after : MachineState} {item : Item} {replies : List Reply}
    {ending : Ending}
    → ItemStep x limit s item replies after ending → StaysWithin x limit s
    → StaysWithin x limit after
    × EachPrefixIsWithin x limit (actions_of (with_failed ending after.history))
item_within {x = x} {limit = limit} (requested asked {after = after} valid same step) within =
    let next = step_within step within in (
      next,
      subst (λ (h : PlainHistory). EachPrefixIsWithin x limit (actions_of h))
          (sym (none_failed asked after.history)) next.each,
    )
item_within (refused fault) within = (within, within.each)
item_within over_long within = (within, within.each)
item_within {x = x} {limit = limit} {s = s}
    (disk_failed {ticket = ticket} {deadline = deadline} {a = a} valid same held open_still)
    within = (
      within,
      subst (EachPrefixIsWithin x limit) (sym (actions_more s.history (Some ticket, a)))
          (each_more x limit (word_of s) a within.each (within.held ticket deadline a held)),
    )

steps_within : {x : Form} {limit : ℕ} {s after : MachineState} {items : List Item}
    {answers : List (List Reply)} {ending : Ending}
    → Steps x limit s items answers after ending → StaysWithin x limit s
    → StaysWithin x limit after
    × EachPrefixIsWithin x limit (actions_of (with_failed ending after.history))
steps_within none within = (within, within.each)
steps_within (last step ends) within = item_within step within
steps_within (more step steps) within = steps_within steps (item_within step within).0

raised_within : (x : Form) (limit moment : ℕ) (s : MachineState) → StaysWithin x limit s
    → StaysWithin x limit (raised moment s)
raised_within x limit moment s within = record { each = within.each; held = within.held }

run_within : {opening : Opening} {events : List GivenEvent} {answers : List (List (List Reply))}
    {s : MachineState} {ending : Ending}
    → Run opening events answers s ending
    → EachPrefixIsWithin opening.form opening.limit (actions_of opening.history)
    → StaysWithin opening.form opening.limit s
    × EachPrefixIsWithin opening.form opening.limit (actions_of (with_failed ending s.history))
run_within begin each = (
  record
      { each = each; held = λ ticket deadline a is. free_holds ticket a deadline is },
  each,
)
run_within {opening = opening} (takes {s = s} given completed replies run completes steps) each =
    steps_within steps (raised_within opening.form opening.limit given.event.moment s
    (run_within run each).0)

pub runs_stay_within : RunsStayWithin
runs_stay_within opening events answers s ending each run = (run_within run each).1

-- a prefix of a word has only prefixes of that word
each_of_prefix : (x : Form) (limit : ℕ) (front rest whole : Word) → front ++ rest ≡ whole
    → EachPrefixIsWithin x limit whole → EachPrefixIsWithin x limit front
each_of_prefix x limit front rest whole same each count = elim (cases_lt (length front) count) [
  | inl behind ↦
      let all : take (length front) whole ≡ front =
      ap (take (length front)) (sym same) ∙ take-append-le (length front) front rest (omega arith)
      ∙ take_all (length front) front (omega arith) in
      subst (IsWithin x limit) (all ∙ sym (take_all count front (omega (arith, behind))))
      (each (length front))
  | inr within ↦
      let prefix : take count whole ≡ take count front = ap (take count) (sym same)
      ∙ take-append-le count front rest within in
      subst (IsWithin x limit) prefix (each count)
]

pub kept_images_are_startable : KeptImagesAreStartable
kept_images_are_startable x limit least history image each keeps =
    let few = (few_kept image keeps.recovers.entries keeps.recovers.keeps).boots in
    let marks = marks_of keeps.recovers.entries in
    let boots = marks.boots in
    let renewed = renewed_of marks in
    elim (cases_lt boots (renewed.boots + 1000000)) [
      | inl room ↦ inl (
        renewed,
        boots + 1,
        record {
          own = keeps.own;
          recovers = keeps.recovers;
          within = each_of_prefix x limit (actions_of keeps.kept) (actions_of keeps.rest) (actions_of history)
              (sym (map-append (λ (spent : Spent). spent.1) keeps.kept keeps.rest) ∙ ap actions_of keeps.prefix) each;
          boots = boots;
          holds = record {
            entries = keeps.recovers.entries;
            keeps = keeps.recovers.keeps;
            said = refl;
            number = refl;
          };
          few = room;
          next = refl;
        },
      )
      | inr many ↦ inr (record {
        entries = keeps.recovers.entries;
        keeps = keeps.recovers.keeps;
        full = omega (arith, few, many);
      })
    ]
