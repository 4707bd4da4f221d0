-- The states that come later: their histories go on, and what a crash leaves is of one of them.
use Rattle.ix_journal.specs.declared.entries.Renewed.{Renewed}
use Rattle.std.proofs.Common.{◌≡◌, ◌⊎◌, inl, inr, ℕ, ◌+◌, ◌≤◌, List, [], ◌∷◌, ◌++◌, length, take, Some, append_assoc, append-nil, refl, sym, ◌∙◌, ap, subst, arith}
use Rattle.std.specs.Bool.{⊤}
use Rattle.std.proofs.Math.Seq.{take-append_seam}
use Rattle.std.proofs.lemmas.Bool.{cases_lt}
use Rattle.std.proofs.lemmas.List.{length-append, map-append}
use Rattle.ix_values.specs.PlainAction.{PlainAction, Word}
use Rattle.ix_journal.specs.History.{PlainHistory, Spent, actions_of}
use Rattle.ix_journal.proofs.OutcomeLaws.{one_history, one_number}
use Rattle.ix_expr.specs.Form.{Form}
use Rattle.ix_lines.specs.Items.{Item}
use Rattle.ix_outside.specs.Contents.{GivenEvent}
use Rattle.ix_proto.specs.Requests as request
use Rattle.ix_proto.specs.Requests.{PlainRequest}
use Rattle.ix_proto.specs.declared.reply.Reply.{Reply}
use Rattle.ix_proto.specs.declared.reply.Reply.TheVariants as reply
use Rattle.ix_manager.specs.Images.{with_failed}
use Rattle.ix_manager.specs.Later.{Later, MayKeep, whole, confirming, stays, rises, answered, restarts}
use Rattle.ix_manager.specs.LaterLaws.{CrashesComeLater, IsEntryOf, LaterStatesAreThese, RunsGoOn, StartsComeLater, ToldEntriesStay}
use Rattle.ix_manager.specs.Machine.{MachineState, Step, entry, start_of, word_of}
use Rattle.ix_manager.specs.Runs.{Ending, ItemStep, Run, Steps, begin, disk_failed, last, more, none, over_long, refused, requested, takes}
use Rattle.ix_manager.proofs.GrowingLemmas.{Grows, grows_not, grows_twice, none_failed, steps_grow}
use Rattle.ix_manager.proofs.Changing.{Changes, empties, grants, item_changes, keeps, stores, item_renewed}

-- what comes later than what comes later
pub later_join : {x : Form} {s t u : MachineState} → Later x s t → Later x t u → Later x s u
later_join stays rest = rest
later_join (rises moment first) rest = rises moment (later_join first rest)
later_join (answered step first) rest = answered step (later_join first rest)
later_join (restarts may first) rest = restarts may (later_join first rest)

pub steps_later : {x : Form} {limit : ℕ} {s after : MachineState} {items : List Item} {replies : List (List Reply)} {ending : Ending}
    → Steps x limit s items replies after ending → Later x s after
steps_later none = stays
steps_later (last step ends) = answered step stays
steps_later (more step steps) = answered step (steps_later steps)

pub runs_go_on : RunsGoOn
runs_go_on opening events replies final ending run = along run
  where
    along : {events : List GivenEvent} {replies : List (List (List Reply))} {final : MachineState} {ending : Ending}
        → Run opening events replies final ending → Later opening.form (start_of opening.history opening.renewed opening.boot) final
    along begin = stays
    along (takes given completed replies run completes steps) = later_join (along run) (rises given.event.moment (steps_later steps))

-- a step's history goes on
changes_grow : {s u : MachineState} → Changes s u → Grows s.history u.history
changes_grow {s = s} (keeps h k b n m) = ([], append-nil s.history ∙ sym h)
changes_grow {s = s} (empties h k b n m) = ([], append-nil s.history ∙ sym h)
changes_grow {s = s} (grants a deadline h k b n m) = ([], append-nil s.history ∙ sym h)
changes_grow (stores ticket a deadline held before h k b n m) = ((Some ticket, a) ∷ [], sym h)

kept_grows : {s : MachineState} {kept : PlainHistory} → MayKeep s kept → Grows s.history kept
kept_grows whole = grows_not _
kept_grows (confirming {ticket = ticket} {a = a} held before) = ((Some ticket, a) ∷ [], refl)

pub later_grows : {x : Form} {s later : MachineState} → Later x s later → Grows s.history later.history
later_grows stays = grows_not _
later_grows (rises moment rest) = later_grows rest
later_grows {s = s} {later = later} (answered {between = between} step rest) =
    grows_twice s.history between.history later.history (changes_grow (item_changes step)) (later_grows rest)
later_grows {s = s} {later = later} (restarts {kept = kept} may rest) =
    grows_twice s.history kept later.history (kept_grows may) (later_grows rest)

-- what the carried actions stand for stays
pub later_renewed : {x : Form} {s later : MachineState} → Later x s later → later.renewed ≡ s.renewed
later_renewed stays = refl
later_renewed (rises moment rest) = later_renewed rest
later_renewed (answered step rest) = later_renewed rest ∙ item_renewed step
later_renewed (restarts may rest) = later_renewed rest

-- the reply to a `log` tells an entry of the history
abbrev pub TellsEntry : PlainRequest → List Reply → Renewed → Word → Type 0
TellsEntry (request.log number) (reply.Entry told a ∷ []) renewed word = IsEntryOf renewed word number a
TellsEntry _ _ renewed word = ⊤

pub entry_told : {x : Form} {limit : ℕ} {s after : MachineState} {asked : PlainRequest} {replies : List Reply}
    → Step x limit s asked replies after → TellsEntry asked replies after.renewed (word_of after)
entry_told (entry before behind split place above) = record { before = before; behind = behind; split = split; place = place }
entry_told _ = tt

pub entry_stays : (renewed : Renewed) (one two : PlainHistory) (number : ℕ) (a : PlainAction) → Grows one two
    → IsEntryOf renewed (actions_of one) number a → IsEntryOf renewed (actions_of two) number a
entry_stays renewed one two number a grows is = record {
  before = is.before;
  behind = is.behind ++ actions_of grows.0;
  split =
      ap actions_of (sym grows.1) ∙ map-append (λ (spent : Spent). spent.1) one grows.0
      ∙ ap (λ w. w ++ actions_of grows.0) is.split
      ∙ append_assoc is.before (a ∷ is.behind) (actions_of grows.0);
  place = is.place;
}

pub told_entries_stay : ToldEntriesStay
told_entries_stay x limit s after later number a step rest =
    subst (λ (r : Renewed). IsEntryOf r (word_of later) number a) (sym (later_renewed rest))
    (entry_stays after.renewed after.history later.history number a (later_grows rest) (entry_told step))

-- of two prefixes of one list that are as long as each other each is the other
one_prefix : (xs ys us vs : PlainHistory) → xs ++ us ≡ ys ++ vs → length xs ≡ length ys → xs ≡ ys
one_prefix xs ys us vs same long =
    sym (take-append_seam xs us) ∙ ap (λ zs. take (length xs) zs) same ∙ ap (λ n. take n (ys ++ vs)) long ∙ take-append_seam ys vs

-- a prefix that isn't shorter than the whole is the whole
whole_prefix : (kept rest all : PlainHistory) → kept ++ rest ≡ all → length all ≤ length kept → kept ≡ all
whole_prefix kept rest all is long =
    one_prefix kept all rest [] (is ∙ sym (append-nil all)) (let counts = length-append kept rest in let same = ap length is in omega (arith, counts, same, long))

-- a step stays in its boot
pub changes_boot : {s u : MachineState} → Changes s u → u.boot ≡ s.boot
changes_boot (keeps h k b n m) = b
changes_boot (empties h k b n m) = b
changes_boot (grants a deadline h k b n m) = b
changes_boot (stores ticket a deadline held before h k b n m) = b

-- the steps of an event stay in their boot
pub steps_boot : {x : Form} {limit : ℕ} {s after : MachineState} {items : List Item} {replies : List (List Reply)} {ending : Ending}
    → Steps x limit s items replies after ending → after.boot ≡ s.boot
steps_boot none = refl
steps_boot (last step ends) = changes_boot (item_changes step)
steps_boot (more step steps) = steps_boot steps ∙ changes_boot (item_changes step)

-- what is kept of a state
abbrev IsKeptOf : Form → MachineState → PlainHistory → Type 0
IsKeptOf x s kept = (at : MachineState) × Later x s at × MayKeep at kept × (at.renewed ≡ s.renewed)
    × (at.boot ≡ s.boot)

kept_whole : (x : Form) (s : MachineState) (kept : PlainHistory) → kept ≡ s.history → IsKeptOf x s kept
kept_whole x s kept is = (s, stays, subst (MayKeep s) (sym is) whole, refl, refl)

kept_after : {x : Form} {limit : ℕ} {s between : MachineState} {it : Item} {replies : List Reply} {ending : Ending} {kept : PlainHistory}
    → ItemStep x limit s it replies between ending → IsKeptOf x between kept → IsKeptOf x s kept
kept_after step is =
    (is.0, answered step is.1, is.2, is.3 ∙ item_renewed step, is.4 ∙ changes_boot (item_changes step))

-- a step adds at most one action
changes_add : {s u : MachineState} → Changes s u → length u.history ≤ length s.history + 1
changes_add (keeps h k b n m) = let long = ap length h in omega (arith, long)
changes_add (empties h k b n m) = let long = ap length h in omega (arith, long)
changes_add (grants a deadline h k b n m) = let long = ap length h in omega (arith, long)
changes_add {s = s} (stores ticket a deadline held before h k b n m) =
    let long = ap length h in let counts = length-append s.history ((Some ticket, a) ∷ []) in omega (arith, long, counts)

-- a prefix of what one item more makes is the history before it or behind it
before_or_behind : {s u : MachineState} (kept rest : PlainHistory) → Changes s u → kept ++ rest ≡ u.history → length s.history ≤ length kept
    → (kept ≡ s.history) ⊎ (kept ≡ u.history)
before_or_behind {s = s} {u = u} kept rest changes is long = elim (cases_lt (length kept) (length u.history)) [
  | inl shorter ↦
      let grows = changes_grow changes in
      let most = changes_add changes in
      inl (one_prefix kept s.history rest grows.0 (is ∙ sym grows.1) (omega (arith, shorter, long, most)))
  | inr behind ↦ inr (whole_prefix kept rest u.history is behind)
]

-- the same of an item's step, also where its confirm failed
item_kept : {x : Form} {limit : ℕ} {s after : MachineState} {it : Item} {replies : List Reply} {ending : Ending}
    (kept rest : PlainHistory) → ItemStep x limit s it replies after ending
    → kept ++ rest ≡ with_failed ending after.history → length s.history ≤ length kept → IsKeptOf x s kept
item_kept {x = x} {s = s} kept rest (requested {bytes = bytes} asked {after = after} valid words step) is long =
    elim (before_or_behind kept rest (item_changes (requested {bytes = bytes} asked valid words step)) (is ∙ none_failed asked after.history) long) [
      | inl before ↦ kept_whole x s kept before
      | inr behind ↦ kept_after (requested {bytes = bytes} asked valid words step) (kept_whole x after kept behind)
    ]
item_kept {x = x} {s = s} kept rest (refused fault) is long = kept_whole x s kept (whole_prefix kept rest s.history is long)
item_kept {x = x} {s = s} kept rest over_long is long = kept_whole x s kept (whole_prefix kept rest s.history is long)
item_kept {x = x} {s = s} kept rest (disk_failed {ticket = ticket} {a = a} valid words held before) is long =
    elim (cases_lt (length kept) (length (s.history ++ (Some ticket, a) ∷ []))) [
      | inl shorter ↦
          let counts = length-append s.history ((Some ticket, a) ∷ []) in
          kept_whole x s kept (one_prefix kept s.history rest ((Some ticket, a) ∷ []) is (omega (arith, counts, shorter, long)))
      | inr behind ↦
          (s, stays, subst (MayKeep s) (sym (whole_prefix kept rest (s.history ++ (Some ticket, a) ∷ []) is behind)) (confirming held before), refl, refl)
    ]

steps_kept : {x : Form} {limit : ℕ} {s after : MachineState} {items : List Item} {replies : List (List Reply)} {ending : Ending}
    (kept rest : PlainHistory) → Steps x limit s items replies after ending
    → kept ++ rest ≡ with_failed ending after.history → length s.history ≤ length kept → IsKeptOf x s kept
steps_kept {x = x} {s = s} kept rest none is long = kept_whole x s kept (whole_prefix kept rest s.history is long)
steps_kept kept rest (last step ends) is long = item_kept kept rest step is long
steps_kept {x = x} {s = s} {after = after} {ending = ending} kept rest (more {between = between} step steps) is long =
    elim (cases_lt (length kept) (length between.history)) [
      | inl shorter ↦
          let grows = changes_grow (item_changes step) in
          let whole = grows_twice s.history between.history (with_failed ending after.history) grows (steps_grow steps) in
          let one = changes_add (item_changes step) in
          kept_whole x s kept (one_prefix kept s.history rest whole.0 (is ∙ sym whole.1) (omega (arith, shorter, long, one)))
      | inr behind ↦ kept_after step (steps_kept kept rest steps is behind)
    ]

pub crashes_come_later : CrashesComeLater
crashes_come_later x limit s after items replies ending kept rest steps is long = steps_kept kept rest steps is long

pub starts_come_later : StartsComeLater
starts_come_later opening image s kept starts may recovers holds =
    let history : kept ≡ opening.history = one_history image kept opening.history recovers starts.recovers in
    let same = one_number image opening.renewed s.renewed starts.boots s.boot starts.holds holds in
    let boot : s.boot + 1 ≡ opening.boot = ap (λ n. n + 1) (sym same.1) ∙ sym starts.next in
    subst (λ (h : PlainHistory). Later opening.form s (start_of h opening.renewed opening.boot)) history
    (subst (λ (r : Renewed). Later opening.form s (start_of kept r opening.boot)) (sym same.0)
    (subst (λ n. Later opening.form s (start_of kept s.renewed n)) boot (restarts may stays)))

pub later_states_are_these : LaterStatesAreThese
later_states_are_these = (runs_go_on, crashes_come_later, starts_come_later)
