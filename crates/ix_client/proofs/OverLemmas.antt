-- A manager over a site in memory goes on, or is started again.
use Rattle.std.proofs.Common.{◌≡◌, inl, inr, ℕ, ◌^◌, ◌<◌, ◌≤◌, Bool, true, false, List, [], ◌∷◌, ◌++◌, length, set, get_or, Option, Some, None, Ok, Err, IsSome, true≢false, refl, sym, ◌∙◌, ap, subst, arith}
use Rattle.std.proofs.lemmas.List.{append_cancel_right}
use Rattle.ix_manager.proofs.SavingLemmas.{holds_same}
use Rattle.ix_journal.specs.Entries.{renewed_of}
use Rattle.ix_values.specs.PlainAction.{PlainAction}
use Rattle.ix_values.specs.Laws.{TextsTellTicketsApart}
use Rattle.ix_values.specs.declared.tickets.Ticket.{Ticket}
use Rattle.ix_expr.specs.CanonicalText.{canonical_text}
use Rattle.ix_expr.specs.Form.{Form}
use Rattle.ix_journal.specs.History.{PlainHistory, Spent}
use Rattle.ix_journal.specs.Recovery.{HoldsBoots, IsJournalWith, Recovers, ready}
use Rattle.ix_journal.specs.declared.entries.Marks.{Marks}
use Rattle.ix_lease.specs.declared.Slot.TheVariants.{Held}
use Rattle.ix_lines.specs.Cutting.{HasNoEnd}
use Rattle.ix_lines.specs.Feeding.{completes, held, holds_after, unfinished}
use Rattle.ix_lines.specs.Items.{items, line}
use Rattle.ix_lines.specs.Words.{words_of}
use Rattle.ix_memory.specs.inside.MemorySiteState.{MemorySiteState, crashes_of, state_of, told_contents}
use Rattle.ix_memory.specs.lemmas.Lawful.{memory_is_lawful}
use Rattle.ix_outside.specs.Contents.{Sends}
use Rattle.ix_outside.specs.Crashes.{Passes, stretch_of}
use Rattle.ix_outside.specs.declared.event.Event.{Event}
use Rattle.ix_outside.specs.declared.event.EventKind.TheVariants.{Bytes}
use Rattle.ix_proto.specs.Requests.{PlainRequest, request_words}
use Rattle.ix_proto.specs.declared.reply.Reply.{Reply}
use Rattle.ix_step.specs.inside.Limits.{most_size}
use Rattle.ix_manager.specs.Handled.{ManagerState, TakesEvent, held_at}
use Rattle.ix_manager.specs.Images.{EndsAs}
use Rattle.ix_manager.specs.Later.{answered, confirming, rises, stays, whole}
use Rattle.ix_manager.specs.Machine.{MachineState}
use Rattle.ix_manager.specs.Refusals.{disk}
use Rattle.ix_manager.specs.Runs.{Ending, going, failed, opening_of, raised, requested}
use Rattle.ix_manager.specs.Wire.{all_replies}
use Rattle.ix_manager.specs.declared.faults.Go.{Go}
use Rattle.ix_manager.specs.declared.faults.Go.TheVariants.{More, Stopped}
use Rattle.ix_manager.specs.declared.faults.Stop.TheVariants.{Disk}
use Rattle.ix_manager.specs.inside.Acknowledging.{SendsMore}
use Rattle.ix_manager.specs.inside.OverSite.{FitsSite, HandlesOver, ending_after}
use Rattle.ix_manager.proofs.LaterLemmas.{starts_come_later}
use Rattle.ix_client.specs.Links.{IsLineOf, stepped}
use Rattle.ix_client.specs.inside.ManagerLinks.{IsRunEnded}
use Rattle.ix_client.specs.inside.Passing.{AnswersOver, EndsInLine, IsShortLine, StartsAgain, TellsDisk}
use Rattle.ix_client.proofs.CallLines.{one_line}
use Rattle.ix_client.proofs.CallSteps as steps
use Rattle.ix_client.proofs.CallSteps.{Went, line_went}
use Rattle.ix_client.proofs.JournalSound.{disk_told, file_left, fits_few, journal_of}
use Rattle.ix_client.proofs.PassingLemmas.{HasBounds, disk_plain, line_is, set_default, step_plain, step_time}

-- a line of connection 0 at moment 0
abbrev pub event_for : List ℕ → Event
event_for bytes = record { conn = 0; moment = 0; kind = Bytes (length bytes) }

journal_recovers : (at text : List ℕ) (h : PlainHistory) (marks : Marks) (gate : ℕ) → IsJournalWith at text h marks gate → Recovers at h
journal_recovers at text h marks gate is = record { entries = is.entries; keeps = ready at text is.entries gate is.journal; pairs = is.pairs }

journal_holds : (at text : List ℕ) (h : PlainHistory) (marks : Marks) (gate : ℕ) → IsJournalWith at text h marks gate → HoldsBoots at (renewed_of marks) marks.boots
journal_holds at text h marks gate is = record {
  entries = is.entries;
  keeps = ready at text is.entries gate is.journal;
  said = ap renewed_of is.marked;
  number = ap (λ (m : Marks). m.boots) is.marked;
}

-- what starts from the file of a manager that fits its site comes later than its state
pub fits_again : (m : ManagerState) (site : MemorySiteState) → FitsSite m (state_of site) (crashes_of site) → site.told ≡ true
    → StartsAgain m.form m.machine site.image
fits_again m site fits told limit history renewed boot starts =
    let of = journal_of m site fits told in
    let marks = m.store.marks in
    let text = canonical_text m.form in
    let boots = journal_holds site.image text m.machine.history marks m.store.gate of in
    starts_come_later (opening_of m.form limit history renewed boot) site.image m.machine m.machine.history starts whole
    (journal_recovers site.image text m.machine.history marks m.store.gate of)
    (holds_same site.image (renewed_of marks) m.machine.renewed marks.boots m.machine.boot fits.tickets.renewed
    fits.tickets.boot boots)

-- where the disk failed under a confirm
failed_again : (x : Form) (s : MachineState) (ticket : Ticket) (a : PlainAction) (deadline : ℕ) (image : List ℕ) → s.slot ≡ Held ticket a deadline
    → s.moment < deadline → EndsAs (failed (Some ticket, a)) s.history image → HoldsBoots image s.renewed s.boot → StartsAgain x s image
failed_again x s ticket a deadline image held before (inl kept) holds = λ limit history renewed boot starts.
    starts_come_later (opening_of x limit history renewed boot) image s s.history starts whole kept holds
failed_again x s ticket a deadline image held before (inr more) holds = λ limit history renewed boot starts.
    starts_come_later (opening_of x limit history renewed boot) image s (s.history ++ (Some ticket, a) ∷ []) starts (confirming held before) more holds

sends_told : (site : MemorySiteState) → site.told ≡ true → (state_of site).contents.sends ≡ Some site.sends
sends_told site told = ap (λ t. (told_contents t site.given site.sends).sends) told

told_again : (site : MemorySiteState) → IsSome (state_of site).contents.sends → site.told ≡ true
told_again site is = by site.told refl
  where
    by : (t : Bool) → site.told ≡ t → site.told ≡ true
    by true same = same
    by false same =
        let none : (state_of site).contents.sends ≡ None = ap (λ t. (told_contents t site.given site.sends).sends) same in
        let P : Option Sends → Type 0 = λ o. IsSome o in
        let untold : P None = subst P none is in
        absurd (true≢false (sym untold))

not_failed : (go : Go) (spent : Spent) → ending_after go ≡ failed spent → ⊥
not_failed More spent e = cc
not_failed Stopped spent e = cc

-- a request's line that came whole
pub record IsWholeLine (asked : PlainRequest) (bytes all : List ℕ) : Type 0 where
  pub of : IsLineOf asked all
  pub is : all ≡ bytes ++ 10 ∷ []
  pub plain : HasNoEnd bytes
  pub short : length bytes ≤ 512

same_line : (bytes others : List ℕ) → bytes ++ 10 ∷ [] ≡ others ++ 10 ∷ [] → bytes ≡ others
same_line bytes others same = append_cancel_right bytes others (10 ∷ []) same

module _ (apart : TextsTellTicketsApart) (asked : PlainRequest) (bytes all : List ℕ) (of_line : IsWholeLine asked bytes all)
    (m new : ManagerState) (before after : MemorySiteState) (over : IsRunEnded m before) where
  words : words_of bytes ≡ request_words asked
  words =
      let of = of_line.of in
      ap words_of (same_line bytes of.bytes (sym of_line.is ∙ of.ended)) ∙ of.words

  completed : completes (held_at 0 m.lines) all ≡ line bytes ∷ []
  completed =
      ap (λ h. completes h all) over.held ∙ ap items of_line.is ∙ (one_line bytes of_line.plain of_line.short).0

  behind : holds_after (held_at 0 m.lines) all ≡ unfinished []
  behind = ap (λ h. holds_after h all) over.held ∙ ap held of_line.is ∙ (one_line bytes of_line.plain of_line.short).1

  -- its items, as they went
  pub went : (answers : List (List Reply)) (ending : Ending) → TakesEvent m (event_for all) all answers new ending
      → (replies : List Reply) × (answers ≡ replies ∷ []) × Went m.form m.limit (raised 0 m.machine) asked replies new.machine ending
  went answers ending takes =
      line_went apart m.form m.limit asked of_line.of.kind of_line.of.valid bytes words takes.steps completed

  bounds : before.told ≡ true → m.limit ≤ most_size → m.machine.number < 2 ^ 63 → HasBounds m.limit (raised 0 m.machine)
  bounds told limit number =
      let few = fits_few m before over.fits told in
      let history = few.0 in
      let boot = few.1 in
      record {
        limits = omega (arith, limit);
        boot = omega (arith, boot);
        number = omega (arith, number);
        history = omega (arith, history);
        time = over.time;
      }

  was_told : SendsMore (stretch_of state_of crashes_of before after) → after.told ≡ true → before.told ≡ true
  was_told sends told =
      let P : Option Sends → Type 0 = λ o. IsSome o in
      told_again before (sends.told (subst P (sym (sends_told after told)) refl))

  -- the request was answered
  pub answers_over : (go : Go) (result : List ℕ) (handled : HandlesOver m (event_for all) all (Ok go) new (stretch_of state_of crashes_of before after))
      → FitsSite new (state_of after) (crashes_of after) → EndsInLine (length before.sends.sent) after.sends result
      → m.limit ≤ most_size → m.machine.number < 2 ^ 63 → AnswersOver asked result m new after
  answers_over go result handled fits ends limit number =
      let takes = handled.handles.takes in
      let went_it = went handled.handles.answers handled.ending takes in
      elim went_it.2 [
        | steps.stepped first one step end ↦ record {
          form = takes.form;
          limit = takes.limit;
          over = record {
            fits = fits;
            held = ap (λ ls. held_at 0 ls) (takes.lines end) ∙ ap (λ h. held_at 0 (set m.lines 0 h)) behind ∙ set_default m.lines (unfinished []);
            time = step_time step over.time;
          };
          later = λ told. rises 0 (answered (requested {bytes = bytes} asked of_line.of.valid words step) stays);
          reply = λ told.
              let was = was_told handled.sends told in
              let plain = step_plain step of_line.of.kind of_line.of.valid (bounds was limit number) first refl in
              record {
                told = first;
                valid = plain.valid;
                text = line_is first 0 (all_replies handled.handles.answers) (get_or m.marks 0 false) handled.handles.sends.marked
                    (state_of before).contents (state_of after).contents before.sends after.sends result plain handled.handles.sends.sends
                    (ap all_replies went_it.1 ∙ ap (λ rs. all_replies (rs ∷ [])) one) (sends_told before was) (sends_told after told) ends;
                holds = stepped (rises 0 stays) step;
              };
        }
        | steps.stopped_by_disk ticket a deadline is one held_it in_time same end ↦
            absurd (not_failed go (Some ticket, a) (sym handled.answered ∙ end))
      ]

  -- the disk failed
  pub ends_again : (handled : HandlesOver m (event_for all) all (Err Disk) new (stretch_of state_of crashes_of before after))
      → Passes (stretch_of state_of crashes_of before after)
      → after.told ≡ true → StartsAgain m.form m.machine after.image
  ends_again handled passes told =
      elim (went handled.handles.answers handled.ending handled.handles.takes).2 [
        | steps.stepped first one step end ↦ absurd (never handled.answered.0 (sym end ∙ handled.answered.1))
        | steps.stopped_by_disk ticket a deadline is one held_it in_time same end ↦
            let again : StartsAgain m.form (raised 0 m.machine) after.image =
            failed_again m.form (raised 0 m.machine) ticket a deadline after.image held_it in_time
            (subst (λ (h : PlainHistory). EndsAs (failed (Some ticket, a)) h after.image) (ap (λ (s : MachineState). s.history) same)
            (subst (λ e. EndsAs e new.machine.history after.image) end (handled.ends some after.image (file_left after told))))
            (handled.boots some after.image earlier) in
            λ limit history renewed boot starts. rises 0 (again limit history renewed boot starts)
      ]
    where
      never : (spent : Spent) → going ≡ failed spent → ⊥
      never spent e = cc

      some : IsSome (state_of after).disk
      some = subst (λ o. IsSome o) (sym (disk_told after told)) refl

      earlier : (crashes_of after).left (state_of before).tick after.image
      earlier =
          let lawful = memory_is_lawful after in
          lawful.left_earlier (state_of before).tick (state_of after).tick after.image passes.left.later
          ((lawful.left_now after.image).1 (file_left after told))

  -- a reply came that isn't whole, or none
  pub lost_again : (go : Go) (handled : HandlesOver m (event_for all) all (Ok go) new (stretch_of state_of crashes_of before after))
      → FitsSite new (state_of after) (crashes_of after) → after.told ≡ true → StartsAgain m.form m.machine after.image
  lost_again go handled fits told =
      elim (went handled.handles.answers handled.ending handled.handles.takes).2 [
        | steps.stepped first one step end ↦ λ limit history renewed boot starts.
            let same = handled.handles.takes.form in
            rises 0 (answered (requested {bytes = bytes} asked of_line.of.valid words step)
            (subst (λ x. StartsAgain x new.machine after.image) same (fits_again new after fits told) limit history renewed boot starts))
        | steps.stopped_by_disk ticket a deadline is one held_it in_time same end ↦
            absurd (not_failed go (Some ticket, a) (sym handled.answered ∙ end))
      ]

  -- the reply that came tells that the disk failed
  pub tells_disk : (result : List ℕ) (handled : HandlesOver m (event_for all) all (Err Disk) new (stretch_of state_of crashes_of before after))
      → EndsInLine (length before.sends.sent) after.sends result → after.told ≡ true → TellsDisk asked result
  tells_disk result handled ends told =
      let went_it = went handled.handles.answers handled.ending handled.handles.takes in
      elim went_it.2 [
        | steps.stepped first one step end ↦ absurd (still handled.answered.0 (sym end ∙ handled.answered.1))
        | steps.stopped_by_disk ticket a deadline is one held_it in_time same end ↦
            let was = was_told handled.sends told in
            record {
              told = disk;
              valid = disk_plain.valid;
              text = line_is disk 0 (all_replies handled.handles.answers) (get_or m.marks 0 false) handled.handles.sends.marked
                  (state_of before).contents (state_of after).contents before.sends after.sends result disk_plain handled.handles.sends.sends
                  (ap all_replies went_it.1 ∙ ap (λ rs. all_replies (rs ∷ [])) one) (sends_told before was) (sends_told after told) ends;
              holds = (ticket, is, refl);
            }
      ]
    where
      still : (spent : Spent) → going ≡ failed spent → ⊥
      still spent e = cc

pub whole_line : (asked : PlainRequest) (bytes all : List ℕ) → IsLineOf asked all → IsShortLine bytes all → IsWholeLine asked bytes all
whole_line asked bytes all of one = record { of = of; is = one.is; plain = one.plain; short = one.short }
