use Rattle.std.proofs.Common.{◌≡◌, ◌↔◌, ◌+◌, ◌≤◌, IsTrue, Bool, false, List, ℕ, sym, ◌∙◌, arith, subst, inl, inr, true≢false}
use Rattle.ix_journal.specs.Entries.{renewed_of}
use Rattle.ix_journal.specs.declared.entries.Marks.{Marks}
use Rattle.ix_journal.specs.inside.Counting.{HasBootRoom}
use Rattle.std.proofs.lemmas.Bool.{cases_lt}
use Rattle.ix_outside.specs.Disk.{OfFile}
use Rattle.ix_store.specs.declared.fault.OpenFault.TheVariants as fault
use Rattle.ix_store.specs.declared.find.Found.TheVariants as found
use Rattle.ix_store.specs.inside.Reading.{IsHeadOf}
use Rattle.ix_store.specs.inside.Refusals.{RefusesFileAs}
use Rattle.ix_store.specs.inside.Steps.{ClosesWith, IsFound, IsJudged}
use Rattle.ix_store.proofs.Opened.{full_read, handed_up, journal_read, new_read, refusal_read, refuses_any}
use Rattle.ix_store.proofs.Told.{made, of_told, to_told}
use Rattle.ix_store.proofs.find.find.Goals as goal

-- the front wasn't read
pub returns-in_err-head-clause-file : goal.returns-in_err-head-clause-file
returns-in_err-head-clause-file g c =
    let text = c.args.text.now in
    let why = c.in_err-head.field-0.0 in
    let disk = (g.S.Site.state c.args.site.now).disk in
    handed_up c.from_residual.result why (λ found. OfFile (IsFound text found) disk)
    (λ fault. OfFile (λ file. RefusesFileAs file text fault) disk) c.from_residual.ensures.1
    (to_told (λ file. RefusesFileAs file text why) disk (λ told is.
    refuses_any why told.file text c.in_err-head.ensures.fault))

pub returns-in_default-clause-file : goal.returns-in_default-clause-file
returns-in_default-clause-file g c =
    to_told (IsFound c.args.text.now (found.New c.in_ok-head.head))
    (g.S.Site.state c.args.site.now).disk (λ told is.
    let is_head = of_told _ _ told is c.in_ok-head.ensures.head in
    let same : IsHeadOf c.deref.result.now told.file =
    subst (λ (b : List ℕ). IsHeadOf b told.file) (sym c.deref.ensures.value) is_head in
    let judged = subst (IsJudged c.deref.result.now c.args.text.now) c.in_default.is
    c.in_ok-first.ensures in
    (new_read c.deref.result.now told.file c.args.text.now same judged, is_head))

pub returns-in_err-first-clause-file : goal.returns-in_err-first-clause-file
returns-in_err-first-clause-file g c =
    let text = c.args.text.now in
    let why = c.in_err-first.field-0.0 in
    let disk = (g.S.Site.state c.args.site.now).disk in
    handed_up c.from_residual-in_err-first.result why (λ found. OfFile (IsFound text found) disk)
    (λ fault. OfFile (λ file. RefusesFileAs file text fault) disk)
    c.from_residual-in_err-first.ensures.1
    (to_told (λ file. RefusesFileAs file text why) disk (λ told is.
    let is_head = of_told _ _ told is c.in_ok-head.ensures.head in
    let same : IsHeadOf c.deref.result.now told.file =
    subst (λ (b : List ℕ). IsHeadOf b told.file) (sym c.deref.ensures.value) is_head in
    refusal_read c.deref.result.now told.file text same why c.in_err-first.ensures))

-- it keeps a history
pub returns-clause-file : goal.returns-clause-file
returns-clause-file g c =
    let text = c.args.text.now in
    let front = c.deref.result.now in
    let kept = c.in_ok-kept.kept in
    to_told (IsFound text (found.Journal kept)) (g.S.Site.state c.args.site.now).disk (λ told is.
    let there = made _ _ _ told is c.in_ok-head.ensures.reads.stays in
    let is_head = of_told _ _ told is c.in_ok-head.ensures.head in
    let same : IsHeadOf front told.file =
    subst (λ (b : List ℕ). IsHeadOf b told.file) (sym c.deref.ensures.value) is_head in
    let judged = subst (IsJudged front text) c.in-Some.is c.in_ok-first.ensures in
    let closes = of_told (λ file. ClosesWith file c.in-Some.first kept.history kept.marks kept.gate)
    _ there.disk there.told c.in_ok-kept.ensures.file in
    journal_read front told.file text same c.in-Some.first judged kept.history kept.marks kept.gate
    (subst (λ (f : List ℕ). ClosesWith f c.in-Some.first kept.history kept.marks kept.gate)
    there.makes closes))

-- there is no room for a boot
pub returns-then-not-has_room-clause-file : goal.returns-then-not-has_room-clause-file
returns-then-not-has_room-clause-file g c =
    let text = c.args.text.now in
    let front = c.deref.result.now in
    let kept = c.in_ok-kept.kept in
    to_told (λ file. RefusesFileAs file text fault.Many)
    (g.S.Site.state c.args.site.now).disk (λ told is.
    let there = made _ _ _ told is c.in_ok-head.ensures.reads.stays in
    let is_head = of_told _ _ told is c.in_ok-head.ensures.head in
    let same : IsHeadOf front told.file =
    subst (λ (b : List ℕ). IsHeadOf b told.file) (sym c.deref.ensures.value) is_head in
    let judged = subst (IsJudged front text) c.in-Some.is c.in_ok-first.ensures in
    let closes = of_told (λ file. ClosesWith file c.in-Some.first kept.history kept.marks kept.gate)
    _ there.disk there.told c.in_ok-kept.ensures.file in
    let most = c.in_ok-kept.ensures.sound.few.1 in
    let full = full_of kept.marks c.has_room.result c.has_room.ensures c.if-not-has_room.true most in
    full_read front told.file text same c.in-Some.first judged kept.history kept.marks
    kept.gate
    (subst (λ (f : List ℕ). ClosesWith f c.in-Some.first kept.history kept.marks kept.gate)
    there.makes closes)
    full)
  where
    full_of : (m : Marks) (r : Bool) → (IsTrue r ↔ HasBootRoom m) → r ≡ false
        → m.boots ≤ (renewed_of m).boots + 1000000 → m.boots ≡ (renewed_of m).boots + 1000000
    full_of m r room none most = elim (cases_lt m.boots ((renewed_of m).boots + 1000000)) [
      | inl less ↦ absurd (true≢false (sym (room.1 less) ∙ none))
      | inr full ↦ omega (arith, full, most)
    ]
