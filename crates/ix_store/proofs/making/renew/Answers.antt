use Rattle.std.proofs.Common.{◌≡◌, ◌∷◌, List, ℕ, [], true, false, drop, length, rules, subst, sym, ◌∙◌, ap, arith}
use Rattle.std.proofs.lemmas.Bool.{eqb-false, eqb-true}
use Rattle.std.proofs.lemmas.List.{length-append}
use Rattle.ix_journal.specs.Format.{renewed_journal}
use Rattle.ix_outside.proofs.Passing.{DiskCalls-join}
use Rattle.ix_outside.specs.Crashes.{stretch_of}
use Rattle.ix_outside.specs.Disk.{OfFile}
use Rattle.ix_outside.specs.inside.DiskCalls.{LeavesOnly}
use Rattle.ix_store.specs.inside.Reading.{IsHeadOf}
use Rattle.ix_store.specs.inside.Renewing.{IsRenewing}
use Rattle.ix_store.proofs.Renewing.{begun_so_far, filled_so_far, journal_spelled, made_renewed, no_byte, nothing, opens}
use Rattle.ix_store.proofs.Told.{made, of_told}
use Rattle.ix_store.proofs.making.renew.Goals as goal

-- the file has a byte
pub returns-then-not-is_empty-clause-refused : goal.returns-then-not-is_empty-clause-refused
returns-then-not-is_empty-clause-refused g c told is none =
    let head = c.in_ok-head.head.items in
    let read = of_told _ _ told is c.in_ok-head.ensures.head in
    let shut : c.is_empty.result ≡ false = search rules in
    let some = eqb-false _ 0 (sym c.is_empty.ensures ∙ shut) in
    some (c.in_ok-head.head.ok.0 ∙ omega (arith, ap length read.whole, ap length none, length-append head read.rest))

-- a journal without records is made
pub returns-in_err-begin-clause-images : goal.returns-in_err-begin-clause-images
returns-in_err-begin-clause-images g c told is =
    let there = made _ _ _ told is c.read_synced.ensures.stays in
    begun_so_far c.args.text.now (renewed_journal c.args.text.now c.args.carried.now c.args.actions c.args.boots) _ _ _ _
    c.read_synced.ensures.calls (c.read_synced.ensures.images told is) _ _
    (g.met.S.Site.lawful c.begin.new.site) c.begin.ensures.calls (c.begin.ensures.images there.disk there.told)

-- and filled
pub fill-requires-clause-open_front : goal.fill-requires-clause-open_front
fill-requires-clause-open_front g c =
    let is = c.deref-2.ensures.value ∙ c.in_ok-records.ensures.bytes in
    subst (λ (r : List ℕ). r ≡ 165 ∷ drop 1 r) (sym is) (opens c.args.carried.now c.args.actions c.args.boots)

pub returns-in_err-fill-clause-images : goal.returns-in_err-fill-clause-images
returns-in_err-fill-clause-images g c told is =
    let text = c.args.text.now in
    let there = made _ _ _ told is c.read_synced.ensures.stays in
    let next = made _ _ _ there.disk there.told c.in_ok-begin.ensures.begun in
    let spelled = c.deref-2.ensures.value ∙ c.in_ok-records.ensures.bytes in
    filled_so_far text (renewed_journal text c.args.carried.now c.args.actions c.args.boots) _ _ _ _
    c.read_synced.ensures.calls (c.read_synced.ensures.images told is) _ _
    (g.met.S.Site.lawful c.begin.new.site) c.begin.ensures.calls (c.begin.ensures.images there.disk there.told) _ _
    c.fill.ensures.calls
    (subst (λ (w : List ℕ). LeavesOnly (IsRenewing text w) (stretch_of g.S.Site.state g.S.Site.crashes c.begin.new.site c.fill.new.site))
    (journal_spelled text c.deref-2.result.now c.args.carried.now c.args.actions c.args.boots spelled)
    (c.fill.ensures.images next.disk next.told))

pub returns-clause-images : goal.returns-clause-images
returns-clause-images g c told is =
    let text = c.args.text.now in
    let there = made _ _ _ told is c.read_synced.ensures.stays in
    let next = made _ _ _ there.disk there.told c.in_ok-begin.ensures.begun in
    let spelled = c.deref-2.ensures.value ∙ c.in_ok-records.ensures.bytes in
    filled_so_far text (renewed_journal text c.args.carried.now c.args.actions c.args.boots) _ _ _ _
    c.read_synced.ensures.calls (c.read_synced.ensures.images told is) _ _
    (g.met.S.Site.lawful c.begin.new.site) c.begin.ensures.calls (c.begin.ensures.images there.disk there.told) _ _
    c.fill.ensures.calls
    (subst (λ (w : List ℕ). LeavesOnly (IsRenewing text w) (stretch_of g.S.Site.state g.S.Site.crashes c.begin.new.site c.fill.new.site))
    (journal_spelled text c.deref-2.result.now c.args.carried.now c.args.actions c.args.boots spelled)
    (c.fill.ensures.images next.disk next.told))

pub returns-clause-calls : goal.returns-clause-calls
returns-clause-calls g c =
    DiskCalls-join _ _ _ _ _ _ (g.met.S.Site.lawful c.fill.new.site)
    (DiskCalls-join _ _ _ _ _ _ (g.met.S.Site.lawful c.begin.new.site)
    c.read_synced.ensures.calls c.begin.ensures.calls)
    c.fill.ensures.calls

pub returns-clause-made : goal.returns-clause-made
returns-clause-made g c =
    let whole : c.is_empty.result ≡ true = search rules in
    let none : c.in_ok-head.head.items ≡ [] = nothing _ (sym c.in_ok-head.head.ok.0 ∙ eqb-true _ _ (sym c.is_empty.ensures ∙ whole)) in
    made_renewed c.args.text.now c.deref-2.result.now c.args.carried.now c.args.actions c.args.boots _ _ _ _
    (subst (λ (l : List ℕ). OfFile (IsHeadOf l) (g.S.Site.state c.args.site.now).disk) none c.in_ok-head.ensures.head)
    (c.deref-2.ensures.value ∙ c.in_ok-records.ensures.bytes)
    c.read_synced.ensures.stays c.in_ok-begin.ensures.begun c.in_ok-fill.ensures.filled

pub returns-in_err-begin-clause-stays : goal.returns-in_err-begin-clause-stays
returns-in_err-begin-clause-stays g c told is some =
    let whole : c.is_empty.result ≡ true = search rules in
    absurd (some (no_byte _ told.file (of_told _ _ told is c.in_ok-head.ensures.head)
    (sym c.in_ok-head.head.ok.0 ∙ eqb-true _ _ (sym c.is_empty.ensures ∙ whole))))

pub returns-in_err-fill-clause-stays : goal.returns-in_err-fill-clause-stays
returns-in_err-fill-clause-stays g c told is some =
    let whole : c.is_empty.result ≡ true = search rules in
    absurd (some (no_byte _ told.file (of_told _ _ told is c.in_ok-head.ensures.head)
    (sym c.in_ok-head.head.ok.0 ∙ eqb-true _ _ (sym c.is_empty.ensures ∙ whole))))

pub returns-clause-stays : goal.returns-clause-stays
returns-clause-stays g c told is some =
    let whole : c.is_empty.result ≡ true = search rules in
    absurd (some (no_byte _ told.file (of_told _ _ told is c.in_ok-head.ensures.head)
    (sym c.in_ok-head.head.ok.0 ∙ eqb-true _ _ (sym c.is_empty.ensures ∙ whole))))
