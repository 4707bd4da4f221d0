use Rattle.std.proofs.Common.{◌≡◌, ◌∷◌, ◌++◌, ◌-◌, ◌∙◌, List, ℕ, length, take, drop, ap, subst, sym}
use Rattle.ix_journal.specs.Format.{header}
use Rattle.ix_outside.specs.Crashes.{stretch_of}
use Rattle.ix_outside.specs.Disk.{MakesFile}
use Rattle.ix_outside.specs.inside.DiskCalls.{LeavesOnly}
use Rattle.ix_store.specs.inside.Renewing.{IsRenewing}
use Rattle.ix_store.proofs.Renewing.{filling_images, made_filled, revealing_images, whole_rest}
use Rattle.ix_store.proofs.Told.{of_told}
use Rattle.ix_store.proofs.making.fill.Goals as goal

-- while the records are written
pub returns-in_err-write_through-clause-images : goal.returns-in_err-write_through-clause-images
returns-in_err-write_through-clause-images g c told is =
    let text = c.args.text.now in
    let bytes = take (length c.args.records.now - 1) (drop 1 c.args.records.now) in
    let spelled : c.args.records.now ≡ 165 ∷ bytes =
    c.requires.open_front ∙ ap (λ (r : List ℕ). 165 ∷ r) (sym (whole_rest c.args.records.now)) in
    subst (λ (r : List ℕ). LeavesOnly (IsRenewing text (165 ∷ header 51 text ++ r)) (stretch_of g.S.Site.state g.S.Site.crashes c.args.site.now c.write_through.new.site)) (sym spelled)
    (filling_images text c.requires.short bytes _ _ _ _ c.write_through.ensures.calls
    c.requires.settled told is (of_told _ _ told is c.requires.begun) (c.write_through.ensures.images told is))

-- while their gate is opened
pub returns-in_err-write_through-2-clause-images : goal.returns-in_err-write_through-2-clause-images
returns-in_err-write_through-2-clause-images g c told is =
    let text = c.args.text.now in
    let bytes = take (length c.args.records.now - 1) (drop 1 c.args.records.now) in
    let spelled : c.args.records.now ≡ 165 ∷ bytes =
    c.requires.open_front ∙ ap (λ (r : List ℕ). 165 ∷ r) (sym (whole_rest c.args.records.now)) in
    let done = c.in_ok-write_through.ensures in
    subst (λ (r : List ℕ). LeavesOnly (IsRenewing text (165 ∷ header 51 text ++ r)) (stretch_of g.S.Site.state g.S.Site.crashes c.args.site.now c.write_through-2.new.site)) (sym spelled)
    (revealing_images text c.requires.short bytes _ _ _ _ c.write_through.ensures.calls
    c.requires.settled told is (of_told _ _ told is c.requires.begun) (c.write_through.ensures.images told is)
    (g.met.S.Site.lawful c.write_through.new.site) done.written done.settled _ _
    c.write_through-2.ensures.calls c.write_through-2.ensures.images)

pub returns-clause-images : goal.returns-clause-images
returns-clause-images g c told is =
    let text = c.args.text.now in
    let bytes = take (length c.args.records.now - 1) (drop 1 c.args.records.now) in
    let spelled : c.args.records.now ≡ 165 ∷ bytes =
    c.requires.open_front ∙ ap (λ (r : List ℕ). 165 ∷ r) (sym (whole_rest c.args.records.now)) in
    let done = c.in_ok-write_through.ensures in
    subst (λ (r : List ℕ). LeavesOnly (IsRenewing text (165 ∷ header 51 text ++ r)) (stretch_of g.S.Site.state g.S.Site.crashes c.args.site.now c.write_through-2.new.site)) (sym spelled)
    (revealing_images text c.requires.short bytes _ _ _ _ c.write_through.ensures.calls
    c.requires.settled told is (of_told _ _ told is c.requires.begun) (c.write_through.ensures.images told is)
    (g.met.S.Site.lawful c.write_through.new.site) done.written done.settled _ _
    c.write_through-2.ensures.calls c.write_through-2.ensures.images)

pub returns-clause-filled : goal.returns-clause-filled
returns-clause-filled g c =
    let text = c.args.text.now in
    let bytes = take (length c.args.records.now - 1) (drop 1 c.args.records.now) in
    let spelled : c.args.records.now ≡ 165 ∷ bytes =
    c.requires.open_front ∙ ap (λ (r : List ℕ). 165 ∷ r) (sym (whole_rest c.args.records.now)) in
    subst (λ (r : List ℕ). MakesFile (λ _ file. file ≡ 165 ∷ header 51 text ++ r) (g.S.Site.state c.args.site.now).disk (g.S.Site.state c.write_through-2.new.site).disk) (sym spelled)
    (made_filled text c.requires.short bytes _ _ _ c.requires.begun
    c.in_ok-write_through.ensures.written c.in_ok-write_through-2.ensures.written)
