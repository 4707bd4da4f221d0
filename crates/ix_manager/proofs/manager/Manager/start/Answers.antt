use Rattle.std.proofs.Common.{◌≡◌, ℕ, ◌+◌, List, map, subst, sym, ◌∙◌, ap}
use Rattle.std.specs.List.{zip}
use Rattle.ix_expr.specs.CanonicalText.{canonical_text}
use Rattle.ix_expr.specs.Form.{Form}
use Rattle.ix_engine.specs.Histories.{AreAllowed, StopsAt}
use Rattle.ix_outside.proofs.Passing.{DiskCalls-none, DiskCalls-join}
use Rattle.ix_values.specs.PlainAction.{Word}
use Rattle.ix_journal.specs.Entries.{renewed_of}
use Rattle.ix_journal.specs.History.{PlainHistory, Spent, actions_of}
use Rattle.ix_store.specs.inside.Keeping.{FitsFile}
use Rattle.ix_store.specs.inside.KeptBy.{kept}
use Rattle.ix_store.specs.inside.Opens.{Opens}
use Rattle.ix_store.specs.inside.Refusals.{RefusesFileAs}
use Rattle.ix_store.specs.inside.Starting.{LeavesOnStart}
use Rattle.ix_outside.specs.Crashes.{stretch_of}
use Rattle.ix_manager.specs.Images.{IsStartable}
use Rattle.ix_manager.specs.Machine.{MachineState, start_of}
use Rattle.ix_manager.specs.Runs.{opening_of}
use Rattle.ix_manager.specs.inside.Core.{Core}
use Rattle.ix_manager.specs.inside.StartAnswers.{MayRecord, StartsFrom}
use Rattle.ix_manager.specs.declared.faults.StartFault.TheVariants.{Disk, Memory}
use Rattle.ix_manager.specs.inside.StartFaults.{open_fault_of}
use Rattle.ix_manager.specs.inside.Clean.{AreClean}
use Rattle.ix_manager.proofs.Keeping.{zipped}
use Rattle.ix_manager.proofs.StartLemmas.{disk_fault, handed_on, leaves_store, never_large, open_fault, resumed, resume_fault}
use Rattle.ix_manager.proofs.StartLemmas.{started_leaves}
use Rattle.ix_manager.proofs.TakeLemmas.{clean_at_start}
use Rattle.ix_manager.proofs.manager.Manager.start.Goals as goal

-- no text came so far
pub invariant_of-result : goal.invariant_of-result
invariant_of-result g c = subst AreClean (sym c.in_ok-lines.ensures) clean_at_start

-- no call was made
pub returns-in_err-text-clause-calls : goal.returns-in_err-text-clause-calls
returns-in_err-text-clause-calls g c =
    let site = c.args.site.now in DiskCalls-none (g.S.Site.state site) (g.S.Site.crashes site) (g.met.S.Site.lawful site)

pub returns-in_err-engine-clause-calls : goal.returns-in_err-engine-clause-calls
returns-in_err-engine-clause-calls g c =
    let site = c.args.site.now in DiskCalls-none (g.S.Site.state site) (g.S.Site.crashes site) (g.met.S.Site.lawful site)

pub returns-in_err-lines-clause-calls : goal.returns-in_err-lines-clause-calls
returns-in_err-lines-clause-calls g c =
    let site = c.args.site.now in DiskCalls-none (g.S.Site.state site) (g.S.Site.crashes site) (g.met.S.Site.lawful site)

-- there was no memory for the lines
pub returns-in_err-lines-clause-not_large : goal.returns-in_err-lines-clause-not_large
returns-in_err-lines-clause-not_large g c = λ small disk is.
    subst (StartsFrom c.args.expression c.args.limit disk.file)
    (sym (handed_on c.from_residual-in_err-lines.result Memory c.from_residual-in_err-lines.ensures.1)) tt

-- the store wasn't opened
pub returns-in_err-store-clause-only_large : goal.returns-in_err-store-clause-only_large
returns-in_err-store-clause-only_large g c = λ l same.
    let why = c.in_err-store.field-0.0 in
    absurd (never_large why l (sym (handed_on c.from_residual-in_err-store.result (open_fault_of why) c.from_residual-in_err-store.ensures.1) ∙ same))

pub returns-in_err-store-clause-not_large : goal.returns-in_err-store-clause-not_large
returns-in_err-store-clause-not_large g c = λ small disk is.
    let text : c.deref.result.now ≡ canonical_text c.args.expression = c.deref.ensures.value ∙ c.in_ok-text.ensures.value in
    let why = c.in_err-store.field-0.0 in
    subst (StartsFrom c.args.expression c.args.limit disk.file)
    (sym (handed_on c.from_residual-in_err-store.result (open_fault_of why) c.from_residual-in_err-store.ensures.1))
    (open_fault c.args.expression c.args.limit disk.file why
    (subst (λ (t : List ℕ). RefusesFileAs disk.file t why) text (c.in_err-store.ensures.refused disk is)))

pub returns-in_err-store-clause-leaves : goal.returns-in_err-store-clause-leaves
returns-in_err-store-clause-leaves g c = λ disk is.
    let text : c.deref.result.now ≡ canonical_text c.args.expression = c.deref.ensures.value ∙ c.in_ok-text.ensures.value in
    let old = c.args.site.now in
    let new = c.start.new.site in
    leaves_store c.args.expression c.args.limit disk.file (g.S.Site.state old) (g.S.Site.state new) (g.S.Site.crashes old) (g.S.Site.crashes new)
    (subst (λ (t : List ℕ). LeavesOnStart t disk.file (stretch_of g.S.Site.state g.S.Site.crashes old new)) text
    (c.in_err-store.ensures.images disk is)) c.in_ok-engine.ensures.within

pub returns-in_err-store-clause-failed : goal.returns-in_err-store-clause-failed
returns-in_err-store-clause-failed g c = λ is.
    let why = c.in_err-store.field-0.0 in
    c.in_err-store.ensures.failed (disk_fault why
    (sym (handed_on c.from_residual-in_err-store.result (open_fault_of why) c.from_residual-in_err-store.ensures.1) ∙ is))

-- a record was refused
pub returns-in_err-engine-2-clause-not_large : goal.returns-in_err-engine-2-clause-not_large
returns-in_err-engine-2-clause-not_large g c = λ small disk is.
    let x = c.args.expression in
    let limit = c.args.limit in
    let text : c.deref.result.now ≡ canonical_text x = c.deref.ensures.value ∙ c.in_ok-text.ensures.value in
    let history = c.in_ok-store.history in
    let words : c.into_parts-tickets.result.1.items ≡ actions_of history = c.into_parts-tickets.ensures.actions in
    let stopped = c.in_err-engine-2.field-0.0 in
    let marks = (kept c.in_ok-store.store).marks in
    let opens = subst (λ (t : List ℕ). Opens disk.file t history marks) text (c.in_ok-store.ensures.opened disk is) in
    let at = subst (λ (w : Word). StopsAt x limit w stopped) words
    (subst (λ (form : Form). StopsAt form limit c.into_parts-tickets.result.1.items stopped) c.in_ok-engine.ensures.form
    (subst (λ most. StopsAt c.in_ok-engine.engine.form most c.into_parts-tickets.result.1.items stopped) c.in_ok-engine.ensures.limit
    c.in_err-engine-2.ensures.refused)) in
    subst (StartsFrom x limit disk.file)
    (sym (handed_on c.from_residual-in_err-engine-2.result _ c.from_residual-in_err-engine-2.ensures.1))
    (resume_fault x limit disk.file history marks stopped small c.in_ok-store.ensures.room opens at)

pub returns-in_err-engine-2-clause-leaves : goal.returns-in_err-engine-2-clause-leaves
returns-in_err-engine-2-clause-leaves g c = λ disk is.
    let x = c.args.expression in
    let limit = c.args.limit in
    let text : c.deref.result.now ≡ canonical_text x = c.deref.ensures.value ∙ c.in_ok-text.ensures.value in
    let old = c.args.site.now in
    let new = c.start.new.site in
    leaves_store x limit disk.file (g.S.Site.state old) (g.S.Site.state new) (g.S.Site.crashes old) (g.S.Site.crashes new)
    (subst (λ (t : List ℕ). LeavesOnStart t disk.file (stretch_of g.S.Site.state g.S.Site.crashes old new)) text
    (c.in_ok-store.ensures.images disk is)) c.in_ok-engine.ensures.within

-- the history was taken, and the boot is recorded
pub start_machine-requires-clause-fits : goal.start_machine-requires-clause-fits
start_machine-requires-clause-fits g c =
    let x = c.args.expression in
    let limit = c.args.limit in
    let text : c.deref.result.now ≡ canonical_text x = c.deref.ensures.value ∙ c.in_ok-text.ensures.value in
    let history = c.in_ok-store.history in
    let words : c.into_parts-tickets.result.1.items ≡ actions_of history = c.into_parts-tickets.ensures.actions in
    let tickets : c.into_parts-tickets.result.0.items ≡ map (λ (spent : Spent). spent.0) history =
    c.into_parts-tickets.ensures.tickets in
    let engine = c.in_ok-engine-2.engine in
    let form : engine.form ≡ x = c.in_ok-engine-2.ensures.form ∙ c.in_ok-engine.ensures.form in
    let pairs : zip c.into_parts-tickets.result.0.items engine.history ≡ history =
    zipped history c.into_parts-tickets.result.0.items engine.history tickets (c.in_ok-engine-2.ensures.history ∙ words) in
    let site = c.start.new.site in
    let store = kept c.in_ok-store.store in
    subst (λ (h : PlainHistory). FitsFile (g.S.Site.state site) (g.S.Site.crashes site) store (canonical_text engine.form) h) (sym pairs)
    (subst (λ (t : List ℕ). FitsFile (g.S.Site.state site) (g.S.Site.crashes site) store t history) (text ∙ ap canonical_text (sym form))
    c.in_ok-store.ensures.fits)

pub returns-clause-not_large : goal.returns-clause-not_large
returns-clause-not_large g c = λ small disk is.
    let x = c.args.expression in
    let limit = c.args.limit in
    let text : c.deref.result.now ≡ canonical_text x = c.deref.ensures.value ∙ c.in_ok-text.ensures.value in
    let history = c.in_ok-store.history in
    let words : c.into_parts-tickets.result.1.items ≡ actions_of history = c.into_parts-tickets.ensures.actions in
    let tickets : c.into_parts-tickets.result.0.items ≡ map (λ (spent : Spent). spent.0) history =
    c.into_parts-tickets.ensures.tickets in
    let engine = c.in_ok-engine-2.engine in
    let form : engine.form ≡ x = c.in_ok-engine-2.ensures.form ∙ c.in_ok-engine.ensures.form in
    let pairs : zip c.into_parts-tickets.result.0.items engine.history ≡ history =
    zipped history c.into_parts-tickets.result.0.items engine.history tickets (c.in_ok-engine-2.ensures.history ∙ words) in
    let allowed = subst (λ (w : Word). AreAllowed x limit w) words
    (subst (λ (f : Form). AreAllowed f limit c.into_parts-tickets.result.1.items) c.in_ok-engine.ensures.form
    (subst (λ most. AreAllowed c.in_ok-engine.engine.form most c.into_parts-tickets.result.1.items) c.in_ok-engine.ensures.limit
    c.in_ok-engine-2.ensures.allowed)) in
    let marks = (kept c.in_ok-store.store).marks in
    let opens = subst (λ (t : List ℕ). Opens disk.file t history marks) text (c.in_ok-store.ensures.opened disk is) in
    subst (λ (s : MachineState). IsStartable (opening_of x limit s.history s.renewed s.boot) disk.file)
    (sym (ap (λ (core : Core). core.state) c.in_ok-journaled.ensures.starts
    ∙ ap (λ (h : PlainHistory). start_of h (renewed_of marks) (marks.boots + 1)) pairs))
    (resumed x limit disk.file history marks small allowed c.in_ok-store.ensures.room opens)

pub returns-clause-leaves : goal.returns-clause-leaves
returns-clause-leaves g c = λ disk is.
    let x = c.args.expression in
    let limit = c.args.limit in
    let text : c.deref.result.now ≡ canonical_text x = c.deref.ensures.value ∙ c.in_ok-text.ensures.value in
    let history = c.in_ok-store.history in
    let words : c.into_parts-tickets.result.1.items ≡ actions_of history = c.into_parts-tickets.ensures.actions in
    let tickets : c.into_parts-tickets.result.0.items ≡ map (λ (spent : Spent). spent.0) history =
    c.into_parts-tickets.ensures.tickets in
    let engine = c.in_ok-engine-2.engine in
    let form : engine.form ≡ x = c.in_ok-engine-2.ensures.form ∙ c.in_ok-engine.ensures.form in
    let pairs : zip c.into_parts-tickets.result.0.items engine.history ≡ history =
    zipped history c.into_parts-tickets.result.0.items engine.history tickets (c.in_ok-engine-2.ensures.history ∙ words) in
    let allowed = subst (λ (w : Word). AreAllowed x limit w) words
    (subst (λ (f : Form). AreAllowed f limit c.into_parts-tickets.result.1.items) c.in_ok-engine.ensures.form
    (subst (λ most. AreAllowed c.in_ok-engine.engine.form most c.into_parts-tickets.result.1.items) c.in_ok-engine.ensures.limit
    c.in_ok-engine-2.ensures.allowed)) in
    let old = c.args.site.now in
    let mid = c.start.new.site in
    let new = c.start_machine.new.site in
    started_leaves x limit disk (g.S.Site.state old) (g.S.Site.state mid) (g.S.Site.state new) (g.S.Site.crashes old) (g.S.Site.crashes mid)
    (g.S.Site.crashes new) c.deref.result.now history (zip c.into_parts-tickets.result.0.items engine.history) engine.form
    (kept c.in_ok-store.store) tt text form pairs is (c.in_ok-store.ensures.images disk is) c.start.ensures.calls c.start_machine.ensures.calls
    (c.in_ok-store.ensures.opened disk is) c.start_machine.ensures.images c.in_ok-engine.ensures.within allowed c.in_ok-store.ensures.room

pub returns-clause-calls : goal.returns-clause-calls
returns-clause-calls g c =
    let old = c.args.site.now in
    let mid = c.start.new.site in
    let new = c.start_machine.new.site in
    DiskCalls-join (g.S.Site.state old) (g.S.Site.state mid) (g.S.Site.state new) (g.S.Site.crashes old) (g.S.Site.crashes mid)
    (g.S.Site.crashes new) (g.met.S.Site.lawful new) c.start.ensures.calls c.start_machine.ensures.calls

-- the boot wasn't recorded, or only in part
pub returns-in_err-journaled-clause-leaves : goal.returns-in_err-journaled-clause-leaves
returns-in_err-journaled-clause-leaves g c = λ disk is.
    let x = c.args.expression in
    let limit = c.args.limit in
    let text : c.deref.result.now ≡ canonical_text x = c.deref.ensures.value ∙ c.in_ok-text.ensures.value in
    let history = c.in_ok-store.history in
    let words : c.into_parts-tickets.result.1.items ≡ actions_of history = c.into_parts-tickets.ensures.actions in
    let tickets : c.into_parts-tickets.result.0.items ≡ map (λ (spent : Spent). spent.0) history =
    c.into_parts-tickets.ensures.tickets in
    let engine = c.in_ok-engine-2.engine in
    let form : engine.form ≡ x = c.in_ok-engine-2.ensures.form ∙ c.in_ok-engine.ensures.form in
    let pairs : zip c.into_parts-tickets.result.0.items engine.history ≡ history =
    zipped history c.into_parts-tickets.result.0.items engine.history tickets (c.in_ok-engine-2.ensures.history ∙ words) in
    let allowed = subst (λ (w : Word). AreAllowed x limit w) words
    (subst (λ (f : Form). AreAllowed f limit c.into_parts-tickets.result.1.items) c.in_ok-engine.ensures.form
    (subst (λ most. AreAllowed c.in_ok-engine.engine.form most c.into_parts-tickets.result.1.items) c.in_ok-engine.ensures.limit
    c.in_ok-engine-2.ensures.allowed)) in
    let old = c.args.site.now in
    let mid = c.start.new.site in
    let new = c.start_machine.new.site in
    started_leaves x limit disk (g.S.Site.state old) (g.S.Site.state mid) (g.S.Site.state new) (g.S.Site.crashes old) (g.S.Site.crashes mid)
    (g.S.Site.crashes new) c.deref.result.now history (zip c.into_parts-tickets.result.0.items engine.history) engine.form
    (kept c.in_ok-store.store) (subst MayRecord (sym (handed_on c.from_residual-in_err-journaled.result Disk c.from_residual-in_err-journaled.ensures.1)) tt)
    text form pairs is (c.in_ok-store.ensures.images disk is) c.start.ensures.calls c.start_machine.ensures.calls
    (c.in_ok-store.ensures.opened disk is) c.start_machine.ensures.images c.in_ok-engine.ensures.within allowed c.in_ok-store.ensures.room

pub returns-in_err-journaled-clause-calls : goal.returns-in_err-journaled-clause-calls
returns-in_err-journaled-clause-calls g c =
    let old = c.args.site.now in
    let mid = c.start.new.site in
    let new = c.start_machine.new.site in
    DiskCalls-join (g.S.Site.state old) (g.S.Site.state mid) (g.S.Site.state new) (g.S.Site.crashes old) (g.S.Site.crashes mid)
    (g.S.Site.crashes new) (g.met.S.Site.lawful new) c.start.ensures.calls c.start_machine.ensures.calls
