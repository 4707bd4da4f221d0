use Rattle.std.proofs.Common.{rules, arith, ◌≡◌, ◌∙◌, ◌<◌, [], ℕ, false, length, get_or, set, Ok}
use Rattle.std.proofs.Common.{ap, sym, subst}
use Rattle.ix_lines.specs.Feeding.{UnfinishedLine, unfinished, completes, holds_after}
use Rattle.ix_outside.specs.inside.DiskCalls.{span}
use Rattle.ix_manager.specs.Handled.{ManagerState, held_at}
use Rattle.ix_manager.specs.declared.faults.Go.TheVariants.{More}
use Rattle.ix_manager.specs.inside.OverSite.{FitsWith}
use Rattle.ix_manager.specs.inside.TakenItems.{TakesBytes}
use Rattle.ix_manager.specs.inside.WireState.{AnswersItems, wire_stretch}
use Rattle.ix_manager.specs.inside.Over.{OverJournal, OverRun}
use Rattle.ix_manager.proofs.TakeLemmas.{managed, ended_by, bytes_taken, get_or_any}
use Rattle.ix_manager.proofs.manager.Manager.take_bytes.Goals as goal
use Rattle.ix_manager.proofs.manager.Manager.take_bytes.Goals.{in-Ok-More, in-Ok-Stopped}
use Rattle.ix_manager.proofs.manager.Manager.take_bytes.Goals.{in-Ok-Stopped-2}

-- the file is attached
pub take_piece-outcome-requires-clause-fits : goal.take_piece-outcome-requires-clause-fits
take_piece-outcome-requires-clause-fits g c = record {
  attached = c.requires.attached;
  fits = subst (λ (m : ManagerState). FitsWith m.form m.machine m.store
      (g.S.Site.state c.args.site.now) (g.S.Site.crashes c.args.site.now)) (sym c.self.view_is)
      c.requires.fits;
}

pub returns-clause-takes : goal.returns-clause-takes
returns-clause-takes g c =
    let i = c.self.inside in
    let lines = i.lines.items in
    let conn = c.args.conn in
    let bytes = c.args.bytes.now in
    let next = c.take_piece-outcome.new in
    let result = c.take_piece-outcome.result in
    let index = c.from-index.result in
    let held = c.index_mut-lines.result.now in
    let a = g.S.Site.state c.args.site.now in
    let b = g.S.Site.state next.site in
    let p = g.S.Site.crashes c.args.site.now in
    let q = g.S.Site.crashes next.site in
    let within : conn < length lines = let count = c.self.invariant.count in let low =
    c.requires.connection in omega arith in
    let is : held ≡ held_at conn lines =
    c.index_mut-lines.ensures.value ∙ ap (λ (n : ℕ). get_or lines n held) c.from-index.ensures
    ∙ get_or_any lines conn held (unfinished []) within in
    let over : OverJournal (AnswersItems conn (completes (held_at conn lines) bytes)) result i.journaled
    next.journaled (wire_stretch (get_or i.marks conn false) next.gone (span a b p q)) =
    subst (λ (h : UnfinishedLine). OverJournal (AnswersItems conn (completes h bytes)) result i.journaled
    next.journaled (wire_stretch (get_or i.marks conn false) next.gone (span a b p q))) is
    (subst (λ (n : ℕ). OverJournal (AnswersItems conn (completes held bytes)) result i.journaled next.journaled
    (wire_stretch (get_or i.marks n false) next.gone (span a b p q)))
    c.from-index.ensures c.take_piece-outcome.ensures.answers) in
    let holds : result ≡ Ok More → next.lines ≡ holds_after (held_at conn lines) bytes =
    λ more. c.take_piece-outcome.ensures.lines more
    ∙ ap (λ (h : UnfinishedLine). holds_after h bytes) is in
    let ends : c.match-outcome.self ≡ ended_by result = elim c.match-outcome.branch [
      | in-Ok-More w ↦ search rules
      | in-Ok-Stopped w ↦ search rules
      | in-Ok-Stopped-2 w ↦ search rules
    ] in
    let taken = bytes_taken conn bytes result i.journaled next.journaled lines i.marks i.ended
    c.match-outcome.self next.lines next.gone a b p q ends holds over in
    let at : ManagerState → ℕ → Type 0 = λ m n. OverRun (TakesBytes conn bytes) result m
    (managed next.journaled (set lines n next.lines) (set i.marks n next.gone) c.match-outcome.self)
    (wire_stretch (get_or m.marks conn false) false (span a b p q)) in
    subst (λ (m : ManagerState). at m index) c.self.view_is
    (subst (λ (n : ℕ). at (managed i.journaled lines i.marks i.ended) n)
    (sym c.from-index.ensures) taken)
