use Rattle.std.proofs.Common.{length, inl, None, Ok, Err, refl, sym, ap, subst, arith, ◌∙◌}
use Rattle.ix_outside.specs.Contents.{Contents, Sends}
use Rattle.ix_outside.proofs.Counting.{Rose-earlier}
use Rattle.ix_can.specs.TreeOf.{tree_size}
use Rattle.ix_manager.specs.inside.StartAnswers.{IsStartFault}
use Rattle.ix_manager.proofs.AcknowledgedLemmas.{the_value}
use Rattle.ix_manager.proofs.SavingLemmas.{kept_told}
use Rattle.ix_manager.proofs.ServingLemmas.{serves_begin}
use Rattle.ix_manage.specs.declared.early_end.EarlyEnd.TheVariants.{Refused}
use Rattle.ix_manage.specs.declared.refusal.Refusal.TheVariants.{Disk}
use Rattle.ix_manage.specs.inside.EarlyEnds.{unstarted_end}
use Rattle.ix_manage.specs.Journal.{UsesJournal}
use Rattle.ix_renew.proofs.Making.{disk_calls_then, only_left}
use Rattle.ix_manage.proofs.Opening.{none_opened, of_journal, on_journal, some_is, start_keeps, start_reopens, start_uses}
use Rattle.ix_manage.proofs.Playing.{disk_stops, fault_kind, start_stops, started_small}
use Rattle.ix_manage.proofs.Stops.{handed_on}
use Rattle.ix_manage.proofs.open.open.Goals as goal

-- nothing was attached
pub returns-in_err-attach-clause-stops : goal.returns-in_err-attach-clause-stops
returns-in_err-attach-clause-stops g c = handed_on c.from_residual.result (Refused Disk) _ c.from_residual.ensures.1 (λ sink.
    let before = g.S.Site.state c.args.site.now in
    let after = g.S.Site.state c.attach.new.self in
    let is = g.S.Site.crashes c.attach.new.self in
    disk_stops c.args.expression c.args.limit c.args.journal.now before after is
    (λ files job it. none_opened files job before after is _
    (g.met.S.Site.lawful c.args.site.now) c.requires.attached c.in_err-attach.ensures.file) c.in_err-attach.ensures.rest sink
    c.in_err-attach.ensures.failed)

-- no manager was started
pub returns-in_err-start-clause-stops : goal.returns-in_err-start-clause-stops
returns-in_err-start-clause-stops g c =
    handed_on c.from_residual-in_err-start.result (unstarted_end c.in_err-start.field-0.0) _
    c.from_residual-in_err-start.ensures.1 (λ sink.
    let x = c.args.expression in
    let limit = c.args.limit in
    let name = c.args.journal.now in
    let before = g.S.Site.state c.args.site.now in
    let at = g.S.Site.state c.attach.new.self in
    let p = g.S.Site.crashes c.attach.new.self in
    let mid = g.S.Site.state c.start.new.site in
    let q = g.S.Site.crashes c.start.new.site in
    let why = c.in_err-start.field-0.0 in
    let told = c.in_err-start.ensures in
    start_stops x limit name before mid q
    (λ files job it. on_journal files job it.expression name x it.of_expression it.has_journal it.reads None before at mid q
    c.in_ok-attach.ensures.file (inl told.calls.opened)
    (λ d is e after. subst (λ n. UsesJournal x n None e.file (record { name = name; tick = at.tick; file = d.file }) q)
    (sym it.limit_is)
    (start_uses x limit at mid p q d name is
    (only_left at.disk p.now c.in_ok-attach.ensures.now d is) (Err why) (told.leaves d is)
    (g.met.S.Site.lawful c.start.new.site) told.calls.passes.left.later e after)))
    (disk_calls_then before at mid c.in_ok-attach.ensures.rest told.calls.rest) sink why (λ l same. told.only_large l (ap Err same))
    (fault_kind limit (tree_size x _) (Err why) why refl told.large)
    (λ small. of_journal (λ file. IsStartFault x limit file why) name at.tick before.disk at.disk mid.disk
    c.in_ok-attach.ensures.file told.calls.opened (λ d is. told.not_large small d is))
    (λ same. Rose-earlier before.counts.disk at.counts.disk mid.counts.disk c.in_ok-attach.ensures.rest.disk (told.failed (ap Err same))))

-- a manager was started
pub returns-clause-starts : goal.returns-clause-starts
returns-clause-starts g c =
    let x = c.args.expression in
    let limit = c.args.limit in
    let at = g.S.Site.state c.attach.new.self in
    let p = g.S.Site.crashes c.attach.new.self in
    let mid = g.S.Site.state c.start.new.site in
    let q = g.S.Site.crashes c.start.new.site in
    let told = c.in_ok-start.ensures in
    let m = c.in_ok-start.field-0 in
    let small = started_small limit (tree_size x _) (Ok m) m refl told.large in record {
      at = at;
      only = disk_calls_then (g.S.Site.state c.args.site.now) at mid c.in_ok-attach.ensures.rest told.calls.rest;
      attached = told.calls.attached ∙ c.in_ok-attach.ensures.attached;
      fresh = told.starts;
      small = small;
      opened = c.in_ok-attach.ensures.file;
      stays = told.calls.opened;
      later = told.calls.passes.left.later;
      starts = λ d is. told.not_large small d is;
      keeps = λ some.
          let disk = the_value at.disk some in
          start_keeps x limit at mid p q disk.0 c.args.journal.now disk.1
          (only_left at.disk p.now c.in_ok-attach.ensures.now disk.0 disk.1) (Ok m) (told.leaves disk.0 disk.1)
          m.machine.history m.machine.renewed m.machine.boot (told.not_large small disk.0 disk.1);
      reopens = λ some.
          let disk = the_value at.disk some in
          start_reopens x limit at mid p q disk.0 c.args.journal.now disk.1
          (only_left at.disk p.now c.in_ok-attach.ensures.now disk.0 disk.1) (Ok m) (told.leaves disk.0 disk.1)
          m.machine.history m.machine.renewed m.machine.boot (told.not_large small disk.0 disk.1);
      fits = told.fits;
      since = λ sends known.
          let contents = told.calls.rest.contents ∙ c.in_ok-attach.ensures.rest.contents in
          let at_known = ap (λ (k : Contents). k.sends) c.in_ok-attach.ensures.rest.contents ∙ known in
          serves_begin at.tick x (length m.machine.history) m.machine.history m.machine.renewed sends mid q
          (g.met.S.Site.lawful c.start.new.site) told.calls.passes.left.later (omega arith)
          (λ now is. some_is (sym is ∙ ap (λ (k : Contents). k.sends) contents ∙ known))
          (λ some.
          let disk = the_value at.disk (kept_told at.disk mid.disk told.calls.opened some) in
          start_keeps x limit at mid p q disk.0 c.args.journal.now disk.1
          (only_left at.disk p.now c.in_ok-attach.ensures.now disk.0 disk.1) (Ok m) (told.leaves disk.0 disk.1)
          m.machine.history m.machine.renewed m.machine.boot (told.not_large small disk.0 disk.1))
          (λ now is. (
            ap (λ (s : Sends). s.sent) (some_is (sym is ∙ ap (λ (k : Contents). k.sends) contents ∙ known)),
            λ left since. told.calls.sent sends at_known left since,
          ));
    }
