use Rattle.std.proofs.Common.{[], List, ℕ, None, Err, ap, refl, subst, ◌∙◌}
use Rattle.std.proofs.lemmas.Option.{none-some}
use Rattle.ix_outside.specs.Sink.{AppendsPart}
use Rattle.ix_renew.proofs.Making.{none_opened_file}
use Rattle.ix_renew.specs.inside.Renewing.{LeavesNew, PreventsRenewal, Renews}
use Rattle.ix_manage.specs.Puts.{LastLine, lost, put}
use Rattle.ix_manage.specs.Renewals.{ReadsJournal}
use Rattle.ix_manage.specs.inside.Jobs.{renew_of}
use Rattle.ix_manage.specs.inside.Renewing.{renewal_end}
use Rattle.ix_manage.specs.declared.early_end.EarlyEnd.TheVariants.{Output, Refused}
use Rattle.ix_manage.proofs.Devices.{disk_calls_still}
use Rattle.ix_manage.proofs.Ending.{expression_refused}
use Rattle.ix_manage.proofs.Renewing.{load_ends, load_refused_later, renewal_made, renewal_stops}
use Rattle.ix_manage.proofs.Stops.{ended_cut, ended_whole, ends_early, nothing_put}
use Rattle.ix_manage.proofs.Tracing.{append_nothing}
use Rattle.ix_manage.proofs.renew.renew.Goals as goal

-- no expression is read
pub returns-in_err-expression-clause-leaves : goal.returns-in_err-expression-clause-leaves
returns-in_err-expression-clause-leaves g c =
    let files = g.F.Files.state c.args.files.now in
    let names = c.args.names in
    let site = g.S.Site.state c.args.site.now in
    ends_early _ _ _ c.from_residual.result (Refused c.in_err-expression.field-0.0) c.from_residual.ensures.1
    (nothing_put c.in_err-expression.field-0.0 (g.K.Sink.state c.args.out.now)
    (λ status whole part last. record {
      ends = expression_refused files (g.F.Files.state c.load_expression.new.files) (renew_of names) names.expression.now refl
          c.in_err-expression.field-0.0 c.in_err-expression.ensures.err status whole part last site;
      touches = disk_calls_still site;
      journal = λ expression journal of_expression has_journal. absurd (none-some journal has_journal);
      made = none_opened_file names.new.now _ site.disk
          ((g.met.S.Site.lawful c.args.site.now).unattached c.requires.attached);
      wire = λ socket same. absurd (none-some socket same);
    }))

-- the journal's file isn't loaded
pub returns-in_err-journal-clause-leaves : goal.returns-in_err-journal-clause-leaves
returns-in_err-journal-clause-leaves g c =
    let files = g.F.Files.state c.args.files.now in
    let mid = g.F.Files.state c.load_expression.new.files in
    let later = g.F.Files.state c.load_journal.new.files in
    let names = c.args.names in
    let site = g.S.Site.state c.args.site.now in
    let why = c.in_err-journal.field-0.0 in
    ends_early _ _ _ c.from_residual-in_err-journal.result (Refused why) c.from_residual-in_err-journal.ensures.1
    (nothing_put why (g.K.Sink.state c.args.out.now)
    (λ status whole part last. record {
      ends = load_ends files later names c.in_ok-expression.expression c.in_ok-expression.ensures.ok why
          (load_refused_later files mid later names.journal.now why c.in_ok-expression.ensures.files c.in_err-journal.ensures.err)
          status whole part last site;
      touches = disk_calls_still site;
      journal = λ expression journal of_expression has_journal. absurd (none-some journal has_journal);
      made = none_opened_file names.new.now _ site.disk
          ((g.met.S.Site.lawful c.args.site.now).unattached c.requires.attached);
      wire = λ socket same. absurd (none-some socket same);
    }))

-- the journal isn't renewed
pub returns-in_err-renewal-clause-leaves : goal.returns-in_err-renewal-clause-leaves
returns-in_err-renewal-clause-leaves g c =
    let files = g.F.Files.state c.args.files.now in
    let later = g.F.Files.state c.load_journal.new.files in
    let names = c.args.names in
    let x = c.in_ok-expression.expression in
    let bytes = c.in_ok-journal.journal.items in
    let same = c.deref.ensures.value in
    let why = c.in_err-renewal.field-0.0 in
    let before = g.S.Site.state c.args.site.now in
    let after = g.S.Site.state c.renew.new.site in
    let is = g.S.Site.crashes c.renew.new.site in
    let done = c.renew.ensures in
    let loads = subst (λ known. ReadsJournal known names.journal.now bytes) c.in_ok-expression.ensures.files.contents
    c.in_ok-journal.ensures.file in
    ends_early _ _ _ c.from_residual-in_err-renewal.result (renewal_end why) c.from_residual-in_err-renewal.ensures.1
    (renewal_stops files later names before after is x bytes c.in_ok-expression.ensures.ok loads
    (subst (λ (file : List ℕ). LeavesNew x names.limit file names.new.now after.disk is) same done.leaves) done.disk
    why (subst (λ (file : List ℕ). PreventsRenewal x names.limit file why) same c.in_err-renewal.ensures.refused)
    c.in_err-renewal.ensures.rests
    (λ is_there. c.in_err-renewal.ensures.there (ap Err is_there))
    (λ is_disk. c.in_err-renewal.ensures.failed (ap Err is_disk))
    (g.K.Sink.state c.args.out.now))

-- the put of the line fails
pub returns-in_err-put-clause-leaves : goal.returns-in_err-put-clause-leaves
returns-in_err-put-clause-leaves g c =
    let files = g.F.Files.state c.args.files.now in
    let later = g.F.Files.state c.load_journal.new.files in
    let names = c.args.names in
    let x = c.in_ok-expression.expression in
    let bytes = c.in_ok-journal.journal.items in
    let same = c.deref.ensures.value in
    let told = c.in_ok-renewal.renewal in
    let before = g.S.Site.state c.args.site.now in
    let after = g.S.Site.state c.renew.new.site in
    let is = g.S.Site.crashes c.renew.new.site in
    let done = c.renew.ensures in
    let line = c.deref-2.result.now in
    let sink = g.K.Sink.state c.args.out.now in
    let loads = subst (λ known. ReadsJournal known names.journal.now bytes) c.in_ok-expression.ensures.files.contents
    c.in_ok-journal.ensures.file in
    ends_early _ _ _ c.from_residual-in_err-put.result Output c.from_residual-in_err-put.ensures.1
    (ended_cut sink (g.K.Sink.state c.put.new.self) [] line None
    (renewal_made files later names before after is x bytes c.in_ok-expression.ensures.ok loads
    (subst (λ (file : List ℕ). LeavesNew x names.limit file names.new.now after.disk is) same done.leaves) done.disk
    told (subst (λ (file : List ℕ). Renews x names.limit file names.new.now told after.disk is) same c.in_ok-renewal.ensures.renewed)
    10 [] line
    (subst (λ (l : List ℕ). LastLine 0 [] l 10 [] line) (c.deref-2.ensures.0 ∙ c.renewed_line.ensures) lost))
    (subst (λ known. AppendsPart known line (g.K.Sink.state c.put.new.self).written)
    (append_nothing sink.written) c.in_err-put.ensures.part)
    c.in_err-put.ensures.failed)

-- the line is put
pub returns-clause-leaves : goal.returns-clause-leaves
returns-clause-leaves g c =
    let files = g.F.Files.state c.args.files.now in
    let later = g.F.Files.state c.load_journal.new.files in
    let names = c.args.names in
    let x = c.in_ok-expression.expression in
    let bytes = c.in_ok-journal.journal.items in
    let same = c.deref.ensures.value in
    let told = c.in_ok-renewal.renewal in
    let before = g.S.Site.state c.args.site.now in
    let after = g.S.Site.state c.renew.new.site in
    let is = g.S.Site.crashes c.renew.new.site in
    let done = c.renew.ensures in
    let line = c.deref-2.result.now in
    let loads = subst (λ known. ReadsJournal known names.journal.now bytes) c.in_ok-expression.ensures.files.contents
    c.in_ok-journal.ensures.file in
    ended_whole (g.K.Sink.state c.args.out.now) (g.K.Sink.state c.put.new.self) line None
    (renewal_made files later names before after is x bytes c.in_ok-expression.ensures.ok loads
    (subst (λ (file : List ℕ). LeavesNew x names.limit file names.new.now after.disk is) same done.leaves) done.disk
    told (subst (λ (file : List ℕ). Renews x names.limit file names.new.now told after.disk is) same c.in_ok-renewal.ensures.renewed)
    0 line []
    (subst (λ (l : List ℕ). LastLine 0 [] l 0 line []) (c.deref-2.ensures.0 ∙ c.renewed_line.ensures) put))
    c.in_ok-put.ensures.whole
