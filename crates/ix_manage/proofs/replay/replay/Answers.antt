use Rattle.std.proofs.Common.{refl, subst, ◌∙◌}
use Rattle.std.proofs.lemmas.Option.{none-some}
use Rattle.ix_outside.specs.Files.{HasFile}
use Rattle.ix_manage.specs.inside.Jobs.{replay_of}
use Rattle.ix_manage.specs.declared.early_end.EarlyEnd.TheVariants.{Refused}
use Rattle.ix_manage.proofs.Devices.{disk_calls_still}
use Rattle.ix_manage.proofs.Ending.{expression_refused, replay_refused, replay_reads, script_refused, script_refused_later}
use Rattle.ix_manage.proofs.Opening.{none_opened}
use Rattle.ix_manage.proofs.Stops.{ends_early, leaves_on, nothing_put}
use Rattle.ix_manage.proofs.replay.replay.Goals as goal

pub returns-in_err-expression-clause-leaves : goal.returns-in_err-expression-clause-leaves
returns-in_err-expression-clause-leaves g c =
    let files = g.F.Files.state c.args.files.now in
    let names = c.args.names in
    let site = g.S.Site.state c.args.site.now in
    let is = g.S.Site.crashes c.args.site.now in
    ends_early _ _ _ c.from_residual.result (Refused c.in_err-expression.field-0.0) c.from_residual.ensures.1
    (nothing_put c.in_err-expression.field-0.0 (g.K.Sink.state c.args.out.now)
    (λ status whole part last. record {
      ends = expression_refused files (g.F.Files.state c.load_expression.new.files) (replay_of names) names.expression.now refl
          c.in_err-expression.field-0.0 c.in_err-expression.ensures.err status whole part last site;
      touches = disk_calls_still site;
      journal = none_opened files.contents (replay_of names) site site is is
          (g.met.S.Site.lawful c.args.site.now) c.requires.attached refl;
      made = tt;
      wire = λ socket none. absurd (none-some socket none);
    }))

pub returns-in_err-bytes-clause-leaves : goal.returns-in_err-bytes-clause-leaves
returns-in_err-bytes-clause-leaves g c =
    let files = g.F.Files.state c.args.files.now in
    let names = c.args.names in
    let site = g.S.Site.state c.args.site.now in
    let is = g.S.Site.crashes c.args.site.now in
    let refusal = c.in_err-bytes.field-0.0 in
    ends_early _ _ _ c.from_residual-in_err-bytes.result (Refused refusal) c.from_residual-in_err-bytes.ensures.1
    (nothing_put refusal (g.K.Sink.state c.args.out.now)
    (λ status whole part last. record {
      ends = replay_refused files (g.F.Files.state c.load_script.new.files) names.expression.now names.journal.now names.script.now names.limit names.turns
          c.in_ok-expression.expression c.in_ok-expression.ensures.ok refusal
          (script_refused_later files (g.F.Files.state c.load_expression.new.files) (g.F.Files.state c.load_script.new.files)
          names.script.now refusal c.in_ok-expression.ensures.files c.in_err-bytes.ensures.err) status whole part last site;
      touches = disk_calls_still site;
      journal = none_opened files.contents (replay_of names) site site is is
          (g.met.S.Site.lawful c.args.site.now) c.requires.attached refl;
      made = tt;
      wire = λ socket none. absurd (none-some socket none);
    }))

pub returns-in_err-script-clause-leaves : goal.returns-in_err-script-clause-leaves
returns-in_err-script-clause-leaves g c =
    let files = g.F.Files.state c.args.files.now in
    let names = c.args.names in
    let bytes = c.in_ok-bytes.bytes.items in
    let site = g.S.Site.state c.args.site.now in
    let is = g.S.Site.crashes c.args.site.now in
    let refusal = c.in_err-script.field-0.0 in
    ends_early _ _ _ c.from_residual-in_err-script.result (Refused refusal) c.from_residual-in_err-script.ensures.1
    (nothing_put refusal (g.K.Sink.state c.args.out.now)
    (λ status whole part last. record {
      ends = replay_refused files (g.F.Files.state c.load_script.new.files) names.expression.now names.journal.now names.script.now names.limit names.turns
          c.in_ok-expression.expression c.in_ok-expression.ensures.ok refusal
          (script_refused files (g.F.Files.state c.load_script.new.files) names.script.now bytes c.deref.result.now
          (subst (λ files. HasFile files names.script.now bytes) c.in_ok-expression.ensures.files.contents
          c.in_ok-bytes.ensures.file)
          c.in_ok-bytes.ensures.short c.deref.ensures.value refusal c.in_err-script.ensures.err)
          status whole part last site;
      touches = disk_calls_still site;
      journal = none_opened files.contents (replay_of names) site site is is
          (g.met.S.Site.lawful c.args.site.now) c.requires.attached refl;
      made = tt;
      wire = λ socket none. absurd (none-some socket none);
    }))

pub returns-clause-leaves : goal.returns-clause-leaves
returns-clause-leaves g c =
    let files = g.F.Files.state c.args.files.now in
    let names = c.args.names in
    let load = c.in_ok-bytes in
    let bytes = load.bytes.items in
    let read = c.in_ok-script.ensures in
    let file = subst (λ files. HasFile files names.script.now bytes) c.in_ok-expression.ensures.files.contents
    load.ensures.file in
    leaves_on
    (λ status whole part session plays. plays files (g.F.Files.state c.load_script.new.files) c.in_ok-expression.ensures.ok
    (λ events has. replay_reads files.contents names.script.now
    bytes c.in_ok-script.script file load.ensures.short (read.same ∙ c.deref.ensures.value) events has))
    (g.K.Sink.state c.args.out.now) (g.K.Sink.state c.play.new.out)
    c.play.result c.play.ensures.leaves
