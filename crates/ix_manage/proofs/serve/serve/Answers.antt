use Rattle.std.proofs.Common.{refl}
use Rattle.ix_manage.specs.inside.Jobs.{serve_of}
use Rattle.ix_manage.specs.declared.early_end.EarlyEnd.TheVariants.{Refused}
use Rattle.ix_manage.proofs.Devices.{calls_still}
use Rattle.ix_manage.proofs.Ending.{expression_refused}
use Rattle.ix_manage.proofs.Opening.{none_opened}
use Rattle.ix_manage.proofs.Stops.{ends_early, leaves_on, nothing_put}
use Rattle.ix_manage.proofs.serve.serve.Goals as goal

pub returns-in_err-expression-clause-leaves : goal.returns-in_err-expression-clause-leaves
returns-in_err-expression-clause-leaves g c =
    let names = c.args.names in
    let site = g.S.Site.state c.args.site.now in
    ends_early _ _ _ c.from_residual.result (Refused c.in_err-expression.field-0.0) c.from_residual.ensures.1
    (nothing_put c.in_err-expression.field-0.0 (g.K.Sink.state c.args.out.now)
    (λ status whole part last. record {
      ends = expression_refused (g.F.Files.state c.args.files.now) (g.F.Files.state c.load_expression.new.files) (serve_of names) names.expression.now refl
          c.in_err-expression.field-0.0 c.in_err-expression.ensures.err status whole part last site;
      touches = calls_still site;
      journal = none_opened (g.F.Files.state c.args.files.now).contents (serve_of names) site site
          (g.S.Site.crashes c.args.site.now) _ (g.met.S.Site.lawful c.args.site.now) c.requires.attached refl;
      made = tt;
      wire = λ socket same. refl;
    }))

pub returns-clause-leaves : goal.returns-clause-leaves
returns-clause-leaves g c =
    leaves_on
    (λ status whole part session serves. serves (g.F.Files.state c.args.files.now) (g.F.Files.state c.load_expression.new.files) c.in_ok-expression.ensures.ok)
    (g.K.Sink.state c.args.out.now) (g.K.Sink.state c.begin.new.out)
    c.begin.result c.begin.ensures.leaves
