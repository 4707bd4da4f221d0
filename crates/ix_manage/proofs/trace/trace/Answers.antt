use Rattle.std.proofs.Common.{refl}
use Rattle.ix_manage.specs.inside.Jobs.{trace_of}
use Rattle.ix_manage.specs.declared.early_end.EarlyEnd.TheVariants.{Refused}
use Rattle.ix_manage.proofs.Ending.{actions_refused_later, refused_start, refused_actions, trace_ends_run}
use Rattle.ix_manage.proofs.Stops.{ends_early, leaves_on, nothing_put}
use Rattle.ix_manage.proofs.trace.trace.Goals as goal

pub returns-in_err-engine-clause-leaves : goal.returns-in_err-engine-clause-leaves
returns-in_err-engine-clause-leaves g c =
    let files = g.F.Files.state c.args.files.now in
    let names = c.args.names in
    ends_early _ _ _ c.from_residual.result (Refused c.in_err-engine.field-0.0) c.from_residual.ensures.1
    (nothing_put c.in_err-engine.field-0.0 (g.K.Sink.state c.args.out.now)
    (refused_start files (g.F.Files.state c.start.new.files) (trace_of names) names.expression.now refl tt
    c.in_err-engine.field-0.0 c.in_err-engine.ensures.err))

pub returns-in_err-actions-clause-leaves : goal.returns-in_err-actions-clause-leaves
returns-in_err-actions-clause-leaves g c =
    let files = g.F.Files.state c.args.files.now in
    let names = c.args.names in
    let refusal = c.in_err-actions.field-0.0 in
    ends_early _ _ _ c.from_residual-in_err-actions.result (Refused refusal) c.from_residual-in_err-actions.ensures.1
    (nothing_put refusal (g.K.Sink.state c.args.out.now)
    (refused_actions files (g.F.Files.state c.load_actions.new.files) names.expression.now names.actions.now names.limit
    c.in_ok-engine.engine.form c.in_ok-engine.ensures.starts refusal
    (actions_refused_later files (g.F.Files.state c.start.new.files) (g.F.Files.state c.load_actions.new.files)
    names.actions.now refusal c.in_ok-engine.ensures.files c.in_err-actions.ensures.err)))

pub returns-clause-leaves : goal.returns-clause-leaves
returns-clause-leaves g c =
    let files = g.F.Files.state c.args.files.now in
    let names = c.args.names in
    let start = c.in_ok-engine in
    let load = c.in_ok-actions in
    leaves_on
    (trace_ends_run files (g.F.Files.state c.load_actions.new.files) names.expression.now names.actions.now names.limit
    start.engine.form start.engine.limit (g.F.Files.state c.start.new.files).contents
    load.actions.items c.deref.result.now
    start.ensures.starts start.ensures.limit start.ensures.files.contents
    load.ensures.file load.ensures.short c.deref.ensures.value)
    (g.K.Sink.state c.args.out.now) (g.K.Sink.state c.trace_lines.new.out)
    c.trace_lines.result c.trace_lines.ensures.leaves
