use Rattle.std.proofs.Common.{refl}
use Rattle.ix_manage.specs.inside.Jobs.{follow_of}
use Rattle.ix_manage.specs.declared.early_end.EarlyEnd.TheVariants.{Refused}
use Rattle.ix_manage.proofs.Ending.{lines_refused_later, refused_start, refused_lines, follow_ends_run}
use Rattle.ix_manage.proofs.Stops.{ends_early, leaves_on, nothing_put}
use Rattle.ix_manage.proofs.follow.follow.Goals as goal

pub returns-in_err-follower-clause-leaves : goal.returns-in_err-follower-clause-leaves
returns-in_err-follower-clause-leaves g c =
    let files = g.F.Files.state c.args.files.now in
    let names = c.args.names in
    ends_early _ _ _ c.from_residual.result (Refused c.in_err-follower.field-0.0) c.from_residual.ensures.1
    (nothing_put c.in_err-follower.field-0.0 (g.K.Sink.state c.args.out.now)
    (refused_start files (g.F.Files.state c.start_follower.new.files) (follow_of names) names.expression.now refl tt
    c.in_err-follower.field-0.0 c.in_err-follower.ensures.err))

pub returns-in_err-lines-clause-leaves : goal.returns-in_err-lines-clause-leaves
returns-in_err-lines-clause-leaves g c =
    let files = g.F.Files.state c.args.files.now in
    let names = c.args.names in
    let refusal = c.in_err-lines.field-0.0 in
    ends_early _ _ _ c.from_residual-in_err-lines.result (Refused refusal) c.from_residual-in_err-lines.ensures.1
    (nothing_put refusal (g.K.Sink.state c.args.out.now)
    (refused_lines files (g.F.Files.state c.load_lines.new.files) names.expression.now names.lines.now names.limit
    c.in_ok-follower.follower.form c.in_ok-follower.ensures.starts refusal
    (lines_refused_later files (g.F.Files.state c.start_follower.new.files) (g.F.Files.state c.load_lines.new.files)
    names.lines.now refusal c.in_ok-follower.ensures.files c.in_err-lines.ensures.err)))

pub returns-clause-leaves : goal.returns-clause-leaves
returns-clause-leaves g c =
    let files = g.F.Files.state c.args.files.now in
    let names = c.args.names in
    let start = c.in_ok-follower in
    let load = c.in_ok-lines in
    leaves_on
    (follow_ends_run files (g.F.Files.state c.load_lines.new.files) names.expression.now names.lines.now names.limit
    start.follower.form start.follower.limit (g.F.Files.state c.start_follower.new.files).contents
    load.lines.items c.deref.result.now
    start.ensures.starts start.ensures.limit start.ensures.files.contents
    load.ensures.file load.ensures.short c.deref.ensures.value)
    (g.K.Sink.state c.args.out.now) (g.K.Sink.state c.feed_lines.new.out)
    c.feed_lines.result c.feed_lines.ensures.leaves
