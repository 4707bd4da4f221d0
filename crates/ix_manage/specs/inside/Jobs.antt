-- The job of words that were read.
use Rattle.ix_cli.specs.Words.{Job, trace, replay, serve, work, follow, renew}
use Rattle.ix_manage.specs.declared.job.FollowWords.{FollowWords}
use Rattle.ix_manage.specs.declared.job.RenewWords.{RenewWords}
use Rattle.ix_manage.specs.declared.job.TraceWords.{TraceWords}
use Rattle.ix_manage.specs.declared.job.ReplayWords.{ReplayWords}
use Rattle.ix_manage.specs.declared.job.ServeWords.{ServeWords}
use Rattle.ix_manage.specs.declared.job.WorkWords.{WorkWords}

-- the trace that words name
abbrev pub trace_of : TraceWords → Job
trace_of names = trace names.expression.now names.actions.now names.limit

-- the replay that words name
abbrev pub replay_of : ReplayWords → Job
replay_of names =
    replay names.expression.now names.journal.now names.script.now names.limit names.turns

-- the serve that words name
abbrev pub serve_of : ServeWords → Job
serve_of names =
    serve names.expression.now names.journal.now names.socket.now names.limit names.turns

-- the work that words name
abbrev pub work_of : WorkWords → Job
work_of names = work names.count names.seed names.limit

-- the follow that words name
abbrev pub follow_of : FollowWords → Job
follow_of names = follow names.expression.now names.lines.now names.limit

-- the renew that words name
abbrev pub renew_of : RenewWords → Job
renew_of names =
    renew names.expression.now names.journal.now names.new.now names.limit
