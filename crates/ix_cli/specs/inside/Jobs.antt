-- The answer of reading words, as contracts see it.
use Rattle.std.specs.Prelude.{ℕ, List, map, string_bytes, ⊤}
use Rattle.ix_cli.specs.declared.job.Job.{Job as ReadJob}
use Rattle.ix_cli.specs.declared.job.Job.TheVariants.{Trace, Replay, Serve, Work, Simplify, Bound}
use Rattle.ix_cli.specs.declared.job.Job.TheVariants.{Follow, Lint, Why, Next, Stuck, Renew}
use Rattle.ix_cli.specs.declared.fault.WordsFault.{WordsFault}
use Rattle.ix_cli.specs.declared.fault.WordsFault.TheVariants.{Bad, Memory}
use Rattle.ix_cli.specs.Words.{Job, NamesNoJob, trace, replay, serve, work, simplify, bound}
use Rattle.ix_cli.specs.Words.{follow, lint, why, next, stuck, renew}

-- the job that was read
abbrev pub job_of : ReadJob → Job
job_of (Trace expr actions nodes) = trace (string_bytes expr) (string_bytes actions) nodes
job_of (Replay expr journal script nodes turns) =
    replay (string_bytes expr) (string_bytes journal) (string_bytes script) nodes turns
job_of (Serve expr journal socket nodes turns) =
    serve (string_bytes expr) (string_bytes journal) (string_bytes socket) nodes turns
job_of (Work count seed nodes) = work count seed nodes
job_of (Simplify expr) = simplify (string_bytes expr)
job_of (Bound expr count) = bound (string_bytes expr) count
job_of (Follow expr lines nodes) = follow (string_bytes expr) (string_bytes lines) nodes
job_of (Lint expr) = lint (string_bytes expr)
job_of (Why expr actions action nodes) =
    why (string_bytes expr) (string_bytes actions) (string_bytes action) nodes
job_of (Next expr actions values nodes) =
    next (string_bytes expr) (string_bytes actions) (map string_bytes values.items) nodes
job_of (Stuck expr values nodes states) =
    stuck (string_bytes expr) (string_bytes values) nodes states
job_of (Renew expr journal new nodes) =
    renew (string_bytes expr) (string_bytes journal) (string_bytes new) nodes

-- words that are bad name no job, and want of memory says nothing of them
abbrev pub Explains : List (List ℕ) → WordsFault → Type 0
Explains words (Bad text) = NamesNoJob words
Explains words Memory = ⊤
