use Rattle.std.proofs.Common.{ℕ, List, Option, map, string_bytes, refl, sym, true≢false}
use Rattle.ix_cli.specs.inside.Jobs.{Explains, job_of}
use Rattle.ix_cli.specs.declared.fault.WordsFault.{WordsFault}
use Rattle.ix_cli.specs.declared.fault.WordsFault.TheVariants as fault
use Rattle.ix_outside.specs.Crashes.{Crashes}
use Rattle.ix_outside.specs.FilesState.{FilesState}
use Rattle.ix_outside.specs.SinkState.{SinkState}
use Rattle.ix_outside.specs.SiteState.{SiteState}
use Rattle.ix_manage.specs.Around.{around_of}
use Rattle.ix_manage.specs.Ends.{EndsOver, JobOver, other_words, no_memory, named, unfit}
use Rattle.ix_manage.specs.Session.{Session}
use Rattle.ix_manage.specs.declared.refusal.Refusal.TheVariants as refusal
use Rattle.ix_manage.specs.declared.refusal.Refusal.TheVariants.{Memory}
use Rattle.ix_manage.specs.inside.EarlyEnds.{words_end}
use Rattle.ix_manage.specs.inside.Leaves.{StopsAfter}
use Rattle.ix_manage.proofs.Stops.{ends_early, leaves_on, nothing_put, nothing_put_of}
use Rattle.ix_manage.proofs.run.run.Goals as goal

pub run_job-requires-clause-named : goal.run_job-requires-clause-named
run_job-requires-clause-named g c = (map string_bytes c.args.words.now, c.in_ok-job.ensures)

pub returns-clause-leaves : goal.returns-clause-leaves
returns-clause-leaves g c =
    let words = map string_bytes c.args.words.now in
    let around = around_of (g.F.Files.state c.args.files.now) (g.F.Files.state c.run_job.new.files)
    (g.S.Site.state c.args.site.now) (g.S.Site.state c.run_job.new.site) in
    let crashes = g.S.Site.crashes c.run_job.new.site in
    let ends : (status : ℕ) (whole part : List ℕ) (session : Option Session)
    → JobOver around (job_of c.in_ok-job.job) crashes status whole part session
    → EndsOver words around crashes status whole part session =
    λ status whole part session end. named c.in_ok-job.ensures (c.if-not-has_fit_words.ensures.0 refl) end in
    leaves_on ends (g.K.Sink.state c.args.out.now) (g.K.Sink.state c.run_job.new.out)
    c.run_job.result c.run_job.ensures.leaves

-- the words weren't read
words_stop : (words : List (List ℕ)) (files later : FilesState) (site : SiteState) (crashes : Crashes)
    (sink : SinkState) (fault : WordsFault) → Explains words fault
    → StopsAfter (EndsOver words (around_of files later site site) crashes) sink sink (words_end fault)
words_stop words files later site crashes sink (fault.Bad text) none =
    nothing_put_of 2 _ sink (λ status whole part last. other_words none refl last)
words_stop words files later site crashes sink fault.Memory none =
    nothing_put Memory sink (λ status whole part last. no_memory refl last)

pub returns-in_err-job-clause-leaves : goal.returns-in_err-job-clause-leaves
returns-in_err-job-clause-leaves g c =
    let files = g.F.Files.state c.args.files.now in
    let site = g.S.Site.state c.args.site.now in
    ends_early _ _ _ c.from_residual.result (words_end c.in_err-job.field-0.0) c.from_residual.ensures.1
    (words_stop (map string_bytes c.args.words.now) files files site (g.S.Site.crashes c.args.site.now)
    (g.K.Sink.state c.args.out.now) c.in_err-job.field-0.0 c.in_err-job.ensures)

-- a word isn't what it must be
pub returns-then-not-has_fit_words-clause-leaves : goal.returns-then-not-has_fit_words-clause-leaves
returns-then-not-has_fit_words-clause-leaves g c =
    nothing_put refusal.Words (g.K.Sink.state c.args.out.now)
    (λ status whole part last. unfit (job_of c.in_ok-job.job) c.in_ok-job.ensures
    (λ fit. true≢false (sym (c.if-not-has_fit_words.ensures.1 fit))) refl last)
