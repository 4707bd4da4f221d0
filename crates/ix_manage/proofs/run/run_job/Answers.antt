use Rattle.std.proofs.Common.{◌≡◌, ℕ, List, Option, map, string_bytes, refl, sym, ◌∙◌, ap, subst}
use Rattle.std.proofs.lemmas.Option.{none-some}
use Rattle.ix_cli.specs.Words.{Job, trace, simplify, bound, follow, lint, why, next, stuck}
use Rattle.ix_cli.specs.inside.Jobs.{job_of}
use Rattle.ix_manage.specs.Around.{around_of}
use Rattle.ix_manage.specs.Ends.{JobOver}
use Rattle.ix_manage.specs.Session.{Session}
use Rattle.ix_manage.specs.inside.Bounding.{BoundEnds}
use Rattle.ix_manage.specs.inside.Desks.{WhyEnds, NextEnds, StuckEnds}
use Rattle.ix_manage.specs.inside.Following.{FollowRuns}
use Rattle.ix_manage.specs.inside.Jobs.{work_of}
use Rattle.ix_manage.specs.inside.Linting.{LintEnds}
use Rattle.ix_manage.specs.inside.Playing.{TraceEnds}
use Rattle.ix_manage.specs.inside.Simplifying.{SimplifyEnds}
use Rattle.ix_manage.specs.inside.Working.{WorkEnds}
use Rattle.ix_manage.specs.declared.job.WorkWords.{WorkWords}
use Rattle.ix_manage.proofs.Stops.{leaves_on}
use Rattle.ix_manage.proofs.run.run_job.Goals as goal

pub returns-in-Trace-clause-leaves : goal.returns-in-Trace-clause-leaves
returns-in-Trace-clause-leaves g c =
    let files = g.F.Files.state c.args.files.now in
    let later = g.F.Files.state c.trace.new.files in
    let site = g.S.Site.state c.args.site.now in
    let crashes = g.S.Site.crashes c.args.site.now in
    let limit = c.in-Trace.nodes in
    let named : job_of c.args.job.now ≡ trace c.as_str.result.now c.as_str-in-Trace.result.now limit =
    ap job_of c.in-Trace.is ∙ (λ i. trace (sym c.as_str.ensures.value i) (sym c.as_str-in-Trace.ensures.value i) limit) in
    let ends : (status : ℕ) (whole part : List ℕ) (session : Option Session)
    → TraceEnds files later (record { expression = c.as_str.result; actions = c.as_str-in-Trace.result; limit = limit }) status whole part session
    → JobOver (around_of files later site site) (job_of c.args.job.now) crashes status whole part session =
    λ status whole part session end.
    subst (λ (job : Job). JobOver (around_of files later site site) job crashes status whole part session) (sym named)
    (record {
      ends = end site;
      touches = refl;
      journal = λ expression journal of_expression has_journal. absurd (none-some journal has_journal);
      made = tt;
      wire = λ socket same. absurd (none-some socket same);
    }) in
    leaves_on ends (g.K.Sink.state c.args.out.now) (g.K.Sink.state c.trace.new.out)
    c.trace.result c.trace.ensures.leaves

pub returns-in-Work-clause-leaves : goal.returns-in-Work-clause-leaves
returns-in-Work-clause-leaves g c =
    let files = g.F.Files.state c.args.files.now in
    let site = g.S.Site.state c.args.site.now in
    let crashes = g.S.Site.crashes c.args.site.now in
    let names : WorkWords =
    record { count = c.in-Work.count; seed = c.in-Work.seed; limit = c.in-Work.nodes } in
    let named : job_of c.args.job.now ≡ work_of names = ap job_of c.in-Work.is in
    let ends : (status : ℕ) (whole part : List ℕ) (session : Option Session)
    → WorkEnds names status whole part session
    → JobOver (around_of files files site site) (job_of c.args.job.now) crashes status whole part session =
    λ status whole part session end.
    subst (λ (job : Job). JobOver (around_of files files site site) job crashes status whole part session) (sym named)
    (record {
      ends = end files site;
      touches = refl;
      journal = λ expression journal of_expression has_journal. absurd (none-some journal has_journal);
      made = tt;
      wire = λ socket same. absurd (none-some socket same);
    }) in
    leaves_on ends (g.K.Sink.state c.args.out.now) (g.K.Sink.state c.work.new.out)
    c.work.result c.work.ensures.leaves

pub returns-in-Simplify-clause-leaves : goal.returns-in-Simplify-clause-leaves
returns-in-Simplify-clause-leaves g c =
    let files = g.F.Files.state c.args.files.now in
    let later = g.F.Files.state c.simplify.new.files in
    let site = g.S.Site.state c.args.site.now in
    let crashes = g.S.Site.crashes c.args.site.now in
    let name = c.as_str-in-Simplify.result.now in
    let named : job_of c.args.job.now ≡ simplify name =
    ap job_of c.in-Simplify.is ∙ ap simplify (sym c.as_str-in-Simplify.ensures.value) in
    let ends : (status : ℕ) (whole part : List ℕ) (session : Option Session)
    → SimplifyEnds files later name status whole part session
    → JobOver (around_of files later site site) (job_of c.args.job.now) crashes status whole part session =
    λ status whole part session end.
    subst (λ (job : Job). JobOver (around_of files later site site) job crashes status whole part session) (sym named)
    (record {
      ends = end site;
      touches = refl;
      journal = λ expression journal of_expression has_journal. absurd (none-some journal has_journal);
      made = tt;
      wire = λ socket same. absurd (none-some socket same);
    }) in
    leaves_on ends (g.K.Sink.state c.args.out.now) (g.K.Sink.state c.simplify.new.out)
    c.simplify.result c.simplify.ensures.leaves

pub returns-in-Bound-clause-leaves : goal.returns-in-Bound-clause-leaves
returns-in-Bound-clause-leaves g c =
    let files = g.F.Files.state c.args.files.now in
    let later = g.F.Files.state c.bound.new.files in
    let site = g.S.Site.state c.args.site.now in
    let crashes = g.S.Site.crashes c.args.site.now in
    let name = c.as_str-in-Bound.result.now in
    let count = c.in-Bound.count in
    let named : job_of c.args.job.now ≡ bound name count =
    ap job_of c.in-Bound.is ∙ ap (λ text. bound text count) (sym c.as_str-in-Bound.ensures.value) in
    let ends : (status : ℕ) (whole part : List ℕ) (session : Option Session)
    → BoundEnds files later name count status whole part session
    → JobOver (around_of files later site site) (job_of c.args.job.now) crashes status whole part session =
    λ status whole part session end.
    subst (λ (job : Job). JobOver (around_of files later site site) job crashes status whole part session) (sym named)
    (record {
      ends = end site;
      touches = refl;
      journal = λ expression journal of_expression has_journal. absurd (none-some journal has_journal);
      made = tt;
      wire = λ socket same. absurd (none-some socket same);
    }) in
    leaves_on ends (g.K.Sink.state c.args.out.now) (g.K.Sink.state c.bound.new.out)
    c.bound.result c.bound.ensures.leaves

pub returns-in-Follow-clause-leaves : goal.returns-in-Follow-clause-leaves
returns-in-Follow-clause-leaves g c =
    let files = g.F.Files.state c.args.files.now in
    let later = g.F.Files.state c.follow.new.files in
    let site = g.S.Site.state c.args.site.now in
    let crashes = g.S.Site.crashes c.args.site.now in
    let limit = c.in-Follow.nodes in
    let expr = c.as_str-in-Follow in
    let lines = c.as_str-in-Follow-2 in
    let named : job_of c.args.job.now ≡ follow expr.result.now lines.result.now limit =
    ap job_of c.in-Follow.is ∙ (λ i. follow (sym expr.ensures.value i) (sym lines.ensures.value i) limit) in
    let ends : (status : ℕ) (whole part : List ℕ) (session : Option Session)
    → FollowRuns files later (record { expression = expr.result; lines = lines.result; limit = limit }) status whole part session
    → JobOver (around_of files later site site) (job_of c.args.job.now) crashes status whole part session =
    λ status whole part session end.
    subst (λ (job : Job). JobOver (around_of files later site site) job crashes status whole part session) (sym named)
    (record {
      ends = end site;
      touches = refl;
      journal = λ expression journal of_expression has_journal. absurd (none-some journal has_journal);
      made = tt;
      wire = λ socket same. absurd (none-some socket same);
    }) in
    leaves_on ends (g.K.Sink.state c.args.out.now) (g.K.Sink.state c.follow.new.out)
    c.follow.result c.follow.ensures.leaves

pub returns-in-Lint-clause-leaves : goal.returns-in-Lint-clause-leaves
returns-in-Lint-clause-leaves g c =
    let files = g.F.Files.state c.args.files.now in
    let later = g.F.Files.state c.lint.new.files in
    let site = g.S.Site.state c.args.site.now in
    let crashes = g.S.Site.crashes c.args.site.now in
    let name = c.as_str-in-Lint.result.now in
    let named : job_of c.args.job.now ≡ lint name =
    ap job_of c.in-Lint.is ∙ ap lint (sym c.as_str-in-Lint.ensures.value) in
    let ends : (status : ℕ) (whole part : List ℕ) (session : Option Session)
    → LintEnds files later name status whole part session
    → JobOver (around_of files later site site) (job_of c.args.job.now) crashes status whole part session =
    λ status whole part session end.
    subst (λ (job : Job). JobOver (around_of files later site site) job crashes status whole part session) (sym named)
    (record {
      ends = end site;
      touches = refl;
      journal = λ expression journal of_expression has_journal. absurd (none-some journal has_journal);
      made = tt;
      wire = λ socket same. absurd (none-some socket same);
    }) in
    leaves_on ends (g.K.Sink.state c.args.out.now) (g.K.Sink.state c.lint.new.out)
    c.lint.result c.lint.ensures.leaves

pub returns-in-Why-clause-leaves : goal.returns-in-Why-clause-leaves
returns-in-Why-clause-leaves g c =
    let files = g.F.Files.state c.args.files.now in
    let later = g.F.Files.state c.why.new.files in
    let site = g.S.Site.state c.args.site.now in
    let crashes = g.S.Site.crashes c.args.site.now in
    let limit = c.in-Why.nodes in
    let expr = c.as_str-in-Why in
    let actions = c.as_str-in-Why-2 in
    let action = c.as_str-in-Why-3 in
    let named : job_of c.args.job.now ≡ why expr.result.now actions.result.now action.result.now limit =
    ap job_of c.in-Why.is
    ∙ (λ i. why (sym expr.ensures.value i) (sym actions.ensures.value i) (sym action.ensures.value i) limit) in
    let ends : (status : ℕ) (whole part : List ℕ) (session : Option Session)
    → WhyEnds files later (record { expression = expr.result; actions = actions.result; limit = limit }) action.result.now status whole part session
    → JobOver (around_of files later site site) (job_of c.args.job.now) crashes status whole part session =
    λ status whole part session end.
    subst (λ (job : Job). JobOver (around_of files later site site) job crashes status whole part session) (sym named)
    (record {
      ends = end site;
      touches = refl;
      journal = λ expression journal of_expression has_journal. absurd (none-some journal has_journal);
      made = tt;
      wire = λ socket same. absurd (none-some socket same);
    }) in
    leaves_on ends (g.K.Sink.state c.args.out.now) (g.K.Sink.state c.why.new.out)
    c.why.result c.why.ensures.leaves

pub returns-in-Next-clause-leaves : goal.returns-in-Next-clause-leaves
returns-in-Next-clause-leaves g c =
    let files = g.F.Files.state c.args.files.now in
    let later = g.F.Files.state c.next.new.files in
    let site = g.S.Site.state c.args.site.now in
    let crashes = g.S.Site.crashes c.args.site.now in
    let limit = c.in-Next.nodes in
    let values = map string_bytes c.as_slice.result.now in
    let expr = c.as_str-in-Next in
    let actions = c.as_str-in-Next-2 in
    let named : job_of c.args.job.now ≡ next expr.result.now actions.result.now values limit =
    ap job_of c.in-Next.is
    ∙ (λ i. next (sym expr.ensures.value i) (sym actions.ensures.value i)
    (map string_bytes (sym c.as_slice.ensures.value i)) limit) in
    let ends : (status : ℕ) (whole part : List ℕ) (session : Option Session)
    → NextEnds files later (record { expression = expr.result; actions = actions.result; limit = limit }) values status whole part session
    → JobOver (around_of files later site site) (job_of c.args.job.now) crashes status whole part session =
    λ status whole part session end.
    subst (λ (job : Job). JobOver (around_of files later site site) job crashes status whole part session) (sym named)
    (record {
      ends = end site;
      touches = refl;
      journal = λ expression journal of_expression has_journal. absurd (none-some journal has_journal);
      made = tt;
      wire = λ socket same. absurd (none-some socket same);
    }) in
    leaves_on ends (g.K.Sink.state c.args.out.now) (g.K.Sink.state c.next.new.out)
    c.next.result c.next.ensures.leaves

pub returns-in-Stuck-clause-leaves : goal.returns-in-Stuck-clause-leaves
returns-in-Stuck-clause-leaves g c =
    let files = g.F.Files.state c.args.files.now in
    let later = g.F.Files.state c.stuck.new.files in
    let site = g.S.Site.state c.args.site.now in
    let crashes = g.S.Site.crashes c.args.site.now in
    let limit = c.in-Stuck.nodes in
    let states = c.in-Stuck.states in
    let expr = c.as_str-in-Stuck in
    let values = c.as_str-in-Stuck-2 in
    let named : job_of c.args.job.now ≡ stuck expr.result.now values.result.now limit states =
    ap job_of c.in-Stuck.is
    ∙ (λ i. stuck (sym expr.ensures.value i) (sym values.ensures.value i) limit states) in
    let ends : (status : ℕ) (whole part : List ℕ) (session : Option Session)
    → StuckEnds files later (record { expression = expr.result; values = values.result; limit = limit; states = states }) status whole part session
    → JobOver (around_of files later site site) (job_of c.args.job.now) crashes status whole part session =
    λ status whole part session end.
    subst (λ (job : Job). JobOver (around_of files later site site) job crashes status whole part session) (sym named)
    (record {
      ends = end site;
      touches = refl;
      journal = λ expression journal of_expression has_journal. absurd (none-some journal has_journal);
      made = tt;
      wire = λ socket same. absurd (none-some socket same);
    }) in
    leaves_on ends (g.K.Sink.state c.args.out.now) (g.K.Sink.state c.stuck.new.out)
    c.stuck.result c.stuck.ensures.leaves
