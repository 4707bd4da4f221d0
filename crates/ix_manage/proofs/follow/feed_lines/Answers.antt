use Rattle.std.proofs.Common.{[], ◌∷◌, ◌++◌, refl, sym, subst, ◌∙◌, eqb-true, None}
use Rattle.ix_outside.specs.Sink.{AppendsPart}
use Rattle.ix_outside.proofs.Counting.{Rose-earlier}
use Rattle.ix_manage.specs.FollowLines.{Follows, fed_line, more, none}
use Rattle.ix_manage.specs.Puts.{put, lost}
use Rattle.ix_manage.specs.declared.early_end.EarlyEnd.TheVariants.{Output}
use Rattle.ix_manage.proofs.Answering.{verdict_same}
use Rattle.ix_manage.proofs.Devices.{still, then}
use Rattle.ix_manage.proofs.FeedLemmas.{fed_step, feeds_same, follow_ends, follow_stops}
use Rattle.ix_manage.proofs.Stops.{ended_cut, ended_whole, ends_early}
use Rattle.ix_manage.proofs.Tracing.{append_nothing, append_on}
use Rattle.ix_manage.proofs.follow.feed_lines.Goals as goal

pub loop-rest-init : goal.loop-rest-init
loop-rest-init g c =
    let follower = c.args.follower.now in (
      still _,
      refl,
      refl,
      ([], refl, ([], subst (Follows follower.form follower.limit [] []) (sym c.requires) none, append_nothing _)),
    )

-- a line was refused, or its answer wasn't put
pub returns-in_err-feed_line-clause-leaves : goal.returns-in_err-feed_line-clause-leaves
returns-in_err-feed_line-clause-leaves g c =
    let follower = c.args.follower.now in
    let so_far = c.loop-rest.invariant.3 in
    let cut = c.first_line-first in
    ends_early _ _ _ c.from_residual.result c.in_err-feed_line.field-0.0 c.from_residual.ensures.1
    (follow_stops follower.form follower.limit c.args.lines.now c.loop-rest.rest.now so_far.0
    c.loop-rest.follower.history so_far.2.0 cut.result.rest.now cut.result.line.now
    cut.ensures.lines so_far.1 so_far.2.1
    c.loop-rest.follower c.feed_line.new.follower.history
    (g.K.Sink.state c.args.out.now) (g.K.Sink.state c.loop-rest.out) (g.K.Sink.state c.feed_line.new.out)
    c.loop-rest.invariant.1 c.loop-rest.invariant.2 refl
    so_far.2.2 c.loop-rest.invariant.0.faults
    c.in_err-feed_line.field-0.0 c.in_err-feed_line.ensures.fed)

pub loop-rest-preserved : goal.loop-rest-preserved
loop-rest-preserved g c =
    let so_far = c.loop-rest.invariant.3 in
    let cut = c.first_line-first in
    let one = c.in_ok-feed_line.ensures.fed in (
      then _ _ _ c.loop-rest.invariant.0 c.in_ok-feed_line.ensures.puts,
      c.in_ok-feed_line.ensures.form ∙ c.loop-rest.invariant.1,
      c.in_ok-feed_line.ensures.limit ∙ c.loop-rest.invariant.2,
      (
        so_far.0 ++ cut.result.line.now ∷ [],
        fed_step c.args.lines.now c.loop-rest.rest.now cut.result.rest.now cut.result.line.now so_far.0
            cut.ensures.lines so_far.1,
        (
          so_far.2.0 ++ fed_line one.0,
          more one.0 so_far.2.1 (feeds_same c.loop-rest.invariant.1 c.loop-rest.invariant.2 one.1),
          append_on _ _ _ so_far.2.0 (fed_line one.0) so_far.2.2 one.2,
        ),
      ),
    )

pub returns-clause-leaves : goal.returns-clause-leaves
returns-clause-leaves g c =
    let follower = c.args.follower.now in
    let so_far = c.loop-rest.invariant.3 in
    let last = c.verdict.result.now in
    let whole = so_far.2.0 ++ last in
    ended_whole (g.K.Sink.state c.args.out.now) (g.K.Sink.state c.put.new.self) whole None
    (follow_ends follower.form follower.limit c.args.lines.now c.loop-rest.rest.now so_far.0
    c.loop-rest.follower.history so_far.2.0 last
    (eqb-true _ _ (sym c.loop-rest-test.ensures)) so_far.1 so_far.2.1
    (verdict_same c.loop-rest.invariant.1 c.verdict.ensures) 0 whole [] put)
    (append_on _ _ _ so_far.2.0 last so_far.2.2 c.in_ok-put.ensures.whole)

pub returns-in_err-put-clause-leaves : goal.returns-in_err-put-clause-leaves
returns-in_err-put-clause-leaves g c =
    let follower = c.args.follower.now in
    let so_far = c.loop-rest.invariant.3 in
    let last = c.verdict.result.now in
    ends_early _ _ _ c.from_residual-in_err-put.result Output c.from_residual-in_err-put.ensures.1
    (ended_cut (g.K.Sink.state c.args.out.now) (g.K.Sink.state c.put.new.self) so_far.2.0 last None
    (follow_ends follower.form follower.limit c.args.lines.now c.loop-rest.rest.now so_far.0
    c.loop-rest.follower.history so_far.2.0 last
    (eqb-true _ _ (sym c.loop-rest-test.ensures)) so_far.1 so_far.2.1
    (verdict_same c.loop-rest.invariant.1 c.verdict.ensures) 10 so_far.2.0 last lost)
    (subst (λ known. AppendsPart known last (g.K.Sink.state c.put.new.self).written) so_far.2.2 c.in_err-put.ensures.part)
    (Rose-earlier _ _ _ c.loop-rest.invariant.0.faults c.in_err-put.ensures.failed))
