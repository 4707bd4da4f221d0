use Rattle.std.proofs.Common.{◌≡◌, subst}
use Rattle.ix_manager.specs.inside.Core.{change_replies}
use Rattle.ix_manager.specs.inside.WireState.{wired, SendsAll}
use Rattle.ix_manager.proofs.SavingLemmas.{only_none, only_join}
use Rattle.ix_manager.proofs.SendSteps.{first_sent, none_left}
use Rattle.ix_manager.proofs.sending.send_each.Goals as goal

-- nothing was sent yet
pub loop-action-init : goal.loop-action-init
loop-action-init g c =
    let whole = c.into_iter-action-iterator.result in
    let same : whole ≡ c.args.changes = search in
    let start = wired c.args.gone.now (g.S.Site.state c.args.site.now) in
    (λ end later. subst (λ xs. SendsAll c.args.conn (change_replies xs) start end) same later, only_none (g.S.Site.state c.args.site.now) (g.S.Site.crashes c.args.site.now) (g.met.S.Site.lawful c.args.site.now))

-- a change was sent
pub loop-action-preserved : goal.loop-action-preserved
loop-action-preserved g c =
    let start = c.args.site.now in
    let here = c.loop-action.site in
    let there = c.send_reply.new.site in (
      λ end later.
          c.loop-action.invariant.0 end
          (first_sent c.args.conn c.loop-action.action-iterator c.next.new.self c.in-Some.action.now c.in-Some.answer _ _ end c.in-Some.ensures.steps c.send_reply.ensures.sends later),
      only_join (g.S.Site.state start) (g.S.Site.state here) (g.S.Site.state there)
          (g.S.Site.crashes start) (g.S.Site.crashes here) (g.S.Site.crashes there) (g.met.S.Site.lawful there)
          c.loop-action.invariant.1 c.send_reply.ensures.only,
    )

-- all changes were sent
pub returns-clause-sends : goal.returns-clause-sends
returns-clause-sends g c =
    let now = wired c.loop-action.gone (g.S.Site.state c.loop-action.site) in
    c.loop-action.invariant.0 now (none_left c.args.conn c.loop-action.action-iterator now c.in-None.ensures.steps.0)
