use Rattle.ix_watch.specs.inside.Watches.{changes_of}
use Rattle.ix_manager.proofs.SavingLemmas.{only_join}
use Rattle.ix_manager.proofs.SendSteps.{poll_sent}
use Rattle.ix_manager.proofs.sending.send_changes.Goals as goal

pub returns-clause-sends : goal.returns-clause-sends
returns-clause-sends g c =
    poll_sent c.args.conn c.changes.result (changes_of c.args.name.now c.args.machine.now.noted) c.count_changes-count.result _ _ _
    c.changes.ensures.changes c.count_changes-count.ensures c.send_reply.ensures.sends c.send_each.ensures.sends

pub returns-clause-only : goal.returns-clause-only
returns-clause-only g c =
    let start = c.args.site.now in
    let here = c.send_reply.new.site in
    let there = c.send_each.new.site in
    only_join (g.S.Site.state start) (g.S.Site.state here) (g.S.Site.state there)
    (g.S.Site.crashes start) (g.S.Site.crashes here) (g.S.Site.crashes there) (g.met.S.Site.lawful there)
    c.send_reply.ensures.only c.send_each.ensures.only
