use Rattle.ix_renew.proofs.Making.{new_file_left}
use Rattle.ix_renew.proofs.renewing.make.Goals as goal

pub returns-clause-leaves : goal.returns-clause-leaves
returns-clause-leaves g c =
    let done = c.in_ok-attach.ensures in
    let site = g.S.Site.state in
    let crashes = g.S.Site.crashes in
    new_file_left c.args.new.now (site c.args.site.now) (site c.attach.new.self) (site c.renew.new.site)
    (crashes c.attach.new.self) (crashes c.renew.new.site) done.file c.renew.ensures.calls c.args.text.now _ done.now
    c.renew.ensures.stays c.renew.ensures.images
