use Rattle.std.proofs.Common.{refl}
use Rattle.ix_manager.proofs.OverLemmas.{expired_does, no_such_does, refused_over, confirmed_over, append_failed}
use Rattle.ix_manager.proofs.journaled.Journaled.confirm.Goals as goal

pub returns-in-Expired : goal.returns-in-Expired
returns-in-Expired g c =
    let j = c.args.self.now in
    let site = c.args.site.now in
    refused_over c.args.ticket c.refused.result j (g.S.Site.state site) (g.S.Site.crashes site) (g.met.S.Site.lawful site) c.requires.fits
    (expired_does j.machine c.args.ticket c.refused.result c.in-Expired.ensures.takes c.refused.ensures)

pub returns-in-NoSuch : goal.returns-in-NoSuch
returns-in-NoSuch g c =
    let j = c.args.self.now in
    let site = c.args.site.now in
    refused_over c.args.ticket c.refused-in-NoSuch.result j (g.S.Site.state site) (g.S.Site.crashes site) (g.met.S.Site.lawful site) c.requires.fits
    (no_such_does j.machine c.args.ticket c.refused-in-NoSuch.result c.in-NoSuch.ensures.takes c.refused-in-NoSuch.ensures)

-- the action is in the journal
pub returns-in-Ok : goal.returns-in-Ok
returns-in-Ok g c =
    let site = c.args.site.now in
    let after = c.append.new.site in
    confirmed_over c.args.ticket c.in-Taken.action c.args.self.now _ (g.S.Site.state site) (g.S.Site.state after) (g.S.Site.crashes site) (g.S.Site.crashes after)
    (g.met.S.Site.lawful after) c.requires.fits c.in-Taken.ensures.takes c.append.ensures.calls c.append.ensures.images
    c.commit.result c.commit.ensures.commits c.in-Ok.ensures.appended c.in-Ok.ensures.spent c.in-Ok.ensures.works

pub returns-in-Err : goal.returns-in-Err
returns-in-Err g c =
    let site = c.args.site.now in
    let after = c.append.new.site in
    append_failed c.args.ticket c.in-Taken.action c.args.self.now _ (g.S.Site.state site) (g.S.Site.state after) (g.S.Site.crashes site) (g.S.Site.crashes after)
    (g.met.S.Site.lawful after) c.requires.fits c.in-Taken.ensures.takes c.append.ensures.calls c.append.ensures.images refl c.in-Err.ensures.failed
