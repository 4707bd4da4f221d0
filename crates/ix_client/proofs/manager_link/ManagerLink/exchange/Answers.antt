use Rattle.std.proofs.Common.{◌≡◌, Some}
use Rattle.ix_client.proofs.LinkLemmas.{kept_manages, there_manages}
use Rattle.ix_client.proofs.manager_link.ManagerLink.exchange.Goals as goal

pub invariant_of-self-2 : goal.invariant_of-self-2
invariant_of-self-2 c =
    let i = c.self.inside in
    let is : i.manager ≡ Some c.in-Some.manager = cc in
    let asked = c.requires.line in
    record {
      least = c.self.invariant.least;
      most = c.self.invariant.most;
      attached = c.pass-kept.ensures.attached;
      manages = kept_manages i.text.items i.limit c.in-Some.manager i.site c.pass-kept.new.site asked.0 c.pass-kept.result.1 c.pass-kept.result.0
          c.pass-kept.new.out.items (there_manages i.text.items i.limit i.manager c.in-Some.manager i.site is c.self.invariant.manages)
          (c.pass-kept.ensures.keeps asked.0 asked.1);
    }
