use Rattle.ix_client.proofs.CallCounts.{tells_there}
use Rattle.ix_client.proofs.manager_link.ManagerLink.tells.Goals as goal

pub returns : goal.returns
returns c = λ told m is.
    tells_there c.args.self.now.text c.args.self.now.limit c.args.self.now.manager m c.args.self.now.site is c.manages.ensures told
