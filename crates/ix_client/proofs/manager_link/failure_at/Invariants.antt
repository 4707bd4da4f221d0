use Rattle.std.specs.Prelude.{◌≡◌, drop}
use Rattle.ix_client.specs.inside.ManagerLinks.{told_at}
use Rattle.ix_client.proofs.manager_link.failure_at.Given as goal

-- what is told in the pairs that are left is told in all
abbrev pub invariant-loop-listed : goal.invariant-loop-listed
invariant-loop-listed l = told_at l.number l.fail ≡ told_at l.number (drop l.listed-index l.fail)
