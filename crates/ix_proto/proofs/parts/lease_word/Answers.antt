use Rattle.std.proofs.Common.{inl, inr, refl}
use Rattle.ix_proto.proofs.NumberLemmas.{no_lease}
use Rattle.ix_proto.proofs.parts.lease_word.Goals as goal
use Rattle.ix_proto.proofs.parts.lease_word.Goals.{then-lease-lt1-via-then-lease-lt1, then-lease-lt1-via-else-lease-lt1+then-lease-gt-LONGEST_LEASE}

pub returns-then-lease-lt1 : goal.returns-then-lease-lt1
returns-then-lease-lt1 c =
    let number = c.in_ok-lease.ensures in
    elim c.then-lease-lt1.branch [
      | then-lease-lt1-via-then-lease-lt1 w ↦ inr ((c.in_ok-lease.lease, number), no_lease _ _ number (inl w.if-lease-lt1.true), refl)
      | then-lease-lt1-via-else-lease-lt1+then-lease-gt-LONGEST_LEASE w ↦ inr ((c.in_ok-lease.lease, number), no_lease _ _ number (inr w.if-lease-gt-LONGEST_LEASE.true), refl)
    ]
