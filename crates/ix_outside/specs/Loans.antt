-- What an object was lent, so that its caller learns that it came back as it was.
use Rattle.std.specs.Prelude.{ℕ, List}
use Rattle.std.specs.Borrow.{GName}
use Rattle.ix_outside.specs.Contents.{Contents}

-- nothing; or a loan by its name with what the lent object itself holds, and the other loans; or a
-- text that is read, and the other loans; or what stays of a lent site whose wire isn't used, its
-- counts of the wire and of sends and what it tells, and the other loans
pub data Loans : Type 0 where
  free : Loans
  lent : GName → Loans → Loans → Loans
  reads : List ℕ → Loans → Loans
  unused_wire : ℕ → ℕ → Contents → Loans → Loans
