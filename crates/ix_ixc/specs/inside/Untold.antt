-- What proofs know of the real link: its counts and its line.
use Rattle.std.specs.Prelude.{ℕ, List, None}
use Rattle.ix_client.specs.Links.{LinkState}

-- how many calls were made, how many failed, and how many gave a line that wasn't an expected
-- reply; and the line of the last call
pub record RealLinkState : Type 0 where
  pub calls : ℕ
  pub line : List ℕ
  pub faults : ℕ
  pub balks : ℕ

-- a link that tells no manager, with these counts and this line
abbrev pub untold_link : RealLinkState → LinkState
untold_link link = record {
  calls = link.calls;
  line = link.line;
  faults = link.faults;
  balks = link.balks;
  told = None;
}
