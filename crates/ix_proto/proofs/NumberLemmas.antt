-- A number that is no lease.
use Rattle.std.proofs.Common.{◌≡◌, ℕ, ◌<◌, ◌^◌, ◌⊎◌, inl, inr, List, arith}
use Rattle.ix_lines.specs.Numbers.{IsNumber}
use Rattle.ix_lines.proofs.NumberCuts.{same_number}
use Rattle.ix_proto.specs.Requests.{IsLease}
use Rattle.ix_proto.specs.RequestFaults.{IsLeaseText}

outside : (m n : ℕ) → m ≡ n → IsLease m → (n < 1) ⊎ (86400000 < n) → ⊥
outside m n e lease (inl low) = omega (arith, lease.low)
outside m n e lease (inr high) = omega (arith, lease.high)

pub no_lease : (text : List ℕ) (n : ℕ) → IsNumber (2 ^ 64) text n → (n < 1) ⊎ (86400000 < n) → ¬ IsLeaseText text
no_lease text n h out lease = outside lease.0 n (same_number text lease.0 n lease.1 h) lease.2 out
