-- The codes of the causes for which a line isn't a request's.
use Rattle.std.specs.Prelude.{ℕ}
use Rattle.ix_proto.specs.declared.request_fault.Cause.{Cause}
use Rattle.ix_proto.specs.declared.request_fault.Cause.TheVariants as cause

-- the code that tells a cause
abbrev pub cause_code : Cause → ℕ
cause_code cause.UnknownRequest = 11
cause_code cause.NoAction = 12
cause_code cause.NoTicket = 13
cause_code cause.NoNumber = 13
cause_code cause.LeaseOutOfRange = 14
cause_code cause.WordCount = 15
cause_code cause.NoName = 16
