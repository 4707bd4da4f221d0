-- The codes of the causes of faults.
use Rattle.std.specs.Prelude.{ℕ}
use Rattle.ix_values.specs.declared.faults.Cause.{Cause}
use Rattle.ix_values.specs.declared.faults.Cause.TheVariants as cause

-- the code that tells a cause
abbrev pub action_code : Cause → ℕ
action_code cause.Name = 1
action_code cause.Argument = 2
action_code cause.TooManyArguments = 3
action_code cause.TooLong = 4
action_code cause.Trailing = 5
