-- Which calls are told to fail.
use Rattle.std.specs.Prelude.{ℕ, ◌==◌, List, Bool}
use Rattle.std.specs.List.{list_any}
use Rattle.ix_outside.specs.Counts.{one_more}

-- the numbers of the calls that fail, and the number of the next one
pub record CallList : Type 0 where
  pub fail : List ℕ
  pub number : ℕ

-- the next call is one of those that fail
abbrev pub is_told : CallList → Bool
is_told calls = list_any (λ number. number == calls.number) calls.fail

-- after one more call
abbrev pub next_call : CallList → CallList
next_call calls = record calls { number = one_more calls.number }
