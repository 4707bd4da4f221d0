-- What is true of the open calls of every workload.
use Rattle.std.specs.Prelude.{ℕ, Bool, true, List, Option, Some, None, nat_lt}
use Rattle.std.specs.List.{list_all}

-- there is no open call, or one to an examination
abbrev pub is_examination : Option ℕ → Bool
is_examination None = true
is_examination (Some examination) = nat_lt examination 10

abbrev pub are_examinations : List (Option ℕ) → Bool
are_examinations = list_all is_examination
