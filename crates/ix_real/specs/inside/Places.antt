-- What a file holds from a place on.
use Rattle.std.specs.Prelude.{ℕ, List, drop}
use Rattle.std.specs.Option.{option_map}
use Rattle.std.specs.declared.option.Option.{Option}

-- the bytes from this place on, where those of the file are known
abbrev pub known_from : ℕ → Option (List ℕ) → Option (List ℕ)
known_from at known = option_map (λ bytes. drop at bytes) known
