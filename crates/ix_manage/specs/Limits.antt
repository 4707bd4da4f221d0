-- What files may have.
use Rattle.std.specs.Prelude.{ℕ}

-- the most bytes of a file of lines or values, and of a script
abbrev pub most_file_bytes : ℕ
most_file_bytes = 67108864
