-- How texts are compared: byte by byte, a proper prefix first.
use Rattle.std.specs.Prelude.{ℕ, Bool, ◌==◌, List}
use Rattle.std.specs.declared.cmp.Ordering.{Ordering}
use Rattle.std.specs.Cmp.Lexicographic.{pointwise, slice_cmp}
use Rattle.std.specs.Ordering.{nat_cmp}

-- texts are equal byte by byte
abbrev pub text_eq : List ℕ → List ℕ → Bool
text_eq = pointwise ◌==◌

-- the first byte that differs decides, and else a proper prefix is less
abbrev pub text_cmp : List ℕ → List ℕ → Ordering
text_cmp = slice_cmp nat_cmp
