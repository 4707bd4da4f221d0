-- What it means that a tree is built within a limit.
use Rattle.std.specs.Prelude.{◌≡◌, ℕ, ◌<◌, ◌≤◌, Result, Ok, Err}
use Rattle.ix_tree.specs.Plain.{Plain}
use Rattle.ix_tree.specs.Size.{size_of}
use Rattle.ix_step.specs.declared.fault.BuildFault.{BuildFault}
use Rattle.ix_step.specs.declared.fault.BuildFault.TheVariants.{Over, Memory}

-- the tree is above the limit that the fault tells, or memory ran out
abbrev pub IsAbove : ℕ → Plain → BuildFault → Type 0
IsAbove limit x (Over told) = (told ≡ limit) × (limit < size_of x)
IsAbove limit x Memory = Unit {0}

-- the tree x was built and is within the limit, or it is above the limit, or memory ran out
abbrev pub Builds : ℕ → Plain → Result Plain BuildFault → Type 0
Builds limit x (Ok tree) = (tree ≡ x) × (size_of x ≤ limit)
Builds limit x (Err fault) = IsAbove limit x fault
