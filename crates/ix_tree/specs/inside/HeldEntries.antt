-- The entries that a list holds.
use Rattle.std.specs.Prelude.{ℕ, ◌≤◌, List, length}
use Rattle.std.specs.List.{AllByRecursion}
use Rattle.ix_tree.specs.Plain.{Plain}
use Rattle.ix_tree.specs.inside.Pieces.{HasEntries, in_pieces}
use Rattle.ix_tree.specs.declared.entries.Held.{Held}
use Rattle.ix_tree.specs.declared.entries.Held.TheVariants.{Few, Cut}

-- the entries, in their order
abbrev pub entries_kept : Held → List (List ℕ × Plain)
entries_kept (Few entries) = entries.items
entries_kept (Cut pieces) = in_pieces pieces.items

-- a list of its own has no more than stand in a piece, and no piece is empty
abbrev pub IsCutWell : Held → Type 0
IsCutWell (Few entries) = length entries.items ≤ 32
IsCutWell (Cut pieces) = AllByRecursion HasEntries pieces.items
