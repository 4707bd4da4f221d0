-- The marks are those of the edges so far.
use Rattle.std.proofs.Common.{◌≡◌, ◌↔◌, ℕ, ◌<◌, true, length, take}
use Rattle.ix_stuck.specs.inside.Coming.{IsUsed}
use Rattle.ix_stuck.specs.inside.Marks.{mark_at}
use Rattle.ix_stuck.proofs.gone.used.Given as goal

abbrev pub invariant-loop-edge : goal.invariant-loop-edge
invariant-loop-edge l =
    (length l.marks.items ≡ l.count)
    × ((k : ℕ) → k < l.count → (mark_at l.marks.items k ≡ true) ↔ IsUsed (take l.edge-index l.edges) k)
