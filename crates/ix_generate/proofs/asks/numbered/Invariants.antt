use Rattle.std.proofs.Common.{◌≡◌, ◌∷◌, take}
use Rattle.ix_generate.proofs.asks.numbered.Given as goal

abbrev pub invariant-loop-digit : goal.invariant-loop-digit
invariant-loop-digit l = l.text.items ≡ l.letter ∷ take l.digit-index l.digit-items
