-- Lines that are all texts of actions.
use Rattle.std.proofs.Common.{List, [], ◌∷◌}
use Rattle.std.specs.List.{AllByRecursion}
use Rattle.ix_words.specs.Each.{Each, no_item, item}

pub each_line : {A : Type 0} {G : A → Type 0} (lines : List A)
    → AllByRecursion G lines → Each G lines
each_line [] good = no_item
each_line (line ∷ lines) good = item good.0 (each_line lines good.1)
