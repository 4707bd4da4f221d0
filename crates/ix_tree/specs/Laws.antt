-- The law of the order, as a statement over the definitions alone.
use Rattle.ix_words.specs.Canon.{IsStrictOrder}
use Rattle.ix_tree.specs.Order.{tree_cmp}

-- the order is total, and two trees that compare as equal are the same
abbrev pub TreesAreOrdered : Type 0
TreesAreOrdered = IsStrictOrder tree_cmp
