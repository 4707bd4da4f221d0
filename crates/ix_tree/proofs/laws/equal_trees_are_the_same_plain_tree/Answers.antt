use Rattle.ix_tree.specs.PlainOf.{plain_pair, plain_bag, plain_map}
use Rattle.ix_tree.proofs.Equal.{same_plain}
use Rattle.ix_tree.proofs.laws.equal_trees_are_the_same_plain_tree.Goals as goal

pub returns-clause-trees : goal.returns-clause-trees
returns-clause-trees c = same_plain

pub returns-clause-knots : goal.returns-clause-knots
returns-clause-knots c = same_plain

pub returns-clause-pairs : goal.returns-clause-pairs
returns-clause-pairs c = λ p q. same_plain (plain_pair p) (plain_pair q)

pub returns-clause-bags : goal.returns-clause-bags
returns-clause-bags c = λ b d. same_plain (plain_bag b) (plain_bag d)

pub returns-clause-maps : goal.returns-clause-maps
returns-clause-maps c = λ m k. same_plain (plain_map m) (plain_map k)
