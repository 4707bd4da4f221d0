use Rattle.ix_words.specs.Parts.{part}
use Rattle.ix_values.specs.Order.{text_eq}
use Rattle.ix_expr.proofs.LawsOfMeaning.{owner-value}
use Rattle.ix_expr.proofs.laws.owners_are_values.Goals as goal

pub returns : goal.returns
returns c = λ p y e w owners v. owner-value p y e (part (text_eq v) owners w) v
