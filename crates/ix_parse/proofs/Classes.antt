-- The name of an atom isn't reserved.
use Rattle.std.proofs.Common.{◌≡◌, ℕ, Bool, true, false, cond, List, refl, ◌||◌}
use Rattle.ix_expr.specs.Reserved.{is_reserved}
use Rattle.ix_values.specs.Texts.{begins_with_letter}
use Rattle.ix_parse.specs.declared.signs.Quantifier.TheVariants as quantifiers
use Rattle.ix_parse.specs.declared.signs.WordClass.{WordClass}
use Rattle.ix_parse.specs.declared.signs.WordClass.TheVariants.{Quantifies, Counts, Names, Other}
use Rattle.ix_parse.specs.Symbols.{class_of}

class_by : Bool → Bool → Bool → Bool → Bool → Bool → WordClass
class_by a b c d e f = cond a (Quantifies quantifiers.Any) (cond b (Quantifies quantifiers.Every) (cond c (Quantifies quantifiers.Sync) (cond d (Quantifies quantifiers.All) (cond e Counts (cond f Names Other)))))

unreserved-by : (a b c d e f : Bool) → class_by a b c d e f ≡ Names → a || (b || (c || (d || (e || false)))) ≡ false
unfolding class_by
unreserved-by true b c d e f is = absurd cc
unreserved-by false true c d e f is = absurd cc
unreserved-by false false true d e f is = absurd cc
unreserved-by false false false true e f is = absurd cc
unreserved-by false false false false true f is = absurd cc
unreserved-by false false false false false f is = refl

pub named-unreserved : (w : List ℕ) → class_of w ≡ Names → is_reserved w ≡ false
unfolding class_of class_by
named-unreserved w is = unreserved-by _ _ _ _ _ _ is

letter-by : (a b c d e f : Bool) → class_by a b c d e f ≡ Names → f ≡ true
unfolding class_by
letter-by true b c d e f is = absurd cc
letter-by false true c d e f is = absurd cc
letter-by false false true d e f is = absurd cc
letter-by false false false true e f is = absurd cc
letter-by false false false false true f is = absurd cc
letter-by false false false false false true is = refl
letter-by false false false false false false is = absurd cc

-- and begins with a letter
pub named-letter : (w : List ℕ) → class_of w ≡ Names → begins_with_letter w ≡ true
unfolding class_of class_by
named-letter w is = letter-by _ _ _ _ _ (begins_with_letter w) is

named-by : (a b c d e f : Bool) → a || (b || (c || (d || (e || false)))) ≡ false → f ≡ true → class_by a b c d e f ≡ Names
unfolding class_by
named-by true b c d e f free letter = absurd cc
named-by false true c d e f free letter = absurd cc
named-by false false true d e f free letter = absurd cc
named-by false false false true e f free letter = absurd cc
named-by false false false false true f free letter = absurd cc
named-by false false false false false true free letter = refl
named-by false false false false false false free letter = absurd cc

-- a name that isn't reserved is the name of an atom
pub named-class : (w : List ℕ) → is_reserved w ≡ false → begins_with_letter w ≡ true → class_of w ≡ Names
unfolding class_of class_by
named-class w free letter = named-by _ _ _ _ _ (begins_with_letter w) free letter
