-- Given values that are read, and lines that are none.
use Rattle.std.proofs.Common.{ℕ, ◌<◌, List, [], ◌∷◌, ◌++◌, length, arith, subst}
use Rattle.ix_bound.proofs.Walks.{length_append}
use Rattle.ix_words.specs.Each.{Each, Member, here, there, item, no_item}
use Rattle.ix_lines.specs.TextLines.{lines_of}
use Rattle.ix_next.specs.Given.{PlainGiven}
use Rattle.ix_next.specs.Lists.{AreGiven, AreGood, HasBadLine, IsBadLine, IsGiven, StandOnce}
use Rattle.ix_next.specs.Lists.{again, full, none, one, other}

-- texts that are given values' are each
pub each_given : (texts : List (List ℕ)) (given : List PlainGiven) → AreGiven texts given → Each IsGiven texts
each_given [] [] are = no_item
each_given [] (g ∷ given) are = absurd are
each_given (text ∷ texts) [] are = absurd are
each_given (text ∷ texts) (g ∷ given) are =
    item (record { given = g; is = are.0 }) (each_given texts given are.1)

-- no texts are those of no given values
no_values : (given : List PlainGiven) → 0 < length given → AreGiven [] given → ⊥
no_values [] some are = absurd (omega (arith, some))
no_values (g ∷ given) some are = are

-- the text behind others is that of a given value
given_behind : (before : List (List ℕ)) (text : List ℕ) (behind : List (List ℕ)) (given : List PlainGiven)
    → AreGiven (before ++ text ∷ behind) given → IsGiven text
given_behind [] text behind [] are = absurd are
given_behind [] text behind (g ∷ given) are = record { given = g; is = are.0 }
given_behind (b ∷ before) text behind [] are = absurd are
given_behind (b ∷ before) text behind (g ∷ given) are = given_behind before text behind given are.1

among : (text : List ℕ) (before behind : List (List ℕ)) → Member text (before ++ text ∷ behind)
among text [] behind = here
among text (b ∷ before) behind = there (among text before behind)

-- it doesn't stand before
apart_behind : (before : List (List ℕ)) (text : List ℕ) (behind : List (List ℕ))
    → StandOnce (before ++ text ∷ behind) → Member text before → ⊥
apart_behind [] text behind once member = elim member [ ]
apart_behind (b ∷ before) text behind once here = once.0 (among b before behind)
apart_behind (b ∷ before) text behind once (there member) = apart_behind before text behind once.1 member

-- so a line that isn't one more of them isn't among good ones
no_bad_line : (before : List (List ℕ)) (text : List ℕ) (behind : List (List ℕ)) (given : List PlainGiven)
    {code : ℕ} → AreGood (before ++ text ∷ behind) given → IsBadLine before text code → ⊥
no_bad_line before text behind given good (other bad) = bad (given_behind before text behind given good.are)
no_bad_line before text behind given good (again is member) = apart_behind before text behind good.once member
no_bad_line before text behind given good (full is new many) =
    let few = good.few in
    let long = length_append before (text ∷ behind) in
    absurd (omega (arith, few, long, many))

-- lines that are good aren't bad
pub no_bad_lines : (bytes : List ℕ) (given : List PlainGiven) {code at : ℕ} → AreGood (lines_of bytes) given
    → 0 < length given → HasBadLine bytes code at → ⊥
no_bad_lines bytes given good some (none empty) =
    no_values given some (subst (λ b. AreGiven (lines_of b) given) empty good.are)
no_bad_lines bytes given good some (one before behind split were bad) =
    no_bad_line before _ behind given (subst (λ lines. AreGood lines given) split good) bad
