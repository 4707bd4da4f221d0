-- The canonical text of an expression.
use Rattle.std.specs.Prelude.{ℕ, List, [], ◌∷◌, codes, decimal, ◌++◌, Bool, if◌then◌else◌, nat_lt}
use Rattle.std.specs.Prelude.{nat_le}
use Rattle.ix_expr.specs.declared.arg.Arg.{Arg}
use Rattle.ix_expr.specs.declared.arg.Arg.TheVariants.{Fixed, Param}
use Rattle.ix_expr.specs.Form.{PlainAtom, Form, atom, opt, seq, star, par, par_star, or, and}
use Rattle.ix_expr.specs.Form.{couple, any, every, sync, all, times}

-- how tightly an expression binds: `|` 1, `&` 2, `@` 3, `+` 4, `-` 5, and 6 for a prefix or an atom
abbrev pub binding : Form → ℕ
binding (or y z) = 1
binding (and y z) = 2
binding (couple y z) = 3
binding (par y z) = 4
binding (seq y z) = 5
binding _ = 6

-- the text, in parentheses where the test holds
abbrev pub enclosed : Bool → List ℕ → List ℕ
enclosed test text = if test then (40 ∷ text) ++ 41 ∷ [] else text

-- an argument: a value as it is, a parameter behind `$`
abbrev pub argument_text : Arg → List ℕ
argument_text (Fixed v) = v
argument_text (Param p) = 36 ∷ p

-- the arguments after the first, each behind a comma
abbrev pub more_arguments_text : List Arg → List ℕ
more_arguments_text [] = []
more_arguments_text (argument ∷ arguments) = (44 ∷ argument_text argument)
    ++ more_arguments_text arguments

-- the arguments between parentheses, or nothing where there is none
abbrev pub arguments_text : List Arg → List ℕ
arguments_text [] = []
arguments_text (argument ∷ arguments) = (40 ∷ argument_text argument)
    ++ more_arguments_text arguments ++ 41 ∷ []

-- an atom has no blanks
abbrev pub atom_text : PlainAtom → List ℕ
atom_text x = x.name ++ arguments_text x.arguments

-- a left operand, a space, the operator, a space, a right operand, of an operator that binds as
-- tightly as the level
abbrev pub binary_text : ℕ → ℕ → (ℕ × List ℕ) → (ℕ × List ℕ) → List ℕ
binary_text level operator left right =
    enclosed (nat_lt left.0 level) left.1 ++ (32 ∷ operator ∷ 32 ∷ [])
    ++ enclosed (nat_le right.0 level) right.1

-- the operand of a prefix, in parentheses where it is binary
abbrev pub operand_text : (ℕ × List ℕ) → List ℕ
operand_text operand = enclosed (nat_le operand.0 5) operand.1

-- a quantifier's word, a space, `$` and the parameter, a space, and the operand
abbrev pub quantifier_text : List ℕ → List ℕ → (ℕ × List ℕ) → List ℕ
quantifier_text word p operand = word ++ (32 ∷ 36 ∷ p) ++ (32 ∷ operand_text operand)

-- the canonical text; `times` is followed by a space, its number in decimal, a space, and the
-- operand
abbrev pub canonical_text : Form → List ℕ
canonical_text (atom x) = atom_text x
canonical_text (opt y) = 63 ∷ operand_text (binding y, canonical_text y)
canonical_text (star y) = 42 ∷ operand_text (binding y, canonical_text y)
canonical_text (par_star y) = 35 ∷ operand_text (binding y, canonical_text y)
canonical_text (or y z) = binary_text 1 124 (binding y, canonical_text y)
    (binding z, canonical_text z)
canonical_text (and y z) = binary_text 2 38 (binding y, canonical_text y)
    (binding z, canonical_text z)
canonical_text (couple y z) = binary_text 3 64 (binding y, canonical_text y)
    (binding z, canonical_text z)
canonical_text (par y z) = binary_text 4 43 (binding y, canonical_text y)
    (binding z, canonical_text z)
canonical_text (seq y z) = binary_text 5 45 (binding y, canonical_text y)
    (binding z, canonical_text z)
canonical_text (any p y) = quantifier_text (codes "any") p (binding y, canonical_text y)
canonical_text (every p y) = quantifier_text (codes "every") p (binding y, canonical_text y)
canonical_text (sync p y) = quantifier_text (codes "sync") p (binding y, canonical_text y)
canonical_text (all p y) = quantifier_text (codes "all") p (binding y, canonical_text y)
canonical_text (times n y) = codes "times" ++ (32 ∷ decimal n)
    ++ (32 ∷ operand_text (binding y, canonical_text y))
