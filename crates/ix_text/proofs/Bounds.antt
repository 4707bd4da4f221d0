-- How long a canonical text is: at most 88 bytes for each node, and 81.
use Rattle.std.proofs.Common.{ℕ, suc, ◌+◌, ◌*◌, ◌<◌, ◌≤◌, Bool, true, false, List, [], ◌∷◌, ◌++◌, length, codes, decimal, arith, length-append}
use Rattle.std.specs.Prelude.{All, nat_lt, nat_le}
use Rattle.std.proofs.lemmas.Fmt.{length-decimal-le}
use Rattle.std.proofs.lemmas.List.Elements.{All-head, All-tail}
use Rattle.ix_values.specs.Texts.{IsName}
use Rattle.ix_expr.specs.declared.arg.Arg.{Arg}
use Rattle.ix_expr.specs.declared.arg.Arg.TheVariants.{Fixed, Param}
use Rattle.ix_expr.specs.Form.{PlainAtom, Form, atom, opt, seq, star, par, par_star, or, and, couple, any, every, sync, all, times}
use Rattle.ix_expr.specs.CanonicalText.{binding, enclosed, argument_text, more_arguments_text, arguments_text, atom_text, binary_text, operand_text, quantifier_text, canonical_text}
use Rattle.ix_expr.specs.FormFaults.{Binder, Node, nodes_below, IsTimesNumber, HasNumbers, IsWellFormed}
use Rattle.ix_expr.specs.Spelling.{IsArgument, IsAtom, IsSpelled}
use Rattle.ix_expr.proofs.Parts.{well-formed-few}

enclosed-length : (b : Bool) (text : List ℕ) → length (enclosed b text) ≤ length text + 2
enclosed-length true text = omega (arith, length-append (40 ∷ text) (41 ∷ []))
enclosed-length false text = omega arith

argument-length : (argument : Arg) → IsArgument argument → length (argument_text argument) ≤ 33
argument-length (Fixed v) is = omega (arith, is.short)
argument-length (Param p) is = omega (arith, is.short)

more-length : (arguments : List Arg) → All IsArgument arguments → length (more_arguments_text arguments) ≤ 34 * length arguments
more-length [] are = omega arith
more-length (argument ∷ arguments) are =
    let first : length (argument_text argument) ≤ 33 = argument-length argument (All-head IsArgument argument arguments are) in
    let rest : length (more_arguments_text arguments) ≤ 34 * length arguments = more-length arguments (All-tail IsArgument argument arguments are) in
    omega (arith, length-append (44 ∷ argument_text argument) (more_arguments_text arguments), first, rest)

arguments-length : (arguments : List Arg) → All IsArgument arguments → length arguments ≤ 4 → length (arguments_text arguments) ≤ 137
arguments-length [] are few = omega arith
arguments-length (argument ∷ arguments) are few =
    let first : length (argument_text argument) ≤ 33 = argument-length argument (All-head IsArgument argument arguments are) in
    let rest : length (more_arguments_text arguments) ≤ 34 * length arguments = more-length arguments (All-tail IsArgument argument arguments are) in
    omega (arith, length-append ((40 ∷ argument_text argument) ++ more_arguments_text arguments) (41 ∷ []), length-append (40 ∷ argument_text argument) (more_arguments_text arguments), first, rest, few)

atom-length : (x : PlainAtom) → IsAtom x → length (atom_text x) ≤ 169
atom-length x is =
    let arguments = arguments-length x.arguments is.arguments is.few in
    omega (arith, length-append x.name (arguments_text x.arguments), is.name.short, arguments)

-- a prefix and its operand
prefix-length : (operator b : ℕ) (text : List ℕ) (nodes : ℕ) → length text ≤ 88 * nodes + 81 → length (operator ∷ operand_text (b, text)) ≤ 88 * suc nodes + 81
prefix-length operator b text nodes short =
    let operand = enclosed-length (nat_le b 5) text in
    omega (arith, operand, short)

-- a quantifier and its operand
quantifier-length : (word p : List ℕ) (b : ℕ) (text : List ℕ) (nodes : ℕ) → length word ≤ 5 → IsName p → length text ≤ 88 * nodes + 81 → length (quantifier_text word p (b, text)) ≤ 88 * suc nodes + 81
quantifier-length word p b text nodes brief is short =
    let operand = enclosed-length (nat_le b 5) text in
    omega (arith, length-append (word ++ (32 ∷ 36 ∷ p)) (32 ∷ operand_text (b, text)), length-append word (32 ∷ 36 ∷ p), operand, is.short, brief, short)

-- `times`, its number of at most two digits, and its operand
times-length : (n b : ℕ) (text : List ℕ) (nodes : ℕ) → IsTimesNumber n → length text ≤ 88 * nodes + 81 → length (codes "times" ++ (32 ∷ decimal n) ++ (32 ∷ operand_text (b, text))) ≤ 88 * suc nodes + 81
times-length n b text nodes number short =
    let operand = enclosed-length (nat_le b 5) text in
    let digits = length-decimal-le 2 n (omega arith) (omega (arith, number.1)) (omega (arith, number.1)) in
    omega (arith, length-append (codes "times" ++ (32 ∷ decimal n)) (32 ∷ operand_text (b, text)), length-append (codes "times") (32 ∷ decimal n), operand, digits, short)

-- two operands and the operator between them
binary-length : (level operator b c : ℕ) (left right : List ℕ) (xs ys : List Node) → length left ≤ 88 * length xs + 81 → length right ≤ 88 * length ys + 81
    → length (binary_text level operator (b, left) (c, right)) ≤ 88 * suc (length (xs ++ ys)) + 81
binary-length level operator b c left right xs ys short brief =
    let first = enclosed-length (nat_lt b level) left in
    let second = enclosed-length (nat_le c level) right in
    let operators = 32 ∷ operator ∷ 32 ∷ [] in
    omega (arith, length-append (enclosed (nat_lt b level) left ++ operators) (enclosed (nat_le c level) right), length-append (enclosed (nat_lt b level) left) operators, length-append xs ys, first, second, short, brief)

-- a text has at most 88 bytes for each node, and 81
text-length : (x : Form) (d : ℕ) (around : List Binder) → IsSpelled x → HasNumbers x → length (canonical_text x) ≤ 88 * length (nodes_below d around x) + 81
text-length (atom x) d around is numbers = atom-length x is
text-length (opt y) d around is numbers = prefix-length 63 (binding y) (canonical_text y) _ (text-length y (suc d) around is numbers)
text-length (seq y z) d around is numbers = binary-length 5 45 (binding y) (binding z) (canonical_text y) (canonical_text z) _ _ (text-length y (suc d) around is.0 numbers.0) (text-length z (suc d) around is.1 numbers.1)
text-length (star y) d around is numbers = prefix-length 42 (binding y) (canonical_text y) _ (text-length y (suc d) around is numbers)
text-length (par y z) d around is numbers = binary-length 4 43 (binding y) (binding z) (canonical_text y) (canonical_text z) _ _ (text-length y (suc d) around is.0 numbers.0) (text-length z (suc d) around is.1 numbers.1)
text-length (par_star y) d around is numbers = prefix-length 35 (binding y) (canonical_text y) _ (text-length y (suc d) around is numbers)
text-length (or y z) d around is numbers = binary-length 1 124 (binding y) (binding z) (canonical_text y) (canonical_text z) _ _ (text-length y (suc d) around is.0 numbers.0) (text-length z (suc d) around is.1 numbers.1)
text-length (and y z) d around is numbers = binary-length 2 38 (binding y) (binding z) (canonical_text y) (canonical_text z) _ _ (text-length y (suc d) around is.0 numbers.0) (text-length z (suc d) around is.1 numbers.1)
text-length (couple y z) d around is numbers = binary-length 3 64 (binding y) (binding z) (canonical_text y) (canonical_text z) _ _ (text-length y (suc d) around is.0 numbers.0) (text-length z (suc d) around is.1 numbers.1)
text-length (any p y) d around is numbers = quantifier-length (codes "any") p (binding y) (canonical_text y) _ (omega arith) is.0 (text-length y (suc d) _ is.1 numbers)
text-length (every p y) d around is numbers = quantifier-length (codes "every") p (binding y) (canonical_text y) _ (omega arith) is.0 (text-length y (suc d) _ is.1 numbers)
text-length (sync p y) d around is numbers = quantifier-length (codes "sync") p (binding y) (canonical_text y) _ (omega arith) is.0 (text-length y (suc d) _ is.1 numbers)
text-length (all p y) d around is numbers = quantifier-length (codes "all") p (binding y) (canonical_text y) _ (omega arith) is.0 (text-length y (suc d) _ is.1 numbers)
text-length (times n y) d around is numbers = times-length n (binding y) (canonical_text y) _ numbers.0 (text-length y (suc d) around is numbers.1)

-- the text of a well-formed expression is shorter than 65,536 bytes
pub well-formed-length : (x : Form) → IsSpelled x → IsWellFormed x → length (canonical_text x) < 65536
well-formed-length x spelled formed =
    let few = well-formed-few x formed in
    let short = text-length x 1 [] spelled formed.numbers in
    omega (arith, few, short)
