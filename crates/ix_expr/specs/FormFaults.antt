-- When an expression is well formed: the first fault in pre-order, and at one node the first of the
-- table.
use Rattle.std.specs.Prelude.{◌≡◌, ℕ, suc, ◌<◌, ◌≤◌, Bool, true, false, ◌&&◌, not, List, [], ◌∷◌}
use Rattle.std.specs.Prelude.{◌++◌}
use Rattle.std.specs.Prelude.{map, length, Option, Some, None, if◌then◌else◌, ◌==◌, nat_le}
use Rattle.std.specs.Prelude.{slice_get, IsSomeAnd}
use Rattle.std.specs.List.{list_any, list_all}
use Rattle.ix_expr.specs.declared.arg.Arg.{Arg}
use Rattle.ix_expr.specs.declared.arg.Arg.TheVariants.{Fixed, Param}
use Rattle.ix_expr.specs.Form.{PlainAtom, Form, atom, opt, seq, star, par, par_star, or, and}
use Rattle.ix_expr.specs.Form.{couple, any, every, sync, all, times}
use Rattle.ix_values.specs.Order.{text_eq}
use Rattle.ix_expr.specs.Environment.{Environment}

-- a quantifier around a node: whether it is an `all`, and its parameter
pub record Binder : Type 0 where
  pub is_all : Bool
  pub parameter : List ℕ

-- what stands at a node: an atom, a quantifier with its parameter, or another operator
pub data Head : Type 0 where
  atom_head : PlainAtom → Head
  quantifier_head : List ℕ → Head
  operator_head : Head

-- a node: its depth (the root has 1), the quantifiers around it, the inmost first, and what stands
-- there
pub record Node : Type 0 where
  pub depth : ℕ
  pub around : List Binder
  pub head : Head

-- the nodes of an expression in pre-order: a node, then its left operand, then its right
abbrev pub nodes_below : ℕ → List Binder → Form → List Node
nodes_below d around (atom x) = record { depth = d; around = around; head = atom_head x } ∷ []
nodes_below d around (opt y) = record { depth = d; around = around; head = operator_head }
    ∷ nodes_below (suc d) around y
nodes_below d around (seq y z) = record { depth = d; around = around; head = operator_head }
    ∷ (nodes_below (suc d) around y ++ nodes_below (suc d) around z)
nodes_below d around (star y) = record { depth = d; around = around; head = operator_head }
    ∷ nodes_below (suc d) around y
nodes_below d around (par y z) = record { depth = d; around = around; head = operator_head }
    ∷ (nodes_below (suc d) around y ++ nodes_below (suc d) around z)
nodes_below d around (par_star y) = record { depth = d; around = around; head = operator_head }
    ∷ nodes_below (suc d) around y
nodes_below d around (or y z) = record { depth = d; around = around; head = operator_head }
    ∷ (nodes_below (suc d) around y ++ nodes_below (suc d) around z)
nodes_below d around (and y z) = record { depth = d; around = around; head = operator_head }
    ∷ (nodes_below (suc d) around y ++ nodes_below (suc d) around z)
nodes_below d around (couple y z) = record { depth = d; around = around; head = operator_head }
    ∷ (nodes_below (suc d) around y ++ nodes_below (suc d) around z)
nodes_below d around (any p y) = record { depth = d; around = around; head = quantifier_head p }
    ∷ nodes_below (suc d) (record { is_all = false; parameter = p } ∷ around) y
nodes_below d around (every p y) = record { depth = d; around = around; head = quantifier_head p }
    ∷ nodes_below (suc d) (record { is_all = false; parameter = p } ∷ around) y
nodes_below d around (sync p y) = record { depth = d; around = around; head = quantifier_head p }
    ∷ nodes_below (suc d) (record { is_all = false; parameter = p } ∷ around) y
nodes_below d around (all p y) = record { depth = d; around = around; head = quantifier_head p }
    ∷ nodes_below (suc d) (record { is_all = true; parameter = p } ∷ around) y
nodes_below d around (times n y) = record { depth = d; around = around; head = operator_head }
    ∷ nodes_below (suc d) around y

-- whether one of the quantifiers binds the parameter
abbrev pub is_bound : List Binder → List ℕ → Bool
is_bound around p = list_any (λ b. text_eq b.parameter p) around

-- whether the argument is the parameter p
abbrev pub is_parameter : List ℕ → Arg → Bool
is_parameter p (Fixed v) = false
is_parameter p (Param q) = text_eq p q

-- whether the argument is a fixed value or a bound parameter
abbrev pub is_bound_argument : List Binder → Arg → Bool
is_bound_argument around (Fixed v) = true
is_bound_argument around (Param p) = is_bound around p

-- whether the atom names the parameter p
abbrev pub names_parameter : List ℕ → PlainAtom → Bool
names_parameter p x = list_any (is_parameter p) x.arguments

-- a quantifier inside eight others
abbrev pub is_ninth_quantifier : List Binder → Head → Bool
is_ninth_quantifier around (quantifier_head p) = nat_le 8 (length around)
is_ninth_quantifier around _ = false

-- a quantifier whose parameter an enclosing one binds
abbrev pub binds_twice : List Binder → Head → Bool
binds_twice around (quantifier_head p) = is_bound around p
binds_twice around _ = false

-- an atom with a parameter that no enclosing quantifier binds
abbrev pub is_unbound : List Binder → Head → Bool
is_unbound around (atom_head x) = not (list_all (is_bound_argument around) x.arguments)
is_unbound around _ = false

-- an atom inside an `all` whose parameter it doesn't name
abbrev pub misses_a_parameter : List Binder → Head → Bool
misses_a_parameter around (atom_head x) = list_any
    (λ b. b.is_all && not (names_parameter b.parameter x)) around
misses_a_parameter around _ = false

-- the first code whose test holds
abbrev pub first_code : List (ℕ × Bool) → Option ℕ
first_code [] = None
first_code (test ∷ tests) = if test.1 then Some test.0 else first_code tests

-- the fault at the node numbered n: the first of the table that applies
abbrev pub fault_at : ℕ → Node → Option ℕ
fault_at n node = first_code
    ((8, n == 512)
    ∷ (9, node.depth == 257)
    ∷ (13, is_ninth_quantifier node.around node.head)
    ∷ (6, binds_twice node.around node.head)
    ∷ (5, is_unbound node.around node.head)
    ∷ (7, misses_a_parameter node.around node.head)
    ∷ [])

-- no node of the list, numbered from 0, has a fault
pub record HaveNoFault (nodes : List Node) : Type 0 where
  pub none : (k : ℕ) (node : Node) → slice_get nodes k ≡ Some node → fault_at k node ≡ None

-- the node with this number is there and has the fault of this code, and no node before it has one
pub record IsFirstNodeFault (nodes : List Node) (code number : ℕ) : Type 0 where
  pub here : IsSomeAnd (slice_get nodes number) (λ node. fault_at number node ≡ Some code)
  pub before : (k : ℕ) (node : Node) → k < number → slice_get nodes k ≡ Some node
      → fault_at k node ≡ None

-- the nodes of a whole expression
abbrev pub nodes_of : Form → List Node
nodes_of x = nodes_below 1 [] x

-- a number that may stand behind `times`
abbrev pub IsTimesNumber : ℕ → Type 0
IsTimesNumber n = (2 ≤ n) × (n ≤ 64)

-- each number behind a `times` of the expression may stand there
abbrev pub HasNumbers : Form → Type 0
HasNumbers (atom x) = Unit {0}
HasNumbers (opt y) = HasNumbers y
HasNumbers (seq y z) = HasNumbers y × HasNumbers z
HasNumbers (star y) = HasNumbers y
HasNumbers (par y z) = HasNumbers y × HasNumbers z
HasNumbers (par_star y) = HasNumbers y
HasNumbers (or y z) = HasNumbers y × HasNumbers z
HasNumbers (and y z) = HasNumbers y × HasNumbers z
HasNumbers (couple y z) = HasNumbers y × HasNumbers z
HasNumbers (any p y) = HasNumbers y
HasNumbers (every p y) = HasNumbers y
HasNumbers (sync p y) = HasNumbers y
HasNumbers (all p y) = HasNumbers y
HasNumbers (times n y) = IsTimesNumber n × HasNumbers y

-- the expression is well formed: no node of it has a fault, and each number may stand where it does
pub record IsWellFormed (x : Form) : Type 0 where
  pub faultless : HaveNoFault (nodes_of x)
  pub numbers : HasNumbers x

-- the first form fault of the expression, by its code and the number of its node in pre-order from
-- 0
abbrev pub IsFirstFormFault : Form → ℕ → ℕ → Type 0
IsFirstFormFault x code number = IsFirstNodeFault (nodes_of x) code number

-- the parameters of an environment, as quantifiers around an expression that isn't whole
abbrev pub binders_of : Environment → List Binder
binders_of e = map (λ entry. record { is_all = false; parameter = entry.0 }) e

-- the expression fits the environment: with the environment's parameters around it no node has a
-- fault, so each free parameter is there, none is bound again, each atom under an `all` names its
-- parameter, and parameters with nested quantifiers are at most 8, nodes at most 512, depth at most
-- 256; and each number may stand where it does
pub record Fits (x : Form) (e : Environment) : Type 0 where
  pub faultless : HaveNoFault (nodes_below 1 (binders_of e) x)
  pub numbers : HasNumbers x
