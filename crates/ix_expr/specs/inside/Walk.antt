-- What a walk over nodes that are numbered from n answers.
use Rattle.std.specs.Prelude.{◌≡◌, ℕ, suc, ◌+◌, ◌≤◌, List, [], ◌∷◌, length, Result, Ok, Err, Some}
use Rattle.std.specs.Prelude.{None}
use Rattle.ix_expr.specs.declared.expression.FormFault.{FormFault}
use Rattle.ix_expr.specs.declared.walk.Cause.{Cause}
use Rattle.ix_expr.specs.declared.walk.Cause.TheVariants as cause
use Rattle.ix_expr.specs.Form.{PlainAtom}
use Rattle.ix_expr.specs.FormFaults.{Binder, Node, atom_head, quantifier_head, operator_head}
use Rattle.ix_expr.specs.FormFaults.{fault_at}

-- the code that tells a cause
abbrev pub walk_code : Cause → ℕ
walk_code cause.Unbound = 5
walk_code cause.BoundTwice = 6
walk_code cause.AllWithoutParameter = 7
walk_code cause.TooManyNodes = 8
walk_code cause.TooDeep = 9
walk_code cause.TooManyQuantifiers = 13

-- the node of an atom
abbrev pub atom_node : ℕ → List Binder → PlainAtom → Node
atom_node d around x = record { depth = d; around = around; head = atom_head x }

-- the node of a quantifier
abbrev pub quantifier_node : ℕ → List Binder → List ℕ → Node
quantifier_node d around p = record { depth = d; around = around; head = quantifier_head p }

-- the node of another operator
abbrev pub operator_node : ℕ → List Binder → Node
operator_node d around = record { depth = d; around = around; head = operator_head }

-- no node has a fault
pub data FreeFrom : ℕ → List Node → Type 0 where
  free_end : {n : ℕ} → FreeFrom n []
  free_node : {n : ℕ} {node : Node} {nodes : List Node} → fault_at n node ≡ None
      → FreeFrom (suc n) nodes → FreeFrom n (node ∷ nodes)

-- the first node that has a fault has this code and this number
pub data FaultFrom : ℕ → List Node → ℕ → ℕ → Type 0 where
  fault_here : {n code : ℕ} {node : Node} {nodes : List Node} → fault_at n node ≡ Some code
      → FaultFrom n (node ∷ nodes) code n
  fault_later : {n code number : ℕ} {node : Node} {nodes : List Node} → fault_at n node ≡ None
      → FaultFrom (suc n) nodes code number → FaultFrom n (node ∷ nodes) code number

-- no fault, and the number behind the last node
pub record Passed (n : ℕ) (nodes : List Node) (next : ℕ) : Type 0 where
  pub free : FreeFrom n nodes
  pub counted : next ≡ n + length nodes
  pub few : next ≤ 512

-- the number behind the last node, or the first fault
abbrev pub Walked : ℕ → List Node → Result ℕ FormFault → Type 0
Walked n nodes (Ok next) = Passed n nodes next
Walked n nodes (Err fault) = FaultFrom n nodes fault.code fault.node
