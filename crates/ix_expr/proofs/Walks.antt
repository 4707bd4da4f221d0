-- What a walk has found behind some nodes, and what that says of the whole list.
use Rattle.std.proofs.Common.{◌≡◌, ℕ, zero, suc, ◌+◌, ◌<◌, List, [], ◌∷◌, ◌++◌, length, Option, Some, None, Result, Ok, Err, refl, sym, ◌∙◌, subst, arith, add-zero, zero-add, length-append}
use Rattle.std.specs.Prelude.{slice_get, IsSomeAnd}
use Rattle.std.proofs.lemmas.Option.{same_Some}
use Rattle.ix_expr.specs.declared.expression.FormFault.{FormFault}
use Rattle.ix_expr.specs.FormFaults.{Node, fault_at, HaveNoFault, IsFirstNodeFault}
use Rattle.ix_expr.specs.inside.Walk.{FreeFrom, free_end, free_node, FaultFrom, fault_here, fault_later, Passed, Walked}

-- the fault that is made of a code and the number of the first node
pub told : {node : Node} {nodes : List Node} (n code : ℕ) (fault : FormFault) → fault ≡ record { code = code; node = n } → Some code ≡ fault_at n node → FaultFrom n (node ∷ nodes) fault.code fault.node
told {node} {nodes} n code fault made is =
    subst (λ f. FaultFrom n (node ∷ nodes) f.code f.node) (sym made) (fault_here (sym is))

-- the nodes behind a first node that has no fault
pub walked-node : (n m : ℕ) (node : Node) (nodes : List Node) (r : Result ℕ FormFault) → m ≡ suc n → fault_at n node ≡ None → Walked m nodes r → Walked n (node ∷ nodes) r
walked-node n m node nodes (Ok next) is none walked = record {
  free = free_node none (subst (λ k. FreeFrom k nodes) is walked.free);
  counted = omega (arith, walked.counted, is);
  few = walked.few;
}
walked-node n m node nodes (Err fault) is none walked = fault_later none (subst (λ k. FaultFrom k nodes fault.code fault.node) is walked)

pub free-append : {n : ℕ} {xs : List Node} (m : ℕ) (ys : List Node) → FreeFrom n xs → m ≡ n + length xs → FreeFrom m ys → FreeFrom n (xs ++ ys)
free-append {n} m ys free_end is free = subst (λ k. FreeFrom k ys) (is ∙ add-zero n) free
free-append m ys (free_node none rest) is free = free_node none (free-append m ys rest (omega (arith, is)) free)

fault-append : {n code number : ℕ} {xs : List Node} (m : ℕ) (ys : List Node) → FreeFrom n xs → m ≡ n + length xs → FaultFrom m ys code number → FaultFrom n (xs ++ ys) code number
fault-append {n} {code} {number} m ys free_end is fault = subst (λ k. FaultFrom k ys code number) (is ∙ add-zero n) fault
fault-append m ys (free_node none rest) is fault = fault_later none (fault-append m ys rest (omega (arith, is)) fault)

-- nodes behind others that have no fault
pub walked-append : (n m : ℕ) (xs ys : List Node) (r : Result ℕ FormFault) → Passed n xs m → Walked m ys r → Walked n (xs ++ ys) r
walked-append n m xs ys (Ok next) passed walked = record {
  free = free-append m ys passed.free passed.counted walked.free;
  counted = omega (arith, walked.counted, passed.counted, length-append xs ys);
  few = walked.few;
}
walked-append n m xs ys (Err fault) passed walked = fault-append m ys passed.free passed.counted walked

-- a fault stays the first, whatever comes behind
pub fault-before : {n code number : ℕ} {xs : List Node} (ys : List Node) → FaultFrom n xs code number → FaultFrom n (xs ++ ys) code number
fault-before ys (fault_here some) = fault_here some
fault-before ys (fault_later none rest) = fault_later none (fault-before ys rest)

free-at : {n : ℕ} {nodes : List Node} → FreeFrom n nodes → (k : ℕ) (node : Node) → slice_get nodes k ≡ Some node → fault_at (n + k) node ≡ None
free-at free_end k node is = cc
free-at {n} (free_node {node = x} none rest) zero node is =
    subst (λ i. fault_at i node ≡ None) (sym (add-zero n)) (subst (λ y. fault_at n y ≡ None) (same_Some x node is) none)
free-at {n} (free_node none rest) (suc k) node is =
    let e : suc n + k ≡ n + suc k = omega arith in subst (λ i. fault_at i node ≡ None) e (free-at rest k node is)

-- nodes that a walk from 0 has passed have no fault
pub passed-HaveNoFault : (nodes : List Node) → FreeFrom 0 nodes → HaveNoFault nodes
passed-HaveNoFault nodes free = record { none = λ k node is. subst (λ i. fault_at i node ≡ None) (zero-add k) (free-at free k node is) }

-- a first fault among nodes numbered from n, by its place in the list
record FoundFrom (n : ℕ) (nodes : List Node) (code number : ℕ) : Type 0 where
  place : ℕ
  counted : number ≡ n + place
  here : IsSomeAnd (slice_get nodes place) (λ node. fault_at number node ≡ Some code)
  before : (k : ℕ) (node : Node) → k < place → slice_get nodes k ≡ Some node → fault_at (n + k) node ≡ None

found : {n code number : ℕ} {nodes : List Node} → FaultFrom n nodes code number → FoundFrom n nodes code number
found {n} (fault_here some) = record {
  place = 0;
  counted = sym (add-zero n);
  here = some;
  before = λ k node below is. absurd (omega arith);
}
found {n} {code} {number} (fault_later {node = x} {nodes = xs} none rest) =
    let later = found rest in
    record {
      place = suc later.place;
      counted = omega (arith, later.counted);
      here = later.here;
      before = before later.place later.before;
    }
  where
    before : (place : ℕ) → ((k : ℕ) (node : Node) → k < place → slice_get xs k ≡ Some node → fault_at (suc n + k) node ≡ None) → (k : ℕ) (node : Node) → k < suc place → slice_get (x ∷ xs) k ≡ Some node → fault_at (n + k) node ≡ None
    before place earlier zero node below is =
        subst (λ i. fault_at i node ≡ None) (sym (add-zero n)) (subst (λ y. fault_at n y ≡ None) (same_Some x node is) none)
    before place earlier (suc k) node below is =
        let e : suc n + k ≡ n + suc k = omega arith in subst (λ i. fault_at i node ≡ None) e (earlier k node (omega arith) is)

-- a fault that a walk from 0 has found is the first
pub found-IsFirstFault : (nodes : List Node) (code number : ℕ) → FaultFrom 0 nodes code number → IsFirstNodeFault nodes code number
found-IsFirstFault nodes code number fault =
    let first = found fault in
    let is : number ≡ first.place = first.counted ∙ zero-add first.place in
    record {
      here = subst (λ k. IsSomeAnd (slice_get nodes k) (λ node. fault_at number node ≡ Some code)) (sym is) first.here;
      before = λ k node below at. subst (λ i. fault_at i node ≡ None) (zero-add k) (first.before k node (omega (arith, is)) at);
    }

no-fault-free : (n : ℕ) (nodes : List Node) → ((k : ℕ) (node : Node) → slice_get nodes k ≡ Some node → fault_at (n + k) node ≡ None) → FreeFrom n nodes
no-fault-free n [] none = free_end
no-fault-free n (x ∷ nodes) none =
    free_node (subst (λ i. fault_at i x ≡ None) (add-zero n) (none 0 x refl)) (no-fault-free (suc n) nodes (λ k node is. let e : n + suc k ≡ suc n + k = omega arith in subst (λ i. fault_at i node ≡ None) e (none (suc k) node is)))

-- nodes that have no fault have none where they are numbered from 0
pub HaveNoFault-free : (nodes : List Node) → HaveNoFault nodes → FreeFrom 0 nodes
HaveNoFault-free nodes none = no-fault-free 0 nodes (λ k node is. subst (λ i. fault_at i node ≡ None) (sym (zero-add k)) (none.none k node is))

-- a free front and a free back
pub free-parts : (n : ℕ) (xs ys : List Node) → FreeFrom n (xs ++ ys) → FreeFrom n xs × FreeFrom (n + length xs) ys
free-parts n [] ys free = (free_end, subst (λ k. FreeFrom k ys) (sym (add-zero n)) free)
free-parts n (x ∷ xs) ys (free_node none rest) =
    let parts = free-parts (suc n) xs ys rest in
    let e : suc n + length xs ≡ n + suc (length xs) = omega arith in
    (free_node none parts.0, subst (λ k. FreeFrom k ys) e parts.1)

-- a list with a first fault isn't free of faults
pub fault-not-free : (nodes : List Node) (code number : ℕ) → IsFirstNodeFault nodes code number → HaveNoFault nodes → ⊥
fault-not-free nodes code number fault none = at (slice_get nodes number) refl fault.here
  where
    at : (o : Option Node) → slice_get nodes number ≡ o → IsSomeAnd o (λ node. fault_at number node ≡ Some code) → ⊥
    at None is here = absurd here
    at (Some node) is here = let clear : fault_at number node ≡ None = none.none number node is in cc
