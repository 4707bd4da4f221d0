-- What is left of the room, and which number comes next, after many calls.
use Rattle.std.proofs.Common.{◌≡◌, ℕ, ◌+◌, ◌-◌, ◌^◌, ◌<◌, ◌≤◌, ◌==◌, ◌||◌, nat_lt, min, Bool, true, false, List, [], ◌∷◌, length, sum, Option, None, Some, is_none, inl, inr, refl, ap, ◌∙◌, rules, arith}
use Rattle.std.proofs.lemmas.Bool.{cases_lt}
use Rattle.std.proofs.lemmas.List.Sums.{sum_by-cons}
use Rattle.std.specs.List.{list_any}
use Rattle.ix_memory.specs.PlanState.{PlanState, fresh_plan}
use Rattle.ix_memory.specs.Plan.{room_left_behind, is_spent_by, plan_after}
use Rattle.ix_memory.specs.CallRuns.{after_calls, FailsWhereTold, NoneFailsUntold}

-- two costs after each other are their sum
two_costs : (a b : ℕ) (left : Option ℕ) → room_left_behind b (room_left_behind a left) ≡ room_left_behind (a + b) left
two_costs a b None = refl
two_costs a b (Some room) = elim (cases_lt room a) [
  | inl less ↦
      let first : nat_lt room a ≡ true = search (rules, less) in
      let less_too : room < a + b = omega arith in
      let both : nat_lt room (a + b) ≡ true = search (rules, less_too) in
      rw (first, both) refl
  | inr more ↦
      let first : nat_lt room a ≡ false = search (rules, more) in
      rw first (elim (cases_lt room (a + b)) [
        | inl less ↦
            let less_too : room - a < b = omega arith in
            let second : nat_lt (room - a) b ≡ true = search (rules, less_too) in
            let both : nat_lt room (a + b) ≡ true = search (rules, less) in
            rw (second, both) refl
        | inr enough ↦
            let enough_too : b ≤ room - a = omega arith in
            let second : nat_lt (room - a) b ≡ false = search (rules, enough_too) in
            let both : nat_lt room (a + b) ≡ false = search (rules, enough) in
            let rest : room - a - b ≡ room - (a + b) = omega arith in
            rw (second, both) (ap (λ (n : ℕ). Some n) rest)
      ])
]

-- the room behind a further cost
pub left-after : (before : List ℕ) (plan : PlanState) (cost : ℕ)
    → room_left_behind cost (after_calls plan before).left ≡ room_left_behind (sum before + cost) plan.left
left-after [] plan cost =
    let none : cost ≡ 0 + cost = omega arith in
    ap (λ (n : ℕ). room_left_behind n plan.left) none
left-after (first ∷ before) plan cost =
    let all : first + (sum before + cost) ≡ sum (first ∷ before) + cost = omega (arith, sum_by-cons (λ (n : ℕ). n) first before) in
    left-after before (plan_after plan first) cost
    ∙ two_costs first (sum before + cost) plan.left
    ∙ ap (λ (n : ℕ). room_left_behind n plan.left) all

pub fail-after : (before : List ℕ) (plan : PlanState) → (after_calls plan before).calls.fail ≡ plan.calls.fail
fail-after [] plan = refl
fail-after (first ∷ before) plan = fail-after before (plan_after plan first)

pub fuse-after : (before : List ℕ) (plan : PlanState) → (after_calls plan before).fuse ≡ plan.fuse
fuse-after [] plan = refl
fuse-after (first ∷ before) plan = fuse-after before (plan_after plan first)

pub number-after : (before : List ℕ) (plan : PlanState) → plan.calls.number + length before < 2 ^ 64
    → (after_calls plan before).calls.number ≡ plan.calls.number + length before
number-after [] plan below = omega arith
number-after (first ∷ before) plan below =
    let next : min (plan.calls.number + 1) (2 ^ 64 - 1) ≡ plan.calls.number + 1 = omega arith in
    let below_too : min (plan.calls.number + 1) (2 ^ 64 - 1) + length before < 2 ^ 64 = omega arith in
    let step = number-after before (plan_after plan first) below_too in
    omega arith

pub fails_where_told : FailsWhereTold
fails_where_told fail fuse room before cost below =
    let plan : PlanState = after_calls (fresh_plan fail fuse room) before in
    let fails : plan.calls.fail ≡ fail = fail-after before (fresh_plan fail fuse room) in
    let fused : plan.fuse ≡ fuse = fuse-after before (fresh_plan fail fuse room) in
    let number : plan.calls.number ≡ length before =
    number-after before (fresh_plan fail fuse room) (omega arith) ∙ (omega arith) in
    let left : room_left_behind cost plan.left ≡ room_left_behind (sum before + cost) (Some room) = left-after before (fresh_plan fail fuse room) cost in
    ap (λ (l : List ℕ). list_any (λ n. n == plan.calls.number) l || is_spent_by plan.fuse plan.calls.number || is_none (room_left_behind cost plan.left)) fails
    ∙ ap (λ (k : ℕ). list_any (λ n. n == k) fail || is_spent_by plan.fuse k || is_none (room_left_behind cost plan.left)) number
    ∙ ap (λ (f : Option ℕ). list_any (λ n. n == length before) fail || is_spent_by f (length before) || is_none (room_left_behind cost plan.left)) fused
    ∙ ap (λ (o : Option ℕ). list_any (λ n. n == length before) fail || is_spent_by fuse (length before) || is_none o) (left ∙ refl)
    ∙ ap (λ (b : Bool). list_any (λ n. n == length before) fail || is_spent_by fuse (length before) || b) (is_none-behind room (sum before + cost))
  where
    is_none-behind : (room cost : ℕ) → is_none (room_left_behind cost (Some room)) ≡ nat_lt room cost
    is_none-behind room cost = elim (cases_lt room cost) [
      | inl less ↦ let test : nat_lt room cost ≡ true = search (rules, less) in rw test refl
      | inr more ↦ let test : nat_lt room cost ≡ false = search (rules, more) in rw test refl
    ]

pub none_fails_untold : NoneFailsUntold
none_fails_untold room before cost within =
    let plan : PlanState = after_calls (fresh_plan [] None room) before in
    let fails : plan.calls.fail ≡ [] = fail-after before (fresh_plan [] None room) in
    let fused : plan.fuse ≡ None = fuse-after before (fresh_plan [] None room) in
    let left : room_left_behind cost plan.left ≡ room_left_behind (sum before + cost) (Some room) = left-after before (fresh_plan [] None room) cost in
    let test : nat_lt room (sum before + cost) ≡ false = search (rules, within) in
    ap (λ (l : List ℕ). list_any (λ n. n == plan.calls.number) l || is_spent_by plan.fuse plan.calls.number || is_none (room_left_behind cost plan.left)) fails
    ∙ ap (λ (f : Option ℕ). is_spent_by f plan.calls.number || is_none (room_left_behind cost plan.left)) fused
    ∙ ap (λ (o : Option ℕ). is_none o) left
    ∙ rw test refl
