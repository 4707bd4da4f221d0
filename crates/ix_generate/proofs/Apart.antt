-- Two asks with one action are the same.
use Rattle.std.proofs.Common.{◌≡◌, ℕ, ◌<◌, List, [], ap, arith, drop, get_or, length}
use Rattle.std.proofs.lemmas.Fmt.{decimal_injective}
use Rattle.ix_values.specs.PlainAction.{PlainAction}
use Rattle.ix_generate.specs.Workload.{Ask, IsAsk, asked_action, action_on, call, perform}

-- actions on patients and examinations have these in common
module _ (name other : List ℕ) (p e q f : ℕ) (same : action_on name p e ≡ action_on other q f) where
  patients : p < 40 → q < 40 → p ≡ q
  patients small few = decimal_injective p q (omega arith) (omega arith)
      (ap (λ (a : PlainAction). drop 1 (get_or a.values 0 [])) same)

  examinations : e < 10 → f < 10 → e ≡ f
  examinations small few = decimal_injective e f (omega arith) (omega arith)
      (ap (λ (a : PlainAction). drop 1 (get_or a.values 1 [])) same)

pub apart : (ask other : Ask) → IsAsk ask → IsAsk other → asked_action ask ≡ asked_action other
    → ask ≡ other
apart (call p e) (call q f) x y same =
    λ i. call (patients _ _ p e q f same x.0 y.0 i) (examinations _ _ p e q f same x.1 y.1 i)
apart (perform p e) (perform q f) x y same =
    λ i. perform (patients _ _ p e q f same x.0 y.0 i) (examinations _ _ p e q f same x.1 y.1 i)
apart (call p e) (perform q f) x y same =
    let long : 4 ≡ 7 = ap (λ (a : PlainAction). length a.name) same in
    absurd (omega (arith, long))
apart (perform p e) (call q f) x y same =
    let long : 7 ≡ 4 = ap (λ (a : PlainAction). length a.name) same in
    absurd (omega (arith, long))
