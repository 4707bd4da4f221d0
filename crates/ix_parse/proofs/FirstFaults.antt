-- The first fault of a text is the first that a test tells.
use Rattle.std.proofs.Common.{◌≡◌, ℕ, suc, ◌<◌, ◌≤◌, Bool, true, false, eqb, cond, Option, Some, None, refl, sym, ap, ◌∙◌, subst, arith, ⊎_elim, eqb-true, eq-eqb}
use Rattle.std.proofs.str.Laws.{order}
use Rattle.ix_parse.specs.declared.faults.Fault.{Fault}
use Rattle.ix_parse.specs.declared.faults.Fault.TheVariants as faults
use Rattle.ix_parse.specs.Faults.{order_of}
use Rattle.ix_parse.specs.inside.Judged.{first_met}
use Rattle.ix_parse.proofs.Steps.{some_is}

-- the fault with an order
fault_at : ℕ → Fault
fault_at n =
    cond (eqb n 1) faults.NoToken (cond (eqb n 2) faults.Reserved (cond (eqb n 3) faults.NoNumber (cond (eqb n 4) faults.FifthArgument (cond (eqb n 5) faults.Unexpected
    (cond (eqb n 6) faults.LongName (cond (eqb n 7) faults.TooDeep (cond (eqb n 8) faults.TooManyNodes faults.Ended)))))))

fault_at-order : (f : Fault) → fault_at (order_of f) ≡ f
unfolding fault_at
fault_at-order faults.NoToken = refl
fault_at-order faults.Reserved = refl
fault_at-order faults.NoNumber = refl
fault_at-order faults.FifthArgument = refl
fault_at-order faults.Unexpected = refl
fault_at-order faults.LongName = refl
fault_at-order faults.TooDeep = refl
fault_at-order faults.TooManyNodes = refl
fault_at-order faults.Ended = refl

-- faults of one order are the same
pub order-one : (f g : Fault) → order_of f ≡ order_of g → f ≡ g
order-one f g e = sym (fault_at-order f) ∙ ap fault_at e ∙ fault_at-order g

order-low : (f : Fault) → order_of f ≤ 9
order-low faults.NoToken = omega arith
order-low faults.Reserved = omega arith
order-low faults.NoNumber = omega arith
order-low faults.FifthArgument = omega arith
order-low faults.Unexpected = omega arith
order-low faults.LongName = omega arith
order-low faults.TooDeep = omega arith
order-low faults.TooManyNodes = omega arith
order-low faults.Ended = omega arith

order-some : (f : Fault) → 1 ≤ order_of f
order-some faults.NoToken = omega arith
order-some faults.Reserved = omega arith
order-some faults.NoNumber = omega arith
order-some faults.FifthArgument = omega arith
order-some faults.Unexpected = omega arith
order-some faults.LongName = omega arith
order-some faults.TooDeep = omega arith
order-some faults.TooManyNodes = omega arith
order-some faults.Ended = omega arith

-- the test of no fault below the order holds
abbrev NoneBelow : (Fault → Bool) → ℕ → Type 0
NoneBelow test n = (f : Fault) → order_of f < n → test f ≡ false

none-first : (test : Fault → Bool) → NoneBelow test 1
none-first test f low = let some = order-some f in absurd (omega arith)

none-more : (test : Fault → Bool) (f : Fault) (n : ℕ) → order_of f ≡ n → NoneBelow test n → test f ≡ false → NoneBelow test (suc n)
none-more test f n is below none g low = by-test (eqb (order_of g) n) refl
  where
    by-test : (v : Bool) → eqb (order_of g) n ≡ v → test g ≡ false
    by-test true same =
        let e : g ≡ f = order-one g f (eqb-true (order_of g) n same ∙ sym is) in
        ap test e ∙ none
    by-test false differs =
        below g (⊎_elim (λ lt. lt) (λ ge. absurd (let same : order_of g ≡ n = omega arith in let h : eqb (order_of g) n ≡ true = eq-eqb (order_of g) n same in cc)) (order (order_of g) n))

-- what the first fault whose test holds tells
pub record IsFirstMet (test : Fault → Bool) (f : Fault) : Type 0 where
  pub holds : test f ≡ true
  pub below : NoneBelow test (order_of f)

chosen : (test : Fault → Bool) (f : Fault) (n : ℕ) (others : Option Fault) (g : Fault) (v : Bool) → test f ≡ v → order_of f ≡ n → NoneBelow test n → (NoneBelow test (suc n) → others ≡ Some g → IsFirstMet test g) → cond v (Some f) others ≡ Some g → IsFirstMet test g
chosen test f n others g true holds is below more e = subst (IsFirstMet test) (some_is f g e) (record { holds = holds; below = subst (NoneBelow test) (sym is) below })
chosen test f n others g false none is below more e = more (none-more test f n is below none) e

pub first_met-some : (test : Fault → Bool) (g : Fault) → test faults.NoToken ≡ false → first_met test ≡ Some g → IsFirstMet test g
first_met-some test g none e =
    chosen test faults.Reserved 2 _ g (test faults.Reserved) refl refl (none-more test faults.NoToken 1 refl (none-first test) none)
    (λ below. chosen test faults.NoNumber 3 _ g (test faults.NoNumber) refl refl below
    (λ below. chosen test faults.FifthArgument 4 _ g (test faults.FifthArgument) refl refl below
    (λ below. chosen test faults.Unexpected 5 _ g (test faults.Unexpected) refl refl below
    (λ below. chosen test faults.LongName 6 _ g (test faults.LongName) refl refl below
    (λ below. chosen test faults.TooDeep 7 _ g (test faults.TooDeep) refl refl below
    (λ below. chosen test faults.TooManyNodes 8 None g (test faults.TooManyNodes) refl refl below (λ below e. absurd cc))))))) e

skipped : (test : Fault → Bool) (f : Fault) (n : ℕ) (others : Option Fault) {A : Type 0} (v : Bool) → test f ≡ v → order_of f ≡ n → NoneBelow test n → (NoneBelow test (suc n) → others ≡ None → A) → cond v (Some f) others ≡ None → A
skipped test f n others true holds is below more e = absurd cc
skipped test f n others false none is below more e = more (none-more test f n is below none) e

pub first_met-none : (test : Fault → Bool) → test faults.NoToken ≡ false → test faults.Ended ≡ false → first_met test ≡ None → (f : Fault) → test f ≡ false
first_met-none test none none_ended e f =
    let low = order-low f in
    skipped test faults.Reserved 2 _ (test faults.Reserved) refl refl (none-more test faults.NoToken 1 refl (none-first test) none)
    (λ below. skipped test faults.NoNumber 3 _ (test faults.NoNumber) refl refl below
    (λ below. skipped test faults.FifthArgument 4 _ (test faults.FifthArgument) refl refl below
    (λ below. skipped test faults.Unexpected 5 _ (test faults.Unexpected) refl refl below
    (λ below. skipped test faults.LongName 6 _ (test faults.LongName) refl refl below
    (λ below. skipped test faults.TooDeep 7 _ (test faults.TooDeep) refl refl below
    (λ below. skipped test faults.TooManyNodes 8 None (test faults.TooManyNodes) refl refl below (λ below e. none-more test faults.Ended 9 refl below none_ended f (omega arith)))))))) e
