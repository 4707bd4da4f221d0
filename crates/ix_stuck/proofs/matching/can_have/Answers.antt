-- A list is longer.
use Rattle.std.proofs.Common.{◌≡◌, ◌≢◌, ℕ, Bool, true, false, List, [], ◌∷◌, ◌&&◌, length, refl, sym, arith}
use Rattle.ix_expr.specs.declared.arg.Arg.{Arg}
use Rattle.ix_stuck.specs.inside.Matching.{can_begin, can_have}
use Rattle.ix_stuck.proofs.matching.can_have.Goals as goal

either_no : (b c : Bool) → c ≡ false → b && c ≡ false
either_no true c e = e
either_no false c e = refl

differ : (xs : List Arg) (vs : List (List ℕ)) → length xs ≢ length vs → can_have xs vs ≡ false
differ [] [] n = absurd (n refl)
differ [] (v ∷ vs) n = refl
differ (x ∷ xs) [] n = refl
differ (x ∷ xs) (v ∷ vs) n = either_no (can_begin x v xs vs) (can_have xs vs) (differ xs vs (λ e. n (omega (arith, e))))

pub returns-then-args-values : goal.returns-then-args-values
returns-then-args-values c = sym (differ c.args.args.now c.args.values.now c.if-args-values.true)
