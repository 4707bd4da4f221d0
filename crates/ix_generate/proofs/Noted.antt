-- The calls of a workload stay calls to examinations.
use Rattle.std.proofs.Common.{◌≡◌, ◌∙◌, ◌<◌, ◌&&◌, ℕ, Bool, true, false, zero, suc, List, [], ◌∷◌}
use Rattle.std.proofs.Common.{get_or, refl}
use Rattle.std.proofs.Common.{ap, arith, decimal, lt-ltb, sym, true≢false, Option}
use Rattle.std.specs.Prelude.{slice_set}
use Rattle.std.specs.Bool.{then_some}
use Rattle.ix_generate.specs.Workload.{Ask, IsAsk, asked_action, call, perform}
use Rattle.ix_generate.specs.inside.Calls.{are_examinations, is_examination}

both_parts : (a b : Bool) → (a && b) ≡ true → (a ≡ true) × (b ≡ true)
both_parts true b h = (refl, h)
both_parts false b h = absurd (true≢false (sym h))

-- one more is set
pub set_passes : (calls : List (Option ℕ)) (patient : ℕ) (set : Option ℕ)
    → is_examination set ≡ true → are_examinations calls ≡ true
    → are_examinations (slice_set calls patient set) ≡ true
set_passes [] patient set one all = refl
set_passes (x ∷ calls) zero set one all = rw one (both_parts _ _ all).1
set_passes (x ∷ calls) (suc patient) set one all =
    rw (both_parts (is_examination x) _ all).0
    (set_passes calls patient set one (both_parts (is_examination x) _ all).1)

pub some_passes : (is_call : Bool) (examination : ℕ) → examination < 10
    → is_examination (then_some is_call examination) ≡ true
some_passes true examination lt = lt-ltb examination 10 lt
some_passes false examination lt = refl

-- the examination that is read of an ask's action
pub below_ten : (ask : Ask) → IsAsk ask → (values : List (List ℕ)) → values ≡ (asked_action ask).values
    → (value : List ℕ) → value ≡ get_or values 1 value → (read : ℕ)
    → ((letter number : ℕ) → number < 256 → value ≡ letter ∷ decimal number → read ≡ number)
    → read < 10
below_ten (call patient examination) fits values same value at read is =
    let text = at ∙ ap (λ vs. get_or vs 1 value) same in
    let number = is 120 examination (omega (arith, fits.1)) text in
    omega (arith, fits.1)
below_ten (perform patient examination) fits values same value at read is =
    let text = at ∙ ap (λ vs. get_or vs 1 value) same in
    let number = is 120 examination (omega (arith, fits.1)) text in
    omega (arith, fits.1)
