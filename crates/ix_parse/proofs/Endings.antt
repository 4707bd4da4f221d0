-- What `read` answers, by what the text means.
use Rattle.std.proofs.Common.{ℕ, zero, suc, ◌<◌, List, [], ◌∷◌, length, arith, Ok, Err, Result, sym, subst}
use Rattle.std.specs.Prelude.{IfOk, IfErr, IsSomeAnd, slice_get}
use Rattle.ix_expr.specs.Form.{Form}
use Rattle.ix_expr.specs.FormFaults.{HasNumbers, IsWellFormed}
use Rattle.ix_parse.specs.declared.Placed.{Placed}
use Rattle.ix_parse.specs.declared.TextFault.{TextFault}
use Rattle.ix_parse.specs.declared.TextFault.TheVariants.{Bad, Memory}
use Rattle.ix_parse.specs.Symbols.{Meaning}
use Rattle.ix_parse.specs.Faults.{HasMeaning, IsPlaced, IsFirstFault}
use Rattle.ix_parse.specs.inside.Outcomes.{IsFaultOf, HasPlaces, IsPlacedOr}
use Rattle.ix_parse.proofs.Places.{Stands-places, Stands-numbers}

pub HasMeaning-places : (text : List ℕ) (x : Meaning) → HasMeaning text x → HasPlaces x
HasMeaning-places text x means = Stands-places _ x means.stands

pub HasMeaning-numbers : (text : List ℕ) (x : Meaning) → HasMeaning text x → HasNumbers x.form
HasMeaning-numbers text x means = Stands-numbers 1 _ x means.stands

pub placed_ok : (text : List ℕ) (x : Meaning) (placed : Placed) → HasMeaning text x → IsPlacedOr x (Ok placed) → IsPlaced text (record { form = placed.expression; places = placed.places.items })
placed_ok text x placed means is =
    record {
      means = subst (λ (f : Form). HasMeaning text (record { form = f; places = placed.places.items })) (sym is.0)
          (subst (λ (l : List ℕ). HasMeaning text (record { form = x.form; places = l })) (sym is.1) means);
      well_formed = subst (λ (f : Form). IsWellFormed f) (sym is.0) is.2;
    }

pub read_ok : (text : List ℕ) (x : Meaning) (r : Result Placed TextFault) → HasMeaning text x → IsPlacedOr x r → IfOk r (λ placed. IsPlaced text (record { form = placed.expression; places = placed.places.items }))
read_ok text x (Ok placed) means is = placed_ok text x placed means is
read_ok text x (Err (Bad code at)) means is = tt
read_ok text x (Err Memory) means is = tt

pub read_fault : (text : List ℕ) (x : Meaning) (r : Result Placed TextFault) → HasMeaning text x → IsPlacedOr x r → IfErr r (λ fault. IsFaultOf text fault)
read_fault text x (Ok placed) means is = tt
read_fault text x (Err (Bad code at)) means is = IsFirstFault.form_fault x code is.0 at means is.1 is.2
read_fault text x (Err Memory) means is = tt

-- a place with an item is in range
pub in_range : {X : Type 0} (xs : List X) (i : ℕ) (P : X → Type 0) → IsSomeAnd (slice_get xs i) P → i < length xs
in_range [] i P there = absurd there
in_range (x ∷ xs) zero P there = omega arith
in_range (x ∷ xs) (suc i) P there = let inner = in_range xs i P there in omega arith
