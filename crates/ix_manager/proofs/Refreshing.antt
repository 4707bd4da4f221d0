-- Noting one watch after the other.
use Rattle.std.proofs.Common.{◌≡◌, ◌↔◌, ℕ, zero, suc, ◌+◌, Bool, true, false, List, [], ◌∷◌, length, map, Option, Some, None, Ok, Err, OnErr, IsTrue, refl, sym, ◌∙◌, ap, add-one, subst, true≢false, IsSomeAnd}
use Rattle.std.specs.List.{slice_get}
use Rattle.std.specs.Prelude.{Result}
use Rattle.ix_words.specs.Each.{Each, no_item, item}
use Rattle.ix_engine.specs.inside.Engine.{EngineState, Allows}
use Rattle.ix_watch.specs.inside.Watches.{PlainWatch, noted}
use Rattle.ix_manager.specs.Machine.{Tells, HasNoWatch}
use Rattle.ix_manager.specs.inside.Core.{core_watch}
use Rattle.ix_manager.specs.inside.Does.{IsNoted}

-- an answer that is true exactly where P holds tells it
pub tells_of : {P : Type 0} (answer : Bool) → IsTrue answer ↔ P → Tells P answer
tells_of true both = both.0 refl
tells_of false both = λ p. true≢false (sym (both.1 p))

pub tells_along : {P Q : Type 0} (answer : Bool) → (P → Q) → (Q → P) → Tells P answer → Tells Q answer
tells_along true there back p = there p
tells_along false there back isnt = λ q. isnt (back q)

pub some_of : {P : PlainWatch → Type 0} (found : Option PlainWatch) → IsSomeAnd found P → (watch : PlainWatch) × (found ≡ Some watch) × P watch
some_of None h = elim h [ ]
some_of (Some watch) h = (watch, refl, h)

-- noting keeps the watches
pub noted-kept : (watches : List PlainWatch) (index : ℕ) (now : Bool) → map core_watch (noted watches index now) ≡ map core_watch watches
noted-kept [] index now = refl
noted-kept (watch ∷ watches) zero now = refl
noted-kept (watch ∷ watches) (suc index) now = ap (λ ws. core_watch watch ∷ ws) (noted-kept watches index now)

pub length-noted : (watches : List PlainWatch) (index : ℕ) (now : Bool) → length (noted watches index now) ≡ length watches
length-noted [] index now = refl
length-noted (watch ∷ watches) zero now = refl
length-noted (watch ∷ watches) (suc index) now = ap suc (length-noted watches index now)

-- each of the first watches has G
abbrev pub FirstHave : (PlainWatch → Type 0) → ℕ → List PlainWatch → Type 0
FirstHave G zero watches = Unit {0}
FirstHave G (suc count) [] = Unit {0}
FirstHave G (suc count) (watch ∷ watches) = G watch × FirstHave G count watches

module _ (G : PlainWatch → Type 0) where
  pub first_noted : (watches : List PlainWatch) (index : ℕ) (watch : PlainWatch) (now : Bool) → slice_get watches index ≡ Some watch
      → FirstHave G index watches → G (record watch { now = now }) → FirstHave G (suc index) (noted watches index now)
  first_noted [] index watch now is each here = tt
  first_noted (first ∷ watches) zero watch now is each here =
      let first_is : watch ≡ first = cc in
      (subst (λ (w : PlainWatch). G (record w { now = now })) first_is here, tt)
  first_noted (first ∷ watches) (suc index) watch now is each here = (each.0, first_noted watches index watch now is each.1 here)

  pub first_kept : (watches : List PlainWatch) (index : ℕ) (watch : PlainWatch) → slice_get watches index ≡ Some watch
      → FirstHave G index watches → G watch → FirstHave G (suc index) watches
  first_kept [] index watch is each here = tt
  first_kept (first ∷ watches) zero watch is each here = let first_is : watch ≡ first = cc in (subst G first_is here, tt)
  first_kept (first ∷ watches) (suc index) watch is each here = (each.0, first_kept watches index watch is each.1 here)

  pub all_have : (watches : List PlainWatch) → FirstHave G (length watches) watches → Each G watches
  all_have [] each = no_item
  all_have (watch ∷ watches) each = item each.0 (all_have watches each.1)

-- a watch of the name is there
pub has_watch : (name : List ℕ) (watches : List PlainWatch) (index : ℕ) (watch : PlainWatch) → slice_get watches index ≡ Some watch
    → watch.name ≡ name → HasNoWatch name (map core_watch watches) → ⊥
has_watch name [] index watch is named none = cc
has_watch name (first ∷ watches) zero watch is named (item not_first rest) =
    let first_is : first ≡ watch = cc in not_first (subst (λ (w : PlainWatch). w.name ≡ name) (sym first_is) named)
has_watch name (first ∷ watches) (suc index) watch is named (item not_first rest) = has_watch name watches index watch is named rest

pub on_err : {T E P : Type 0} (result : Result T E) → P → OnErr result P
on_err (Ok value) p = tt
on_err (Err fault) p = p

-- the watches are the old ones, and of the first of them it is noted
abbrev pub IsNotedUpTo : EngineState → List ℕ → List PlainWatch → ℕ → List PlainWatch → Type 0
IsNotedUpTo engine name old count watches =
    (map core_watch watches ≡ map core_watch old)
    × (length watches ≡ length old)
    × FirstHave (λ (watch : PlainWatch). watch.name ≡ name → Tells (Allows engine watch.action) watch.now) count watches

module _ (engine : EngineState) (name : List ℕ) (old : List PlainWatch) where
  pub one_noted : (watches watches' : List PlainWatch) (index : ℕ) (watch : PlainWatch) (answer : Bool) → slice_get watches index ≡ Some watch
      → IsTrue answer ↔ Allows engine watch.action → watches' ≡ noted watches index answer
      → IsNotedUpTo engine name old index watches → IsNotedUpTo engine name old (index + 1) watches'
  one_noted watches watches' index watch answer there both same before =
      subst (λ (ws : List PlainWatch). IsNotedUpTo engine name old (index + 1) ws) (sym same) (
        noted-kept watches index answer ∙ before.0,
        length-noted watches index answer ∙ before.1,
        subst (λ n. FirstHave (λ (w : PlainWatch). w.name ≡ name → Tells (Allows engine w.action) w.now) n (noted watches index answer)) (sym (add-one index))
            (first_noted (λ (w : PlainWatch). w.name ≡ name → Tells (Allows engine w.action) w.now) watches index watch answer there before.2
            (λ named. tells_of answer both)),
      )

  pub one_passed : (watches watches' : List PlainWatch) (index : ℕ) (watch : PlainWatch) → slice_get watches index ≡ Some watch
      → ¬ (watch.name ≡ name) → watches' ≡ watches
      → IsNotedUpTo engine name old index watches → IsNotedUpTo engine name old (index + 1) watches'
  one_passed watches watches' index watch there other same before =
      subst (λ (ws : List PlainWatch). IsNotedUpTo engine name old (index + 1) ws) (sym same) (
        before.0,
        before.1,
        subst (λ n. FirstHave (λ (w : PlainWatch). w.name ≡ name → Tells (Allows engine w.action) w.now) n watches) (sym (add-one index))
            (first_kept (λ (w : PlainWatch). w.name ≡ name → Tells (Allows engine w.action) w.now) watches index watch there before.2
            (λ named. absurd (other named))),
      )

  pub all_noted : (watches : List PlainWatch) (count : ℕ) → count ≡ length watches → IsNotedUpTo engine name old count watches
      → IsNoted engine name watches
  all_noted watches count all before =
      all_have (λ (w : PlainWatch). w.name ≡ name → Tells (Allows engine w.action) w.now) watches
      (subst (λ n. FirstHave (λ (w : PlainWatch). w.name ≡ name → Tells (Allows engine w.action) w.now) n watches) all before.2)
