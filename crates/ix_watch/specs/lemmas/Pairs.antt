-- Pairs of a name and an action, as keys of a map.
use Rattle.std.specs.Prelude.{◌≡◌, ℕ, Bool, true, false, ◌&&◌, List, ◌∷◌, IsTrue, refl}
use Rattle.std.specs.Cmp.{IsEquivalence, IsPartialEquivalence, and_equiv, on_equiv}
use Rattle.std.specs.Cmp.{partial_equiv_from_equiv, nat_eq_equiv}
use Rattle.std.specs.Cmp.Lexicographic.{lists_equiv}
use Rattle.std.specs.Ordering.{on, eq_of_both}
use Rattle.ix_values.specs.Order.{text_eq}
use Rattle.ix_values.specs.inside.ActionOrder.{action_eq}
use Rattle.ix_values.specs.lemmas.Order.{both_true, action_eq-equiv, text_eq-decides}
use Rattle.ix_values.specs.lemmas.Order.{action_eq-decides}
use Rattle.ix_watch.specs.declared.pairs.Pair.{Pair}

-- the names and the actions are equal
abbrev pub pair_eq : Pair → Pair → Bool
pair_eq = eq_of_both (on (λ p. p.name) text_eq) (on (λ p. p.action) action_eq)

-- the laws of `Eq`
pub pair_eq-equiv : IsEquivalence pair_eq
pair_eq-equiv = and_equiv (on_equiv (λ p. p.name) (lists_equiv nat_eq_equiv))
    (on_equiv (λ p. p.action) action_eq-equiv)

-- the laws of `PartialEq`
pub pair_eq-partial : IsPartialEquivalence pair_eq
pair_eq-partial = partial_equiv_from_equiv pair_eq-equiv

-- what is hashed of a pair: the name, the action's name and its values
abbrev pub hash_input_of : Pair → List (List ℕ)
hash_input_of pair = pair.name ∷ pair.action.name ∷ pair.action.values

-- pairs are equal exactly where they are the same
pub pair_eq-decides : (x y : Pair) → pair_eq x y ≡ true → (x.name ≡ y.name) × (x.action ≡ y.action)
pair_eq-decides x y same =
    let parts = both_true (text_eq x.name y.name) (action_eq x.action y.action) same in
    ((text_eq-decides x.name y.name).0 parts.0, (action_eq-decides x.action y.action).0 parts.1)

-- equal pairs are hashed alike
pub hash_input_of-respects_eq : (x y : Pair) → IsTrue (pair_eq x y)
    → hash_input_of x ≡ hash_input_of y
hash_input_of-respects_eq x y same =
    let parts = pair_eq-decides x y same in
    λ i. parts.0 i ∷ (parts.1 i).name ∷ (parts.1 i).values
