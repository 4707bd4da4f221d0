-- New values as the code finds them.
use Rattle.std.specs.Prelude.{◌≡◌, ℕ, Bool, false, ◌||◌, List, [], ◌∷◌}
use Rattle.std.specs.List.{list_any}
use Rattle.ix_values.specs.Order.{text_eq}
use Rattle.ix_next.specs.declared.fresh.Known.{Known}

-- whether the value stands in the history, among the fixed values, or among those given
abbrev pub is_known : Known → List ℕ → Bool
is_known known v = (list_any (λ a. list_any (text_eq v) a.values) known.history.now
    || list_any (text_eq v) known.fixed.now)
    || list_any (λ g. text_eq v g.value) known.given.now

-- none of these values is known, and each is none of those before it
abbrev pub AreNewBehind : Known → List (List ℕ) → List (List ℕ) → Type 0
AreNewBehind known before [] = Unit {0}
AreNewBehind known before (v ∷ values) = (is_known known v ≡ false)
    × (list_any (text_eq v) before ≡ false)
    × AreNewBehind known (v ∷ before) values

abbrev pub AreNew : Known → List (List ℕ) → Type 0
AreNew known values = AreNewBehind known [] values
