-- One action of each candidate is tried, and it decides for all.
use Rattle.std.proofs.Common.{◌≡◌, ℕ, ◌-◌, ◌<◌, zero, suc, Bool, true, false, ◌||◌, List, [], ◌∷◌, ◌++◌, length, map, filter, get_or, inl, inr, refl, sym, ap, ◌∙◌, subst, arith}
use Rattle.std.specs.List.{list_any}
use Rattle.ix_words.specs.Each.{Member, here}
use Rattle.ix_words.proofs.Each.{Member-either}
use Rattle.ix_words.proofs.Canon.{Member-cases, Member-map, Member-flat_map}
use Rattle.ix_values.specs.Order.{text_eq}
use Rattle.ix_values.specs.lemmas.Order.{text_eq-decides}
use Rattle.ix_values.specs.PlainAction.{Word, values_of}
use Rattle.ix_expr.specs.Form.{Form}
use Rattle.ix_expr.specs.FormFaults.{Fits, IsWellFormed}
use Rattle.ix_expr.specs.Spelling.{IsSpelled}
use Rattle.ix_can.specs.May.{may}
use Rattle.ix_can.specs.TreeOf.{tree_of}
use Rattle.ix_words.proofs.Deciding.{any_from}
use Rattle.ix_can.proofs.MovesTell.{each_step}
use Rattle.ix_next.specs.declared.fresh.Known.{Known as KnownValues}
use Rattle.ix_next.specs.Given.{PlainGiven}
use Rattle.ix_next.specs.Fixed.{fixed_in}
use Rattle.ix_next.specs.Candidates.{PlainCandidate, action_with, candidates, candidate_eq, once}
use Rattle.ix_next.specs.Menu.{known, StandsForAction, MayCome, IsMenu}
use Rattle.ix_next.specs.inside.Fresh.{is_known, AreNew, AreNewBehind}
use Rattle.ix_next.specs.inside.Trials.{new_of}
use Rattle.ix_next.proofs.Alike.{stand_or_fall}
use Rattle.ix_next.proofs.Kept.{projection_of}
use Rattle.ix_next.proofs.Numbers.{numbers_small}
use Rattle.ix_next.proofs.Places.{StandsAt, stands_among, AreDistinct, distinct_places}
use Rattle.ix_next.proofs.Terms.{once_members}

or_left : (a b : Bool) → a || b ≡ false → a ≡ false
or_left true b e = cc
or_left false b e = refl

or_right : (a b : Bool) → a || b ≡ false → b ≡ false
or_right true b e = cc
or_right false b e = e

itself : (v : List ℕ) → text_eq v v ≡ true
itself v = (text_eq-decides v v).1 refl

not_both : (b : Bool) → b ≡ true → b ≡ false → ⊥
not_both b e f = let wrong : true ≡ false = sym e ∙ f in cc

absent : (v : List ℕ) (w : List (List ℕ)) → list_any (text_eq v) w ≡ false → ¬ Member v w
absent v w none m = not_both (list_any (text_eq v) w) (any_from (text_eq v) w m (itself v)) none

-- a value that isn't found to be known isn't
pub unknown : (k : KnownValues) (v : List ℕ) → is_known k v ≡ false → ¬ Member v (values_of k.history.now ++ (k.fixed.now ++ map (λ g. g.value) k.given.now))
unknown k v none m =
    let acted = list_any (λ a. list_any (text_eq v) a.values) k.history.now in
    let fixed = list_any (text_eq v) k.fixed.now in
    let given = list_any (λ g. text_eq v g.value) k.given.now in
    elim (Member-either (values_of k.history.now) (k.fixed.now ++ map (λ g. g.value) k.given.now) m) [
      | inl l ↦
          let j = Member-flat_map (λ a. a.values) k.history.now l in
          not_both acted (any_from (λ a. list_any (text_eq v) a.values) k.history.now j.1 (any_from (text_eq v) j.0.values j.2 (itself v))) (or_left acted fixed (or_left (acted || fixed) given none))
      | inr r ↦ elim (Member-either k.fixed.now (map (λ g. g.value) k.given.now) r) [
        | inl l ↦ absent v k.fixed.now (or_right acted fixed (or_left (acted || fixed) given none)) l
        | inr s ↦
            let j = Member-map (λ g. g.value) k.given.now s in
            not_both given (any_from (λ g. text_eq v g.value) k.given.now j.1 ((text_eq-decides v j.0.value).1 j.2)) (or_right (acted || fixed) given none)
      ]
    ]

record AreFresh (k : KnownValues) (before values : List (List ℕ)) : Type 0 where
  distinct : AreDistinct values
  each : (v : List ℕ) → Member v values → (is_known k v ≡ false) × (list_any (text_eq v) before ≡ false)

fresh_behind : (k : KnownValues) (before values : List (List ℕ)) → AreNewBehind k before values → AreFresh k before values
fresh_behind k before [] h = record { distinct = tt; each = λ v m. elim m [ ] }
fresh_behind k before (u ∷ values) h =
    let rest = fresh_behind k (u ∷ before) values h.2 in
    record {
      distinct = (λ m. absent u (u ∷ before) (rest.each u m).1 here, rest.distinct);
      each = λ v m. elim (Member-cases m) [
        | inl e ↦ (ap (is_known k) e ∙ h.0, ap (λ x. list_any (text_eq x) before) e ∙ h.1)
        | inr n ↦ ((rest.each v n).0, or_right (text_eq v u) (list_any (text_eq v) before) (rest.each v n).1)
      ];
    }

got_at : (w : List (List ℕ)) (i : ℕ) (d : List ℕ) → i < length w → StandsAt w i (get_or w i d)
got_at [] i d h = absurd (omega (arith, h))
got_at (v ∷ w) zero d h = refl
got_at (v ∷ w) (suc i) d h = got_at w i d (omega (arith, h))

-- the values that were found new stand for the numbers of a candidate
pub tried_stands : (x : Form) (w : Word) (given : List PlainGiven) (k : KnownValues) (values : List (List ℕ)) (c : PlainCandidate) → IsSpelled x → Member c (candidates true x given)
    → k.history.now ≡ w → k.fixed.now ≡ fixed_in x → k.given.now ≡ given → length values ≡ 4 → AreNew k values → StandsForAction x w given c (action_with (new_of values) c)
tried_stands x w given k values c spelled among history fixed gave four new = record {
  new = new_of values;
  same = refl;
  unknown = λ i m.
      let h = numbers_small true x given c spelled among i m in
      let at = got_at values (i - 1) (48 ∷ []) (omega (arith, h.0, h.1, four)) in
      let none = unknown k (new_of values i) (fresh.each (new_of values i) (stands_among values (i - 1) at)).0 in
      λ n. none (subst (Member (new_of values i)) (sym whole) n);
  apart = λ i j m n e.
      let h = numbers_small true x given c spelled among i m in
      let g = numbers_small true x given c spelled among j n in
      let at = got_at values (i - 1) (48 ∷ []) (omega (arith, h.0, h.1, four)) in
      let to = got_at values (j - 1) (48 ∷ []) (omega (arith, g.0, g.1, four)) in
      let same = distinct_places values (i - 1) (j - 1) (new_of values j) fresh.distinct (subst (StandsAt values (i - 1)) e at) to in
      omega (arith, h.0, g.0, same);
}
  where
    fresh : AreFresh k [] values
    fresh = fresh_behind k [] values new

    whole : values_of k.history.now ++ (k.fixed.now ++ map (λ g. g.value) k.given.now) ≡ known x w given
    whole = λ i. values_of (history i) ++ (fixed i ++ map (λ g. g.value) (gave i))

fits : {x : Form} → IsWellFormed x → Fits x []
fits h = record { faultless = h.faultless; numbers = h.numbers }

-- so what passes is the menu
pub menu_of : (x : Form) (w : Word) (given : List PlainGiven) (k : KnownValues) (values : List (List ℕ)) → IsWellFormed x → IsSpelled x
    → k.history.now ≡ w → k.fixed.now ≡ fixed_in x → k.given.now ≡ given → length values ≡ 4 → AreNew k values
    → IsMenu x w given (filter (λ c. may x [] (tree_of x [] w) (action_with (new_of values) c)) (once candidate_eq (candidates true x given)))
menu_of x w given k values formed spelled history fixed gave four new =
    projection_of (λ c. may x [] (tree_of x [] w) (action_with (new_of values) c)) (once candidate_eq (candidates true x given)) says
  where
    says : (c : PlainCandidate) → Member c (once candidate_eq (candidates true x given))
        → (may x [] (tree_of x [] w) (action_with (new_of values) c) ≡ true → MayCome x w given c) × (MayCome x w given c → may x [] (tree_of x [] w) (action_with (new_of values) c) ≡ true)
    says c m =
        let among = once_members candidate_eq (candidates true x given) m in
        let stands = tried_stands x w given k values c spelled among history fixed gave four new in
        let tells = (each_step x [] (action_with (new_of values) c) (fits formed)).next w in (
          λ e. λ b t. stand_or_fall x w given c (action_with (new_of values) c) b among stands t (tells.0 e),
          λ come. tells.1 (come (action_with (new_of values) c) stands),
        )
