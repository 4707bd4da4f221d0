-- How many turns others have before one that wants its own.
use Rattle.std.proofs.Common.{◌≡◌, ℕ, zero, suc, ◌<◌, ◌≤◌, ◌+◌, ◌-◌, List, [], ◌∷◌, length, Bool, true, false, get_or, inl, inr, sym, ◌∙◌, arith}
use Rattle.std.proofs.lemmas.Bool.{cases_lt, false≢true}
use Rattle.ix_many.specs.Rounds.{WaitsFor, no_more, turn, round_over}

-- whoever wants a turn has a place
wanted_is_below : (wants : List Bool) (place : ℕ) → get_or wants place false ≡ true → place < length wants
wanted_is_below [] place wanted = absurd (false≢true wanted)
wanted_is_below (first ∷ wants) zero wanted = omega arith
wanted_is_below (first ∷ wants) (suc place) wanted = omega (arith, wanted_is_below wants place wanted)

-- where a turn is sought from this place or one before it, others have those between; else also those
-- up to the last place
few_others : (mine from : ℕ) (others : List ℕ) → WaitsFor mine from others
    → (from ≤ mine → length others + from ≤ mine) × (mine < from → length others ≤ (64 - from) + mine)
few_others mine from _ no_more = ((λ before. omega arith), λ behind. omega arith)
few_others mine from _ (turn wants {place = place} {others = others} long wanted next other rest) =
    let later = few_others mine (place + 1) others rest in
    let here : place < 64 = omega (arith, wanted_is_below wants place next.1, long) in
    let first : from ≤ place = next.0 in (
      (λ before. elim (cases_lt mine place) [
        | inl past ↦ absurd (false≢true (sym (next.2 mine before past) ∙ wanted))
        | inr upto ↦ let least : place + 1 ≤ mine = omega arith in omega (arith, later.0 least)
      ]),
      λ behind. let past : mine < place + 1 = omega arith in omega (arith, later.1 past),
    )
few_others mine from others (round_over wants long wanted next rest) =
    let later : length others + 0 ≤ mine = (few_others mine 0 others rest).0 (omega arith) in (
      (λ before. absurd (false≢true (sym (next mine before) ∙ wanted))),
      λ behind. omega arith,
    )

-- at most all other places
pub at_most_63 : (mine from : ℕ) (others : List ℕ) → mine < 64 → WaitsFor mine from others → length others ≤ 63
at_most_63 mine from others below waits =
    let few = few_others mine from others waits in
    elim (cases_lt mine from) [ inl behind ↦ omega (arith, few.1 behind) | inr before ↦ omega (arith, few.0 before) ]

-- the same of whoever wants a turn
pub whoever_wants : (mine from : ℕ) (others : List ℕ) → WaitsFor mine from others → length others ≤ 63
whoever_wants mine from _ no_more = omega arith
whoever_wants mine from _ (turn wants {place = place} {others = others} long wanted next other rest) =
    at_most_63 mine from (place ∷ others) (omega (arith, wanted_is_below wants mine wanted, long)) (turn wants long wanted next other rest)
whoever_wants mine from others (round_over wants long wanted next rest) =
    at_most_63 mine from others (omega (arith, wanted_is_below wants mine wanted, long)) (round_over wants long wanted next rest)
