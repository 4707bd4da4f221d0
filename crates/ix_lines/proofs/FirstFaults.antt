-- The lines before the first that isn't in a grammar.
use Rattle.std.proofs.Common.{◌≡◌, ℕ, ◌+◌, ◌-◌, ◌<◌, List, [], ◌∷◌, ◌++◌, length, refl, sym, ap, subst, ◌∙◌, append_assoc, length-append, arith}
use Rattle.std.specs.List.{flat_map, AllByRecursion}
use Rattle.std.proofs.lemmas.List.{append-nil}
use Rattle.ix_lines.specs.LineFaults.{IsFirstLineFault}
use Rattle.ix_lines.specs.TextLines.{bytes_of, lines_of}
use Rattle.ix_lines.proofs.LineLists.{lines_of-none}

-- the lines before what is left hold, and, where anything is left, they take the bytes before it
pub record GoodBefore (Holds : List ℕ → Type 0) (all rest : List ℕ) : Type 0 where
  pub before : List (List ℕ)
  pub good : AllByRecursion Holds before
  pub lines : lines_of all ≡ before ++ lines_of rest
  pub place : 0 < length rest → bytes_of before + length rest ≡ length all

abbrev ended : List ℕ → List ℕ
ended line = line ++ 10 ∷ []

bytes_of-end : (before : List (List ℕ)) (text : List ℕ)
    → bytes_of (before ++ text ∷ []) ≡ bytes_of before + (length text + 1)
bytes_of-end [] text = ap length (append-nil (ended text)) ∙ length-append text (10 ∷ []) ∙ omega arith
bytes_of-end (first ∷ before) text =
    let long = length-append (ended first) (flat_map ended (before ++ text ∷ [])) in
    let short = length-append (ended first) (flat_map ended before) in
    let more = bytes_of-end before text in
    omega arith

has_bytes : (rest text : List ℕ) (lines : List (List ℕ)) → lines_of rest ≡ text ∷ lines
    → 0 < length rest
has_bytes [] text lines cut = let same : [] ≡ text ∷ lines = sym (lines_of-none [] refl) ∙ cut in cc
has_bytes (byte ∷ bytes) text lines cut = omega arith

all_and : (Holds : List ℕ → Type 0) (before : List (List ℕ)) (text : List ℕ)
    → AllByRecursion Holds before → Holds text → AllByRecursion Holds (before ++ text ∷ [])
all_and Holds [] text good one = (one, tt)
all_and Holds (first ∷ before) text good one = (good.0, all_and Holds before text good.1 one)

module _ (Holds : List ℕ → Type 0) (all rest : List ℕ) where
  pub good_start : GoodBefore Holds all all
  good_start = record { before = []; good = tt; lines = refl; place = λ _. omega arith }

  -- nothing is left
  pub good_end : length rest ≡ 0 → GoodBefore Holds all rest → AllByRecursion Holds (lines_of all)
  good_end none so_far =
      let end = ap (λ lines. so_far.before ++ lines) (lines_of-none rest none) in
      let cut = so_far.lines ∙ end ∙ append-nil so_far.before in
      subst (AllByRecursion Holds) (sym cut) so_far.good

  module _ (next text : List ℕ) (cut : lines_of rest ≡ text ∷ lines_of next)
      (so_far : GoodBefore Holds all rest) where
    -- one good line more
    pub good_step : Holds text → (0 < length next → length text + 1 + length next ≡ length rest)
        → GoodBefore Holds all next
    good_step good place = record {
      before = so_far.before ++ text ∷ [];
      good = all_and Holds so_far.before text so_far.good good;
      lines =
          so_far.lines ∙ ap (λ lines. so_far.before ++ lines) cut
          ∙ sym (append_assoc so_far.before (text ∷ []) (lines_of next));
      place = λ left.
          let more = bytes_of-end so_far.before text in
          omega (arith, so_far.place (has_bytes rest text (lines_of next) cut), place left);
    }

    -- a line that fails
    pub first_bad : (Fails : List ℕ → ℕ → ℕ → Type 0) (code at within : ℕ) → Fails text code within
        → at ≡ (length all - length rest) + within → IsFirstLineFault Holds Fails all code at
    first_bad Fails code at within fault place = record {
      before = so_far.before;
      bad = text;
      behind = lines_of next;
      within = within;
      split = so_far.lines ∙ ap (λ lines. so_far.before ++ lines) cut;
      good = so_far.good;
      fault = fault;
      place = omega (arith, so_far.place (has_bytes rest text (lines_of next) cut));
    }
