-- Where a piece goes on with a line that isn't skipped.
use Rattle.std.proofs.Common.{◌||◌, ◌≡◌, ℕ, ◌+◌, ◌-◌, ◌<◌, ◌≤◌, true, cond, List, [], ◌∷◌, ◌++◌, length, take, drop, refl, sym, ◌∙◌, ap, subst, append-nil, add-one, arith, Option, None, inl, inr}
use Rattle.std.proofs.lemmas.Bool.{eqb-true}
use Rattle.std.proofs.lemmas.Bool.Decides.{leb_tells}
use Rattle.std.specs.List.{list_any}
use Rattle.std.specs.Io.BufRead.{drop_through}
use Rattle.std.proofs.lemmas.List.Folds.{list_any-append}
use Rattle.std.proofs.lemmas.List.{take-take, length-drop}
use Rattle.std.proofs.Math.Seq.{take-length, take-suc, take-add}
use Rattle.memchr.specs.Find.{NoneBefore, Passes, is_byte}
use Rattle.ix_lines.specs.Items.{Item, items}
use Rattle.ix_lines.specs.Feeding.{UnfinishedLine, unfinished, skipping, held, completes, holds_after, Feeds}
use Rattle.ix_lines.specs.Cutting.{HasNoEnd}
use Rattle.ix_lines.specs.inside.FeedAnswers.{ResumesAt}
use Rattle.ix_lines.proofs.CutLemmas.{is_end, drop_through-none}
use Rattle.ix_lines.proofs.FeedLemmas.{any_cutting}
use Rattle.ix_lines.proofs.WindowLemmas.{no_end_before, no_end-take, quiet}

-- where no line is skipped, at the piece's first byte
pub resumes_open : (part piece : List ℕ) → HasNoEnd part → length part ≤ 512 → ResumesAt (unfinished part) piece 0 (unfinished part)
resumes_open part piece plain fits =
    let facts = quiet part plain fits in
    let none = append-nil part in
    record {
      within = omega arith;
      before = λ count below. ap (λ n. items (part ++ take n piece)) (let zero_is : count ≡ 0 = omega arith in zero_is) ∙ ap items none ∙ facts.0;
      after = sym (ap held none ∙ facts.1);
      open_there = tt;
    }

-- a text without an end, behind a line that is skipped
skips_plain : (text : List ℕ) → HasNoEnd text → (completes skipping text ≡ []) × (holds_after skipping text ≡ skipping)
skips_plain text none = (
  ap (λ t. items (drop_through 10 t)) (sym (append-nil text)) ∙ ap items (drop_through-none text [] none),
  ap (λ t. cond t (held (drop_through 10 text)) skipping) none,
)

-- up to the first byte 10 nothing is completed
skips_before : (piece : List ℕ) (end : ℕ) → HasNoEnd (take end piece) → drop_through 10 (take (end + 1) piece) ≡ []
    → (count : ℕ) → count ≤ end + 1 → completes skipping (take count piece) ≡ []
skips_before piece end front gone count within =
    elim (leb_tells count end) [
      | inl (_, below) ↦
          (skips_plain (take count piece)
          (subst HasNoEnd (take-take count end piece below) (no_end-take (take end piece) count front))).0
      | inr (_, above) ↦
          let same : count ≡ end + 1 = omega arith in
          ap (λ n. items (drop_through 10 (take n piece))) same ∙ ap items gone
    ]

-- behind the first byte 10
pub resumes_behind : (piece : List ℕ) (end : ℕ) → NoneBefore (Passes (is_byte 10) piece) 0 (length piece) end → Passes (is_byte 10) piece end
    → ResumesAt skipping piece (end + 1) (unfinished [])
resumes_behind piece end first passes =
    let front : HasNoEnd (take end piece) = no_end_before piece end first.before in
    let below : end < length piece = first.high in
    let text : take (end + 1) piece ≡ take end piece ++ 10 ∷ [] =
    ap (λ n. take n piece) (add-one end) ∙ take-suc piece end 0 below ∙ ap (λ b. take end piece ++ b ∷ []) (eqb-true _ _ passes) in
    let gone : drop_through 10 (take (end + 1) piece) ≡ [] = ap (drop_through 10) text ∙ drop_through-none (take end piece) (10 ∷ []) front in
    let some : list_any is_end (take (end + 1) piece) ≡ true =
    ap (list_any is_end) text ∙ list_any-append is_end (take end piece) (10 ∷ []) ∙ ap (λ t. t || true) front in
    record {
      within = omega arith;
      before = λ count within. skips_before piece end front gone count within;
      after = sym (ap (λ t. cond t (held (drop_through 10 (take (end + 1) piece))) skipping) some ∙ ap held gone);
      open_there = tt;
    }

-- a piece that is skipped whole
pub skips_whole : (piece : List ℕ) → HasNoEnd piece
    → Feeds skipping piece None (length piece) × (skipping ≡ holds_after skipping (take (length piece) piece)) × (completes skipping piece ≡ [])
skips_whole piece none =
    let all = take-length piece in
    let facts = skips_plain piece none in (
      record {
        within = omega arith;
        told = ap (completes skipping) all ∙ facts.0;
        soonest = λ count below. (skips_plain (take count piece) (no_end-take piece count none)).0;
        whole = λ _. refl;
      },
      sym (ap (holds_after skipping) all ∙ facts.1),
      facts.0,
    )

-- a feed of the rest of a piece is a feed of the piece
pub feeds_behind : (old new : UnfinishedLine) (piece : List ℕ) (place : ℕ) (item : Option Item) (used : ℕ)
    → ResumesAt old piece place new → Feeds new (drop place piece) item used
    → Feeds old piece item (place + used) × (holds_after new (take used (drop place piece)) ≡ holds_after old (take (place + used) piece))
feeds_behind old new piece place item used resumes fed =
    let room : used + place ≤ length piece = omega (arith, fed.within, resumes.within, length-drop place piece) in (
      record {
        within = omega arith;
        told = completes_behind used ∙ fed.told;
        soonest = λ count below. elim (leb_tells count place) [
          | inl (_, within) ↦ resumes.before count within
          | inr (_, above) ↦
              let n : ℕ = count - place in
              let same : count ≡ place + n = omega arith in
              ap (λ m. completes old (take m piece)) same ∙ completes_behind n ∙ fed.soonest n (omega arith)
        ];
        whole = λ none. omega (arith, fed.whole none, resumes.within, length-drop place piece);
      },
      sym (ap (holds_after old) (take_behind used) ∙ (any_cutting old (take place piece) (take used (drop place piece))).1
          ∙ ap (λ h. holds_after h (take used (drop place piece))) (sym resumes.after)),
    )
  where
    take_behind : (n : ℕ) → take (place + n) piece ≡ take place piece ++ take n (drop place piece)
    take_behind n = take-add place n piece

    completes_behind : (n : ℕ) → completes old (take (place + n) piece) ≡ completes new (take n (drop place piece))
    completes_behind n =
        ap (completes old) (take_behind n) ∙ (any_cutting old (take place piece) (take n (drop place piece))).0
        ∙ ap (λ its. its ++ completes (holds_after old (take place piece)) (take n (drop place piece))) (resumes.before place (omega arith))
        ∙ ap (λ h. completes h (take n (drop place piece))) (sym resumes.after)
