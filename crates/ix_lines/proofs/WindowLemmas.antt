-- What a piece tells behind an unfinished line, by the first byte 10 in it.
use Rattle.std.proofs.Common.{◌||◌, ◌≡◌, ℕ, zero, suc, ◌+◌, ◌<◌, ◌≤◌, min, Bool, true, false, cond, leb, List, [], ◌∷◌, ◌++◌, length, map, take, drop, get_or, refl, sym, ◌∙◌, ap, subst, append_assoc, add-one, arith, length-append, Some, None, Result, Ok, Err, IsOk, OnOk}
use Rattle.std.proofs.lemmas.Bool.{lt-leb, le-leb, eqb-true}
use Rattle.std.specs.List.{list_any}
use Rattle.std.proofs.lemmas.List.Folds.{list_any-append}
use Rattle.std.proofs.lemmas.List.{take-append-drop, take-take, take_all, length-take, length-take-le, get_or-take}
use Rattle.std.proofs.Math.Seq.{take-length, take-suc}
use Rattle.memchr.specs.Find.{NoneBefore, Nowhere, Passes, is_byte}
use Rattle.ix_lines.specs.Items.{Cut, line, too_long, item_of, item_of_last, items}
use Rattle.ix_lines.specs.Feeding.{UnfinishedLine, unfinished, skipping, held, holds_after, Feeds}
use Rattle.ix_lines.specs.inside.Buffer.{shown, IsBuffer}
use Rattle.ix_lines.specs.Cutting.{HasNoEnd}
use Rattle.ix_lines.specs.inside.FeedAnswers.{IsTaking}
use Rattle.ix_lines.proofs.CutLemmas.{is_end, or_false, cut_plain, cut_line}

not_true : (b : Bool) → (b ≡ true → ⊥) → b ≡ false
not_true true isnt = absurd (isnt refl)
not_true false isnt = refl

-- no byte of a front ends a line
pub no_end_before : (text : List ℕ) (n : ℕ) → ((k : ℕ) → 0 ≤ k → k < n → Passes (is_byte 10) text k → ⊥) → HasNoEnd (take n text)
no_end_before text zero none = refl
no_end_before [] (suc n) none = refl
no_end_before (byte ∷ text) (suc n) none =
    let rest : HasNoEnd (take n text) = no_end_before text n (λ k low below passes. none (suc k) (omega arith) (omega arith) passes) in
    ap (λ t. t || list_any is_end (take n text)) (not_true (is_end byte) (none 0 (omega arith) (omega arith))) ∙ rest

pub no_end : (text : List ℕ) → Nowhere (Passes (is_byte 10) text) 0 (length text) → HasNoEnd text
no_end text none = subst HasNoEnd (take-length text) (no_end_before text (length text) none)

pub no_end-take : (text : List ℕ) (n : ℕ) → HasNoEnd text → HasNoEnd (take n text)
no_end-take text n none =
    (or_false (list_any is_end (take n text)) (list_any is_end (drop n text))
    (sym (list_any-append is_end (take n text) (drop n text)) ∙ ap (list_any is_end) (take-append-drop n text) ∙ none)).0

pub no_end-append : (a b : List ℕ) → HasNoEnd a → HasNoEnd b → HasNoEnd (a ++ b)
no_end-append a b first second = list_any-append is_end a b ∙ ap (λ t. t || list_any is_end b) first ∙ second

-- a text without an end
pub quiet : (text : List ℕ) → HasNoEnd text → length text ≤ 512 → (items text ≡ []) × (held text ≡ unfinished text)
quiet text none short =
    let whole = cut_plain text none in
    let test = le-leb (length text) 512 short in (
      ap (λ (c : Cut). map item_of c.ended ++ item_of_last c.last) whole ∙ ap (λ t. cond t [] (too_long ∷ [])) test,
      ap (λ (c : Cut). cond (leb (length c.last) 512) (unfinished c.last) skipping) whole ∙ ap (λ t. cond t (unfinished text) skipping) test,
    )

long : (text : List ℕ) → HasNoEnd text → 512 < length text → (items text ≡ too_long ∷ []) × (held text ≡ skipping)
long text none above =
    let whole = cut_plain text none in
    let test = lt-leb (length text) 512 above in (
      ap (λ (c : Cut). map item_of c.ended ++ item_of_last c.last) whole ∙ ap (λ t. cond t [] (too_long ∷ [])) test,
      ap (λ (c : Cut). cond (leb (length c.last) 512) (unfinished c.last) skipping) whole ∙ ap (λ t. cond t (unfinished text) skipping) test,
    )

-- a text, and a byte 10 at its end alone
ended : (text : List ℕ) → HasNoEnd text → length text ≤ 512 → (items (text ++ 10 ∷ []) ≡ line text ∷ []) × (held (text ++ 10 ∷ []) ≡ unfinished [])
ended text none short =
    let whole = cut_line text [] none in
    let test = le-leb (length text) 512 short in (
      ap (λ (c : Cut). map item_of c.ended ++ item_of_last c.last) whole ∙ ap (λ t. cond t (line text) too_long ∷ []) test,
      ap (λ (c : Cut). cond (leb (length c.last) 512) (unfinished c.last) skipping) whole,
    )

module _ (part piece : List ℕ) (plain : HasNoEnd part) where
  -- fewer bytes complete nothing
  quiet_before : (used count : ℕ) → HasNoEnd (take used piece) → count ≤ used → length part + count ≤ 512 → items (part ++ take count piece) ≡ []
  quiet_before used count none below room =
      let same : take count (take used piece) ≡ take count piece = take-take count used piece below in
      let front : HasNoEnd (take count piece) = subst HasNoEnd same (no_end-take (take used piece) count none) in
      (quiet (part ++ take count piece) (no_end-append part (take count piece) plain front)
      (omega (arith, length-append part (take count piece), length-take count piece))).0

  -- the whole piece, which completes nothing
  pub feeds_more : HasNoEnd piece → length part + length piece ≤ 512
      → Feeds (unfinished part) piece None (length piece) × (holds_after (unfinished part) (take (length piece) piece) ≡ unfinished (part ++ piece))
  feeds_more none room =
      let facts = quiet (part ++ piece) (no_end-append part piece plain none) (omega (arith, length-append part piece)) in
      let all = take-length piece in (
        record {
          within = omega arith;
          told = ap (λ t. items (part ++ t)) all ∙ facts.0;
          soonest = λ count below. quiet_before (length piece) count (subst HasNoEnd (sym all) none) (omega arith) (omega arith);
          whole = λ _. refl;
        },
        ap (λ t. held (part ++ t)) all ∙ facts.1,
      )

  -- the byte with which the line is too long
  pub feeds_long : (used : ℕ) → used ≤ length piece → HasNoEnd (take used piece) → length part + used ≡ 513
      → Feeds (unfinished part) piece (Some too_long) used × (holds_after (unfinished part) (take used piece) ≡ skipping)
  feeds_long used within none room =
      let facts = long (part ++ take used piece) (no_end-append part (take used piece) plain none)
      (omega (arith, length-append part (take used piece), length-take-le used piece within)) in (
        record {
          within = within;
          told = facts.0;
          soonest = λ count below. quiet_before used count none (omega arith) (omega arith);
          whole = λ h. cc;
        },
        facts.1,
      )

  -- the byte 10 that ends the line
  pub feeds_line : (end : ℕ) → end < length piece → HasNoEnd (take end piece) → get_or piece end 0 ≡ 10 → length part + end ≤ 512
      → Feeds (unfinished part) piece (Some (line (part ++ take end piece))) (end + 1) × (holds_after (unfinished part) (take (end + 1) piece) ≡ unfinished [])
  feeds_line end within none is room =
      let facts = ended (part ++ take end piece) (no_end-append part (take end piece) plain none)
      (omega (arith, length-append part (take end piece), length-take-le end piece (omega arith))) in
      let text : part ++ take (end + 1) piece ≡ (part ++ take end piece) ++ 10 ∷ [] =
      ap (λ t. part ++ t) (ap (λ n. take n piece) (add-one end) ∙ take-suc piece end 0 within ∙ ap (λ b. take end piece ++ b ∷ []) is)
      ∙ sym (append_assoc part (take end piece) (10 ∷ [])) in (
        record {
          within = omega arith;
          told = ap items text ∙ facts.0;
          soonest = λ count below. quiet_before end count none (omega arith) (omega arith);
          whole = λ h. cc;
        },
        ap held text ∙ facts.1,
      )

-- what the first byte 10 among the next bytes says, as many of them as fill the line and one more
module _ (part piece : List ℕ) (room n : ℕ) (plain : HasNoEnd part) (fills : length part + room ≡ 513) (is : n ≡ min room (length piece)) where
  pub found_line : (end : ℕ) → NoneBefore (Passes (is_byte 10) (take n piece)) 0 (length (take n piece)) end
      → Passes (is_byte 10) (take n piece) end
      → (length part + length (take end (take n piece)) ≤ 512)
      × Feeds (unfinished part) piece (Some (line (part ++ take end (take n piece)))) (end + 1)
      × (holds_after (unfinished part) (take (end + 1) piece) ≡ unfinished [])
  found_line end first passes =
      let count : length (take n piece) ≡ n = length-take-le n piece (omega arith) in
      let within : end < n = omega (arith, first.high) in
      let same : take end (take n piece) ≡ take end piece = take-take end n piece (omega arith) in
      let front : HasNoEnd (take end piece) = subst HasNoEnd same (no_end_before (take n piece) end first.before) in
      let ten : get_or piece end 0 ≡ 10 = sym (get_or-take n piece end 0 within) ∙ eqb-true _ _ passes in
      let facts = feeds_line part piece plain end (omega arith) front ten (omega arith) in (
        omega (arith, ap length same, length-take-le end piece (omega arith)),
        subst (λ t. Feeds (unfinished part) piece (Some (line (part ++ t))) (end + 1)) (sym same) facts.0,
        facts.1,
      )

  pub found_long : Nowhere (Passes (is_byte 10) (take n piece)) 0 (length (take n piece)) → length (take n piece) ≡ room
      → Feeds (unfinished part) piece (Some too_long) room × (holds_after (unfinished part) (take room piece) ≡ skipping)
  found_long none full =
      let count : length (take n piece) ≡ n = length-take-le n piece (omega arith) in
      let same : n ≡ room = omega (arith, count, full) in
      feeds_long part piece plain room (omega arith) (subst (λ m. HasNoEnd (take m piece)) same (no_end (take n piece) none)) fills

  pub found_none : Nowhere (Passes (is_byte 10) (take n piece)) 0 (length (take n piece)) → (length (take n piece) ≡ room → ⊥)
      → (length part + length (take n piece) ≤ 512) × HasNoEnd (part ++ take n piece)
      × Feeds (unfinished part) piece None (length (take n piece))
      × (holds_after (unfinished part) (take (length (take n piece)) piece) ≡ unfinished (part ++ take n piece))
  found_none none short =
      let count : length (take n piece) ≡ n = length-take-le n piece (omega arith) in
      let below : n < room = omega (arith, short, count) in
      let all : take n piece ≡ piece = take_all n piece (omega arith) in
      let front : HasNoEnd (take n piece) = no_end (take n piece) none in
      let facts = feeds_more part piece plain (subst HasNoEnd all front) (omega arith) in (
        omega (arith, count),
        no_end-append part (take n piece) plain front,
        subst (λ t. Feeds (unfinished part) piece None (length t)) (sym all) facts.0,
        subst (λ t. holds_after (unfinished part) (take (length t) piece) ≡ unfinished (part ++ t)) (sym all) facts.1,
      )

-- a line that isn't skipped is the open bytes
pub open_shown : (test : Bool) (bytes : List ℕ) (value : UnfinishedLine) → shown test bytes ≡ value → IsTaking value → (test ≡ false) × (value ≡ unfinished bytes)
open_shown true bytes value is open_value = absurd (subst IsTaking (sym is) open_value)
open_shown false bytes value is open_value = (refl, sym is)

-- a line that is skipped
pub skip_shown : (test : Bool) (bytes : List ℕ) (value : UnfinishedLine) → shown test bytes ≡ value → test ≡ true → value ≡ skipping
skip_shown true bytes value is on = sym is
skip_shown false bytes value is on = cc

pub on_ok : {T E : Type 0} (r : Result T E) (P : Type 0) → IsOk r → OnOk r P → P
on_ok (Ok x) P is fact = fact
on_ok (Err e) P is fact = cc

-- the buffer with a window behind the unfinished line
pub kept : (part window bytes : List ℕ) (open_len : ℕ) → length part ≡ open_len → bytes ≡ part ++ window → length part + length window ≤ 512
    → HasNoEnd (part ++ window) → IsBuffer (open_len + length window) bytes × (take (open_len + length window) bytes ≡ part ++ window)
kept part window bytes open_len count is fits plain =
    let whole : length bytes ≡ open_len + length window = omega (arith, ap length is, length-append part window, count) in
    let all : take (open_len + length window) bytes ≡ part ++ window = take_all (open_len + length window) bytes (omega (arith, whole)) ∙ is in
    (record { within = omega (arith, whole); fits = omega (arith, count); plain = subst HasNoEnd (sym all) plain }, all)
