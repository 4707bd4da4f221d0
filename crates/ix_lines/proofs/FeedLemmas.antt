-- What a piece completes, behind a text and behind another piece.
use Rattle.std.proofs.Common.{◌||◌, ◌≡◌, ℕ, Bool, true, false, cond, leb, List, [], ◌∷◌, ◌++◌, length, map, take, drop, refl, sym, ◌∙◌, ap, append_assoc, append-nil, Option, Some, None, IsNone}
use Rattle.std.specs.List.{list_any}
use Rattle.std.specs.Io.BufRead.{drop_through}
use Rattle.std.proofs.lemmas.List.Folds.{list_any-append}
use Rattle.std.proofs.lemmas.List.{map-append, take-append-drop}
use Rattle.std.proofs.Math.Seq.{take-length}
use Rattle.ix_lines.specs.Items.{Cut, cut, Item, line, too_long, item_of, item_of_last, items}
use Rattle.ix_lines.specs.Feeding.{UnfinishedLine, unfinished, skipping, held_of_last, held, completes, holds_after, Feeds, at_end, going_on, CompletesTheRest, AnyCutting, FedToItsEnd}
use Rattle.ix_lines.proofs.CutLemmas.{joined, cut-append, is_end, cut_plain, Behind, behind, long-append, last_plain, drop_through-some, drop_through-none}

-- the items of parts
abbrev items_of : Cut → List Item
items_of c = map item_of c.ended ++ item_of_last c.last

item_of-long : (part : List ℕ) → leb (length part) 512 ≡ false → item_of part ≡ too_long
item_of-long part long = ap (λ t. cond t (line part) too_long) long

item_of_last-long : (part : List ℕ) → leb (length part) 512 ≡ false → item_of_last part ≡ too_long ∷ []
item_of_last-long part long = ap (λ t. cond t [] (too_long ∷ [])) long

item_of_last-short : (part : List ℕ) → leb (length part) 512 ≡ true → item_of_last part ≡ []
item_of_last-short part short = ap (λ t. cond t [] (too_long ∷ [])) short

-- a piece behind a last part that isn't too long
items-short : (parts : List (List ℕ)) (last : List ℕ) (others : List (List ℕ)) (later : List ℕ) → leb (length last) 512 ≡ true
    → items_of (joined parts last others later) ≡ (map item_of parts ++ item_of_last last) ++ items_of (joined [] last others later)
items-short parts last [] later short = rw (item_of_last-short last short, append-nil) refl
items-short parts last (part ∷ others) later short = rw (item_of_last-short last short, append-nil) (simp (map-append, append_assoc))

-- a piece with no end behind a last part that is too long
items-long : (parts : List (List ℕ)) (last later : List ℕ) → leb (length last) 512 ≡ false
    → items_of (joined parts last [] later) ≡ (map item_of parts ++ item_of_last last) ++ []
items-long parts last later long =
    rw (item_of_last-long (last ++ later) (long-append last later long), item_of_last-long last long, append-nil) refl

-- a piece with an end behind it
items-long_line : (parts : List (List ℕ)) (last part : List ℕ) (others : List (List ℕ)) (later : List ℕ) → leb (length last) 512 ≡ false
    → items_of (joined parts last (part ∷ others) later) ≡ (map item_of parts ++ item_of_last last) ++ items_of (record { ended = others; last = later })
items-long_line parts last part others later long =
    rw (item_of_last-long last long) (simp (map-append, append_assoc, item_of-long (last ++ part) (long-append last part long)))

-- what is held depends on the parts of the piece alone
last-joined : (parts : List (List ℕ)) (last : List ℕ) (others : List (List ℕ)) (later : List ℕ)
    → (joined parts last others later).last ≡ (joined [] last others later).last
last-joined parts last [] later = refl
last-joined parts last (part ∷ others) later = refl

module _ (text piece : List ℕ) where
  -- behind a line that isn't too long
  rest-short : leb (length (cut text).last) 512 ≡ true
      → (items (text ++ piece) ≡ items text ++ completes (held text) piece) × (held (text ++ piece) ≡ holds_after (held text) piece)
  rest-short short =
      let last = (cut text).last in
      let is : held text ≡ unfinished last = ap (λ t. cond t (unfinished last) skipping) short in
      let whole : cut (last ++ piece) ≡ joined [] last (cut piece).ended (cut piece).last =
      cut-append last piece ∙ ap (λ (c : Cut). joined c.ended c.last (cut piece).ended (cut piece).last) (cut_plain last (last_plain text)) in (
        ap items_of (cut-append text piece) ∙ items-short (cut text).ended last (cut piece).ended (cut piece).last short
            ∙ ap (λ c. items text ++ items_of c) (sym whole) ∙ ap (λ h. items text ++ completes h piece) (sym is),
        ap (λ (c : Cut). held_of_last c.last) (cut-append text piece)
            ∙ ap held_of_last (last-joined (cut text).ended last (cut piece).ended (cut piece).last)
            ∙ ap (λ (c : Cut). held_of_last c.last) (sym whole) ∙ ap (λ h. holds_after h piece) (sym is),
      )

  -- behind a line that is too long, by the parts of the piece
  rest-long : (parts : List (List ℕ)) (last : List ℕ) → cut piece ≡ record { ended = parts; last = last } → Behind parts last piece
      → leb (length (cut text).last) 512 ≡ false
      → (items (text ++ piece) ≡ items text ++ completes skipping piece) × (held (text ++ piece) ≡ holds_after skipping piece)
  rest-long [] later same behind_it long =
      let last = (cut text).last in
      let whole = cut-append text piece ∙ ap (λ (c : Cut). joined (cut text).ended last c.ended c.last) same in (
        ap items_of whole ∙ items-long (cut text).ended last later long ∙ ap (λ t. items text ++ items t) (sym behind_it.1),
        ap (λ (c : Cut). held_of_last c.last) whole
            ∙ ap (λ t. cond t (unfinished (last ++ later)) skipping) (long-append last later long)
            ∙ sym (ap (λ t. cond t (held (drop_through 10 piece)) skipping) behind_it.0),
      )
  rest-long (part ∷ others) later same behind_it long =
      let last = (cut text).last in
      let whole = cut-append text piece ∙ ap (λ (c : Cut). joined (cut text).ended last c.ended c.last) same in (
        ap items_of whole ∙ items-long_line (cut text).ended last part others later long
            ∙ ap (λ c. items text ++ items_of c) (sym behind_it.1),
        ap (λ (c : Cut). held_of_last c.last) whole ∙ ap (λ (c : Cut). held_of_last c.last) (sym behind_it.1)
            ∙ sym (ap (λ t. cond t (held (drop_through 10 piece)) skipping) behind_it.0),
      )

  rest-by : (test : Bool) → leb (length (cut text).last) 512 ≡ test
      → (items (text ++ piece) ≡ items text ++ completes (held text) piece) × (held (text ++ piece) ≡ holds_after (held text) piece)
  rest-by true is = rest-short is
  rest-by false is =
      let same : held text ≡ skipping = ap (λ t. cond t (unfinished (cut text).last) skipping) is in
      let facts = rest-long (cut piece).ended (cut piece).last refl (behind piece) is in (
        facts.0 ∙ ap (λ h. items text ++ completes h piece) (sym same),
        facts.1 ∙ ap (λ h. holds_after h piece) (sym same),
      )

pub completes_the_rest : CompletesTheRest
completes_the_rest text piece = rest-by text piece (leb (length (cut text).last) 512) refl

-- a skipped line that the front ends, or not
skips-some : (front back : List ℕ) → list_any is_end front ≡ true
    → (completes skipping (front ++ back) ≡ completes skipping front ++ completes (holds_after skipping front) back)
    × (holds_after skipping (front ++ back) ≡ holds_after (holds_after skipping front) back)
skips-some front back some =
    let facts = completes_the_rest (drop_through 10 front) back in
    let is : holds_after skipping front ≡ held (drop_through 10 front) = ap (λ t. cond t (held (drop_through 10 front)) skipping) some in
    let both : list_any is_end (front ++ back) ≡ true = list_any-append is_end front back ∙ ap (λ t. t || list_any is_end back) some in (
      ap items (drop_through-some front back some) ∙ facts.0 ∙ ap (λ h. items (drop_through 10 front) ++ completes h back) (sym is),
      ap (λ t. cond t (held (drop_through 10 (front ++ back))) skipping) both ∙ ap held (drop_through-some front back some)
          ∙ facts.1 ∙ ap (λ h. holds_after h back) (sym is),
    )

skips-none : (front back : List ℕ) → list_any is_end front ≡ false
    → (completes skipping (front ++ back) ≡ completes skipping front ++ completes (holds_after skipping front) back)
    × (holds_after skipping (front ++ back) ≡ holds_after (holds_after skipping front) back)
skips-none front back none =
    let is : holds_after skipping front ≡ skipping = ap (λ t. cond t (held (drop_through 10 front)) skipping) none in
    let nothing : completes skipping front ≡ [] =
    ap (λ t. items (drop_through 10 t)) (sym (append-nil front)) ∙ ap items (drop_through-none front [] none) in
    let both : list_any is_end (front ++ back) ≡ list_any is_end back = list_any-append is_end front back ∙ ap (λ t. t || list_any is_end back) none in (
      ap items (drop_through-none front back none) ∙ ap (λ h. completes h back) (sym is)
          ∙ ap (λ its. its ++ completes (holds_after skipping front) back) (sym nothing),
      ap (λ t. cond t (held (drop_through 10 (front ++ back))) skipping) both
          ∙ ap (λ t. cond (list_any is_end back) (held t) skipping) (drop_through-none front back none)
          ∙ ap (λ h. holds_after h back) (sym is),
    )

skips-by : (front back : List ℕ) (test : Bool) → list_any is_end front ≡ test
    → (completes skipping (front ++ back) ≡ completes skipping front ++ completes (holds_after skipping front) back)
    × (holds_after skipping (front ++ back) ≡ holds_after (holds_after skipping front) back)
skips-by front back true is = skips-some front back is
skips-by front back false is = skips-none front back is

pub any_cutting : AnyCutting
any_cutting (unfinished part) front back =
    let facts = completes_the_rest (part ++ front) back in
    (ap items (sym (append_assoc part front back)) ∙ facts.0, ap held (sym (append_assoc part front back)) ∙ facts.1)
any_cutting skipping front back = skips-by front back (list_any is_end front) refl

pub fed_to_its_end : FedToItsEnd
fed_to_its_end old piece told new (at_end _ _ used fed) =
    let all : take used piece ≡ piece = ap (λ n. take n piece) (fed.whole refl) ∙ take-length piece in
    (sym (ap (completes old) (sym all) ∙ fed.told), ap (holds_after old) all)
fed_to_its_end old piece told new (going_on _ _ item used later _ fed rest) =
    let facts = fed_to_its_end (holds_after old (take used piece)) (drop used piece) later new rest in
    let law = any_cutting old (take used piece) (drop used piece) in
    let joins = take-append-drop used piece in (
      ap (λ its. item ∷ its) facts.0 ∙ ap (λ its. its ++ completes (holds_after old (take used piece)) (drop used piece)) (sym fed.told)
          ∙ sym law.0 ∙ ap (completes old) joins,
      facts.1 ∙ sym law.1 ∙ ap (holds_after old) joins,
    )

-- a feed tells nothing exactly where the piece completes nothing
pub tells_none : (old : UnfinishedLine) (piece : List ℕ) (item : Option Item) (used : ℕ) → Feeds old piece item used
    → (IsNone item → completes old piece ≡ []) × (completes old piece ≡ [] → IsNone item)
tells_none old piece None used fed =
    let all : take used piece ≡ piece = ap (λ n. take n piece) (fed.whole refl) ∙ take-length piece in
    (λ _. ap (completes old) (sym all) ∙ fed.told, λ _. refl)
tells_none old piece (Some item) used fed =
    let law = any_cutting old (take used piece) (drop used piece) in
    let joins = take-append-drop used piece in
    let whole : completes old piece ≡ item ∷ completes (holds_after old (take used piece)) (drop used piece) =
    ap (completes old) (sym joins) ∙ law.0 ∙ ap (λ its. its ++ completes (holds_after old (take used piece)) (drop used piece)) fed.told in
    (λ h. cc, λ h. cc)
