-- What the calls make of a list of watches.
use Rattle.std.proofs.Common.{◌≡◌, ℕ, zero, suc, ◌+◌, Bool, true, false, not, cond, ◌||◌, ◌&&◌, List, [], ◌∷◌, length, map, filter, drop, refl, sym, ◌∙◌, ap, Some}
use Rattle.std.proofs.Math.Numerals.{one-add}
use Rattle.std.specs.List.{position_or_len, AllByRecursion, slice_get, remove}
use Rattle.ix_values.specs.PlainAction.{PlainAction}
use Rattle.ix_values.specs.Order.{text_eq}
use Rattle.ix_values.specs.inside.ActionOrder.{action_eq}
use Rattle.ix_values.specs.lemmas.Order.{text_eq-decides, action_eq-decides}
use Rattle.ix_watch.specs.inside.Watches.{PlainWatch, is_of, is_watched, AreDistinct, told_again, without, marked, noted, told_to, has_changed, changes_of}

both_true : (a b : Bool) → (a && b) ≡ true → (a ≡ true) × (b ≡ true)
both_true true b h = (refl, h)
both_true false b h = cc

-- no other watch is of the pair of a watch
others_differ : (name : List ℕ) (action : PlainAction) (watch : PlainWatch) (watches : List PlainWatch) → is_of name action watch ≡ true
    → AllByRecursion (λ other. is_of watch.name watch.action other ≡ false) watches → AllByRecursion (λ other. is_of name action other ≡ false) watches
others_differ name action watch watches is each =
    let parts = both_true (text_eq name watch.name) (action_eq action watch.action) is in
    let same_name = (text_eq-decides name watch.name).0 parts.0 in
    let same_action = (action_eq-decides action watch.action).0 parts.1 in
    along watches (λ other none. ap (λ n. is_of n action other) same_name ∙ ap (λ a. is_of watch.name a other) same_action ∙ none) each
  where
    along : {P Q : PlainWatch → Type 0} (ws : List PlainWatch) → ((w : PlainWatch) → Q w → P w) → AllByRecursion Q ws → AllByRecursion P ws
    along [] f all = tt
    along (w ∷ ws) f all = (f w all.0, along ws f all.1)

module _ (name : List ℕ) (action : PlainAction) (told : Bool) where
  -- the watch with both flags, by the test
  abbrev again_at : Bool → PlainWatch → PlainWatch
  again_at test watch = cond test (record watch { told = told; now = told }) watch

  none_again : (watches : List PlainWatch) → AllByRecursion (λ other. is_of name action other ≡ false) watches → told_again name action told watches ≡ watches
  none_again [] each = refl
  none_again (watch ∷ watches) each = ap (λ t. again_at t watch ∷ told_again name action told watches) each.0 ∙ ap (λ ws. watch ∷ ws) (none_again watches each.1)

  again_step : (test : Bool) (watch : PlainWatch) (watches : List PlainWatch) (place : ℕ) → is_of name action watch ≡ test
      → (test ≡ true → told_again name action told watches ≡ watches) → (test ≡ false → told_again name action told watches ≡ marked watches place told told)
      → told_again name action told (watch ∷ watches) ≡ marked (watch ∷ watches) (cond (not test) (1 + place) 0) told told
  again_step true watch watches place is none later =
      ap (λ t. again_at t watch ∷ told_again name action told watches) is ∙ ap (λ ws. record watch { told = told; now = told } ∷ ws) (none refl)
  again_step false watch watches place is none later =
      ap (λ t. again_at t watch ∷ told_again name action told watches) is ∙ ap (λ ws. watch ∷ ws) (later refl)
      ∙ sym (ap (λ n. marked (watch ∷ watches) n told told) (one-add place))

  pub told_again-place : (watches : List PlainWatch) → AreDistinct watches
      → told_again name action told watches ≡ marked watches (position_or_len (is_of name action) watches) told told
  told_again-place [] each = refl
  told_again-place (watch ∷ watches) each =
      again_step (is_of name action watch) watch watches (position_or_len (is_of name action) watches) refl
      (λ is. none_again watches (others_differ name action watch watches is each.0)) (λ isnt. told_again-place watches each.1)

module _ (name : List ℕ) (action : PlainAction) where
  none_out : (watches : List PlainWatch) → AllByRecursion (λ other. is_of name action other ≡ false) watches → without name action watches ≡ watches
  none_out [] each = refl
  none_out (watch ∷ watches) each =
      ap (λ t. cond (not t) (watch ∷ without name action watches) (without name action watches)) each.0 ∙ ap (λ ws. watch ∷ ws) (none_out watches each.1)

  out_step : (test : Bool) (watch : PlainWatch) (watches : List PlainWatch) (place : ℕ) → is_of name action watch ≡ test
      → (test ≡ true → without name action watches ≡ watches) → (test ≡ false → without name action watches ≡ remove watches place)
      → without name action (watch ∷ watches) ≡ remove (watch ∷ watches) (cond (not test) (1 + place) 0)
  out_step true watch watches place is none later =
      ap (λ t. cond (not t) (watch ∷ without name action watches) (without name action watches)) is ∙ none refl
  out_step false watch watches place is none later =
      ap (λ t. cond (not t) (watch ∷ without name action watches) (without name action watches)) is ∙ ap (λ ws. watch ∷ ws) (later refl)
      ∙ sym (ap (λ n. remove (watch ∷ watches) n) (one-add place))

  pub without-place : (watches : List PlainWatch) → AreDistinct watches
      → without name action watches ≡ remove watches (position_or_len (is_of name action) watches)
  without-place [] each = refl
  without-place (watch ∷ watches) each =
      out_step (is_of name action watch) watch watches (position_or_len (is_of name action) watches) refl
      (λ is. none_out watches (others_differ name action watch watches is each.0)) (λ isnt. without-place watches each.1)

or_false : (a b : Bool) → (a || b) ≡ false → (a ≡ false) × (b ≡ false)
or_false true b h = cc
or_false false b h = (refl, h)

-- a pair that isn't watched
pub without-absent : (name : List ℕ) (action : PlainAction) (watches : List PlainWatch) → is_watched name action watches ≡ false
    → without name action watches ≡ watches
without-absent name action [] none = refl
without-absent name action (watch ∷ watches) none =
    let parts = or_false (is_of name action watch) (is_watched name action watches) none in
    ap (λ t. cond (not t) (watch ∷ without name action watches) (without name action watches)) parts.0
    ∙ ap (λ ws. watch ∷ ws) (without-absent name action watches parts.1)

-- what holds now, noted
pub noted-marked : (watches : List PlainWatch) (index : ℕ) (watch : PlainWatch) (now : Bool) → slice_get watches index ≡ Some watch
    → marked watches index watch.told now ≡ noted watches index now
noted-marked [] index watch now is = refl
noted-marked (first ∷ watches) zero watch now is = ap (λ t. record first { told = t; now = now } ∷ watches) (cc)
noted-marked (first ∷ watches) (suc index) watch now is = ap (λ ws. first ∷ ws) (noted-marked watches index watch now is)

pub length-marked : (watches : List PlainWatch) (index : ℕ) (told now : Bool) → length (marked watches index told now) ≡ length watches
length-marked [] index told now = refl
length-marked (first ∷ watches) zero told now = refl
length-marked (first ∷ watches) (suc index) told now = ap suc (length-marked watches index told now)

-- what holds now is told, of this name, in the first watches
abbrev pub told_upto : List ℕ → ℕ → List PlainWatch → List PlainWatch
told_upto name zero watches = watches
told_upto name (suc count) [] = []
told_upto name (suc count) (watch ∷ watches) = cond (text_eq name watch.name) (record watch { told = watch.now }) watch ∷ told_upto name count watches

pub told_upto-length : (name : List ℕ) (watches : List PlainWatch) → told_upto name (length watches) watches ≡ told_to name watches
told_upto-length name [] = refl
told_upto-length name (watch ∷ watches) = ap (λ ws. cond (text_eq name watch.name) (record watch { told = watch.now }) watch ∷ ws) (told_upto-length name watches)

pub length-told_upto : (name : List ℕ) (count : ℕ) (watches : List PlainWatch) → length (told_upto name count watches) ≡ length watches
length-told_upto name zero watches = refl
length-told_upto name (suc count) [] = refl
length-told_upto name (suc count) (watch ∷ watches) = ap suc (length-told_upto name count watches)

pub told_upto-true : (name : List ℕ) (count : ℕ) (watches : List PlainWatch) (watch : PlainWatch) → slice_get (told_upto name count watches) count ≡ Some watch
    → text_eq name watch.name ≡ true → marked (told_upto name count watches) count watch.now watch.now ≡ told_upto name (suc count) watches
told_upto-true name zero [] watch is same = refl
told_upto-true name zero (first ∷ watches) watch is same =
    let first_is : first ≡ watch = cc in
    let named : text_eq name first.name ≡ true = ap (λ w. text_eq name w.name) first_is ∙ same in
    ap (λ now. record first { told = now; now = now } ∷ watches) (sym (ap (λ w. w.now) first_is))
    ∙ sym (ap (λ t. cond t (record first { told = first.now }) first ∷ watches) named)
told_upto-true name (suc count) [] watch is same = refl
told_upto-true name (suc count) (first ∷ watches) watch is same =
    ap (λ ws. cond (text_eq name first.name) (record first { told = first.now }) first ∷ ws) (told_upto-true name count watches watch is same)

pub told_upto-false : (name : List ℕ) (count : ℕ) (watches : List PlainWatch) (watch : PlainWatch) → slice_get (told_upto name count watches) count ≡ Some watch
    → text_eq name watch.name ≡ false → told_upto name count watches ≡ told_upto name (suc count) watches
told_upto-false name zero [] watch is same = refl
told_upto-false name zero (first ∷ watches) watch is same =
    let first_is : first ≡ watch = cc in
    let named : text_eq name first.name ≡ false = ap (λ w. text_eq name w.name) first_is ∙ same in
    sym (ap (λ t. cond t (record first { told = first.now }) first ∷ watches) named)
told_upto-false name (suc count) [] watch is same = refl
told_upto-false name (suc count) (first ∷ watches) watch is same =
    ap (λ ws. cond (text_eq name first.name) (record first { told = first.now }) first ∷ ws) (told_upto-false name count watches watch is same)

-- what is left of the watches at an index, for a client
pub changes-true : (name : List ℕ) (watches : List PlainWatch) (index : ℕ) (watch : PlainWatch) → slice_get watches index ≡ Some watch
    → has_changed name watch ≡ true → changes_of name (drop index watches) ≡ (watch.action, watch.now) ∷ changes_of name (drop (suc index) watches)
changes-true name [] index watch is changed = cc
changes-true name (first ∷ watches) zero watch is changed =
    let first_is : first ≡ watch = cc in
    let test : has_changed name first ≡ true = ap (has_changed name) first_is ∙ changed in
    ap (λ t. map (λ (w : PlainWatch). (w.action, w.now)) (cond t (first ∷ filter (has_changed name) watches) (filter (has_changed name) watches))) test
    ∙ ap (λ w. (w.action, w.now) ∷ changes_of name watches) first_is
changes-true name (first ∷ watches) (suc index) watch is changed = changes-true name watches index watch is changed

pub changes-false : (name : List ℕ) (watches : List PlainWatch) (index : ℕ) (watch : PlainWatch) → slice_get watches index ≡ Some watch
    → has_changed name watch ≡ false → changes_of name (drop index watches) ≡ changes_of name (drop (suc index) watches)
changes-false name [] index watch is changed = cc
changes-false name (first ∷ watches) zero watch is changed =
    let first_is : first ≡ watch = cc in
    let test : has_changed name first ≡ false = ap (has_changed name) first_is ∙ changed in
    ap (λ t. map (λ (w : PlainWatch). (w.action, w.now)) (cond t (first ∷ filter (has_changed name) watches) (filter (has_changed name) watches))) test
changes-false name (first ∷ watches) (suc index) watch is changed = changes-false name watches index watch is changed
