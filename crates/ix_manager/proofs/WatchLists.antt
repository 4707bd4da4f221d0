-- The watches of a pair among distinct watches.
use Rattle.std.proofs.Common.{◌≡◌, ℕ, Bool, true, false, not, cond, ◌||◌, ◌&&◌, List, [], ◌∷◌, ◌++◌, suc, length, map, refl, sym, ◌∙◌, ap, true≢false}
use Rattle.std.specs.List.{AllByRecursion}
use Rattle.ix_words.specs.Each.{no_item, item}
use Rattle.ix_values.specs.PlainAction.{PlainAction}
use Rattle.ix_values.specs.Order.{text_eq}
use Rattle.ix_values.specs.inside.ActionOrder.{action_eq}
use Rattle.ix_values.specs.lemmas.Order.{text_eq-decides, action_eq-decides}
use Rattle.ix_watch.specs.inside.Watches.{PlainWatch, is_of, is_watched, AreDistinct, told_again, without}
use Rattle.ix_manager.specs.Machine.{IsOf, IsUnwatched}
use Rattle.ix_manager.specs.inside.Core.{core_watch}

both_true : (a b : Bool) → (a && b) ≡ true → (a ≡ true) × (b ≡ true)
both_true true b h = (refl, h)
both_true false b h = cc

true_both : (a b : Bool) → a ≡ true → b ≡ true → (a && b) ≡ true
true_both true b p q = q
true_both false b p q = p

or_false : (a b : Bool) → (a || b) ≡ false → (a ≡ false) × (b ≡ false)
or_false true b h = cc
or_false false b h = (refl, h)

module _ (name : List ℕ) (action : PlainAction) where
  -- the test tells that the watch is of the pair
  pub is_of-tells : (watch : PlainWatch) → is_of name action watch ≡ true → IsOf name action (core_watch watch)
  is_of-tells watch h =
      let parts = both_true (text_eq name watch.name) (action_eq action watch.action) h in
      (sym ((text_eq-decides name watch.name).0 parts.0), sym ((action_eq-decides action watch.action).0 parts.1))

  is_of-told : (watch : PlainWatch) → IsOf name action (core_watch watch) → is_of name action watch ≡ true
  is_of-told watch h =
      true_both (text_eq name watch.name) (action_eq action watch.action)
      ((text_eq-decides name watch.name).1 (sym h.0)) ((action_eq-decides action watch.action).1 (sym h.1))

  pub unwatched : (watches : List PlainWatch) → is_watched name action watches ≡ false → IsUnwatched name action (map core_watch watches)
  unwatched [] h = no_item
  unwatched (watch ∷ watches) h =
      let parts = or_false (is_of name action watch) (is_watched name action watches) h in
      item (λ is. true≢false (sym (is_of-told watch is) ∙ parts.0)) (unwatched watches parts.1)

  -- no watch is of the pair only where the test says so
  pub unwatched-told : (watches : List PlainWatch) → IsUnwatched name action (map core_watch watches) → is_watched name action watches ≡ false
  unwatched-told [] h = refl
  unwatched-told (watch ∷ watches) (item none rest) =
      told (is_of name action watch) (λ is. none (is_of-tells watch is)) (unwatched-told watches rest)
    where
      told : (test : Bool) {more : Bool} → (test ≡ true → ⊥) → more ≡ false → (test || more) ≡ false
      told true isnt h = absurd (isnt refl)
      told false isnt h = h

  pub without_none : (watches : List PlainWatch) → is_watched name action watches ≡ false → without name action watches ≡ watches
  without_none [] none = refl
  without_none (watch ∷ watches) none =
      let parts = or_false (is_of name action watch) (is_watched name action watches) none in
      ap (λ t. cond (not t) (watch ∷ without name action watches) (without name action watches)) parts.0
      ∙ ap (λ ws. watch ∷ ws) (without_none watches parts.1)

  -- no other watch is of the pair of a watch
  others_differ : (watch : PlainWatch) (watches : List PlainWatch) → is_of name action watch ≡ true
      → AllByRecursion (λ other. is_of watch.name watch.action other ≡ false) watches → AllByRecursion (λ other. is_of name action other ≡ false) watches
  others_differ watch watches is each =
      let parts = both_true (text_eq name watch.name) (action_eq action watch.action) is in
      let same_name = (text_eq-decides name watch.name).0 parts.0 in
      let same_action = (action_eq-decides action watch.action).0 parts.1 in
      along watches (λ other none. ap (λ n. is_of n action other) same_name ∙ ap (λ a. is_of watch.name a other) same_action ∙ none) each
    where
      along : {P Q : PlainWatch → Type 0} (ws : List PlainWatch) → ((w : PlainWatch) → Q w → P w) → AllByRecursion Q ws → AllByRecursion P ws
      along [] f all = tt
      along (w ∷ ws) f all = (f w all.0, along ws f all.1)

  -- the watch of the pair, what stands before it and behind it, and what telling and removing it give
  pub record Found (told : Bool) (watches : List PlainWatch) : Type 0 where
    pub before : List PlainWatch
    pub watch : PlainWatch
    pub behind : List PlainWatch
    pub same : watches ≡ before ++ watch ∷ behind
    pub is : IsOf name action (core_watch watch)
    pub again : told_again name action told watches ≡ before ++ record watch { told = told; now = told } ∷ behind
    pub others : without name action watches ≡ before ++ behind

  module _ (told : Bool) where
    none_again : (watches : List PlainWatch) → AllByRecursion (λ other. is_of name action other ≡ false) watches → told_again name action told watches ≡ watches
    none_again [] each = refl
    none_again (watch ∷ watches) each =
        ap (λ t. cond t (record watch { told = told; now = told }) watch ∷ told_again name action told watches) each.0
        ∙ ap (λ ws. watch ∷ ws) (none_again watches each.1)

    none_out : (watches : List PlainWatch) → AllByRecursion (λ other. is_of name action other ≡ false) watches → without name action watches ≡ watches
    none_out [] each = refl
    none_out (watch ∷ watches) each =
        ap (λ t. cond (not t) (watch ∷ without name action watches) (without name action watches)) each.0
        ∙ ap (λ ws. watch ∷ ws) (none_out watches each.1)

    found_step : (test : Bool) (watch : PlainWatch) (watches : List PlainWatch) → is_of name action watch ≡ test
        → AllByRecursion (λ other. is_of watch.name watch.action other ≡ false) watches
        → (test ≡ false → Found told watches) → Found told (watch ∷ watches)
    found_step true watch watches is each later = record {
      before = [];
      watch = watch;
      behind = watches;
      same = refl;
      is = is_of-tells watch is;
      again = ap (λ t. cond t (record watch { told = told; now = told }) watch ∷ told_again name action told watches) is
          ∙ ap (λ ws. record watch { told = told; now = told } ∷ ws) (none_again watches (others_differ watch watches is each));
      others = ap (λ t. cond (not t) (watch ∷ without name action watches) (without name action watches)) is
          ∙ none_out watches (others_differ watch watches is each);
    }
    found_step false watch watches is each later =
        let rest = later refl in record {
          before = watch ∷ rest.before;
          watch = rest.watch;
          behind = rest.behind;
          same = ap (λ ws. watch ∷ ws) rest.same;
          is = rest.is;
          again = ap (λ t. cond t (record watch { told = told; now = told }) watch ∷ told_again name action told watches) is
              ∙ ap (λ ws. watch ∷ ws) rest.again;
          others = ap (λ t. cond (not t) (watch ∷ without name action watches) (without name action watches)) is
              ∙ ap (λ ws. watch ∷ ws) rest.others;
        }

    -- a pair that is watched is found
    pub found : (watches : List PlainWatch) → AreDistinct watches → is_watched name action watches ≡ true → Found told watches
    found [] each h = absurd (true≢false (sym h))
    found (watch ∷ watches) each h =
        found_step (is_of name action watch) watch watches refl each.0
        (λ isnt. found watches each.1 (sym (ap (λ t. t || is_watched name action watches) isnt) ∙ h))

-- the watches without what was noted, of two parts and one watch between them
pub map_between : (before : List PlainWatch) (watch : PlainWatch) (behind : List PlainWatch)
    → map core_watch (before ++ watch ∷ behind) ≡ map core_watch before ++ core_watch watch ∷ map core_watch behind
map_between [] watch behind = refl
map_between (first ∷ before) watch behind = ap (λ ws. core_watch first ∷ ws) (map_between before watch behind)

pub map_both : (before behind : List PlainWatch) → map core_watch (before ++ behind) ≡ map core_watch before ++ map core_watch behind
map_both [] behind = refl
map_both (first ∷ before) behind = ap (λ ws. core_watch first ∷ ws) (map_both before behind)

pub length-watches : (watches : List PlainWatch) → length (map core_watch watches) ≡ length watches
length-watches [] = refl
length-watches (watch ∷ watches) = ap suc (length-watches watches)
