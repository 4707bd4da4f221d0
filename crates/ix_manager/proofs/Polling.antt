-- What is told of refreshed watches is what a poll tells.
use Rattle.std.proofs.Common.{◌≡◌, ℕ, Bool, true, false, ◌&&◌, cond, List, [], ◌∷◌, map, filter, refl, sym, ◌∙◌, true≢false}
use Rattle.ix_words.specs.Each.{Each, item}
use Rattle.ix_values.specs.PlainAction.{PlainAction}
use Rattle.ix_values.specs.Order.{text_eq}
use Rattle.ix_values.specs.lemmas.Order.{text_eq-decides}
use Rattle.ix_watch.specs.inside.Watches.{PlainWatch, told_to, has_changed, changes_of, differ}
use Rattle.ix_manager.specs.Machine.{Tells, Polls, done, other, same, changed}
use Rattle.ix_manager.specs.inside.Core.{core_watch, change_replies}

module _ (G : PlainAction → Type 0) (name : List ℕ) where
  -- the first watch, by whether it is of the name
  first : (test : Bool) (n : List ℕ) (a : PlainAction) (told now : Bool) (watches : List PlainWatch) → text_eq name n ≡ test
      → (n ≡ name → Tells (G a) now)
      → Polls G name (map core_watch watches) (change_replies (changes_of name watches)) (map core_watch (told_to name watches))
      → Polls G name (record { name = n; action = a; told = told } ∷ map core_watch watches)
      (change_replies (map (λ (watch : PlainWatch). (watch.action, watch.now))
      (cond (test && differ told now) (record { name = n; action = a; told = told; now = now } ∷ filter (has_changed name) watches)
      (filter (has_changed name) watches))))
      (core_watch (cond test (record { name = n; action = a; told = now; now = now }) (record { name = n; action = a; told = told; now = now }))
      ∷ map core_watch (told_to name watches))
  first false n a told now watches is tells polls = other (λ e. true≢false (sym ((text_eq-decides name n).1 (sym e)) ∙ is)) polls
  first true n a true true watches is tells polls =
      let e = sym ((text_eq-decides name n).0 is) in same e (tells e) polls
  first true n a false false watches is tells polls =
      let e = sym ((text_eq-decides name n).0 is) in same e (tells e) polls
  first true n a true false watches is tells polls =
      let e = sym ((text_eq-decides name n).0 is) in changed e (tells e) polls
  first true n a false true watches is tells polls =
      let e = sym ((text_eq-decides name n).0 is) in changed e (tells e) polls

  pub polls_refreshed : (watches : List PlainWatch) → Each (λ (watch : PlainWatch). watch.name ≡ name → Tells (G watch.action) watch.now) watches
      → Polls G name (map core_watch watches) (change_replies (changes_of name watches)) (map core_watch (told_to name watches))
  polls_refreshed [] each = done
  polls_refreshed (watch ∷ watches) (item tells rest) =
      first (text_eq name watch.name) watch.name watch.action watch.told watch.now watches refl tells (polls_refreshed watches rest)
