-- The entries of the map, seen as watches.
use Rattle.std.proofs.Common.{◌≡◌, ℕ, zero, suc, ◌+◌, Bool, true, false, not, cond, ◌||◌, List, [], ◌∷◌, ◌++◌, take, drop, refl, sym, ◌∙◌, ap, Some}
use Rattle.std.specs.List.{list_any, position_or_len, position, AllByRecursion, IsDistinct, remove}
use Rattle.std.specs.Map.{keys_of}
use Rattle.std.proofs.lemmas.List.{map-append, take-map, drop-map}
use Rattle.std.proofs.lemmas.Option.{cond_some}
use Rattle.indexmap.specs.Layout.{set_value_at}
use Rattle.indexmap.specs.IndexMap.{insert_entry}
use Rattle.ix_watch.specs.declared.pairs.Pair.{Pair}
use Rattle.ix_watch.specs.declared.Mark.{Mark}
use Rattle.ix_watch.specs.lemmas.Pairs.{pair_eq}
use Rattle.ix_watch.specs.inside.Kept.{watch_of, watches_of}
use Rattle.ix_watch.specs.inside.Watches.{is_of, is_watched, AreDistinct, marked}

abbrev pub Entries : Type 0
Entries = List (Pair × Mark)

-- whether the pair is a key
pub is_watched-keys : (pair : Pair) (es : Entries) → list_any (pair_eq pair) (keys_of es) ≡ is_watched pair.name pair.action (watches_of es)
is_watched-keys pair [] = refl
is_watched-keys pair (e ∷ es) = ap (λ b. pair_eq pair e.0 || b) (is_watched-keys pair es)

-- where the pair stands
pub place-keys : (pair : Pair) (es : Entries) → position_or_len (pair_eq pair) (keys_of es) ≡ position_or_len (is_of pair.name pair.action) (watches_of es)
place-keys pair [] = refl
place-keys pair (e ∷ es) = ap (λ n. cond (not (pair_eq pair e.0)) (1 + n) 0) (place-keys pair es)

-- the index of a key is its place
pub place-index : (pair : Pair) (es : Entries) (i : ℕ) → position (pair_eq pair) (keys_of es) ≡ Some i → i ≡ position_or_len (is_of pair.name pair.action) (watches_of es)
place-index pair es i is = sym (cond_some _ _ _ is).1 ∙ place-keys pair es

others_distinct : (pair : Pair) (es : Entries) → AllByRecursion (λ y. pair_eq pair y ≡ false) (keys_of es)
    → AllByRecursion (λ other. is_of pair.name pair.action other ≡ false) (watches_of es)
others_distinct pair [] each = tt
others_distinct pair (e ∷ es) each = (each.0, others_distinct pair es each.1)

-- no pair is watched twice
pub distinct-keys : (es : Entries) → IsDistinct pair_eq (keys_of es) → AreDistinct (watches_of es)
unfolding IsDistinct
distinct-keys [] each = tt
distinct-keys (e ∷ es) each = (others_distinct e.0 es each.0, distinct-keys es each.1)

-- a mark that is set
pub watches-set_value_at : (es : Entries) (i : ℕ) (mark : Mark) → watches_of (set_value_at es i mark) ≡ marked (watches_of es) i mark.told mark.holds
watches-set_value_at [] i mark = refl
watches-set_value_at (e ∷ es) zero mark = refl
watches-set_value_at (e ∷ es) (suc i) mark = ap (λ ws. watch_of e ∷ ws) (watches-set_value_at es i mark)

-- a new entry goes last
insert_step : (test : Bool) (e : Pair × Mark) (es : Entries) (pair : Pair) (mark : Mark) → pair_eq pair e.0 ≡ test
    → (test || list_any (pair_eq pair) (keys_of es)) ≡ false
    → (list_any (pair_eq pair) (keys_of es) ≡ false → insert_entry pair_eq es pair mark ≡ es ++ (pair, mark) ∷ [])
    → insert_entry pair_eq (e ∷ es) pair mark ≡ e ∷ es ++ (pair, mark) ∷ []
insert_step true e es pair mark is none later = cc
insert_step false e es pair mark is none later =
    ap (λ b. cond b ((e.0, mark) ∷ es) (e ∷ insert_entry pair_eq es pair mark)) is ∙ ap (λ xs. e ∷ xs) (later none)

pub insert-new : (es : Entries) (pair : Pair) (mark : Mark) → list_any (pair_eq pair) (keys_of es) ≡ false
    → insert_entry pair_eq es pair mark ≡ es ++ (pair, mark) ∷ []
insert-new [] pair mark none = refl
insert-new (e ∷ es) pair mark none = insert_step (pair_eq pair e.0) e es pair mark refl none (insert-new es pair mark)

pub watches-new : (es : Entries) (pair : Pair) (mark : Mark) → watches_of (es ++ (pair, mark) ∷ []) ≡ watches_of es ++ watch_of (pair, mark) ∷ []
watches-new es pair mark = map-append watch_of es ((pair, mark) ∷ [])

-- an entry is taken out
pub watches-remove : (es : Entries) (i : ℕ) → watches_of (remove es i) ≡ remove (watches_of es) i
watches-remove es i = map-append watch_of (take i es) (drop (suc i) es)
    ∙ ap (λ ws. ws ++ watches_of (drop (suc i) es)) (sym (take-map watch_of i es))
    ∙ ap (λ ws. take i (watches_of es) ++ ws) (sym (drop-map watch_of (suc i) es))
